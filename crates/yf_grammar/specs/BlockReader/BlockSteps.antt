-- The rest of a task of the reader of block nodes while an inner task is read: the outer outcome follows from the inner
-- one. So a reader with a stack of open collections has the outcomes of `Whole` and `Halts`.
use Rattle.std.specs.Prelude.{ℕ, suc, max, Bool, false, List, Option, Some, None}
use Rattle.yf_comments.specs.Comment.{CommentValue}
use Rattle.yf_grammar.specs.Productions.Meaning.{◌⊕◌, meaning_after, empty_node, collection, entering}
use Rattle.yf_grammar.specs.FlowReader.Parser.{ParsedNode}
use Rattle.yf_grammar.specs.BlockReader.BlockParser.{Ahead, Nothing, Indicator, Props, headed, BlockTask, Whole}
use Rattle.yf_grammar.specs.BlockReader.Halts.{Halts}

-- the outer outcome is made of the inner one, and is `None` if the inner one is
pub record TaskAwaited (t : List ℕ) (e : ℕ) (inner : BlockTask) (made : ParsedNode → ParsedNode) (d : ℕ) (outer : BlockTask) : Type 0 where
  pub some : (g : ParsedNode) → Whole t e inner (Some g) → Whole t d outer (Some (made g))
  pub none : Whole t e inner None → Whole t d outer None

-- likewise for last halts; if the inner task has none, the outer one's is o
pub record TaskHalted (t : List ℕ) (e : ℕ) (vs : List ℕ) (inner : BlockTask) (made : ParsedNode → ParsedNode) (o : Option ParsedNode) (d : ℕ) (ws : List ℕ)
    (outer : BlockTask) : Type 0 where
  pub some : (g : ParsedNode) → Halts t e vs inner (Some g) → Halts t d ws outer (Some (made g))
  pub none : Halts t e vs inner None → Halts t d ws outer o

-- `made` of an outcome, or o if the outcome is `None`
unfoldable pub made_or : (ParsedNode → ParsedNode) → Option ParsedNode → Option ParsedNode → Option ParsedNode
made_or made o None = o
made_or made o (Some g) = Some (made g)

-- a node as the item of a sequence at i, as the key after a `?` with an empty value, as the value after a `:` without a
-- key, and as the value of a key with its `:` at k
abbrev pub as_item : ℕ → ParsedNode → ParsedNode
as_item i f = record { end = f.end; height = f.height; json = false; meaning = entering i None f.meaning }

abbrev pub as_lone_key : ℕ → ParsedNode → ParsedNode
as_lone_key i f = record { end = f.end; height = f.height; json = false; meaning = entering i None f.meaning ⊕ empty_node f.meaning.finish }

abbrev pub as_lone_value : ℕ → ParsedNode → ParsedNode
as_lone_value i f = record { end = f.end; height = f.height; json = false; meaning = entering i (Some i) (empty_node i) ⊕ f.meaning }

abbrev pub as_value : ℕ → ℕ → ParsedNode → ParsedNode → ParsedNode
as_value i k f g = record { end = g.end; height = max f.height g.height; json = false; meaning = entering i (Some k) f.meaning ⊕ g.meaning }

-- entries from i on as a collection, and a node after comments
abbrev pub as_collection : Ahead → Bool → ℕ → ParsedNode → ParsedNode
as_collection a sequence i f =
    record { end = f.end; height = suc f.height; json = false; meaning = headed a (collection sequence false i f.meaning.finish f.meaning) }

abbrev pub as_after : List CommentValue → ParsedNode → ParsedNode
as_after ds f = record f { meaning = meaning_after ds f.meaning }

abbrev pub as_outcome : Ahead → List CommentValue → ParsedNode → ParsedNode
as_outcome Nothing ds f = as_after ds f
as_outcome (Indicator i) ds f = as_after ds f
as_outcome (Props h) ds f = f
