-- The open collections of a block node, the innermost first, as the stack of a reader: the part of each that has been
-- read, and its outcome once the awaited node of the innermost one is read. The last halt of a node or an entry is its
-- part up to the last offset at which it may end (`Halts`).
use Rattle.std.specs.Prelude.{◌≡◌, ℕ, suc, ◌+◌, pos, Bool, true, false, List, [], ◌∷◌, Option, None}
use Rattle.yf_chars.specs.declared.context.Ctx.TheVariants.{BlockOut}
use Rattle.yf_comments.specs.Comment.{CommentValue}
use Rattle.yf_grammar.specs.Productions.Meaning.{Meaning}
use Rattle.yf_grammar.specs.FlowReader.Parser.{ParsedNode}
use Rattle.yf_grammar.specs.BlockReader.BlockParser.{SignAt, Ahead, Indicator, Origin, BlockTask, Awaited, Items, Item}
use Rattle.yf_grammar.specs.BlockReader.BlockAwaits.{after_entries}
use Rattle.yf_grammar.specs.BlockReader.BlockSteps.{TaskAwaited, TaskHalted, made_or, as_item, as_lone_key, as_lone_value, as_value, as_collection, as_after}

-- the progress of the present entry, which begins at the first offset: the node after a `-` is awaited, the key after a
-- `?`, the value after a `:` without a key, or the value after a key that was found, with its `:` at the second offset
pub data Stage : Type 0 where
  AtItem : ℕ → Stage
  AtKey : ℕ → Stage
  AtLoneValue : ℕ → Stage
  AtValue : ℕ → ℕ → ParsedNode → Stage

abbrev pub asks : Stage → Bool
asks (AtKey i) = true
asks _ = false

-- the entry made of its awaited node, if nothing more of the entry follows
abbrev pub entry_made : Stage → ParsedNode → ParsedNode
entry_made (AtItem i) f = as_item i f
entry_made (AtKey i) f = as_lone_key i f
entry_made (AtLoneValue i) f = as_lone_value i f
entry_made (AtValue i k g) f = as_value i k g f

-- an open collection: its `Ahead`, the comments before that, the start of its first entry, the number of collections
-- open at once in the entries before the present one, and the meaning of these entries
pub record Layer : Type 0 where
  pub sequence : Bool
  pub column : ℕ
  pub ahead : Ahead
  pub comments : List CommentValue
  pub first : ℕ
  pub high : ℕ
  pub known : Meaning
  pub stage : Stage

-- the collection made of the present entry and those after it
abbrev pub collection_made : Layer → ParsedNode → ParsedNode
collection_made l g = as_after l.comments (as_collection l.ahead l.sequence l.first (after_entries l.high l.known g))

-- the outermost node, if all collections end with the awaited node
abbrev pub rounds : List Layer → ParsedNode → ParsedNode
rounds [] f = f
rounds (l ∷ ls) f = rounds ls (collection_made l (entry_made l.stage f))

-- entries of a collection are awaited from an offset on, in an awaited node; o is the last halt of that node so far
pub record EntriesIn (t : List ℕ) (e : ℕ) (ws : List ℕ) (l : Layer) (q : Origin) (i : ℕ) (o : Option ParsedNode) (outer : BlockTask) : Type 0 where
  pub awaited : TaskAwaited t e (Items l.sequence l.column q i) (collection_made l) (suc e) outer
  pub halted : TaskHalted t e ws (Items l.sequence l.column q i) (collection_made l) o (suc e) ws outer

-- the node of the present entry is awaited, and nothing of the entry follows it; o is the last halt of the entry so far
pub record EntryIn (t : List ℕ) (e : ℕ) (ws : List ℕ) (l : Layer) (q : Origin) (i : ℕ) (o : Option ParsedNode) (inner : BlockTask) : Type 0 where
  pub awaited : TaskAwaited t e inner (entry_made l.stage) e (Item l.sequence l.column q i)
  pub halted : TaskHalted t e ws inner (entry_made l.stage) o e ws (Item l.sequence l.column q i)

-- the columns of the open `?` entries
abbrev pub column_if : Bool → ℕ → List ℕ → List ℕ
column_if true w ws = w ∷ ws
column_if false w ws = ws

abbrev pub asked : List Layer → List ℕ
asked [] = []
asked (l ∷ ls) = column_if (asks l.stage) l.column (asked ls)

-- the collections round an awaited node, in the outermost node with the limit d: e more may be opened, and r is the
-- outermost node's last halt if the awaited one has none
pub data Around (t : List ℕ) (d : ℕ) (root : BlockTask) : List Layer → ℕ → BlockTask → Option ParsedNode → Type 0 where
  outermost : Around t d root [] d root None
  in_entry : {e i : ℕ} {ls : List Layer} {l : Layer} {q : Origin} {outer inner : BlockTask} {r o z : Option ParsedNode}
      → Around t d root ls (suc e) outer r → EntriesIn t e (asked ls) l q i o outer → EntryIn t e (asked ls) l q i z inner → asks l.stage ≡ false
      → Around t d root (l ∷ ls) e inner (made_or (rounds ls) r (made_or (collection_made l) o z))
  in_key : {e i : ℕ} {ls : List Layer} {l : Layer} {q : Origin} {outer : BlockTask} {r o : Option ParsedNode}
      → Around t d root ls (suc e) outer r → EntriesIn t e (asked ls) l q i o outer → SignAt t 63 i → l.stage ≡ AtKey i → l.sequence ≡ false
      → Around t d root (l ∷ ls) e (Awaited true (pos l.column) BlockOut (Indicator (i + 1)) (i + 1)) (made_or (rounds ls) r o)
