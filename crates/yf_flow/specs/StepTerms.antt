-- The terms of the reader's steps: the input, the role of an entry's first node, and a frame with a node in it.
use Rattle.std.specs.Prelude.{◌≡◌, ℕ, max, false, List}
use Rattle.std.specs.Str.{IsUtf8}
use Rattle.yf_chars.specs.declared.context.Ctx.{Ctx}
use Rattle.yf_lines.specs.Basic.{is_block}
use Rattle.yf_grammar.specs.Productions.Grammar.{in_flow}
use Rattle.yf_flow.specs.declared.frame.Frame.{Frame}
use Rattle.yf_flow.specs.declared.frame.CollectionKind.{CollectionKind}
use Rattle.yf_flow.specs.declared.frame.CollectionKind.TheVariants.{Sequence, Mapping, Pair}
use Rattle.yf_flow.specs.declared.frame.Role.{Role}
use Rattle.yf_flow.specs.declared.frame.Role.TheVariants.{Item, Key}
use Rattle.yf_flow.specs.StackMeaning.{Base}

-- the input: a text, a context within brackets, and the limit of open collections
pub record Reading (t : List ℕ) (d : Ctx) (limit : ℕ) (base : Base) : Type 0 where
  pub utf8 : IsUtf8 t
  pub inner : in_flow d ≡ d
  pub no_block : is_block d ≡ false
  pub total : base.total ≡ limit

-- the first node of an entry is an item, or a key
abbrev pub first_role : CollectionKind → Role
first_role Sequence = Item
first_role Mapping = Key
first_role Pair = Key

-- the frame of a collection after a node in it that reached the depth `high`
pub record FrameWithNode (first : Frame) (high : ℕ) (o : Frame) : Type 0 where
  pub kind : o.kind ≡ first.kind
  pub event : o.event ≡ first.event
  pub index : o.entry_event ≡ first.entry_event
  pub entry : o.entry ≡ first.entry
  pub depth : o.depth ≡ first.depth
  pub deepest : o.deepest ≡ max first.deepest high
