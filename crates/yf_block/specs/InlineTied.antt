-- A node awaited on a line, with its first character at the offset; and the event written if a collection begins
-- there.
use Rattle.std.specs.Prelude.{◌≡◌, ℕ, ◌≤◌, ℤ, Bool, true, false, List, ◌++◌, length, Option, Some, ◌⊎◌}
use Rattle.yf_chars.specs.declared.context.Ctx.{Ctx}
use Rattle.yf_chars.specs.Text.{code}
use Rattle.yf_chars.specs.Class.{is_white}
use Rattle.yf_comments.specs.Comment.{CommentValue}
use Rattle.yf_props.specs.Props.{props_value}
use Rattle.yf_events.specs.Event.{EventInText}
use Rattle.yf_events.specs.declared.part.Part.{Part}
use Rattle.yf_grammar.specs.Productions.Meaning.{◌⊕◌, start_of, event_with}
use Rattle.yf_grammar.specs.FlowReader.Parser.{ParsedNode, only}
use Rattle.yf_grammar.specs.BlockReader.BlockParser.{Ahead, SignAt, Columns, BlockTask, Inline}
use Rattle.yf_grammar.specs.BlockReader.BlockStack.{Layer}
use Rattle.yf_grammar.specs.BlockReader.BlockStates.{NodeAt, AllWithin}
use Rattle.yf_flow.specs.NodeStarts.{lead_event}
use Rattle.yf_block.specs.declared.frame.Frame.{Frame}
use Rattle.yf_block.specs.declared.frame.CollectionKind.{CollectionKind}
use Rattle.yf_block.specs.declared.frame.CollectionKind.TheVariants.{Sequence, Mapping}
use Rattle.yf_block.specs.declared.frame.BlockCursor.{BlockCursor}
use Rattle.yf_block.specs.declared.frame.AwaitedNode.{AwaitedNode}
use Rattle.yf_block.specs.PropertiesAnswers.{lead_at}
use Rattle.yf_block.specs.BlockTied.{ahead_comments, all_written, ReadTied, StackTied}
use Rattle.yf_block.specs.BlockStepTied.{WantedTied}

-- a collection may begin there at a column
pub record ColumnTied (ls : List Layer) (p : ℕ) (column : Option ℕ) : Type 0 where
  pub shallow : (m : ℕ) → column ≡ Some m → m ≤ p
  pub within : (m : ℕ) → column ≡ Some m → AllWithin m ls

pub record AtStart (t : List ℕ) (d : ℕ) (root : BlockTask) (before : Part) (frames : List Frame) (cols : Columns) (p : ℕ) (progress : BlockCursor) (part : Part) : Type 0 where
  pub layers : List Layer
  pub room : ℕ
  pub comments : List CommentValue
  pub indentation : ℤ
  pub context : Ctx
  pub ahead : Ahead
  pub halt : Option ParsedNode
  pub node : NodeAt t d root layers room comments (Inline indentation context cols ahead p) halt
  pub wanted : WantedTied t progress.floor layers indentation context ahead progress.wanted
  pub sequence : ColumnTied layers p cols.sequence
  pub mapping : ColumnTied layers p cols.mapping
  pub no_white : is_white (code t p) ≡ false
  pub past : progress.floor ≤ p
  pub stack : StackTied (length before.events) layers frames progress halt
  pub read : ReadTied t before (all_written layers ⊕ only (comments ++ ahead_comments ahead) 0) progress part

-- the event that begins a collection there
abbrev pub is_sequence : CollectionKind → Bool
is_sequence Sequence = true
is_sequence Mapping = false

abbrev pub started : CollectionKind → ℕ → AwaitedNode → EventInText
started kind at wanted =
    lead_event (lead_at at wanted.outer wanted.entry) (event_with (props_value (lead_at at wanted.outer wanted.entry).props) (start_of (is_sequence kind) false)) at

-- the `?` or the `:` of an entry is at the offset
abbrev pub EntrySignAt : List ℕ → ℕ → Type 0
EntrySignAt t p = SignAt t 63 p ⊎ SignAt t 58 p
