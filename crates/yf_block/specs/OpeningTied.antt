-- A collection that begins with its first entry, and an entry of a collection whose frame is not on the stack.
use Rattle.std.specs.Prelude.{◌≡◌, ℕ, ◌+◌, false, List, Option, Some}
use Rattle.std.specs.Str.{IsCharBoundary}
use Rattle.yf_events.specs.declared.part.Part.{Part}
use Rattle.yf_grammar.specs.BlockReader.BlockParser.{BlockTask, Columns, DashAt}
use Rattle.yf_block.specs.declared.frame.Frame.{Frame}
use Rattle.yf_block.specs.declared.frame.CollectionKind.{CollectionKind}
use Rattle.yf_block.specs.declared.frame.CollectionKind.TheVariants.{Sequence, Mapping}
use Rattle.yf_block.specs.declared.frame.BlockCursor.{BlockCursor}
use Rattle.yf_block.specs.BlockStepTied.{AtEntry}
use Rattle.yf_block.specs.InlineTied.{AtStart, EntrySignAt}

-- the sign of the collection's first entry is at the offset, and after a `-` comes a boundary
abbrev pub SignOf : CollectionKind → List ℕ → ℕ → Type 0
SignOf Sequence t p = DashAt t p × IsCharBoundary t (p + 1)
SignOf Mapping t p = EntrySignAt t p

-- the column at which a collection of the kind may begin
abbrev pub column_of : CollectionKind → Columns → Option ℕ
column_of Sequence cols = cols.sequence
column_of Mapping cols = cols.mapping

-- a collection of the kind may begin at the column
pub record AtOpening (kind : CollectionKind) (column : ℕ) (t : List ℕ) (d : ℕ) (root : BlockTask) (before : Part) (frames : List Frame) (p : ℕ) (progress : BlockCursor) (part : Part) : Type 0 where
  pub cols : Columns
  pub column_is : column_of kind cols ≡ Some column
  pub start : AtStart t d root before frames cols p progress part

-- an entry of a sequence, and of a mapping
pub record AtItem (frame : Frame) (t : List ℕ) (d : ℕ) (root : BlockTask) (before : Part) (frames : List Frame) (p : ℕ) (progress : BlockCursor) (part : Part) : Type 0 where
  pub sequence : frame.kind ≡ Sequence
  pub settled : frame.awaits_colon ≡ false
  pub entry : AtEntry t d root before frames frame p progress part

pub record AtPairEntry (frame : Frame) (t : List ℕ) (d : ℕ) (root : BlockTask) (before : Part) (frames : List Frame) (p : ℕ) (progress : BlockCursor) (part : Part) : Type 0 where
  pub mapping : frame.kind ≡ Mapping
  pub entry : AtEntry t d root before frames frame p progress part
