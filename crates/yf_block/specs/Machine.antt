-- The invariant between two steps of the reader: its offsets are boundaries, and each step leaves less of the text.
use Rattle.std.specs.Prelude.{◌≡◌, ℕ, ◌+◌, ◌-◌, ◌*◌, ◌≤◌, length, List, Option, Some, None}
use Rattle.std.specs.List.{All}
use Rattle.std.specs.Str.{IsCharBoundary}
use Rattle.yf_chars.specs.Boundary.{BoundaryFrom}
use Rattle.yf_grammar.specs.BlockReader.BlockParser.{DashAt}
use Rattle.yf_flow.specs.declared.nodes.Ending.{Ending}
use Rattle.yf_flow.specs.declared.nodes.Ending.TheVariants.{End}
use Rattle.yf_block.specs.declared.content.AfterProperties.{AfterProperties}
use Rattle.yf_block.specs.declared.frame.BlockCursor.{BlockCursor}
use Rattle.yf_block.specs.declared.frame.BlockReader.{BlockReader}
use Rattle.yf_block.specs.declared.frame.Step.{Step}
use Rattle.yf_block.specs.declared.frame.Step.TheVariants.{Node, Line, Resume, Done, Failed, TooDeep}
use Rattle.yf_block.specs.declared.properties.PlacedProperties.{PlacedProperties}
use Rattle.yf_block.specs.declared.resume.Fit.{Fit}
use Rattle.yf_block.specs.declared.resume.Fit.TheVariants.{Item, Entry as EntryAt, Deeper, EndsBefore}
use Rattle.yf_block.specs.declared.nodes.BlockOutcome.{BlockOutcome}
use Rattle.yf_block.specs.declared.nodes.BlockOutcome.TheVariants.{Found, Nothing as NoNode, TooDeep as TooDeepHere}
use Rattle.yf_block.specs.declared.nodes.Stopped.{Stopped}
use Rattle.yf_block.specs.declared.nodes.Stop.{Stop}
use Rattle.yf_block.specs.declared.nodes.Stop.TheVariants.{Done as DoneAt, Failed as FailedAt, TooDeep as TooDeepAt}

-- an offset, if there is one, is a boundary
abbrev pub MayBoundary : List ℕ → Option ℕ → Type 0
MayBoundary t None = Unit {0}
MayBoundary t (Some p) = IsCharBoundary t p

pub record ProgressAt (t : List ℕ) (p : BlockCursor) : Type 0 where
  pub floor : IsCharBoundary t p.floor
  pub from : IsCharBoundary t p.from
  pub halt : MayBoundary t p.halt

-- the state on which a step works: the offset, the cursor and the escapes are boundaries
pub record IsReaderReady (t : List ℕ) (at : ℕ) (r : BlockReader) : Type 0 where
  pub boundary : IsCharBoundary t at
  pub progress : ProgressAt t r.progress
  pub escapes : All (IsCharBoundary t) r.part.escapes

-- the next step is at or after an offset
abbrev pub StepReady : List ℕ → ℕ → Step → Type 0
StepReady t at (Node p) = BoundaryFrom t at p
StepReady t at (Line p) = BoundaryFrom t at p
StepReady t at (Resume p) = BoundaryFrom t at p
StepReady t at (Done p) = IsCharBoundary t p
StepReady t at (Failed p) = IsCharBoundary t p
StepReady t at (TooDeep p) = IsCharBoundary t p

-- the work left of n bytes
abbrev pub left : ℕ → Step → ℕ
left n (Node p) = 3 * (n - p) + 3
left n (Line p) = 3 * (n - p) + 2
left n (Resume p) = 3 * (n - p) + 1
left n (Done p) = 0
left n (Failed p) = 0
left n (TooDeep p) = 0

-- a step from an offset on that leaves at most this much work
pub record IsLess (t : List ℕ) (at more : ℕ) (r : BlockReader) (s : Step) : Type 0 where
  pub progress : ProgressAt t r.progress
  pub ready : StepReady t at s
  pub moves : left (length t) s ≤ 3 * (length t - at) + more
  pub escapes : All (IsCharBoundary t) r.part.escapes

-- properties begin at an offset, or none do, and the other offset is after them
abbrev pub PropertiesTo : List ℕ → ℕ → ℕ → Option PlacedProperties → Type 0
PropertiesTo t start at None = at ≡ start
PropertiesTo t start at (Some held) = BoundaryFrom t (start + 1) held.end × (held.end ≤ at)

-- the state on which a step works after the properties of a line
pub record IsReaderReadyAfter (t : List ℕ) (b : AfterProperties) (r : BlockReader) : Type 0 where
  pub standing : IsReaderReady t b.at r
  pub start : IsCharBoundary t b.node_start.at
  pub properties : PropertiesTo t b.node_start.at b.at b.inner

-- the earliest end of a node at an offset: after its first character, or after the properties before it
abbrev pub earliest_end : ℕ → Option PlacedProperties → ℕ
earliest_end at None = at + 1
earliest_end at (Some held) = held.end

abbrev pub StopAt : List ℕ → Stop → Type 0
StopAt t (DoneAt p) = IsCharBoundary t p
StopAt t (FailedAt p) = IsCharBoundary t p
StopAt t (TooDeepAt p) = IsCharBoundary t p

pub record StoppedAt (t : List ℕ) (r : Stopped) : Type 0 where
  pub stop : StopAt t r.stop
  pub halt : MayBoundary t r.halt
  pub floor : IsCharBoundary t r.floor

abbrev pub OutcomeAt : List ℕ → ℕ → BlockOutcome → Type 0
OutcomeAt t at (Found f) = BoundaryFrom t (at + 1) f.end × IsCharBoundary t f.reached × IsCharBoundary t f.floor
OutcomeAt t at (NoNode p) = IsCharBoundary t p
OutcomeAt t at (TooDeepHere p) = IsCharBoundary t p

abbrev pub PropertiesBefore : List ℕ → ℕ → Option PlacedProperties → Type 0
PropertiesBefore t at None = Unit {0}
PropertiesBefore t at (Some held) = IsCharBoundary t held.end × (held.end ≤ at)

abbrev pub IsEndAt : ℕ → Ending → Type 0
IsEndAt p (End node) = node.end ≡ p
IsEndAt p _ = ⊥

abbrev pub MayPlace : List ℕ → ℕ → Option ℕ → Type 0
MayPlace t at None = Unit {0}
MayPlace t at (Some p) = BoundaryFrom t at p

abbrev pub FitsAt : List ℕ → ℕ → Fit → Type 0
FitsAt t at (Item p) = BoundaryFrom t at p × IsCharBoundary t (p + 1) × DashAt t p
FitsAt t at (EntryAt p) = BoundaryFrom t at p
FitsAt t at (Deeper p) = IsCharBoundary t p
FitsAt t at EndsBefore = Unit {0}
