-- The invariant between two steps of the reader: its offsets are boundaries, the events that it will change exist,
-- and each step leaves less of the text.
use Rattle.std.specs.Prelude.{ℕ, ◌+◌, ◌-◌, ◌*◌, ◌<◌, ◌≤◌, List}
use Rattle.std.specs.Str.{IsCharBoundary}
use Rattle.yf_chars.specs.Boundary.{BoundaryFrom}
use Rattle.yf_lines.specs.declared.fault.Fault.{Fault}
use Rattle.yf_lines.specs.declared.fault.Fault.TheVariants.{Memory, EscapeValue, TooDeep as TooDeepFault}
use Rattle.yf_lines.specs.FaultPlaces.{InText}
use Rattle.yf_flow.specs.declared.frame.Frame.{Frame}
use Rattle.yf_flow.specs.declared.frame.Step.{Step}
use Rattle.yf_flow.specs.declared.frame.Step.TheVariants.{Node, Entry, Ended, Done, Failed, TooDeep}
use Rattle.yf_flow.specs.declared.nodes.Ending.{Ending}
use Rattle.yf_flow.specs.declared.nodes.Ending.TheVariants.{End, Nothing as NoEnd, TooDeep as TooDeepThere}
use Rattle.yf_flow.specs.declared.node.Begun.{Begun}
use Rattle.yf_flow.specs.declared.node.Begun.TheVariants.{Leaf, Opened, Nothing, TooDeep as TooDeepAt}

-- the events that begin the collection and its present entry are among the first m, and the entry begins at a
-- boundary
pub record EntryIsIn (t : List ℕ) (m : ℕ) (f : Frame) : Type 0 where
  pub event : f.event < m
  pub entry : f.entry_event < m
  pub place : IsCharBoundary t f.entry

-- like `EntryIsIn`, but the next event may be the one that begins the entry
pub record EntryIsNext (t : List ℕ) (m : ℕ) (f : Frame) : Type 0 where
  pub event : f.event < m
  pub entry : f.entry_event ≤ m
  pub place : IsCharBoundary t f.entry

-- the next step is at or after an offset, with m events
abbrev pub StepReady : List ℕ → ℕ → ℕ → Frame → Step → Type 0
StepReady t at m top (Node p) = BoundaryFrom t at p × EntryIsNext t m top
StepReady t at m top (Entry p) = BoundaryFrom t at p × EntryIsNext t m top
StepReady t at m top (Ended node) = BoundaryFrom t at node.end × EntryIsIn t m top
StepReady t at m top (Done node) = BoundaryFrom t at node.end
StepReady t at m top Failed = Unit {0}
StepReady t at m top (TooDeep p) = IsCharBoundary t p

-- the work left of n bytes
abbrev pub left : ℕ → Step → ℕ
left n (Node p) = 2 * (n - p) + 1
left n (Entry p) = 2 * (n - p) + 2
left n (Ended node) = 2 * (n - node.end) + 2
left n (Done node) = 0
left n Failed = 0
left n (TooDeep p) = 0

-- the beginning of an awaited node, which increases the number of events from m to k
abbrev pub BegunAt : List ℕ → ℕ → ℕ → ℕ → Begun → Type 0
BegunAt t at m k (Leaf node) = BoundaryFrom t (at + 1) node.end × m < k
BegunAt t at m k (Opened f) = BoundaryFrom t (at + 1) f.entry × EntryIsNext t k f × m < k
BegunAt t at m k Nothing = Unit {0}
BegunAt t at m k (TooDeepAt p) = IsCharBoundary t p

-- the end of a node: at or after an offset
abbrev pub EndingAt : List ℕ → ℕ → Ending → Type 0
EndingAt t at (End node) = BoundaryFrom t at node.end
EndingAt t at NoEnd = Unit {0}
EndingAt t at (TooDeepThere p) = IsCharBoundary t p

-- the faults of the readers, with places in the text: of the scan forms, and of those that also fail at a bad escape
abbrev pub IsScanFault : List ℕ → Fault → Type 0
IsScanFault t Memory = Unit {0}
IsScanFault t (TooDeepFault place) = InText t place
IsScanFault t _ = ⊥

abbrev pub IsReadFault : List ℕ → Fault → Type 0
IsReadFault t Memory = Unit {0}
IsReadFault t (TooDeepFault place) = InText t place
IsReadFault t (EscapeValue place) = InText t place
IsReadFault t _ = ⊥
