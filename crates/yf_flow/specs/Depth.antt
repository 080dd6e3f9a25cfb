-- The depths of the open collections: of each, and of the deepest one within it so far. Each depth and the openers
-- ahead are at most a total.
use Rattle.std.specs.Prelude.{ℕ, ◌+◌, ◌<◌, ◌≤◌, List, drop}
use Rattle.std.specs.List.{All}
use Rattle.std.specs.Str.{IsUtf8}
use Rattle.yf_grammar.specs.Refusal.{openers}
use Rattle.yf_flow.specs.declared.frame.Frame.{Frame}
use Rattle.yf_flow.specs.declared.frame.Step.{Step}
use Rattle.yf_flow.specs.declared.frame.Step.TheVariants.{Node, Entry, Ended, Done, Failed, TooDeep}
use Rattle.yf_flow.specs.declared.nodes.Ending.{Ending}
use Rattle.yf_flow.specs.declared.nodes.Ending.TheVariants.{End, Nothing as NoEnd, TooDeep as TooDeepThere}
use Rattle.yf_flow.specs.declared.node.Begun.{Begun}
use Rattle.yf_flow.specs.declared.node.Begun.TheVariants.{Leaf, Opened, Nothing as NoneBegun, TooDeep as TooDeepAt}

-- the openers from an offset on
unfoldable pub openers_from : List ℕ → ℕ → ℕ
openers_from t i = openers (drop i t)

pub record DepthCounted (t : List ℕ) (total i : ℕ) (f : Frame) : Type 0 where
  pub depth : f.depth + openers_from t i ≤ total
  pub deepest : f.deepest + openers_from t i ≤ total

-- the innermost collection and those around it
pub record AllCounted (t : List ℕ) (total i : ℕ) (frames : List Frame) (top : Frame) : Type 0 where
  pub utf8 : IsUtf8 t
  pub innermost : DepthCounted t total i top
  pub others : All (DepthCounted t total i) frames

-- a node after reading
pub record NodeCounted (t : List ℕ) (total deepest i : ℕ) (frames : List Frame) (top : Frame) : Type 0 where
  pub collections : AllCounted t total i frames top
  pub node : deepest + openers_from t i ≤ total

-- the next step
abbrev pub StepCounted : List ℕ → ℕ → ℕ → List Frame → Frame → Step → Type 0
StepCounted t limit total frames top (Node p) = AllCounted t total p frames top
StepCounted t limit total frames top (Entry p) = AllCounted t total p frames top
StepCounted t limit total frames top (Ended node) = NodeCounted t total node.deepest node.end frames top
StepCounted t limit total frames top (Done node) = node.deepest + openers_from t node.end ≤ total
StepCounted t limit total frames top Failed = Unit {0}
StepCounted t limit total frames top (TooDeep p) = limit < total

-- the beginning of a node, and its end
abbrev pub BegunCounted : List ℕ → ℕ → ℕ → Begun → Type 0
BegunCounted t limit total (Leaf node) = node.deepest + openers_from t node.end ≤ total
BegunCounted t limit total (Opened f) = DepthCounted t total f.entry f
BegunCounted t limit total NoneBegun = Unit {0}
BegunCounted t limit total (TooDeepAt p) = limit < total

abbrev pub EndCounted : List ℕ → ℕ → ℕ → Ending → Type 0
EndCounted t limit total (End node) = node.deepest + openers_from t node.end ≤ total
EndCounted t limit total NoEnd = Unit {0}
EndCounted t limit total (TooDeepThere p) = limit < total
