-- The number of collections open at once. Each has its own opener that has been read, so they and the openers ahead
-- are at most a total.
use Rattle.std.specs.Prelude.{ℕ, ◌+◌, ◌<◌, ◌≤◌, List}
use Rattle.yf_flow.specs.Depth.{openers_from}
use Rattle.yf_flow.specs.declared.frame.Node.{Node as FlowNode}
use Rattle.yf_block.specs.declared.frame.Step.{Step}
use Rattle.yf_block.specs.declared.frame.Step.TheVariants.{Node, Line, Resume, Done, Failed, TooDeep}
use Rattle.yf_block.specs.InlineTied.{EntrySignAt}

-- the next step, with `count` open collections
abbrev pub StepCounted : List ℕ → ℕ → ℕ → ℕ → Step → Type 0
StepCounted t limit total count (Node p) = count + openers_from t p ≤ total
StepCounted t limit total count (Line p) = count + openers_from t p ≤ total
StepCounted t limit total count (Resume p) = count + openers_from t p ≤ total
StepCounted t limit total count (Done p) = Unit {0}
StepCounted t limit total count (Failed p) = Unit {0}
StepCounted t limit total count (TooDeep p) = limit < total

-- the open collections and the openers from an offset on are at most a total: for a collection whose frame is on the
-- stack, for one more open collection, after a node with its collections, and after the `:` of a key
abbrev pub CountedAt : List ℕ → ℕ → ℕ → ℕ → Type 0
CountedAt t total count i = count + openers_from t i ≤ total

abbrev pub CountedInside : List ℕ → ℕ → ℕ → ℕ → Type 0
CountedInside t total count i = count + 1 + openers_from t i ≤ total

pub record CountedWith (node : FlowNode) (t : List ℕ) (total count i : ℕ) : Type 0 where
  pub deepest : node.deepest + openers_from t node.end ≤ total
  pub opened : count + openers_from t i ≤ total

abbrev pub CountedPast : ℕ → List ℕ → ℕ → ℕ → ℕ → Type 0
CountedPast colon t total count i = count + 1 + openers_from t (colon + 1) ≤ total

-- an entry begins there, of a collection with `count` collections around it: the first entry, with its `?` or `:`, or
-- a later one, whose opener has been read
pub record EntryCounted (t : List ℕ) (total count i : ℕ) : Type 0 where
  pub signed : EntrySignAt t i → count + openers_from t i ≤ total
  pub keyed : (EntrySignAt t i → ⊥) → count + 1 + openers_from t i ≤ total
