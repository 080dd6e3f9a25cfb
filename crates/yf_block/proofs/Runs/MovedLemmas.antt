-- The work that a step leaves: for the steps it returns, and as seen from an earlier offset.
use Rattle.std.proofs.Common.{ℕ, ◌+◌, ◌-◌, ◌*◌, ◌<◌, ◌≤◌, Bool, List, length, Option, Result, Ok, Err, IfOk, sym, subst, arith}
use Rattle.std.specs.List.{All}
use Rattle.std.specs.Str.{IsCharBoundary}
use Rattle.yf_chars.specs.Boundary.{BoundaryFrom}
use Rattle.yf_events.specs.declared.event.Entry as TheEntry
use Rattle.yf_block.specs.declared.frame.BlockCursor.{BlockCursor}
use Rattle.yf_block.specs.declared.frame.BlockReader.{BlockReader}
use Rattle.yf_block.specs.declared.frame.Step.{Step}
use Rattle.yf_block.specs.declared.frame.Step.TheVariants.{Node, Line, Resume, Done, Failed, TooDeep}
use Rattle.yf_block.specs.BlockTied.{NodeAwaited}
use Rattle.yf_block.specs.Machine.{MayBoundary, ProgressAt, StepReady, IsLess, left}

module _ {t : List ℕ} {at more : ℕ} {r : BlockReader} (progress : ProgressAt t r.progress) (escapes : All (IsCharBoundary t) r.part.escapes) where
  pub failed_moved : {p : ℕ} → IsCharBoundary t p → IsLess t at more r (Failed p)
  failed_moved b = record { progress = progress; ready = b; moves = omega arith; escapes = escapes }

  pub deep_moved : {p : ℕ} → IsCharBoundary t p → IsLess t at more r (TooDeep p)
  deep_moved b = record { progress = progress; ready = b; moves = omega arith; escapes = escapes }

  pub done_moved : {p : ℕ} → IsCharBoundary t p → IsLess t at more r (Done p)
  done_moved b = record { progress = progress; ready = b; moves = omega arith; escapes = escapes }

  pub resume_moved : {p : ℕ} → 1 ≤ more → BoundaryFrom t at p → IsLess t at more r (Resume p)
  resume_moved l b = record { progress = progress; ready = b; moves = let o = b.order in omega arith; escapes = escapes }

  pub line_moved : {p : ℕ} → 2 ≤ more → BoundaryFrom t at p → IsLess t at more r (Line p)
  line_moved l b = record { progress = progress; ready = b; moves = let o = b.order in omega arith; escapes = escapes }

  pub node_moved : {p : ℕ} → 3 ≤ more → BoundaryFrom t at p → IsLess t at more r (Node p)
  node_moved l b = record { progress = progress; ready = b; moves = let o = b.order in omega arith; escapes = escapes }

-- a node is awaited after an indicator
pub awaited_moved : {t : List ℕ} {start at column : ℕ} {compact out : Bool} {entry : Option TheEntry.Entry} {old : BlockCursor} {r : BlockReader} {s : Step} → NodeAwaited at column compact out entry old r.progress s
    → ProgressAt t old → All (IsCharBoundary t) r.part.escapes → start ≤ at → IsCharBoundary t (at + 1) → IsLess t start 0 r s
awaited_moved {t} {start} {at} v p e l b = record {
  progress = record {
    floor = subst (λ (z : ℕ). IsCharBoundary t z) (sym v.floor) p.floor;
    from = subst (λ (z : ℕ). IsCharBoundary t z) (sym v.from) p.from;
    halt = subst (λ (z : Option ℕ). MayBoundary t z) (sym v.halt) p.halt;
  };
  ready = subst (λ (z : Step). StepReady t start z) (sym v.step) (record { boundary = b; order = omega arith });
  moves = subst (λ (z : Step). left (length t) z ≤ 3 * (length t - start) + 0) (sym v.step) (let w = b.0 in omega arith);
  escapes = e;
}

ready_later : (t : List ℕ) (at place : ℕ) (s : Step) → at ≤ place → StepReady t place s → StepReady t at s
ready_later t at place (Node p) l r = record { boundary = r.boundary; order = let o = r.order in omega arith }
ready_later t at place (Line p) l r = record { boundary = r.boundary; order = let o = r.order in omega arith }
ready_later t at place (Resume p) l r = record { boundary = r.boundary; order = let o = r.order in omega arith }
ready_later t at place (Done p) l r = r
ready_later t at place (Failed p) l r = r
ready_later t at place (TooDeep p) l r = r

-- the work left after a step at an offset, as seen from an earlier one
pub moved_later : {E : Type 0} {at place more less : ℕ} (t : List ℕ) (r : BlockReader) (result : Result Step E) → at ≤ place → less ≤ more → IfOk result (IsLess t place less r)
    → IfOk result (IsLess t at more r)
moved_later {E} {at} {place} t r (Ok s) l k m = record {
  progress = m.progress;
  ready = ready_later t at place s l m.ready;
  moves = let o = m.moves in omega arith;
  escapes = m.escapes;
}
moved_later t r (Err e) l k m = tt

-- and as seen from before a passed character
pub moved_past : {E : Type 0} {at place less : ℕ} (t : List ℕ) (r : BlockReader) (more : ℕ) (result : Result Step E) → at < place → place ≤ length t → less ≤ more + 3
    → IfOk result (IsLess t place less r) → IfOk result (IsLess t at more r)
moved_past {E} {at} {place} t r more (Ok s) l w k m = record {
  progress = m.progress;
  ready = ready_later t at place s (omega arith) m.ready;
  moves = let o = m.moves in omega arith;
  escapes = m.escapes;
}
moved_past t r more (Err e) l w k m = tt
