use Rattle.std.proofs.Common.{ℕ, ◌+◌, ◌<◌, length, take}
use Rattle.std.specs.Prelude.{nat_lt}
use Rattle.yf_excludes.specs.Excluded.{Excludes}
use Rattle.yf_excludes.proofs.excluded.is_excluded.Given as goal

abbrev pub invariant-loop-depth : goal.invariant-loop-depth
invariant-loop-depth l = (k : ℕ) → k < l.depth
    → Excludes (take (k + 1) l.path) (nat_lt (k + 1) (length l.path)) l.patterns → ⊥
