use Rattle.std.proofs.Common.{◌≡◌, ◌<◌, slice_get, ℕ}
use Rattle.yf_ranges.proofs.flow_layout.first_difference.Given as goal

abbrev pub invariant-loop-k : goal.invariant-loop-k
invariant-loop-k l = (j : ℕ) → j < l.k → slice_get l.a j ≡ slice_get l.b j
