use Rattle.std.proofs.Common.{◌-◌, ◌≤◌, length}
use Rattle.std.specs.List.{AllAdjacentBelow}
use Rattle.yf_forms.proofs.form.comments_before.first_search.Given as goal

abbrev pub invariant-loop-k : goal.invariant-loop-k
invariant-loop-k l = record {
  from : 1 ≤ l.k;
  rising : AllAdjacentBelow (λ x y. x.offset ≤ y.offset) l.comments l.k;
}

abbrev pub decreases-loop-k : goal.decreases-loop-k
decreases-loop-k l = length l.comments - l.k
