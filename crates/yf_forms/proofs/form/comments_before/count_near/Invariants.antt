use Rattle.std.proofs.Common.{◌≡◌, ◌-◌, ◌<◌, ◌≤◌, false, length, map, nat_lt, true, ℕ}
use Rattle.std.specs.List.Sorted.{IsNonDecreasingBy}
use Rattle.std.specs.List.{AllWithin}
use Rattle.yf_forms.specs.Passes.Halving.{Halves}
use Rattle.yf_forms.proofs.form.comments_before.count_near.Given as goal

abbrev pub invariant-loop-low : goal.invariant-loop-low
invariant-loop-low l = record {
  order : l.low ≤ l.high;
  within : l.high ≤ length l.comments;
  before : IsNonDecreasingBy (λ c. c.offset) l.comments → AllWithin (λ c. nat_lt c.offset l.offset ≡ true) l.comments 0 l.low;
  follows : IsNonDecreasingBy (λ c. c.offset) l.comments → AllWithin (λ c. nat_lt c.offset l.offset ≡ false) l.comments l.high (length l.comments);
  halved : length l.comments < l.near → (end : ℕ) → Halves (map (λ c. c.offset) l.comments) l.offset l.low l.high end
      → Halves (map (λ c. c.offset) l.comments) l.offset 0 (length l.comments) end;
}

abbrev pub decreases-loop-low : goal.decreases-loop-low
decreases-loop-low l = l.high - l.low
