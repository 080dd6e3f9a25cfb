-- A search by halves, and its result.
use Rattle.std.proofs.Common.{◌≡◌, ℕ, ◌+◌, ◌-◌, ◌/◌, ◌<◌, ◌≤◌, ◌⊎◌, inl, inr, refl, sym, ap, subst, ◌∙◌, arith}
use Rattle.yf_parts.specs.Tries.{IsLeast, IsNarrowed, around, on_side, with_side}
use Rattle.yf_parts.specs.declared.candidates.Reach.{Reach}
use Rattle.yf_parts.specs.declared.candidates.Side.{Side}
use Rattle.yf_parts.specs.declared.candidates.Side.TheVariants.{Before, After}

own_side : (side : Side) (reach : Reach) → reach ≡ with_side side (on_side side reach) reach
own_side Before reach = refl
own_side After reach = refl

count_on : (side : Side) (count : ℕ) (reach : Reach) → on_side side (with_side side count reach) ≡ count
count_on Before count reach = refl
count_on After count reach = refl

with_again : (side : Side) (count other : ℕ) (reach : Reach)
    → with_side side count (with_side side other reach) ≡ with_side side count reach
with_again Before count other reach = refl
with_again After count other reach = refl

-- the number on a side that is searched for is from low to high, which is that of the reach
pub record Between (Fails : Reach → Type 0) (side : Side) (start : Reach) (low high : ℕ) (reach : Reach) : Type 0 where
  pub changed : reach ≡ with_side side high start
  pub within : high ≤ on_side side start
  pub order : low ≤ high
  pub fails : (low ≡ 0) ⊎ Fails (with_side side (low - 1) start)

module _ (Fails : Reach → Type 0) (side : Side) (start : Reach) where
  pub between_all : (high : ℕ) → high ≡ on_side side start → Between Fails side start 0 high start
  between_all high e = record {
    changed = own_side side start ∙ ap (λ k. with_side side k start) (sym e);
    within = omega arith;
    order = omega arith;
    fails = inl refl;
  }

  -- the reach that is tried
  tried_from : (low high middle : ℕ) (reach tried : Reach) → tried ≡ with_side side middle reach
      → Between Fails side start low high reach → tried ≡ with_side side middle start
  tried_from low high middle reach tried e b = e ∙ (ap (with_side side middle) b.changed
      ∙ with_again side middle high start)

  pub below_middle : (low high middle : ℕ) (reach tried now : Reach) → low < high → middle ≡ low + (high - low) / 2
      → tried ≡ with_side side middle reach → now ≡ tried → Between Fails side start low high reach
      → Between Fails side start low middle now
  below_middle low high middle reach tried now l m e n b =
      let within : high ≤ on_side side start = b.within in
      record {
        changed = n ∙ tried_from low high middle reach tried e b;
        within = omega arith;
        order = omega arith;
        fails = b.fails;
      }

  pub above_middle : (low high middle : ℕ) (reach tried now : Reach) → low < high → middle ≡ low + (high - low) / 2
      → tried ≡ with_side side middle reach → now ≡ reach → Fails tried → Between Fails side start low high reach
      → Between Fails side start (middle + 1) high now
  above_middle low high middle reach tried now l m e n f b =
      let one_less : middle ≡ middle + 1 - 1 = omega arith in
      record {
        changed = n ∙ b.changed;
        within = b.within;
        order = omega arith;
        fails = inr (subst (λ k. Fails (with_side side k start)) one_less
            (subst (λ r. Fails r) (tried_from low high middle reach tried e b) f));
      }

  pub least_between : (low high : ℕ) (reach : Reach) → high ≤ low → Between Fails side start low high reach
      → IsLeast Fails side start reach
  least_between low high reach l b =
      let order : low ≤ high = b.order in
      let same : low ≡ high = omega arith in
      let count : on_side side reach ≡ high = ap (on_side side) b.changed ∙ count_on side high start in
      record {
        changed = b.changed ∙ ap (λ k. with_side side k start) (sym count);
        within = subst (λ k. k ≤ on_side side start) (sym count) b.within;
        least = subst (λ k. (k ≡ 0) ⊎ Fails (with_side side (k - 1) start)) (same ∙ sym count) b.fails;
      }

-- first the number before the touched hunks, then that after them
pub narrowed_twice : (Fails : Reach → Type 0) (radius : ℕ) (start first second : Reach) → start ≡ around radius radius
    → IsLeast Fails Before start first → IsLeast Fails After first second → IsNarrowed Fails radius second
narrowed_twice Fails radius start first second e l m =
    let start_before : start.before ≡ radius = ap (λ (r : Reach). r.before) e in
    let start_after : start.after ≡ radius = ap (λ (r : Reach). r.after) e in
    let first_after : first.after ≡ start.after = ap (λ (r : Reach). r.after) l.changed in
    let kept : second.before ≡ first.before = ap (λ (r : Reach). r.before) m.changed in
    let less_before : first.before ≤ start.before = l.within in
    let less_after : second.after ≤ first.after = m.within in
    let none_before : (first.before ≡ 0) ⊎ Fails (around (first.before - 1) start.after) = l.least in
    let none_after : (second.after ≡ 0) ⊎ Fails (around first.before (second.after - 1)) = m.least in
    record {
      within_before = omega arith;
      within_after = omega arith;
      before = subst (λ k. (second.before ≡ 0) ⊎ Fails (around (second.before - 1) k)) start_after
          (subst (λ k. (k ≡ 0) ⊎ Fails (around (k - 1) start.after)) (sym kept) none_before);
      after = subst (λ k. (second.after ≡ 0) ⊎ Fails (around k (second.after - 1))) (sym kept) none_after;
    }
