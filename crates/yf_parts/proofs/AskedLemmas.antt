-- Hunks that touch requested lines.
use Rattle.std.proofs.Common.{◌≡◌, ℕ, ◌+◌, ◌≤◌, true, false, ◌&&◌, ◌||◌, Bool, List, [], ◌∷◌, refl, sym, ap, ◌∙◌}
use Rattle.std.proofs.Common.{arith, ⊎_elim}
use Rattle.std.specs.Prelude.{map, nat_le}
use Rattle.std.proofs.lemmas.Bool.{cases_Bool, or_parts}
use Rattle.std.proofs.Math.Bool.{or-true}
use Rattle.std.proofs.lemmas.Bool.Decides.{nat_tests}
use Rattle.yf_line_ranges.specs.Ranges.{is_asked}
use Rattle.yf_parts.specs.Asked.{AllUntouched, Covers, IsUntouched, Settled, has_true, meets, touched_by}
use Rattle.yf_parts.specs.Asked.{touches}
use Rattle.yf_line_ranges.specs.declared.range.LineRange.{LineRange}
use Rattle.yf_parts.specs.declared.hunks.Hunk.{Hunk}

between : (r : LineRange) (n : ℕ) → r.first ≤ n → n ≤ r.last → (nat_le r.first n && nat_le n r.last) ≡ true
between r n a b = grind (arith, nat_tests)

-- a hunk that touches no line of a range doesn't meet it
apart : (r : LineRange) (h : Hunk) → ((n : ℕ) → r.first ≤ n → n ≤ r.last → touches h n ≡ false) → meets r h ≡ false
apart r h none =
    let at_start = none h.start.lines in
    let after_start = none (h.start.lines + 1) in
    let at_first = none r.first in
    grind (arith, nat_tests)

-- and the other way round
met : (r : LineRange) (h : Hunk) (n : ℕ) → meets r h ≡ false → (nat_le r.first n && nat_le n r.last) ≡ true
    → touches h n ≡ false
met r h n e f = grind (arith, nat_tests)

-- an untouched hunk touches no requested line
pub untouched : (asked : List LineRange) (h : Hunk) → touched_by asked h ≡ false → IsUntouched asked h
untouched [] h e n f = absurd cc
untouched (r ∷ asked) h e n f =
    let parts = or_parts (meets r h) (touched_by asked h) e in
    ⊎_elim (λ (g : (nat_le r.first n && nat_le n r.last) ≡ true). met r h n parts.0 g)
    (λ (g : (nat_le r.first n && nat_le n r.last) ≡ false). untouched asked h parts.1 n
    (sym (ap (λ b. b || is_asked asked n) g) ∙ f))
    (cases_Bool (nat_le r.first n && nat_le n r.last))

touched_none : (asked : List LineRange) (h : Hunk) → IsUntouched asked h → touched_by asked h ≡ false
touched_none [] h none = refl
touched_none (r ∷ asked) h none =
    let first = apart r h (λ n a b. none n (ap (λ b. b || is_asked asked n) (between r n a b))) in
    let rest = touched_none asked h (λ n f. none n (ap (λ b. (nat_le r.first n && nat_le n r.last) || b) f
    ∙ or-true (nat_le r.first n && nat_le n r.last))) in
    rw (first, rest) refl

pub all_untouched : (asked : List LineRange) (hunks : List Hunk) → AllUntouched asked hunks
    → has_true (map (touched_by asked) hunks) ≡ false
all_untouched asked [] none = refl
all_untouched asked (h ∷ hunks) none = rw (touched_none asked h none.0, all_untouched asked hunks none.1) refl

pub settled : (asked : List LineRange) (hunks : List Hunk) (flags : List Bool)
    → Covers (map (touched_by asked) hunks) flags → Settled asked hunks flags
settled asked [] [] c = tt
settled asked [] (b ∷ flags) c = c
settled asked (h ∷ hunks) [] c = c
settled asked (h ∷ hunks) (b ∷ flags) c = (
  (λ off. untouched asked h
      (⊎_elim (λ (e : touched_by asked h ≡ true). absurd (let on = c.0 e in cc))
      (λ (e : touched_by asked h ≡ false). e) (cases_Bool (touched_by asked h)))),
  settled asked hunks flags c.1,
)
