-- Ranges that are in order, and the hunks that touch them.
use Rattle.std.proofs.Common.{◌≡◌, ℕ, zero, suc, ◌+◌, ◌-◌, ◌<◌, ◌≤◌, true, false, ◌&&◌, Bool, List, [], ◌∷◌}
use Rattle.std.proofs.Common.{◌++◌, length, take, drop, drop-cons, get_or, refl, sym, ap, ◌∙◌, append_assoc, arith}
use Rattle.std.specs.Prelude.{map, nat_le, nat_lt}
use Rattle.std.proofs.lemmas.Bool.Decides.{nat_tests}
use Rattle.yf_line_ranges.specs.Ranges.{all_before, ascend_after}
use Rattle.yf_parts.specs.Asked.{meets, touched_by}
use Rattle.yf_line_ranges.specs.declared.range.LineRange.{LineRange}
use Rattle.yf_parts.specs.declared.hunks.Hunk.{Hunk}

and_both : (a b : Bool) → (a && b) ≡ true → (a ≡ true) × (b ≡ true)
and_both true b e = (refl, e)
and_both false b e = absurd cc

-- ranges that end before a line end before a later one
pub before_more : (asked : List LineRange) (line next : ℕ) → all_before asked line ≡ true → line ≤ next
    → all_before asked next ≡ true
before_more [] line next e l = refl
before_more (r ∷ asked) line next e l =
    let parts = and_both (nat_lt r.last line) (all_before asked line) e in
    let here : nat_lt r.last next ≡ true = grind (arith, nat_tests, parts.0) in
    rw (here, before_more asked line next parts.1 l) refl

-- a range that ends before a hunk is not touched by it
passed_by : (r : LineRange) (h : Hunk) → nat_lt r.last h.start.lines ≡ true → meets r h ≡ false
passed_by r h e = grind (arith, nat_tests)

pub before_untouched : (asked : List LineRange) (k : ℕ) (h : Hunk) → all_before (take k asked) h.start.lines ≡ true
    → touched_by (drop k asked) h ≡ touched_by asked h
before_untouched asked zero h e = refl
before_untouched [] (suc k) h e = refl
before_untouched (r ∷ asked) (suc k) h e =
    let parts = and_both (nat_lt r.last h.start.lines) (all_before (take k asked) h.start.lines) e in
    rw (passed_by r h parts.0) (before_untouched asked k h parts.1)

-- ranges that begin after a hunk are not touched by it
begins_later : (r : LineRange) (h : Hunk) → h.end.lines < r.first - 1 → meets r h ≡ false
begins_later r h l = grind (arith, nat_tests)

pub later_untouched : (asked : List LineRange) (first : ℕ) (h : Hunk) → ascend_after first asked ≡ true
    → h.end.lines < first - 1 → touched_by asked h ≡ false
later_untouched [] first h e l = refl
later_untouched (r ∷ asked) first h e l =
    let parts = and_both (nat_le first r.first) (ascend_after r.first asked) e in
    let after : first ≤ r.first = grind (arith, nat_tests, parts.0) in
    let here : h.end.lines < r.first - 1 = omega arith in
    rw (begins_later r h here, later_untouched asked r.first h parts.1 here) refl

ascend_from : (asked : List LineRange) (first : ℕ) → ascend_after first asked ≡ true → ascend_after 0 asked ≡ true
ascend_from [] first e = refl
ascend_from (r ∷ asked) first e =
    let parts = and_both (nat_le first r.first) (ascend_after r.first asked) e in
    let here : nat_le 0 r.first ≡ true = grind (arith, nat_tests) in
    rw (here, parts.1) refl

-- the rest of ranges in order is in order
pub ascend_dropped : (asked : List LineRange) (k : ℕ) → ascend_after 0 asked ≡ true
    → ascend_after 0 (drop k asked) ≡ true
ascend_dropped asked zero e = e
ascend_dropped [] (suc k) e = refl
ascend_dropped (r ∷ asked) (suc k) e = ascend_dropped asked k
    (ascend_from asked r.first (and_both (nat_le 0 r.first) (ascend_after r.first asked) e).1)

-- One more range.

dropped_at : {A : Type 0} (xs : List A) (at : ℕ) (d : A) → at < length xs
    → drop at xs ≡ get_or xs at d ∷ drop (at + 1) xs
dropped_at xs at d l =
    let next : suc at ≡ at + 1 = omega arith in
    drop-cons xs at d l ∙ ap (λ k. get_or xs at d ∷ drop k xs) next

pub before_next : (asked : List LineRange) (k n line : ℕ) (d : LineRange) → k < length asked → n ≡ suc k
    → all_before (take k asked) line ≡ true → (get_or asked k d).last < line → all_before (take n asked) line ≡ true
before_next asked k zero line d l s e b = absurd (omega arith)
before_next [] k (suc n) line d l s e b = absurd (omega arith)
before_next (r ∷ asked) zero (suc n) line d l s e b =
    let none : n ≡ 0 = omega arith in
    let here : nat_lt r.last line ≡ true = grind (arith, nat_tests) in
    rw (none, here) refl
before_next (r ∷ asked) (suc k) (suc n) line d l s e b =
    let parts = and_both (nat_lt r.last line) (all_before (take k asked) line) e in
    rw (parts.0, before_next asked k n line d (omega arith) (omega arith) parts.1 b) refl

module _ (asked : List LineRange) (at : ℕ) (h : Hunk) (d : LineRange) (inside : at < length asked) where
  pub touches_none_later : ascend_after 0 (drop at asked) ≡ true → h.end.lines < (get_or asked at d).first - 1
      → touched_by (drop at asked) h ≡ false
  touches_none_later e l =
      let x = get_or asked at d in
      let rest = drop (at + 1) asked in
      let split = dropped_at asked at d inside in
      let order = sym (ap (ascend_after 0) split) ∙ e in
      let parts = and_both (nat_le 0 x.first) (ascend_after x.first rest) order in
      rw (split, begins_later x h l, later_untouched rest x.first h parts.1 l) refl

  pub order_next : ascend_after 0 (drop at asked) ≡ true → ascend_after 0 (drop (at + 1) asked) ≡ true
  order_next e =
      let x = get_or asked at d in
      let rest = drop (at + 1) asked in
      let order = sym (ap (ascend_after 0) (dropped_at asked at d inside)) ∙ e in
      ascend_from rest x.first (and_both (nat_le 0 x.first) (ascend_after x.first rest) order).1

  pub touched_later : meets (get_or asked at d) h ≡ false
      → touched_by (drop (at + 1) asked) h ≡ touched_by (drop at asked) h
  touched_later e = rw (dropped_at asked at d inside, e) refl

pub map_next : {A : Type 0} (f : A → Bool) (xs : List A) (i : ℕ) (d : A) (done after : List Bool) (b : Bool)
    → i < length xs
    → after ≡ done ++ b ∷ [] → b ≡ f (get_or xs i d) → after ++ map f (drop (i + 1) xs) ≡ done ++ map f (drop i xs)
map_next f xs i d done after b l e is = rw (e, dropped_at xs i d l, is)
    (append_assoc done (f (get_or xs i d) ∷ []) (map f (drop (i + 1) xs)))
