-- The number of lines that end before an offset, and their starts.
use Rattle.std.proofs.Common.{◌≡◌, ◌≢◌, ℕ, zero, suc, ◌+◌, ◌<◌, ◌≤◌, ◌==◌, true, false, ⊎_elim, List, [], ◌∷◌, length, drop, get_or, refl, sym, ap, ◌∙◌, subst, arith, add-one}
use Rattle.std.proofs.lemmas.Bool.{cases_Bool, cases_lt, or_parts, eq-eqb, eqb-true, ne_eqb}
use Rattle.std.proofs.lemmas.List.{get_or-drop}
use Rattle.yf_positions.specs.Units.{is_break}
use Rattle.yf_positions.specs.Lines.{ends_line, lines_before, line_start, IsUnbroken, LineEndsAt}

pub lines_before-zero : (t : List ℕ) → lines_before t 0 ≡ 0
lines_before-zero [] = refl
lines_before-zero (c ∷ t) = refl

pub line_start-zero : (t : List ℕ) → line_start t 0 ≡ 0
line_start-zero [] = refl
line_start-zero (c ∷ t) = refl

pub start_below : (t : List ℕ) (n i : ℕ) → n ≤ lines_before t i → line_start t n ≤ i
start_below [] n i h = omega arith
start_below (c ∷ t) zero i h = omega arith
start_below (c ∷ t) (suc n) zero h = absurd (omega arith)
start_below (c ∷ t) (suc n) (suc i) h =
    ⊎_elim (λ (e : ends_line c t ≡ true).
    let h2 : suc n ≤ suc (lines_before t i) = rw e at h in
    let below : line_start t n ≤ i = start_below t n i (omega arith) in
    rw e (omega arith))
    (λ (e : ends_line c t ≡ false).
    let h2 : suc n ≤ lines_before t i = rw e at h in
    let below : line_start t (suc n) ≤ i = start_below t (suc n) i h2 in
    rw e (omega arith))
    (cases_Bool (ends_line c t))

pub start_above : (t : List ℕ) (n i : ℕ) → lines_before t i < n → n ≤ lines_before t (length t) → i < line_start t n
start_above [] n i a b = absurd (omega arith)
start_above (c ∷ t) zero i a b = absurd (omega arith)
start_above (c ∷ t) (suc n) zero a b = omega arith
start_above (c ∷ t) (suc n) (suc i) a b =
    ⊎_elim (λ (e : ends_line c t ≡ true).
    let a2 : suc (lines_before t i) < suc n = rw e at a in
    let b2 : suc n ≤ suc (lines_before t (length t)) = rw e at b in
    let above : i < line_start t n = start_above t n i (omega arith) (omega arith) in
    rw e (omega arith))
    (λ (e : ends_line c t ≡ false).
    let a2 : lines_before t i < suc n = rw e at a in
    let b2 : suc n ≤ lines_before t (length t) = rw e at b in
    let above : i < line_start t (suc n) = start_above t (suc n) i a2 b2 in
    rw e (omega arith))
    (cases_Bool (ends_line c t))

pub lines_most : (t : List ℕ) (i : ℕ) → lines_before t i ≤ lines_before t (length t)
lines_most [] i = omega arith
lines_most (c ∷ t) zero = omega arith
lines_most (c ∷ t) (suc i) =
    let most : lines_before t i ≤ lines_before t (length t) = lines_most t i in
    ⊎_elim (λ (e : ends_line c t ≡ true). rw e (omega arith))
    (λ (e : ends_line c t ≡ false). rw e most)
    (cases_Bool (ends_line c t))

pub start_past : (t : List ℕ) (n : ℕ) → lines_before t (length t) < n → line_start t n ≡ length t
start_past [] n h = refl
start_past (c ∷ t) zero h = absurd (omega arith)
start_past (c ∷ t) (suc n) h =
    ⊎_elim (λ (e : ends_line c t ≡ true).
    let h2 : suc (lines_before t (length t)) < suc n = rw e at h in
    rw e (ap suc (start_past t n (omega arith))))
    (λ (e : ends_line c t ≡ false).
    let h2 : lines_before t (length t) < suc n = rw e at h in
    rw e (ap suc (start_past t (suc n) h2)))
    (cases_Bool (ends_line c t))

pub start_within : (t : List ℕ) (n : ℕ) → line_start t n ≤ length t
start_within [] n = omega arith
start_within (c ∷ t) zero = omega arith
start_within (c ∷ t) (suc n) =
    let one : line_start t n ≤ length t = start_within t n in
    let two : line_start t (suc n) ≤ length t = start_within t (suc n) in
    ⊎_elim (λ (e : ends_line c t ≡ true). rw e (omega arith))
    (λ (e : ends_line c t ≡ false). rw e (omega arith))
    (cases_Bool (ends_line c t))

-- one more byte
line_ends : (t : List ℕ) (i : ℕ) → i < length t → ends_line (get_or t i 0) (drop (suc i) t) ≡ true
    → lines_before t (suc i) ≡ suc (lines_before t i)
line_ends [] i l e = absurd (omega arith)
line_ends (c ∷ t) zero l e = rw (e, lines_before-zero t) refl
line_ends (c ∷ t) (suc i) l e =
    let more : lines_before t (suc i) ≡ suc (lines_before t i) = line_ends t i (omega arith) e in
    ⊎_elim (λ (f : ends_line c t ≡ true). rw f (ap suc more))
    (λ (f : ends_line c t ≡ false). rw f more)
    (cases_Bool (ends_line c t))

line_goes_on : (t : List ℕ) (i : ℕ) → i < length t → ends_line (get_or t i 0) (drop (suc i) t) ≡ false
    → lines_before t (suc i) ≡ lines_before t i
line_goes_on [] i l e = absurd (omega arith)
line_goes_on (c ∷ t) zero l e = rw (e, lines_before-zero t) refl
line_goes_on (c ∷ t) (suc i) l e =
    let more : lines_before t (suc i) ≡ lines_before t i = line_goes_on t i (omega arith) e in
    ⊎_elim (λ (f : ends_line c t ≡ true). rw f (ap suc more))
    (λ (f : ends_line c t ≡ false). rw f more)
    (cases_Bool (ends_line c t))

line_begins : (t : List ℕ) (i : ℕ) → i < length t → ends_line (get_or t i 0) (drop (suc i) t) ≡ true
    → line_start t (suc (lines_before t i)) ≡ suc i
line_begins [] i l e = absurd (omega arith)
line_begins (c ∷ t) zero l e = rw (e, line_start-zero t) refl
line_begins (c ∷ t) (suc i) l e =
    let more : line_start t (suc (lines_before t i)) ≡ suc i = line_begins t i (omega arith) e in
    ⊎_elim (λ (f : ends_line c t ≡ true). rw f (ap suc more))
    (λ (f : ends_line c t ≡ false). rw f (ap suc more))
    (cases_Bool (ends_line c t))

no_end : (b : ℕ) (r : List ℕ) → is_break b ≡ false → ends_line b r ≡ false
no_end b r h =
    let parts = or_parts (b == 10) (b == 13) h in
    rw (parts.0, parts.1) refl

-- a stretch with no break
pub unbroken_same : (t : List ℕ) (i j : ℕ) → IsUnbroken t i j → lines_before t j ≡ lines_before t i
unbroken_same t i zero u = let e : i ≡ 0 = omega (arith, u.order) in ap (lines_before t) (sym e)
unbroken_same t i (suc j) u =
    ⊎_elim (λ (h : j < i). let e : i ≡ suc j = omega (arith, u.order) in ap (lines_before t) (sym e))
    (λ (h : i ≤ j).
    let shorter : IsUnbroken t i j = record {
      order = h;
      bound = omega (arith, u.bound);
      none =
          λ k a b. u.none k a (omega arith);
    } in
    line_goes_on t j (omega (arith, u.bound)) (no_end (get_or t j 0) (drop (suc j) t) (u.none j h (omega arith)))
    ∙ unbroken_same t i j shorter)
    (cases_lt j i)

-- the three line breaks
next_byte : (t : List ℕ) (i : ℕ) → get_or (drop (suc i) t) 0 0 ≡ get_or t (i + 1) 0
next_byte t i = get_or-drop (suc i) t 0 0 ∙ ap (λ k. get_or t k 0) (omega arith)

feed_ends : (b : ℕ) (r : List ℕ) → b ≡ 10 → ends_line b r ≡ true
feed_ends b r e = rw (eq-eqb b 10 e) refl

return_ends : (b : ℕ) (r : List ℕ) → b ≡ 13 → get_or r 0 0 ≢ 10 → ends_line b r ≡ true
return_ends b r e n = rw (ne_eqb b 10 (λ f. omega arith), eq-eqb b 13 e, ne_eqb (get_or r 0 0) 10 n) refl

return_goes_on : (b : ℕ) (r : List ℕ) → b ≡ 13 → get_or r 0 0 ≡ 10 → ends_line b r ≡ false
return_goes_on b r e n = rw (ne_eqb b 10 (λ f. omega arith), eq-eqb b 13 e, eq-eqb (get_or r 0 0) 10 n) refl

ends_there : (t : List ℕ) (i : ℕ) → i < length t → ends_line (get_or t i 0) (drop (suc i) t) ≡ true
    → LineEndsAt t i (i + 1)
ends_there t i l e =
    let same : i + 1 ≡ suc i = add-one i in
    subst (λ j. LineEndsAt t i j) (sym same) (record {
      later = omega arith;
      bound = omega arith;
      count =
          line_ends t i l e;
      begins = line_begins t i l e;
    })

pub after_feed : (t : List ℕ) (i : ℕ) → i < length t → get_or t i 0 ≡ 10 → LineEndsAt t i (i + 1)
after_feed t i l e = ends_there t i l (feed_ends (get_or t i 0) (drop (suc i) t) e)

pub after_return : (t : List ℕ) (i : ℕ) → i < length t → get_or t i 0 ≡ 13 → get_or t (i + 1) 0 ≢ 10
    → LineEndsAt t i (i + 1)
after_return t i l e n = ends_there t i l (return_ends (get_or t i 0) (drop (suc i) t) e (λ f. n (sym (next_byte t i)
    ∙ f)))

pub after_both : (t : List ℕ) (i : ℕ) → i + 1 < length t → get_or t i 0 ≡ 13 → get_or t (i + 1) 0 ≡ 10
    → LineEndsAt t i (i + 2)
after_both t i l e n =
    let first : lines_before t (suc i) ≡ lines_before t i =
    line_goes_on t i (omega arith) (return_goes_on (get_or t i 0) (drop (suc i) t) e (next_byte t i ∙ n)) in
    let n2 : get_or t (suc i) 0 ≡ 10 = rw add-one at n in
    let done = feed_ends (get_or t (suc i) 0) (drop (suc (suc i)) t) n2 in
    let same : i + 2 ≡ suc (suc i) = omega arith in
    subst (λ j. LineEndsAt t i j) (sym same) (record {
      later = omega arith;
      bound = omega arith;
      count = line_ends t (suc i) (omega arith) done ∙ ap suc first;
      begins = ap (λ n. line_start t (suc n)) (sym first) ∙ line_begins t (suc i) (omega arith) done;
    })

pub break_is : (b : ℕ) → is_break b ≡ true → b ≢ 10 → b ≡ 13
break_is b h n =
    let off : (b == 10) ≡ false = ne_eqb b 10 n in
    eqb-true b 13 (rw off at h)
