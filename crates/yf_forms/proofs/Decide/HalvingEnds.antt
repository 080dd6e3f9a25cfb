-- The end of a search by halving: only one index, and for offsets in order the one before which they are smaller.
use Rattle.std.proofs.Common.{ap, arith, Bool, None, Option, Some, ◌∙◌, ◌≡◌, ◌+◌, ◌<◌, ◌≤◌, false, get_or, length, lit<, lit≤, List, [], ◌∷◌, map, nat_lt, refl, slice_index, subst, sym, true, zero, suc, ℕ, ⊎_elim}
use Rattle.std.proofs.lemmas.Bool.{cases_lt}
use Rattle.std.proofs.lemmas.Bool.Decides.{nat_tests}
use Rattle.std.proofs.lemmas.List.{get_or-map, length-map}
use Rattle.std.specs.List.Sorted.{IsPartitionPoint}
use Rattle.std.specs.Prelude.{is_some}
use Rattle.yf_chars.proofs.Tests.{is_less}
use Rattle.yf_comments.specs.declared.comment.Comment.{Comment}
use Rattle.yf_forms.specs.Passes.Halving.{Halves, none_left, after_middle, before_middle, HalvesBetween, found, not_found, middle}
use Rattle.yf_forms.specs.Passes.Searches.{TellsHalving}

pub offset_at : (xs : List Comment) (k : ℕ) (d : Comment) → k < length xs → slice_index (map (λ (c : Comment). c.offset) xs) k ≡ (get_or xs k d).offset
offset_at xs k d l = get_or-map (λ (c : Comment). c.offset) xs k d 0 l

-- the search has one end
pub one_end : {os : List ℕ} {x low high r s : ℕ} → Halves os x low high r → Halves os x low high s → r ≡ s
one_end (none_left a) (none_left b) = refl
one_end (none_left a) (after_middle b c h) = absurd (omega arith)
one_end (none_left a) (before_middle b c h) = absurd (omega arith)
one_end (after_middle a b h) (none_left c) = absurd (omega arith)
one_end (after_middle a b h) (after_middle c d i) = one_end h i
one_end (after_middle a b h) (before_middle c d i) = absurd (omega arith)
one_end (before_middle a b h) (none_left c) = absurd (omega arith)
one_end (before_middle a b h) (after_middle c d i) = absurd (omega arith)
one_end (before_middle a b h) (before_middle c d i) = one_end h i

-- also for offsets out of order: 1 is before 2 and 3 after it, and 5 is not looked at
pub out_of_order : Halves (5 ∷ 1 ∷ 3 ∷ []) 2 0 3 2
out_of_order = after_middle (lit< tt) (lit< tt) (before_middle (lit< tt) (lit≤ tt) (none_left (lit≤ tt)))

-- the search ends at the index before which all offsets are smaller, if none is from it on
ends_at : (width : ℕ) (os : List ℕ) (x low high r : ℕ) → high ≤ low + width → high ≤ length os → low ≤ r → r ≤ high
    → ((k : ℕ) → k < r → slice_index os k < x) → ((k : ℕ) → r ≤ k → k < length os → x ≤ slice_index os k) → Halves os x low high r
ends_at zero os x low high r w l a b f g = let e : low ≡ r = omega arith in subst (λ z. Halves os x low high z) e (none_left (omega arith))
ends_at (suc width) os x low high r w l a b f g =
    ⊎_elim (λ (n : low < high).
    ⊎_elim (λ (m : middle low high < r).
    after_middle n (f (middle low high) m) (ends_at width os x (middle low high + 1) high r (omega arith) l (omega arith) b f g))
    (λ (m : r ≤ middle low high).
    before_middle n (g (middle low high) m (omega arith)) (ends_at width os x low (middle low high) r (omega arith) (omega arith) a m f g))
    (cases_lt (middle low high) r))
    (λ (n : high ≤ low). let e : low ≡ r = omega arith in subst (λ z. Halves os x low high z) e (none_left n))
    (cases_lt low high)

pub not_smaller : (a b : ℕ) → nat_lt a b ≡ false → b ≤ a
not_smaller a b e = grind (arith, nat_tests)

pub ends_at_point : (xs : List Comment) (x r : ℕ) → r ≤ length xs
    → IsPartitionPoint (λ (c : Comment). nat_lt c.offset x ≡ true) (λ (c : Comment). nat_lt c.offset x ≡ false) xs r
    → Halves (map (λ (c : Comment). c.offset) xs) x 0 (length xs) r
ends_at_point [] x r l p = let e : 0 ≡ r = omega arith in subst (λ z. Halves [] x 0 0 z) e (none_left (omega arith))
ends_at_point (d ∷ ds) x r l p =
    let e : length (map (λ (c : Comment). c.offset) (d ∷ ds)) ≡ length (d ∷ ds) = length-map (d ∷ ds) (λ (c : Comment). c.offset) in
    ends_at (length (d ∷ ds)) (map (λ (c : Comment). c.offset) (d ∷ ds)) x 0 (length (d ∷ ds)) r (omega arith) (omega arith) (omega arith) l
    (λ k b. below k (omega arith) (is_less (get_or (d ∷ ds) k d).offset x (p.0 k d (omega arith) b)))
    (λ k a b. above k (omega arith) (not_smaller (get_or (d ∷ ds) k d).offset x (p.1 k d a (omega arith)))) where
      below : (k : ℕ) → k < length (d ∷ ds) → (get_or (d ∷ ds) k d).offset < x → slice_index (map (λ (c : Comment). c.offset) (d ∷ ds)) k < x
      below k l b = let e = offset_at (d ∷ ds) k d l in omega arith

      above : (k : ℕ) → k < length (d ∷ ds) → x ≤ (get_or (d ∷ ds) k d).offset → x ≤ slice_index (map (λ (c : Comment). c.offset) (d ∷ ds)) k
      above k l b = let e = offset_at (d ∷ ds) k d l in omega arith

-- The steps of the loop.

pub all_halved : (xs : List Comment) (x low high : ℕ) → low ≡ 0 → high ≡ length xs → (end : ℕ) → Halves (map (λ (c : Comment). c.offset) xs) x low high end
    → Halves (map (λ (c : Comment). c.offset) xs) x 0 (length xs) end
all_halved xs x low high e f end h = rw (sym e, sym f) h

pub halved_after : (xs : List Comment) (x low high end : ℕ) (d : Comment) → low < high → high ≤ length xs → (get_or xs (middle low high) d).offset < x
    → Halves (map (λ (c : Comment). c.offset) xs) x (middle low high + 1) high end → Halves (map (λ (c : Comment). c.offset) xs) x low high end
halved_after xs x low high end d n l b h = after_middle n (rw (offset_at xs (middle low high) d (omega arith)) b) h

pub halved_before : (xs : List Comment) (x low high end : ℕ) (d : Comment) → low < high → high ≤ length xs → x ≤ (get_or xs (middle low high) d).offset
    → Halves (map (λ (c : Comment). c.offset) xs) x low (middle low high) end → Halves (map (λ (c : Comment). c.offset) xs) x low high end
halved_before xs x low high end d n l b h = before_middle n (rw (offset_at xs (middle low high) d (omega arith)) b) h

-- The results.

pub halved_found : (xs : List Comment) (from to k : ℕ) (d : Comment) → Halves (map (λ (c : Comment). c.offset) xs) from 0 (length xs) k
    → k < length xs → (get_or xs k d).offset < to → HalvesBetween (map (λ (c : Comment). c.offset) xs) from to (Some k)
halved_found xs from to k d h l b =
    let e : length (map (λ (c : Comment). c.offset) xs) ≡ length xs = length-map xs (λ (c : Comment). c.offset) in
    let f = offset_at xs k d l in
    found (rw e h) (omega arith) (omega arith)

pub halved_after_all : (xs : List Comment) (from to k : ℕ) (d : Comment) → Halves (map (λ (c : Comment). c.offset) xs) from 0 (length xs) k
    → k < length xs → to ≤ (get_or xs k d).offset → HalvesBetween (map (λ (c : Comment). c.offset) xs) from to None
halved_after_all xs from to k d h l b =
    let e : length (map (λ (c : Comment). c.offset) xs) ≡ length xs = length-map xs (λ (c : Comment). c.offset) in
    let f = offset_at xs k d l in
    not_found {k = k} (rw e h) (λ _. omega arith)

pub halved_past : (xs : List Comment) (from to k : ℕ) → Halves (map (λ (c : Comment). c.offset) xs) from 0 (length xs) k
    → length xs ≤ k → HalvesBetween (map (λ (c : Comment). c.offset) xs) from to None
halved_past xs from to k h l =
    let e : length (map (λ (c : Comment). c.offset) xs) ≡ length xs = length-map xs (λ (c : Comment). c.offset) in
    not_found {k = k} (rw e h) (λ b. absurd (omega arith))

-- The result is unique.

before_both : (os : List ℕ) (to j k : ℕ) → j ≡ k → slice_index os j < to → to ≤ slice_index os k → ⊥
before_both os to j k e l g = let f = ap (λ n. slice_index os n) e in omega arith

pub one_between : {os : List ℕ} {from to : ℕ} {o p : Option ℕ} → HalvesBetween os from to o → HalvesBetween os from to p → o ≡ p
one_between (found h l b) (found i m d) = ap Some (one_end h i)
one_between {os} {from} {to} (found h l b) (not_found i n) = absurd (before_both os to _ _ (one_end h i) b (n (rw (sym (one_end h i)) l)))
one_between {os} {from} {to} (not_found h n) (found i m d) = absurd (before_both os to _ _ (one_end i h) d (n (rw (sym (one_end i h)) m)))
one_between (not_found h n) (not_found i m) = refl

pub tells_halving : {os : List ℕ} {from to : ℕ} {b : Bool} {o : Option ℕ} → b ≡ is_some o → HalvesBetween os from to o → TellsHalving os from to b
tells_halving e h p i = e ∙ ap is_some (one_between h i)
