-- The open collections in the printer: their ranks, those with a source column, and the cut of a binary search.
use Rattle.std.proofs.Common.{◌≡◌, ℕ, ◌+◌, ◌-◌, ◌<◌, ◌≤◌, Bool, true, false, true≢false, List, [], ◌∷◌, ◌++◌, length, take, drop, get_or, reverse, refl, sym, ap, ◌∙◌, subst, arith, append-nil}
use Rattle.std.specs.Prelude.{◌&&◌, ◌||◌, not, ◌==◌, nat_lt, filter, if◌then◌else◌}
use Rattle.std.specs.List.{All, AllWithin}
use Rattle.std.specs.List.Sorted.{IsNonDecreasingBy}
use Rattle.std.proofs.lemmas.Bool.Decides.{nat_tests}
use Rattle.std.proofs.lemmas.List.{get_or-drop, get_or-take, length-drop, length-take-le, reverse-append, take-append-drop, take_more}
use Rattle.std.proofs.lemmas.List.Elements.{All-filter, All-head, All-tail, filter-append}
use Rattle.std.proofs.lemmas.List.Sorted.{All-permutation, IsNonDecreasingBy-push, IsNonDecreasingBy-short, IsPermutation-reverse}
use Rattle.yf_chars.proofs.Tests.{below, is_less, not_below}
use Rattle.yf_forms.proofs.Decide.HalvingEnds.{not_smaller}
use Rattle.yf_print.specs.Layouts.CommentColumns.{OpenBlock, is_ended_by, is_same_block}
use Rattle.yf_print.specs.Passes.HeldBlocks.{RanksFall, rank}

-- Ranks.

alike_below : (m n k : ℕ) → (nat_lt m n || ((m == n) && false)) ≡ nat_lt (m + m + k) (n + n + k)
alike_below m n k = grind (arith, nat_tests)

mapping_below : (m n : ℕ) → (nat_lt m n || ((m == n) && true)) ≡ nat_lt (m + m + 0) (n + n + 1)
mapping_below m n = grind (arith, nat_tests)

sequence_below : (m n : ℕ) → (nat_lt m n || ((m == n) && false)) ≡ nat_lt (m + m + 1) (n + n + 0)
sequence_below m n = grind (arith, nat_tests)

pub ended_by_rank : (y b : OpenBlock) → is_ended_by y b ≡ nat_lt (rank y) (rank b)
ended_by_rank y b = go y.is_sequence b.is_sequence where
  go : (p q : Bool)
      → (nat_lt y.printed b.printed || ((y.printed == b.printed) && (q && not p))) ≡ nat_lt (y.printed + y.printed + (if p then 1 else 0)) (b.printed + b.printed + (if q then 1 else 0))
  go true true = alike_below y.printed b.printed 1
  go true false = sequence_below y.printed b.printed
  go false true = mapping_below y.printed b.printed
  go false false = alike_below y.printed b.printed 0

pub ends_above : (y b : OpenBlock) → is_ended_by y b ≡ true → rank y < rank b
ends_above y b e = is_less (rank y) (rank b) (sym (ended_by_rank y b) ∙ e)

pub leaves_below : (y b : OpenBlock) → is_ended_by y b ≡ false → rank b ≤ rank y
leaves_below y b e = not_smaller (rank y) (rank b) (sym (ended_by_rank y b) ∙ e)

pub ended_above : (y b : OpenBlock) → rank y < rank b → is_ended_by y b ≡ true
ended_above y b l = ended_by_rank y b ∙ below (rank y) (rank b) l

pub left_below : (y b : OpenBlock) → rank b ≤ rank y → is_ended_by y b ≡ false
left_below y b l = ended_by_rank y b ∙ not_below (rank y) (rank b) l

equal_at : (m n k : ℕ) → ((m == n) && true) ≡ true → m + m + k ≡ n + n + k
equal_at m n k e = grind (arith, nat_tests)

never_both : (v : Bool) → (v && false) ≡ true → ⊥
never_both true e = true≢false (sym e)
never_both false e = true≢false (sym e)

pub same_rank : (y b : OpenBlock) → is_same_block y b ≡ true → rank y ≡ rank b
same_rank y b e = go y.is_sequence b.is_sequence e where
  go : (p q : Bool) → ((y.printed == b.printed) && (not (q && not p) && not (p && not q))) ≡ true
      → y.printed + y.printed + (if p then 1 else 0) ≡ b.printed + b.printed + (if q then 1 else 0)
  go true true f = equal_at y.printed b.printed 1 f
  go false false f = equal_at y.printed b.printed 0 f
  go true false f = absurd (never_both (y.printed == b.printed) f)
  go false true f = absurd (never_both (y.printed == b.printed) f)

further_at : (m n k : ℕ) → nat_lt (m + m + k) (n + n + k) ≡ false → ((m == n) && true) ≡ false → n + n + k < m + m + k
further_at m n k e f = grind (arith, nat_tests)

further_sequence : (m n : ℕ) → nat_lt (m + m + 1) (n + n + 0) ≡ false → n + n + 0 < m + m + 1
further_sequence m n e = grind (arith, nat_tests)

further_mapping : (m n : ℕ) → nat_lt (m + m + 0) (n + n + 1) ≡ false → n + n + 1 < m + m + 0
further_mapping m n e = grind (arith, nat_tests)

-- an entry of a new collection is further in
pub further_rank : (y b : OpenBlock) → is_ended_by y b ≡ false → is_same_block y b ≡ false → rank b < rank y
further_rank y b e f = go y.is_sequence b.is_sequence (sym (ended_by_rank y b) ∙ e) f where
  go : (p q : Bool) → nat_lt (y.printed + y.printed + (if p then 1 else 0)) (b.printed + b.printed + (if q then 1 else 0)) ≡ false
      → ((y.printed == b.printed) && (not (q && not p) && not (p && not q))) ≡ false → b.printed + b.printed + (if q then 1 else 0) < y.printed + y.printed + (if p then 1 else 0)
  go true true g h = further_at y.printed b.printed 1 g h
  go false false g h = further_at y.printed b.printed 0 g h
  go true false g h = further_sequence y.printed b.printed g
  go false true g h = further_mapping y.printed b.printed g

-- Parts of lists.

module _ {X : Type 0} where
  pub All-reverse : (P : X → Type 0) (xs : List X) → All P xs → All P (reverse xs)
  All-reverse P xs a = All-permutation P xs (reverse xs) (IsPermutation-reverse xs) a

  pub reverse_first : (x : X) (xs : List X) → reverse (x ∷ xs) ≡ reverse xs ++ (x ∷ [])
  reverse_first x xs = reverse-append (x ∷ []) xs

  pub front_all : (P : X → Type 0) (xs : List X) (i : ℕ) → i ≤ length xs → AllWithin P xs 0 i → All P (take i xs)
  front_all P xs i l h k d m =
      let long : length (take i xs) ≡ i = length-take-le i xs l in
      let below : k < i = omega (arith, long, m) in
      subst P (sym (get_or-take i xs k d below)) (h k d (omega arith) below)

  pub rest_all : (P : X → Type 0) (xs : List X) (i : ℕ) → i ≤ length xs → AllWithin P xs i (length xs) → All P (drop i xs)
  rest_all P xs i l h k d m =
      let long : length (drop i xs) ≡ length xs - i = length-drop i xs in
      subst P (sym (get_or-drop i xs k d)) (h (i + k) d (omega arith) (omega (arith, long, m, l)))

  -- the last of the first k
  pub on_top : (xs : List X) (k : ℕ) (d : X) → 0 < k → k ≤ length xs → reverse (take k xs) ≡ get_or xs (k - 1) d ∷ reverse (take (k - 1) xs)
  on_top xs k d p l =
      let e : k ≡ k - 1 + 1 = omega (arith, p) in
      ap (λ z. reverse (take z xs)) e ∙ (ap reverse (take_more xs (k - 1) d (omega (arith, p, l))) ∙ reverse-append (take (k - 1) xs) (get_or xs (k - 1) d ∷ []))

  -- the items before the first that passes the test
  abbrev pub front : (X → Bool) → List X → List X
  front q [] = []
  front q (x ∷ xs) = if q x then [] else x ∷ front q xs

  front_is : (q : X → Bool) (us vs : List X) → All (λ x. q x ≡ false) us → All (λ x. q x ≡ true) vs → front q (us ++ vs) ≡ us
  front_is q [] [] a b = refl
  front_is q [] (v ∷ vs) a b = ap (λ z. if z then [] else v ∷ front q vs) (All-head (λ x. q x ≡ true) v vs b)
  front_is q (u ∷ us) vs a b =
      ap (λ z. if z then [] else u ∷ front q (us ++ vs)) (All-head (λ x. q x ≡ false) u us a)
      ∙ ap (λ z. u ∷ z) (front_is q us vs (All-tail (λ x. q x ≡ false) u us a) b)

  -- only one cut of a list has no item that passes the test before it, and only such items after it
  pub one_cut : (q : X → Bool) (us vs ws zs : List X) → us ++ vs ≡ ws ++ zs → All (λ x. q x ≡ false) us → All (λ x. q x ≡ true) vs
      → All (λ x. q x ≡ false) ws → All (λ x. q x ≡ true) zs → us ≡ ws
  one_cut q us vs ws zs e a b c d = sym (front_is q us vs a b) ∙ (ap (front q) e ∙ front_is q ws zs c d)

  pub reversed_parts : (xs : List X) (i : ℕ) → reverse xs ≡ reverse (drop i xs) ++ reverse (take i xs)
  reversed_parts xs i = ap reverse (sym (take-append-drop i xs)) ∙ reverse-append (take i xs) (drop i xs)

  pub filter-reverse : (p : X → Bool) (xs : List X) → filter p (reverse xs) ≡ reverse (filter p xs)
  filter-reverse p [] = refl
  filter-reverse p (x ∷ xs) = ap (filter p) (reverse_first x xs) ∙ (filter-append p (reverse xs) (x ∷ []) ∙ (ap (λ z. z ++ filter p (x ∷ [])) (filter-reverse p xs) ∙ go (p x))) where
    go : (b : Bool) → reverse (filter p xs) ++ (if b then x ∷ [] else []) ≡ reverse (if b then x ∷ filter p xs else filter p xs)
    go true = sym (reverse_first x (filter p xs))
    go false = append-nil (reverse (filter p xs))

-- Ranks that fall.

pub falls_rest : (us vs : List OpenBlock) → RanksFall (us ++ vs) → RanksFall vs
falls_rest [] vs r = r
falls_rest (u ∷ us) vs r = falls_rest us vs r.1

pub falls_filter : (p : OpenBlock → Bool) (bs : List OpenBlock) → RanksFall bs → RanksFall (filter p bs)
falls_filter p [] r = r
falls_filter p (b ∷ bs) r = go (p b) (falls_filter p bs r.1) where
  go : (v : Bool) → RanksFall (filter p bs) → RanksFall (if v then b ∷ filter p bs else filter p bs)
  go true rest = (All-filter p (λ c. rank c < rank b) bs r.0, rest)
  go false rest = rest

pub rises_reversed : (bs : List OpenBlock) → RanksFall bs → IsNonDecreasingBy rank (reverse bs)
rises_reversed [] r = IsNonDecreasingBy-short rank [] (omega arith)
rises_reversed (b ∷ bs) r =
    subst (λ z. IsNonDecreasingBy rank z) (sym (reverse_first b bs))
    (IsNonDecreasingBy-push rank (reverse bs) b (rises_reversed bs r.1) (λ d l.
    let below : rank (get_or (reverse bs) (length (reverse bs) - 1) d) < rank b = All-reverse (λ c. rank c < rank b) bs r.0 (length (reverse bs) - 1) d (omega (arith, l)) in
    omega (arith, below)))
