-- The order of texts that are made of two.
use Rattle.std.proofs.Common.{ℕ, ◌<◌, ◌≡◌, true, false, true≢false, List, [], ◌∷◌, ◌++◌, length, take, drop, refl, sym, ap, ◌∙◌, arith}
use Rattle.std.proofs.lemmas.Cmp.{nat_list_cmp_total}
use Rattle.std.proofs.lemmas.List.{take-append-drop}
use Rattle.std.specs.Cmp.Lexicographic.{slice_cmp}
use Rattle.std.specs.Ordering.{is_ne, nat_cmp, ordering_reverse, ordering_then}
use Rattle.std.specs.declared.cmp.Ordering.{Ordering}
use Rattle.std.specs.declared.cmp.Ordering.TheVariants.{Less, Equal, Greater}

then_assoc : (a b c : Ordering) → ordering_then a (ordering_then b c) ≡ ordering_then (ordering_then a b) c
then_assoc Less b c = refl
then_assoc Equal b c = refl
then_assoc Greater b c = refl

then_decided : (a b : Ordering) → is_ne a ≡ true → a ≡ ordering_then a b
then_decided Less b e = refl
then_decided Equal b e = absurd (true≢false (sym e))
then_decided Greater b e = refl

then_equal : (a b : Ordering) → is_ne a ≡ false → b ≡ ordering_then a b
then_equal Less b e = absurd (true≢false e)
then_equal Equal b e = refl
then_equal Greater b e = absurd (true≢false e)

module _ {X : Type 0} (R : X → X → Ordering) where
  -- if the first parts have one length, they decide, or else the second parts do
  order_by_parts : (a b c d : List X) → length a ≡ length c → slice_cmp R (a ++ b) (c ++ d) ≡ ordering_then (slice_cmp R a c) (slice_cmp R b d)
  order_by_parts [] b [] d e = refl
  order_by_parts [] b (y ∷ c) d e = absurd (omega (arith, e))
  order_by_parts (x ∷ a) b [] d e = absurd (omega (arith, e))
  order_by_parts (x ∷ a) b (y ∷ c) d e =
      ap (ordering_then (R x y)) (order_by_parts a b c d (omega (arith, e))) ∙ then_assoc (R x y) (slice_cmp R a c) (slice_cmp R b d)

  -- a text that is shorter than the first part
  pub order_of_short : (a c d : List X) → length a < length c → slice_cmp R a c ≡ slice_cmp R a (c ++ d)
  order_of_short [] [] d l = absurd (omega (arith, l))
  order_of_short [] (y ∷ c) d l = refl
  order_of_short (x ∷ a) [] d l = absurd (omega (arith, l))
  order_of_short (x ∷ a) (y ∷ c) d l = ap (ordering_then (R x y)) (order_of_short a c d (omega (arith, l)))

  pub order_by_first : {o : Ordering} (a b c d : List X) → length a ≡ length c → o ≡ slice_cmp R a c → is_ne o ≡ true → o ≡ slice_cmp R (a ++ b) (c ++ d)
  order_by_first {o} a b c d e is ne =
      then_decided o (slice_cmp R b d) ne ∙ ap (λ w. ordering_then w (slice_cmp R b d)) is ∙ sym (order_by_parts a b c d e)

  pub order_by_second : {o q : Ordering} (a b c d : List X) → length a ≡ length c → o ≡ slice_cmp R a c → is_ne o ≡ false → q ≡ slice_cmp R b d
      → q ≡ slice_cmp R (a ++ b) (c ++ d)
  order_by_second {o} {q} a b c d e is eq then =
      then_equal o q eq ∙ ap (λ w. ordering_then w q) is ∙ ap (ordering_then (slice_cmp R a c)) then ∙ sym (order_by_parts a b c d e)

-- a text in two parts
pub parted : {X : Type 0} {start rest : List X} (n : ℕ) (text : List X) → start ≡ take n text → rest ≡ drop n text → start ++ rest ≡ text
parted n text e f = rw (e, f) (take-append-drop n text)

-- the order of two texts, from the reversed order of their parts
pub order_turned : {x y : List ℕ} {o q : Ordering} (front back other_front other_back : List ℕ) → x ≡ front ++ back → y ≡ other_front ++ other_back
    → o ≡ slice_cmp nat_cmp (other_front ++ other_back) (front ++ back) → q ≡ ordering_reverse o → q ≡ slice_cmp nat_cmp x y
order_turned {x} {y} front back other_front other_back e f is turned =
    turned ∙ ap ordering_reverse is ∙ ap (λ w. ordering_reverse (slice_cmp nat_cmp w (front ++ back))) (sym f)
    ∙ ap (λ w. ordering_reverse (slice_cmp nat_cmp y w)) (sym e) ∙ sym (nat_list_cmp_total.antisymm x y)
