-- The first comment of a kind: as an index, as the comment itself, and by halving.
use Rattle.std.proofs.Common.{◌≡◌, ℕ, zero, suc, ◌<◌, ◌≤◌, Bool, true, false, ◌&&◌, List, [], ◌∷◌, length, map, Option, Some, None, refl, sym, ◌∙◌, arith}
use Rattle.std.specs.Prelude.{◌^◌, ◌-◌, ◌+◌, min, nat_lt, nat_le, find, if◌then◌else◌, is_some, option_map, MatchOption, IfSome}
use Rattle.std.specs.List.{AllWithin, HoldsAt}
use Rattle.std.specs.List.Sorted.{IsNonDecreasingBy}
use Rattle.std.proofs.lemmas.Bool.Decides.{nat_tests}
use Rattle.yf_comments.specs.Comment.{CommentValue, comment_value}
use Rattle.yf_comments.specs.declared.comment.Comment.{Comment}
use Rattle.yf_forms.proofs.Measure.OffsetLemmas.{same_order}
use Rattle.yf_forms.specs.NormalForms.Forms.{first_index}
use Rattle.yf_forms.specs.Nodes.OneLineFlows.{is_within}

-- a number after an offset is at or after the next one, cut or not
follows : (a x to n : ℕ) → a ≤ 2 ^ 64 - 1 → to ≤ 2 ^ 64 - 1 → n ≡ min (a + 1) (2 ^ 64 - 1) → (nat_le n x && nat_lt x to) ≡ (nat_lt a x && nat_lt x to)
follows a x to n g h e = grind (arith, nat_tests)

none_index : (p : CommentValue → Bool) (xs : List Comment) → AllWithin (λ c. p (comment_value c) ≡ false) xs 0 (length xs)
    → first_index p (map comment_value xs) ≡ None
none_index p [] h = refl
none_index p (x ∷ xs) h =
    rw (h zero x (omega arith) (omega arith), none_index p xs (λ k d a b. h (suc k) d (omega arith) (omega (arith, b)))) refl

some_index : (p : CommentValue → Bool) (xs : List Comment) (k : ℕ) → k < length xs → AllWithin (λ c. p (comment_value c) ≡ false) xs 0 k
    → HoldsAt (λ c. p (comment_value c) ≡ true) xs k → first_index p (map comment_value xs) ≡ Some k
some_index p [] k l h q = absurd (omega arith)
some_index p (x ∷ xs) zero l h q = rw (q x) refl
some_index p (x ∷ xs) (suc k) l h q =
    rw (h zero x (omega arith) (omega arith), some_index p xs k (omega arith) (λ k d a b. h (suc k) d (omega arith) (omega (arith, b))) q) refl

-- the comment at the index of the first one is the first one
pub same_first : (p : CommentValue → Bool) (cs : List CommentValue) → is_some (first_index p cs) ≡ is_some (find p cs)
same_first p [] = refl
same_first p (c ∷ cs) = by (p c) (same_first p cs) where
  shifted : (o : Option ℕ) → is_some (option_map suc o) ≡ is_some o
  shifted None = refl
  shifted (Some i) = refl

  by : (b : Bool) → is_some (first_index p cs) ≡ is_some (find p cs)
      → is_some (if b then Some 0 else option_map suc (first_index p cs)) ≡ is_some (if b then Some c else find p cs)
  by true e = refl
  by false e = shifted (first_index p cs) ∙ e

same_kind : (p q : CommentValue → Bool) (cs : List CommentValue) → ((c : CommentValue) → p c ≡ q c) → first_index p cs ≡ first_index q cs
same_kind p q [] h = refl
same_kind p q (c ∷ cs) h = rw (h c, same_kind p q cs h) refl

found_index : (p : CommentValue → Bool) (xs : List Comment) (r : Option ℕ) → IfSome r (λ k. k < length xs)
    → MatchOption r (AllWithin (λ c. p (comment_value c) ≡ false) xs 0 (length xs))
    (λ k. AllWithin (λ c. p (comment_value c) ≡ false) xs 0 k × HoldsAt (λ c. p (comment_value c) ≡ true) xs k) → r ≡ first_index p (map comment_value xs)
found_index p xs None l h = sym (none_index p xs h)
found_index p xs (Some k) l h = sym (some_index p xs k l h.0 h.1)

-- the result of halving after an offset and before another
pub between_is : (xs : List Comment) (from to n : ℕ) (r : Option ℕ)
    → IsNonDecreasingBy (λ (c : CommentValue). c.offset) (map comment_value xs) → from ≤ 2 ^ 64 - 1 → to ≤ 2 ^ 64 - 1 → n ≡ min (from + 1) (2 ^ 64 - 1)
    → IfSome r (λ k. k < length xs)
    → (IsNonDecreasingBy (λ (c : Comment). c.offset) xs → MatchOption r (AllWithin (λ c. is_within n to (comment_value c) ≡ false) xs 0 (length xs))
    (λ k. AllWithin (λ c. is_within n to (comment_value c) ≡ false) xs 0 k × HoldsAt (λ c. is_within n to (comment_value c) ≡ true) xs k))
    → r ≡ first_index (λ c. nat_lt from c.offset && nat_lt c.offset to) (map comment_value xs)
between_is xs from to n r s g h e l f =
    found_index (is_within n to) xs r l (f (same_order xs s))
    ∙ same_kind (is_within n to) (λ c. nat_lt from c.offset && nat_lt c.offset to) (map comment_value xs) (λ c. follows from c.offset to n g h e)
