-- Whether a comment is between two offsets.
use Rattle.std.proofs.Common.{◌≡◌, ℕ, zero, suc, ◌<◌, Bool, true, false, List, [], ◌∷◌, length, map, refl, ap, ◌∙◌, arith}
use Rattle.std.specs.Prelude.{◌||◌}
use Rattle.std.specs.List.{AllWithin, HoldsAt, list_any}
use Rattle.std.specs.List.Sorted.{IsNonDecreasingBy}
use Rattle.std.proofs.lemmas.List.{get_or-map, length-map}
use Rattle.yf_comments.specs.Comment.{CommentValue, comment_value}
use Rattle.yf_comments.specs.declared.comment.Comment.{Comment}

pub none_passes : (p : CommentValue → Bool) (xs : List Comment) → AllWithin (λ c. p (comment_value c) ≡ false) xs 0 (length xs)
    → list_any p (map comment_value xs) ≡ false
none_passes p [] h = refl
none_passes p (x ∷ xs) h =
    rw (h zero x (omega arith) (omega arith), none_passes p xs (λ k d a b. h (suc k) d (omega arith) (omega (arith, b)))) refl

pub or_true : (b : Bool) → (b || true) ≡ true
or_true true = refl
or_true false = refl

pub one_passes : (p : CommentValue → Bool) (xs : List Comment) (k : ℕ) → k < length xs → HoldsAt (λ c. p (comment_value c) ≡ true) xs k
    → list_any p (map comment_value xs) ≡ true
one_passes p [] k l h = absurd (omega arith)
one_passes p (x ∷ xs) zero l h = rw (h x) refl
one_passes p (x ∷ xs) (suc k) l h = ap (λ w. p (comment_value x) || w) (one_passes p xs k (omega arith) h) ∙ or_true (p (comment_value x))

-- only the offsets decide the order
pub same_order : (xs : List Comment) → IsNonDecreasingBy (λ (c : CommentValue). c.offset) (map comment_value xs) → IsNonDecreasingBy (λ (c : Comment). c.offset) xs
same_order xs s i j d a b =
    let long : length (map comment_value xs) ≡ length xs = length-map xs comment_value in
    let h = s i j (comment_value d) a (omega (arith, long, b)) in
    let e = ap (λ (c : CommentValue). c.offset) (get_or-map comment_value xs i d (comment_value d) (omega arith)) in
    let f = ap (λ (c : CommentValue). c.offset) (get_or-map comment_value xs j d (comment_value d) b) in
    omega (arith, h, e, f)
