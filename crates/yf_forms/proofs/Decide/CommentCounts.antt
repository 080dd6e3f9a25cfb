-- The number of comments that begin before an offset (`first_after`).
use Rattle.std.proofs.Common.{◌≡◌, ℕ, zero, suc, ◌+◌, ◌<◌, ◌≤◌, List, [], ◌∷◌, length, map, get_or, drop, ap, arith, add-one}
use Rattle.std.specs.Prelude.{if◌then◌else◌}
use Rattle.std.proofs.lemmas.List.{drop_all}
use Rattle.yf_comments.specs.Comment.{comment_value}
use Rattle.yf_comments.specs.declared.comment.Comment.{Comment}
use Rattle.yf_forms.specs.Passes.Searches.{count_to}
use Rattle.yf_chars.proofs.Tests.{below, not_below}

-- comments that are met

counted : (xs : List Comment) (k offset : ℕ) (e : Comment) → k < length xs → (get_or xs k e).offset < offset
    → count_to offset (drop k (map comment_value xs)) ≡ suc (count_to offset (drop (suc k) (map comment_value xs)))
counted [] k offset e l b = absurd (omega arith)
counted (x ∷ xs) zero offset e l b = ap (λ w. if w then suc (count_to offset (map comment_value xs)) else 0) (below x.offset offset b)
counted (x ∷ xs) (suc k) offset e l b = counted xs k offset e (omega arith) b

pub count_on : (xs : List Comment) (from k offset : ℕ) (e : Comment) → k < length xs → (get_or xs k e).offset < offset
    → k + count_to offset (drop k (map comment_value xs)) ≡ from + count_to offset (drop from (map comment_value xs))
    → (k + 1) + count_to offset (drop (k + 1) (map comment_value xs)) ≡ from + count_to offset (drop from (map comment_value xs))
count_on xs from k offset e l b h =
    let one = counted xs k offset e l b in
    rw (add-one k) (omega (arith, one, h))

not_counted : (xs : List Comment) (k offset : ℕ) (e : Comment) → k < length xs → offset ≤ (get_or xs k e).offset
    → count_to offset (drop k (map comment_value xs)) ≡ 0
not_counted [] k offset e l b = absurd (omega arith)
not_counted (x ∷ xs) zero offset e l b = ap (λ w. if w then suc (count_to offset (map comment_value xs)) else 0) (not_below x.offset offset b)
not_counted (x ∷ xs) (suc k) offset e l b = not_counted xs k offset e (omega arith) b

pub count_at : (xs : List Comment) (from k offset : ℕ) (e : Comment) → k < length xs → offset ≤ (get_or xs k e).offset
    → k + count_to offset (drop k (map comment_value xs)) ≡ from + count_to offset (drop from (map comment_value xs))
    → k ≡ from + count_to offset (drop from (map comment_value xs))
count_at xs from k offset e l b h = let none = not_counted xs k offset e l b in omega (arith, none, h)

none_left : (xs : List Comment) (k offset : ℕ) → length xs ≤ k → count_to offset (drop k (map comment_value xs)) ≡ 0
none_left [] k offset l = ap (λ w. count_to offset w) (drop_all k [] (omega arith))
none_left (x ∷ xs) zero offset l = absurd (omega arith)
none_left (x ∷ xs) (suc k) offset l = none_left xs k offset (omega arith)

pub count_end : (xs : List Comment) (from k offset : ℕ) → length xs ≤ k
    → k + count_to offset (drop k (map comment_value xs)) ≡ from + count_to offset (drop from (map comment_value xs))
    → k ≡ from + count_to offset (drop from (map comment_value xs))
count_end xs from k offset l h = let none = none_left xs k offset l in omega (arith, none, h)
