-- The order of comments around one of them, and a walk that checks whether comments are in order.
use Rattle.std.proofs.Common.{arith, ◌≡◌, ◌+◌, ◌-◌, ◌<◌, ◌≤◌, ap, false, get_or, length, List, nat_lt, true, ℕ}
use Rattle.std.proofs.lemmas.List.{get_or_default}
use Rattle.std.proofs.lemmas.List.Sorted.{all_adjacent_more}
use Rattle.std.specs.List.{AllAdjacentBelow}
use Rattle.std.specs.List.Sorted.{IsNonDecreasingBy}
use Rattle.yf_chars.proofs.Tests.{below, not_below}
use Rattle.yf_comments.specs.declared.comment.Comment.{Comment}

pub all_before : (xs : List Comment) (m t : ℕ) (e : Comment) → IsNonDecreasingBy (λ c. c.offset) xs → m < length xs → (get_or xs m e).offset < t
    → (k : ℕ) (d : Comment) → k < m + 1 → nat_lt (get_or xs k d).offset t ≡ true
all_before xs m t e s within l k d b =
    let rising : (get_or xs k d).offset ≤ (get_or xs m d).offset = s k m d (omega (arith, b)) within in
    let same : (get_or xs m d).offset ≡ (get_or xs m e).offset = ap (λ (c : Comment). c.offset) (get_or_default xs m d e within) in
    below (get_or xs k d).offset t (omega (arith, rising, same, l))

pub all_after : (xs : List Comment) (m t : ℕ) (e : Comment) → IsNonDecreasingBy (λ c. c.offset) xs → m < length xs → t ≤ (get_or xs m e).offset
    → (k : ℕ) (d : Comment) → m ≤ k → k < length xs → nat_lt (get_or xs k d).offset t ≡ false
all_after xs m t e s within l k d a b =
    let rising : (get_or xs m d).offset ≤ (get_or xs k d).offset = s m k d a b in
    let same : (get_or xs m d).offset ≡ (get_or xs m e).offset = ap (λ (c : Comment). c.offset) (get_or_default xs m d e within) in
    not_below (get_or xs k d).offset t (omega (arith, rising, same, l))

abbrev pub RisingTo : List Comment → ℕ → Type 0
RisingTo xs k = AllAdjacentBelow (λ (x y : Comment). x.offset ≤ y.offset) xs k

pub rising_first : (xs : List Comment) → RisingTo xs 1
rising_first xs j d l = absurd (omega (arith, l))

pub rising_on : (xs : List Comment) (k : ℕ) (e f : Comment) → 1 ≤ k → k < length xs → (get_or xs (k - 1) e).offset ≤ (get_or xs k f).offset → RisingTo xs k → RisingTo xs (k + 1)
rising_on xs k e f o w l r =
    all_adjacent_more xs (λ (x y : Comment). x.offset ≤ y.offset) k (omega (arith, o)) r
    (λ d.
    let before : (get_or xs (k - 1) d).offset ≡ (get_or xs (k - 1) e).offset = ap (λ (c : Comment). c.offset) (get_or_default xs (k - 1) d e (omega (arith, w))) in
    let there : (get_or xs k d).offset ≡ (get_or xs k f).offset = ap (λ (c : Comment). c.offset) (get_or_default xs k d f w) in
    omega (arith, before, there, l))

pub rising_all : (xs : List Comment) (k : ℕ) → length xs ≤ k → RisingTo xs k → RisingTo xs (length xs)
rising_all xs k l r j d b = r j d (omega (arith, b, l))
