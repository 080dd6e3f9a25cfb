use Rattle.std.proofs.Common.{arith, ◌≡◌, ◌<◌, ◌≤◌, ap, false, get_or, length, List, nat_le, nat_lt, true, ℕ, ◌&&◌, ⊎_elim}
use Rattle.std.proofs.lemmas.Bool.{cases_Bool}
use Rattle.std.proofs.lemmas.Bool.Decides.{nat_tests}
use Rattle.std.proofs.lemmas.List.{get_or_default}
use Rattle.std.specs.List.{AllWithin}
use Rattle.std.specs.List.Sorted.{IsNonDecreasingBy}
use Rattle.yf_chars.proofs.Tests.{is_less}
use Rattle.yf_comments.specs.declared.comment.Comment.{Comment}
use Rattle.yf_forms.proofs.Decide.HalvingEnds.{halved_after_all, halved_found, halved_past, not_smaller}
use Rattle.yf_forms.proofs.form.comments_before.first_near.Goals as goal

is_outside : (from to offset : ℕ) → nat_lt offset from ≡ true → (nat_le from offset && nat_lt offset to) ≡ false
is_outside from to offset e = grind (arith, nat_tests)

is_past : (from to offset : ℕ) → to ≤ offset → (nat_le from offset && nat_lt offset to) ≡ false
is_past from to offset l = grind (arith, nat_tests)

none_within : (xs : List Comment) (k from to : ℕ) (e : Comment) → IsNonDecreasingBy (λ c. c.offset) xs → k < length xs → to ≤ (get_or xs k e).offset
    → AllWithin (λ c. nat_lt c.offset from ≡ true) xs 0 k → (j : ℕ) (d : Comment) → j < length xs
    → (nat_le from (get_or xs j d).offset && nat_lt (get_or xs j d).offset to) ≡ false
none_within xs k from to e s within l before j d b =
    ⊎_elim (λ (f : nat_lt j k ≡ true). is_outside from to (get_or xs j d).offset (before j d (omega arith) (is_less j k f)))
    (λ (f : nat_lt j k ≡ false).
    let rising : (get_or xs k d).offset ≤ (get_or xs j d).offset = s k j d (not_smaller j k f) b in
    let same : (get_or xs k d).offset ≡ (get_or xs k e).offset = ap (λ (c : Comment). c.offset) (get_or_default xs k d e within) in
    is_past from to (get_or xs j d).offset (omega (arith, rising, same, l))) (cases_Bool (nat_lt j k))

pub returns-else-comments-k-clause-first : goal.returns-else-comments-k-clause-first
returns-else-comments-k-clause-first c =
    λ s j d a b. none_within c.args.comments.now c.count_near-k.result c.args.from c.args.to _ s (omega arith) c.if-comments-k.false (c.count_near-k.ensures.halves s).0 j d b

pub returns-then-comments-k-clause-ends : goal.returns-then-comments-k-clause-ends
returns-then-comments-k-clause-ends c =
    halved_found c.args.comments.now c.args.from c.args.to _ _ c.count_near-k.ensures.ends c.if-k-comments.true c.if-comments-k.true

pub returns-else-comments-k-clause-ends : goal.returns-else-comments-k-clause-ends
returns-else-comments-k-clause-ends c =
    halved_after_all c.args.comments.now c.args.from c.args.to _ _ c.count_near-k.ensures.ends c.if-k-comments.true c.if-comments-k.false

pub returns-else-k-comments-clause-ends : goal.returns-else-k-comments-clause-ends
returns-else-k-comments-clause-ends c = halved_past c.args.comments.now c.args.from c.args.to _ c.count_near-k.ensures.ends c.if-k-comments.false
