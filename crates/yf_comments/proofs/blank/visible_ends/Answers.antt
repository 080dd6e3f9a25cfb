use Rattle.std.proofs.Common.{◌<◌, ◌≤◌, ◌-◌, subst, get_or, arith}
use Rattle.yf_comments.proofs.VisibleLemmas.{no_blank_after, no_blank_line_after, no_return_after}
use Rattle.yf_comments.proofs.blank.visible_ends.Goals as goal

pub returns-clause-before : goal.returns-clause-before
returns-clause-before c =
    let e = c.as_bytes-bytes.ensures.value in
    no_blank_after c.args.s.now c.args.at c.utf8.s c.if-at-eq0.false (omega (arith, c.as_bytes-bytes.ensures.len))
    (subst (λ w. 32 < get_or w (c.args.at - 1) 0) e c.if-bytes-at-le32.false) (subst (λ w. get_or w (c.args.at - 1) 0 ≤ 126) e c.if-bytes-at-gt126.false)

pub returns-clause-blank : goal.returns-clause-blank
returns-clause-blank c =
    let e = c.as_bytes-bytes.ensures.value in
    no_blank_line_after c.args.s.now c.args.at c.utf8.s c.if-at-eq0.false (omega (arith, c.as_bytes-bytes.ensures.len))
    (subst (λ w. 32 < get_or w (c.args.at - 1) 0) e c.if-bytes-at-le32.false) (subst (λ w. get_or w (c.args.at - 1) 0 ≤ 126) e c.if-bytes-at-gt126.false)

pub returns-clause-sign : goal.returns-clause-sign
returns-clause-sign c =
    let e = c.as_bytes-bytes.ensures.value in
    no_return_after c.args.s.now c.args.at c.utf8.s c.if-at-eq0.false (omega (arith, c.as_bytes-bytes.ensures.len))
    (subst (λ w. 32 < get_or w (c.args.at - 1) 0) e c.if-bytes-at-le32.false) (subst (λ w. get_or w (c.args.at - 1) 0 ≤ 126) e c.if-bytes-at-gt126.false)
