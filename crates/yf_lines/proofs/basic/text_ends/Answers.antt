use Rattle.std.proofs.Common.{◌≤◌, ◌-◌, subst, get_or, arith}
use Rattle.yf_lines.proofs.SearchLemmas.{no_start_past}
use Rattle.yf_lines.proofs.basic.text_ends.Goals as goal

pub returns : goal.returns
returns c =
    let e = c.as_bytes-bytes.ensures.value in
    no_start_past c.args.s.now c.args.at c.utf8.s c.if-at-eq0.false (omega (arith, c.as_bytes-bytes.ensures.len))
    (subst (λ w. 32 ≤ get_or w (c.args.at - 1) 0) e c.if-bytes-at-lt32.false) (subst (λ w. get_or w (c.args.at - 1) 0 ≤ 126) e c.if-bytes-at-gt126.false)
