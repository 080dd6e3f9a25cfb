use Rattle.std.proofs.Common.{◌≤◌, subst, get_or, arith}
use Rattle.yf_chars.proofs.NbLemmas.{ascii_class, ascii_reads}
use Rattle.yf_chars.proofs.nb_runs.is_ascii_at.Goals as goal

pub returns-clause-class : goal.returns-clause-class
returns-clause-class c =
    let e = c.as_bytes-bytes.ensures.value in
    ascii_class c.args.s.now c.args.at c.utf8.s (omega (arith, c.as_bytes-bytes.ensures.len))
    (subst (λ w. 32 ≤ get_or w c.args.at 0) e c.if-bytes-at-lt32.false) (subst (λ w. get_or w c.args.at 0 ≤ 126) e c.if-bytes-at-gt126.false)

pub returns-clause-read : goal.returns-clause-read
returns-clause-read c =
    let e = c.as_bytes-bytes.ensures.value in
    ascii_reads c.args.s.now c.args.at c.utf8.s (omega (arith, c.as_bytes-bytes.ensures.len))
    (subst (λ w. get_or w c.args.at 0 ≤ 126) e c.if-bytes-at-gt126.false)
