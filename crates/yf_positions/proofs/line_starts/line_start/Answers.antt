use Rattle.std.proofs.Common.{◌≡◌, ◌≤◌, suc, length, sym, subst, arith}
use Rattle.yf_positions.specs.Lines.{lines_before}
use Rattle.yf_positions.proofs.LineLemmas.{start_past, start_within}
use Rattle.yf_positions.proofs.line_starts.line_start.Goals as goal

pub returns-then-line-starts-clause-exact : goal.returns-then-line-starts-clause-exact
returns-then-line-starts-clause-exact c = c.requires.each c.args.line c.if-line-starts.true

pub returns-then-line-starts-clause-bound : goal.returns-then-line-starts-clause-bound
returns-then-line-starts-clause-bound c =
    let exact = c.requires.each c.args.line c.if-line-starts.true in
    subst (λ z. z ≤ length c.args.bytes.now) (sym exact) (start_within c.args.bytes.now c.args.line)

pub returns-clause-exact : goal.returns-clause-exact
returns-clause-exact c =
    let count : length c.args.starts.now ≡ suc (lines_before c.args.bytes.now (length c.args.bytes.now)) =
    c.requires.count in
    sym (start_past c.args.bytes.now c.args.line (omega arith))
