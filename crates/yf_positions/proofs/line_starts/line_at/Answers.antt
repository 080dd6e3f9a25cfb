use Rattle.std.proofs.Common.{◌≡◌, suc, length, subst, sym, arith, ◌≤◌}
use Rattle.yf_positions.specs.Lines.{lines_before}
use Rattle.yf_positions.proofs.LineLemmas.{line_start-zero}
use Rattle.yf_positions.proofs.StartLemmas.{found_line}
use Rattle.yf_positions.proofs.line_starts.line_at.Goals as goal

pub loop-high-init : goal.loop-high-init
loop-high-init c =
    let count : length c.args.starts.now ≡ suc (lines_before c.args.bytes.now (length c.args.bytes.now)) =
    c.requires.starts.count in
    record {
      order = omega arith;
      bound = omega arith;
      low = subst (λ z. z ≤ c.args.offset) (sym (line_start-zero c.args.bytes.now)) (omega arith);
      high = λ h. absurd (omega arith);
    }

pub returns-clause-exact : goal.returns-clause-exact
returns-clause-exact c =
    let i = c.loop-high.invariant in
    found_line c.args.starts.now c.args.bytes.now c.loop-high.low c.loop-high.high c.args.offset c.requires.starts
    (omega arith) i.order i.bound i.low i.high
