use Rattle.std.proofs.Common.{◌++◌, codes}
use Rattle.yf_lines.specs.Shown.{shown}
use Rattle.yf_lines.proofs.OutputLemmas.{broke_first, broke_second, writes_refused, writes_second}
use Rattle.yf_host.specs.Report.{fault_line}
use Rattle.yf_host.proofs.report.write_named.Goals as goal

pub returns-in_err-write_shown : goal.returns-in_err-write_shown
returns-in_err-write_shown g c =
    let broke = c.in_err-write_shown.ensures in
    writes_refused _ _ _ _ _ _ _ c.from_residual.ensures.1 broke.0 (broke_first _ _ _ (shown c.args.name.now) (codes ": " ++ fault_line c.args.fault.now) broke.1)

pub returns-in_err-write_text : goal.returns-in_err-write_text
returns-in_err-write_text g c =
    let broke = c.in_err-write_text.ensures in
    let front = broke_first _ _ _ (codes ": ") (fault_line c.args.fault.now) broke.1 in
    writes_refused _ _ _ _ _ _ _ c.from_residual-in_err-write_text.ensures.1 broke.0
    (broke_second _ _ _ _ _ _ (shown c.args.name.now) (codes ": " ++ fault_line c.args.fault.now) c.in_ok-write_shown.ensures front)

pub returns : goal.returns
returns g c =
    let rest = writes_second _ _ _ _ _ _ (codes ": ") (fault_line c.args.fault.now) _ c.in_ok-write_text.ensures c.write_line.ensures in
    writes_second _ _ _ _ _ _ (shown c.args.name.now) (codes ": " ++ fault_line c.args.fault.now) _ c.in_ok-write_shown.ensures rest
