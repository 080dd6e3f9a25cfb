use Rattle.std.proofs.Common.{◌++◌, codes}
use Rattle.yf_lines.proofs.OutputLemmas.{broke_first, broke_second, writes_refused, writes_second}
use Rattle.yf_lines.specs.Shown.{shown}
use Rattle.yf_host.proofs.report.write_config.Goals as goal

pub returns-in_err-write_text : goal.returns-in_err-write_text
returns-in_err-write_text g c =
    let broke = c.in_err-write_text.ensures in
    writes_refused _ _ _ _ _ _ _ c.from_residual.ensures.1 broke.0 (broke_first _ _ _ (codes "config: ") (shown c.args.key.now ++ codes "\n") broke.1)

pub returns-in_err-write_shown : goal.returns-in_err-write_shown
returns-in_err-write_shown g c =
    let broke = c.in_err-write_shown.ensures in
    let front = broke_first _ _ _ (shown c.args.key.now) (codes "\n") broke.1 in
    writes_refused _ _ _ _ _ _ _ c.from_residual-in_err-write_shown.ensures.1 broke.0
    (broke_second _ _ _ _ _ _ (codes "config: ") (shown c.args.key.now ++ codes "\n") c.in_ok-write_text.ensures front)

pub returns : goal.returns
returns g c =
    let rest = writes_second _ _ _ _ _ _ (shown c.args.key.now) (codes "\n") _ c.in_ok-write_shown.ensures c.write_text-2.ensures in
    writes_second _ _ _ _ _ _ (codes "config: ") (shown c.args.key.now ++ codes "\n") _ c.in_ok-write_text.ensures rest
