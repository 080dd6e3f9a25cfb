use Rattle.yf_lines.proofs.OutputLemmas.{broke_first, writes_refused, writes_second}
use Rattle.yf_program.specs.Run.{heading}
use Rattle.yf_program.proofs.settings_shown.write_page.Goals as goal

pub returns-in_err-write_heading : goal.returns-in_err-write_heading
returns-in_err-write_heading g c =
    let broke = c.in_err-write_heading.ensures in
    writes_refused _ _ _ _ _ _ _ c.from_residual.ensures.1 broke.0 (broke_first _ _ _ (heading c.args.config.now) c.args.page.now broke.1)

pub returns : goal.returns
returns g c =
    writes_second _ _ _ _ _ _ (heading c.args.config.now) c.args.page.now _ c.in_ok-write_heading.ensures
    (rw (← c.as_bytes.ensures.value) c.write_text.ensures)
