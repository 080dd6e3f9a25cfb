use Rattle.yf_command_line.proofs.options.configured.Goals as goal

pub returns : goal.returns
returns c =
    let explaining = c.with_arg-explaining.ensures _ _ c.with_settings.ensures c.explain_flag.ensures in
    let taking = c.with_arg-taking.ensures _ _ explaining c.any_text_flag.ensures in
    c.with_arg.ensures _ _ taking c.stdin_name_option.ensures
