use Rattle.yf_command_line.proofs.check_options.choosing_command.Goals as goal

pub returns : goal.returns
returns c =
    let leaving_out = c.with_arg-leaving_out.ensures _ _ c.naming-command.ensures c.without_option.ensures in
    let choosing = c.with_arg-choosing.ensures _ _ leaving_out c.lines_option-lines.ensures in
    c.with_arg.ensures _ _ choosing c.baseline_option.ensures
