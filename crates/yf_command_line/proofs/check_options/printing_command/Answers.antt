use Rattle.yf_command_line.proofs.check_options.printing_command.Goals as goal

pub returns : goal.returns
returns c =
    let printing = c.with_arg-printing.ensures _ _ c.choosing_command.ensures c.format_option-format.ensures in
    let counting = c.with_arg-counting.ensures _ _ printing c.statistics_flag.ensures in
    let limiting = c.with_arg-limiting.ensures _ _ counting c.max_findings_option.ensures in
    c.with_arg.ensures _ _ limiting c.color_option.ensures
