use Rattle.yf_command_line.proofs.options.fmt_command.Goals as goal

pub returns : goal.returns
returns c =
    let choosing = c.with_arg-choosing.ensures _ _ c.formatting_command.ensures c.lines_option-lines.ensures in
    let reporting = c.with_arg-reporting.ensures _ _ choosing c.format_option-format.ensures in
    c.with_arg.ensures _ _ reporting c.file_words.ensures
