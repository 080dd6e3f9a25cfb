use Rattle.yf_command_line.proofs.options.formatting_command.Goals as goal

pub returns : goal.returns
returns c =
    let writing = c.with_arg-writing.ensures _ _ c.naming-command.ensures c.write_flag.ensures in
    let checking = c.with_arg-checking.ensures _ _ writing c.check_flag.ensures in
    c.with_arg.ensures _ _ checking c.diff_flag.ensures
