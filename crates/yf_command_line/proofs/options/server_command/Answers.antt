use Rattle.yf_command_line.proofs.options.server_command.Goals as goal

pub returns : goal.returns
returns c = c.with_arg.ensures _ _ c.with_settings-command.ensures c.stdio_flag.ensures
