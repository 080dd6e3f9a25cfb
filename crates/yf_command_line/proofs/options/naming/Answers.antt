use Rattle.yf_command_line.proofs.options.naming.Goals as goal

pub returns : goal.returns
returns c = c.with_arg.ensures _ _ c.configured.ensures c.names_flag.ensures
