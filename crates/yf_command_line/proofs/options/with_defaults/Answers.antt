use Rattle.yf_command_line.proofs.options.with_defaults.Goals as goal

pub returns : goal.returns
returns c = c.with_arg.ensures _ _ c.with_config.ensures c.no_config_flag.ensures
