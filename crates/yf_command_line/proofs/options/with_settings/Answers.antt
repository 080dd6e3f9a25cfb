use Rattle.yf_command_line.proofs.options.with_settings.Goals as goal

pub returns : goal.returns
returns c = c.with_arg.ensures _ _ c.with_defaults.ensures c.show_settings_flag.ensures
