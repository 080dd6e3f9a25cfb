use Rattle.yf_command_line.proofs.check_options.check_command.Goals as goal

pub returns : goal.returns
returns c = c.with_arg.ensures _ _ c.printing_command.ensures c.file_words.ensures
