use Rattle.yf_command_line.proofs.options.reading_command.Goals as goal

pub returns : goal.returns
returns c = c.with_arg.ensures _ _ c.configured.ensures c.file_word.ensures
