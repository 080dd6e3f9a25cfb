use Rattle.yf_chars.proofs.SpelledLemmas.{number_back}
use Rattle.yf_chars.proofs.escapes.push_number.Goals as goal

pub returns-in-Ok-clause-read : goal.returns-in-Ok-clause-read
returns-in-Ok-clause-read c = number_back c.args.c c.ranges.c.0

pub returns-in-Err-clause-read : goal.returns-in-Err-clause-read
returns-in-Err-clause-read c = number_back c.args.c c.ranges.c.0
