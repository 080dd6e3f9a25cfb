use Rattle.std.proofs.Common.{sym, ◌∙◌}
use Rattle.yf_chars.proofs.HiddenLemmas.{spelled_alike, spelled_apart}
use Rattle.yf_chars.proofs.SpelledLemmas.{out_back}
use Rattle.yf_chars.proofs.hidden.push_spelled_out.Goals as goal

pub returns-then-is_spelled_out-clause-spelled : goal.returns-then-is_spelled_out-clause-spelled
returns-then-is_spelled_out-clause-spelled c = rw (spelled_apart c.args.c (sym c.is_spelled_out.ensures ∙ c.if-is_spelled_out.true)) c.push_number.ensures.spelled

pub returns-then-is_spelled_out-clause-read : goal.returns-then-is_spelled_out-clause-read
returns-then-is_spelled_out-clause-read c = out_back c.args.c c.ranges.c.0

pub returns-clause-spelled : goal.returns-clause-spelled
returns-clause-spelled c = rw (spelled_alike c.args.c (sym c.is_spelled_out.ensures ∙ c.if-is_spelled_out.false)) c.push_escaped.ensures.spelled

pub returns-clause-read : goal.returns-clause-read
returns-clause-read c = out_back c.args.c c.ranges.c.0
