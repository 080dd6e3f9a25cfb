use Rattle.std.proofs.Common.{chars}
use Rattle.std.proofs.lemmas.Str.{scalars-chars}
use Rattle.yf_quoted.proofs.WriteLemmas.{double_in_back}
use Rattle.yf_quoted.proofs.write.push_double_in.Goals as goal

pub returns-in-Plain-clause-read : goal.returns-in-Plain-clause-read
returns-in-Plain-clause-read c = double_in_back c.args.invisible (chars c.args.text.now) (scalars-chars c.args.text.now c.utf8.text)

pub returns-in-Escaped-clause-read : goal.returns-in-Escaped-clause-read
returns-in-Escaped-clause-read c = double_in_back c.args.invisible (chars c.args.text.now) (scalars-chars c.args.text.now c.utf8.text)
