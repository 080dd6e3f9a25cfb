use Rattle.std.proofs.Common.{chars, arith}
use Rattle.std.proofs.lemmas.Str.{IsUtf8-string_bytes, scalars-chars}
use Rattle.yf_quoted.proofs.WriteLemmas.{split_grown, double_back}
use Rattle.yf_quoted.proofs.write.write_double.Goals as goal

pub truncate-requires : goal.truncate-requires
truncate-requires c = λ l. split_grown (IsUtf8-string_bytes c.args.out.now) (IsUtf8-string_bytes c.push_double.new.out) c.push_double.ensures.grown (omega (arith, c.len-end.ensures, c.args.out.now.bytes.ok.0))

pub returns-in-Ok-clause-read : goal.returns-in-Ok-clause-read
returns-in-Ok-clause-read c = double_back (chars c.args.text.now) (scalars-chars c.args.text.now c.utf8.text)

pub returns-in-Err-clause-read : goal.returns-in-Err-clause-read
returns-in-Err-clause-read c = double_back (chars c.args.text.now) (scalars-chars c.args.text.now c.utf8.text)
