use Rattle.std.proofs.Common.{chars, arith}
use Rattle.std.proofs.lemmas.Str.{IsUtf8-string_bytes}
use Rattle.yf_quoted.proofs.WriteLemmas.{split_grown, single_back, nb_chosen}
use Rattle.yf_quoted.proofs.write.write_single.Goals as goal

pub truncate-requires : goal.truncate-requires
truncate-requires c = λ l. split_grown (IsUtf8-string_bytes c.args.out.now) (IsUtf8-string_bytes c.push_single.new.out) c.push_single.ensures.grown (omega (arith, c.len-start.ensures, c.args.out.now.bytes.ok.0))

pub returns-in-Ok-clause-read : goal.returns-in-Ok-clause-read
returns-in-Ok-clause-read c = single_back (chars c.args.text.now) (nb_chosen (chars c.args.text.now) c.requires)

pub returns-in-Err-clause-read : goal.returns-in-Err-clause-read
returns-in-Err-clause-read c = single_back (chars c.args.text.now) (nb_chosen (chars c.args.text.now) c.requires)
