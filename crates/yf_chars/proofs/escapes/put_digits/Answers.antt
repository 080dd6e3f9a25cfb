use Rattle.std.specs.String.{string_bytes}
use Rattle.yf_chars.specs.Escape.{two_digits}
use Rattle.yf_chars.proofs.EscapeLemmas.{glue_two}
use Rattle.yf_chars.proofs.escapes.put_digits.Goals as goal

pub returns-clause-bytes : goal.returns-clause-bytes
unfolding two_digits
returns-clause-bytes c =
    rw (← c.upper_digit.ensures.value, ← c.upper_digit-2.ensures.value)
    (glue_two (string_bytes c.args.out.now) c.upper_digit.result c.upper_digit-2.result c.put.ensures.bytes c.put-2.ensures.bytes)
