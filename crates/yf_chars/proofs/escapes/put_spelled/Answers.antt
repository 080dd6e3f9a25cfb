use Rattle.std.proofs.Common.{sym}
use Rattle.std.specs.String.{string_bytes}
use Rattle.yf_chars.proofs.EscapeLemmas.{glue_two, letter_spelled, spelled_none}
use Rattle.yf_chars.proofs.escapes.put_spelled.Goals as goal

pub returns-in-Some : goal.returns-in-Some
returns-in-Some c =
    rw (letter_spelled c.args.c c.in-Some.letter (sym c.in-Some.ensures.value) c.in-Some.ensures.ascii)
    (glue_two (string_bytes c.args.out.now) 92 c.in-Some.letter c.put.ensures.bytes c.put-in-Some.ensures.bytes)

pub returns-in-None : goal.returns-in-None
returns-in-None c = rw (spelled_none c.args.c (sym c.in-None.ensures.value)) c.put_long.ensures
