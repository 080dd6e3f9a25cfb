use Rattle.std.proofs.Common.{◌∷◌, ◌/◌, ◌%◌, sym, ◌∙◌, arith}
use Rattle.std.specs.String.{string_bytes}
use Rattle.yf_chars.specs.Escape.{two_digits}
use Rattle.yf_chars.proofs.EscapeLemmas.{glue, by_two_below, by_four_below, two_spelled, four_spelled, self_spelled}
use Rattle.yf_chars.proofs.Tests.{glue_more}
use Rattle.yf_chars.proofs.escapes.put_long.Goals as goal

pub put_digits-requires-clause-small : goal.put_digits-requires-clause-small
put_digits-requires-clause-small c = by_two_below c.args.c (sym c.is_by_two.ensures ∙ c.if-is_by_two.true)

pub returns-then-is_by_two : goal.returns-then-is_by_two
returns-then-is_by_two c =
    rw (two_spelled c.args.c (sym c.is_by_two.ensures ∙ c.if-is_by_two.true))
    (glue (string_bytes c.args.out.now) 92 120 (two_digits c.args.c) c.put.ensures.bytes c.put-then-is_by_two.ensures.bytes c.put_digits.ensures.bytes)

pub put_digits-requires-then-is_by_four-clause-small : goal.put_digits-requires-then-is_by_four-clause-small
put_digits-requires-then-is_by_four-clause-small c =
    omega (arith, by_four_below c.args.c (sym c.is_by_four.ensures ∙ c.if-is_by_four.true))

pub returns-then-is_by_four : goal.returns-then-is_by_four
returns-then-is_by_four c =
    let old = string_bytes c.args.out.now in
    rw (four_spelled c.args.c (sym c.is_by_two.ensures ∙ c.if-is_by_two.false) (sym c.is_by_four.ensures ∙ c.if-is_by_four.true))
    (glue_more old (92 ∷ 117 ∷ two_digits (c.args.c / 256)) (two_digits (c.args.c % 256))
    (glue old 92 117 (two_digits (c.args.c / 256)) c.put-then-is_by_four.ensures.bytes c.put-then-is_by_four-2.ensures.bytes c.put_digits-then-is_by_four.ensures.bytes)
    c.put_digits-then-is_by_four-2.ensures.bytes)

pub returns : goal.returns
returns c =
    rw (self_spelled c.args.c (sym c.is_by_two.ensures ∙ c.if-is_by_two.false) (sym c.is_by_four.ensures ∙ c.if-is_by_four.false))
    c.in-Ok.ensures.bytes
