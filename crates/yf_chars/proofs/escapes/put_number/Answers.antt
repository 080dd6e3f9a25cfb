use Rattle.std.proofs.Common.{◌∷◌, ◌++◌, ◌/◌, ◌%◌, ◌∙◌, ap, append_assoc}
use Rattle.std.specs.String.{string_bytes}
use Rattle.yf_chars.specs.Escape.{two_digits}
use Rattle.yf_chars.proofs.EscapeLemmas.{glue, few_spelled, many_spelled}
use Rattle.yf_chars.proofs.Tests.{glue_more}
use Rattle.yf_chars.proofs.escapes.put_number.Goals as goal

pub returns-then-code-lt65536 : goal.returns-then-code-lt65536
returns-then-code-lt65536 c =
    let old = string_bytes c.args.out.now in
    let n = c.args.c in
    rw (few_spelled n c.if-code-lt65536.true)
    (glue_more old (92 ∷ 117 ∷ two_digits (n / 256)) (two_digits (n % 256))
    (glue old 92 117 (two_digits (n / 256)) c.put.ensures.bytes c.put-then-code-lt65536.ensures.bytes c.put_digits.ensures.bytes)
    c.put_digits-then-code-lt65536.ensures.bytes)

pub returns : goal.returns
returns c =
    let old = string_bytes c.args.out.now in
    let n = c.args.c in
    let high = two_digits (n / 65536) in
    let middle = two_digits (n / 256 % 256) in
    let low = two_digits (n % 256) in
    let first = glue old 92 85 (two_digits 0) c.put.ensures.bytes c.put-2.ensures.bytes c.put_digits-2.ensures.bytes in
    let second = glue_more old (92 ∷ 85 ∷ two_digits 0) high first c.put_digits-3.ensures.bytes in
    let third = glue_more old ((92 ∷ 85 ∷ two_digits 0) ++ high) middle second c.put_digits-4.ensures.bytes in
    let front = 92 ∷ 85 ∷ two_digits 0 in
    rw (many_spelled n c.if-code-lt65536.false c.ranges.c.1.1)
    (glue_more old ((front ++ high) ++ middle) low third c.put_digits-5.ensures.bytes
    ∙ ap (λ w. old ++ w) (append_assoc (front ++ high) middle low ∙ append_assoc front high (middle ++ low)))
