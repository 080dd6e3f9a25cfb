use Rattle.std.proofs.Common.{◌≡◌, ◌++◌, ◌<◌, ◌+◌, length, get_or, drop, ap, sym, ◌∙◌, subst, arith}
use lib.Utf8.{encode}
use Rattle.yf_chars.specs.Text.{code, CharAt}
use Rattle.yf_chars.proofs.TextLemmas.{reads_char, reads_ascii, code-end}
use Rattle.yf_chars.proofs.text.peek.Goals as goal

pub returns-then-at-bytes : goal.returns-then-at-bytes
returns-then-at-bytes c =
    let e : c.args.at ≡ length c.args.s.now = c.if-at-bytes.true ∙ ap length c.as_bytes-bytes.ensures.value in
    (ap (code c.args.s.now) e ∙ code-end c.args.s.now, e)

pub returns-then-byte-lt128 : goal.returns-then-byte-lt128
returns-then-byte-lt128 c =
    let e : c.from.result ≡ get_or c.args.s.now c.args.at 0 = c.from.ensures ∙ ap (λ w. get_or w c.args.at 0) c.as_bytes-bytes.ensures.value in
    let below : get_or c.args.s.now c.args.at 0 < 128 = omega (arith, ap (λ w. get_or w c.args.at 0) c.as_bytes-bytes.ensures.value) in
    let within : c.args.at < length c.args.s.now = omega (arith, c.as_bytes-bytes.ensures.len) in
    subst (λ x. CharAt c.args.s.now c.args.at x (c.args.at + 1)) (sym e) (reads_ascii c.args.s.now c.args.at c.utf8.s within below)

pub returns : goal.returns
returns c =
    let e : drop c.args.at c.args.s.now ≡ encode c.in-Some.c ++ c.next.new.self.rest.now =
    sym c.range_from.ensures.value ∙ sym c.chars.ensures.rest ∙ c.in-Some.ensures.steps.0 in
    let within : c.args.at < length c.args.s.now = omega (arith, c.as_bytes-bytes.ensures.len) in
    subst (λ k. CharAt c.args.s.now c.args.at c.in-Some.c (c.args.at + k)) (sym c.len_utf8.ensures.value)
    (reads_char c.args.s.now c.args.at c.in-Some.c c.next.new.self.rest.now c.utf8.s c.requires within e)
