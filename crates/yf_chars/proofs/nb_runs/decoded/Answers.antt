use Rattle.std.proofs.Common.{◌≡◌, ◌++◌, ◌<◌, ◌+◌, length, drop, ap, sym, ◌∙◌, subst, arith, length-append}
use Rattle.std.proofs.lemmas.List.{length-drop}
use Rattle.std.proofs.lemmas.Str.{len_utf8_bounds, length-encode}
use lib.Utf8.{encode}
use Rattle.yf_chars.specs.Text.{code, CharAt}
use Rattle.yf_chars.proofs.TextLemmas.{reads_char, code-end}
use Rattle.yf_chars.proofs.nb_runs.decoded.Goals as goal

pub returns-in-Some : goal.returns-in-Some
returns-in-Some c =
    let e : drop c.args.at c.args.s.now ≡ encode c.in-Some.c ++ c.next.new.self.rest.now =
    sym c.range_from.ensures.value ∙ sym c.chars.ensures.rest ∙ c.in-Some.ensures.steps.0 in
    let long = ap length e ∙ length-append (encode c.in-Some.c) c.next.new.self.rest.now in
    let within : c.args.at < length c.args.s.now = omega (arith, length-drop c.args.at c.args.s.now, length-encode c.in-Some.c, len_utf8_bounds c.in-Some.c) in
    subst (λ k. CharAt c.args.s.now c.args.at c.in-Some.c (c.args.at + k)) (sym c.len_utf8.ensures.value)
    (reads_char c.args.s.now c.args.at c.in-Some.c c.next.new.self.rest.now c.utf8.s c.requires within e)

pub returns-in-None : goal.returns-in-None
returns-in-None c =
    let gone = ap length (sym c.range_from.ensures.value ∙ sym c.chars.ensures.rest) ∙ c.in-None.ensures.steps.0.0 in
    let e : c.args.at ≡ length c.args.s.now = omega (arith, gone, length-drop c.args.at c.args.s.now, c.requires.0) in
    (ap (code c.args.s.now) e ∙ code-end c.args.s.now, e)
