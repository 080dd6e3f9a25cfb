use Rattle.std.proofs.Common.{get_or, eqb, ap, sym, ◌∙◌, subst, arith, MatchBool, ◌≢◌, ◌+◌}
use Rattle.yf_chars.specs.Text.{code, CharAt}
use Rattle.yf_chars.proofs.TextLemmas.{byte_test, byte_test_past, match_byte}
use Rattle.yf_chars.proofs.text.is_char_at.Goals as goal

pub returns-then-at-bytes-clause-value : goal.returns-then-at-bytes-clause-value
returns-then-at-bytes-clause-value c =
    ap (λ w. eqb (get_or w c.args.at 0) c.args.byte) c.as_bytes-bytes.ensures.value
    ∙ byte_test c.args.s.now c.args.at c.args.byte c.utf8.s c.requires (omega (arith, c.as_bytes-bytes.ensures.len))

pub returns-then-at-bytes-clause-cases : goal.returns-then-at-bytes-clause-cases
returns-then-at-bytes-clause-cases c =
    subst (λ v. MatchBool v (CharAt c.args.s.now c.args.at c.args.byte (c.args.at + 1)) (code c.args.s.now c.args.at ≢ c.args.byte))
    (sym (returns-then-at-bytes-clause-value c))
    (match_byte c.args.s.now c.args.at c.args.byte c.utf8.s c.requires)

pub returns-clause-value : goal.returns-clause-value
returns-clause-value c =
    sym (byte_test_past c.args.s.now c.args.at c.args.byte c.requires (omega (arith, c.as_bytes-bytes.ensures.len)))

pub returns-clause-cases : goal.returns-clause-cases
returns-clause-cases c =
    subst (λ v. MatchBool v (CharAt c.args.s.now c.args.at c.args.byte (c.args.at + 1)) (code c.args.s.now c.args.at ≢ c.args.byte))
    (sym (returns-clause-value c))
    (match_byte c.args.s.now c.args.at c.args.byte c.utf8.s c.requires)
