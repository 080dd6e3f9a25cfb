use Rattle.std.proofs.Common.{sym, ◌∙◌, subst}
use Rattle.std.specs.Str.{IsCharBoundary}
use Rattle.yf_chars.specs.Text.{code, CharAt}
use Rattle.yf_props.proofs.TagLemmas.{no_hex_digit, past_hex}
use Rattle.yf_props.proofs.tag.is_hex_at.Goals as goal

pub returns-in-Some-clause-boundary : goal.returns-in-Some-clause-boundary
returns-in-Some-clause-boundary c = λ e.
    let t = c.args.s.now in
    let r : CharAt t c.args.at c.in-Some.c c.in-Some.field-0-1 = c.in-Some.ensures in
    let b : IsCharBoundary t c.in-Some.field-0-1 = r.boundary in
    subst (λ j. IsCharBoundary t j) (past_hex t r (sym c.is_hex_digit.ensures ∙ e)) b

pub returns-in-None-clause-value : goal.returns-in-None-clause-value
returns-in-None-clause-value c = sym (no_hex_digit (code c.args.s.now c.args.at) c.in-None.ensures.0)
