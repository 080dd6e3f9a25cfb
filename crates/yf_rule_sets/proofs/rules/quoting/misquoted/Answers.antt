use Rattle.std.proofs.Common.{◌≡◌, ◌∙◌, true, refl, sym, ap, true≢false}
use denote.Enum.Bare.{sameb}
use Rattle.yf_events.specs.contracts.event.ScalarStyle.{the_type}
use Rattle.yf_events.specs.declared.event.ScalarStyle.{ScalarStyle}
use Rattle.yf_events.specs.declared.event.ScalarStyle.TheVariants.{Plain, Single, Double, Literal, Folded}
use Rattle.yf_props.specs.Props.{props_value}
use Rattle.yf_rule_sets.proofs.RuleSets.MarkPassLemmas.{scalar_event}
use Rattle.yf_rule_sets.proofs.RuleSets.StyleLemmas.{misquoted_told}
use Rattle.yf_rule_sets.proofs.rules.quoting.misquoted.Goals as goal

alike : (style : ScalarStyle) → sameb the_type style style ≡ true
alike Plain = refl
alike Single = refl
alike Double = refl
alike Literal = refl
alike Folded = refl

pub returns-else-eq : goal.returns-else-eq
returns-else-eq c =
    let w = c.in-Scalar in
    let z : c.eq.result ≡ sameb the_type c.wanted_of.result w.written = c.eq.ensures in
    let n : c.wanted_of.result ≡ w.written → ⊥ = λ e. true≢false (sym (z ∙ ap (λ v. sameb the_type v w.written) e ∙ alike w.written) ∙ c.if-eq.false) in
    misquoted_told c.args.src.now.text c.args.reading.now c.args.style.now c.args.i (props_value w.props) w.written c.wanted_of.result w.text.now c.start_of.result
    (scalar_event c.args.reading.now c.args.i c.event.result w.props w.written w.text c.event.ensures w.is) c.wanted_of.ensures n c.start_of.ensures
