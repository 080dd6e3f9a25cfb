use Rattle.std.proofs.Common.{◌≡◌, ◌∙◌, true, MatchOption, refl, sym, subst, ap, true≢false}
use denote.Enum.Bare.{sameb}
use Rattle.std.specs.Str.{IsCharBoundary}
use Rattle.yf_events.specs.contracts.event.ScalarStyle.{the_type}
use Rattle.yf_events.specs.declared.event.ScalarStyle.{ScalarStyle}
use Rattle.yf_events.specs.declared.event.ScalarStyle.TheVariants.{Plain, Single, Double, Literal, Folded}
use Rattle.yf_forms.specs.Nodes.ContentStart.{content_start}
use Rattle.yf_forms.specs.Nodes.ScalarStyles.{wanted}
use Rattle.yf_props.specs.Props.{props_value}
use Rattle.yf_ranges.specs.NodeDetails.{NodeDetail}
use Rattle.yf_ranges.specs.declared.detail.Message.TheVariants as Says
use Rattle.yf_ranges.proofs.NodeLemmas.{misquoted_detail}
use Rattle.yf_ranges.proofs.quoting.misquoted.Goals as goal
use Rattle.yf_rule_sets.proofs.RuleSets.MarkPassLemmas.{scalar_event}

alike : (style : ScalarStyle) → sameb the_type style style ≡ true
alike Plain = refl
alike Single = refl
alike Double = refl
alike Literal = refl
alike Folded = refl

pub returns-in-Some : goal.returns-in-Some
returns-in-Some c =
    let w = c.in-Scalar in
    let start = c.content_start-start.result in
    let expected = c.wanted_of-wanted.result in
    let same : c.eq.result ≡ sameb the_type expected w.written = c.eq.ensures in
    let other : wanted w.written w.text.now c.args.style.now ≡ w.written → ⊥ = λ e.
    true≢false (sym (same ∙ ap (λ v. sameb the_type v w.written) (c.wanted_of-wanted.ensures ∙ e) ∙ alike w.written) ∙ c.if-eq.false) in
    misquoted_detail c.args.src.now.text c.args.reading.now c.args.style.now c.args.i (props_value w.props) w.written w.text.now c.in-Some.span
    (scalar_event c.args.reading.now c.args.i c.event.result w.props w.written w.text c.event.ensures w.is) c.in-Some.ensures other
    start expected c.node_detail.result
    (c.content_start-start.ensures ∙ ap (λ v. content_start v c.in-Some.span (props_value w.props)) c.text.ensures)
    c.wanted_of-wanted.ensures
    (subst
    (λ v. MatchOption c.node_detail.result (IsCharBoundary v start → ⊥) (λ d. NodeDetail v start c.in-Some.span.end (Says.Quotes w.written expected) d))
    c.text-in-Some.ensures c.node_detail.ensures)
