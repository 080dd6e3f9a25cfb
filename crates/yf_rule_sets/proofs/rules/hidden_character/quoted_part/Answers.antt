use Rattle.std.proofs.Common.{sym, subst, ap, ◌∙◌}
use Rattle.yf_forms.specs.Nodes.ContentStart.{content_start}
use Rattle.yf_props.specs.Props.{props_value}
use Rattle.yf_rule_sets.specs.RuleSets.Exact.{Sole}
use Rattle.yf_rule_sets.specs.RuleSets.HiddenCharacters.{QuotedPart}
use Rattle.yf_rule_sets.proofs.RuleSets.HiddenLemmas.{part_sole}
use Rattle.yf_rule_sets.proofs.RuleSets.MarkPassLemmas.{scalar_event}
use Rattle.yf_rule_sets.proofs.rules.hidden_character.quoted_part.Goals as goal

pub returns-in-Some : goal.returns-in-Some
returns-in-Some c =
    let t = c.args.src.now.text in
    let r = c.args.reading.now in
    let i = c.args.i in
    let w = c.in-Scalar in
    let span = c.in-Some.span in
    subst (λ n. Sole (QuotedPart t r i) (record { start = n; end = span.end }))
    (sym (c.content_start.ensures ∙ ap (λ v. content_start v span (props_value w.props)) c.text.ensures))
    (part_sole (record { event = scalar_event r i c.event.result w.props w.style w.text c.event.ensures w.is; part = c.in-Some.ensures })
    (sym c.is_quoted.ensures ∙ c.if-not-is_quoted.false))
