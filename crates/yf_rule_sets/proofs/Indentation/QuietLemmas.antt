-- Laws of scalars for which the rule indentation finds nothing.
use Rattle.std.proofs.Common.{◌≡◌, ℕ, ◌+◌, ◌<◌, List, None, length, reverse, sym, ap, subst, ◌∙◌}
use Rattle.std.proofs.lemmas.List.{append-nil}
use Rattle.std.proofs.lemmas.Option.{same_Some}
use Rattle.yf_forms.specs.declared.style.Style.{Style}
use Rattle.yf_events.specs.Event.{scalar_node}
use Rattle.yf_events.specs.declared.lists.Lists.{Lists}
use Rattle.yf_lines.specs.Lines.{Table}
use Rattle.yf_rule_sets.specs.Passes.IndentFaults.{IndentPassAt, fault_of}
use Rattle.yf_rule_sets.specs.Passes.ContextPass.{Passes}
use Rattle.yf_rule_sets.specs.Passes.QuietEvents.{IsQuiet}
use Rattle.yf_rule_sets.specs.Passes.NodeContexts.{stand_in}
use Rattle.yf_rule_sets.specs.declared.facts.node_context.Pass.{Pass}
use Rattle.yf_rule_sets.proofs.Indentation.FaultLemmas.{one_reached}
use Rattle.yf_rule_sets.proofs.RuleSets.KeyPassLemmas.{event_at}
use Rattle.yf_rule_sets.proofs.Texts.ScalarPasses.{block_told, passed_style}

pub quiet_reached : (src : Table) (r : Lists) (house : Style) (i : ℕ) (old after : Pass) (os : List ℕ) (q : IsQuiet r i) → i < length r.events
    → Passes src.text r.events i (scalar_node q.props q.style q.text) old after (stand_in (reverse old.stack.items) None 0)
    → IndentPassAt src r house old.columns.items old.begun i (reverse old.stack.items) os
    → IndentPassAt src r house after.columns.items after.begun (i + 1) (reverse after.stack.items) os
quiet_reached src r house i old after os q l p m =
    let x = event_at r i l in
    let stand = stand_in (reverse old.stack.items) None 0 in
    let same : scalar_node q.props q.style q.text ≡ x.0.event = same_Some _ _ (sym q.event ∙ x.2) in
    one_reached src r house i old after stand os os None None x.0 x.1 x.2 m (subst (λ v. Passes src.text r.events i v old after stand) same p)
    (block_told (passed_style src r i q.props q.style q.text q.event q.other)) (ap (λ v. fault_of house v stand None) same) (sym (append-nil os))
