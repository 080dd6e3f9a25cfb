use Rattle.std.proofs.Common.{◌≡◌, Some, drop, length, refl, reverse, ap, ◌∙◌, ⊎_elim, arith, ◌-◌, take}
use Rattle.yf_events.specs.Event.{document_ends, document_starts, event_value, alias_node, mapping_ends, scalar_node, sequence_ends, stream_ends, stream_starts}
use Rattle.yf_props.specs.Props.{props_value}
use Rattle.yf_rule_sets.proofs.Indentation.PassLemmas.{passed_by, rest_reversed}
use Rattle.yf_rule_sets.proofs.facts.node_context.Pass.next.Goals as goal

pub returns-in-Scalar : goal.returns-in-Scalar
returns-in-Scalar c = λ e f.
    let t = c.args.src.now.text in
    let es = c.args.reading.now.events in
    ⊎_elim
    (λ w. passed_by t es c.args.i c.requires c.args.self.now _ _ (scalar_node (props_value w.0) w.1 w.2.now) e (c.event.ensures ∙ ap (λ v. Some (event_value v)) w.3) f refl
    c.next_context.ensures.stack c.next_context.ensures.stand refl refl)
    (λ w. passed_by t es c.args.i c.requires c.args.self.now _ _ (alias_node w.0.now) e (c.event.ensures ∙ ap (λ v. Some (event_value v)) w.1) f refl
    c.next_context.ensures.stack c.next_context.ensures.stand refl refl)
    c.in-Scalar.is

pub returns-in-SeqEnd : goal.returns-in-SeqEnd
returns-in-SeqEnd c = λ e f.
    let t = c.args.src.now.text in
    let es = c.args.reading.now.events in
    let xs = c.args.self.now.stack.items in
    let n : c.args.self.now.stack.len ≡ length xs = omega (arith, c.args.self.now.stack.ok) in
    let q : reverse c.pop.new.self.items ≡ drop 1 (reverse xs) = ap reverse (c.pop.ensures.rest ∙ ap (λ k. take (k - 1) xs) n) ∙ rest_reversed xs in
    ⊎_elim
    (λ w. passed_by t es c.args.i c.requires c.args.self.now _ _ sequence_ends e (c.event.ensures ∙ ap (λ v. Some (event_value v)) w) f refl q refl refl refl)
    (λ w. passed_by t es c.args.i c.requires c.args.self.now _ _ mapping_ends e (c.event.ensures ∙ ap (λ v. Some (event_value v)) w) f refl q refl refl refl)
    c.in-SeqEnd.is

pub returns-in-StreamStart : goal.returns-in-StreamStart
returns-in-StreamStart c = λ e f.
    let t = c.args.src.now.text in
    let es = c.args.reading.now.events in
    ⊎_elim
    (λ w. passed_by t es c.args.i c.requires c.args.self.now _ _ stream_starts e (c.event.ensures ∙ ap (λ v. Some (event_value v)) w) f refl refl refl refl refl)
    (λ o. ⊎_elim
    (λ w. passed_by t es c.args.i c.requires c.args.self.now _ _ stream_ends e (c.event.ensures ∙ ap (λ v. Some (event_value v)) w) f refl refl refl refl refl)
    (λ o. ⊎_elim
    (λ w. passed_by t es c.args.i c.requires c.args.self.now _ _ (document_starts w.0) e (c.event.ensures ∙ ap (λ v. Some (event_value v)) w.1) f refl refl refl refl refl)
    (λ w. passed_by t es c.args.i c.requires c.args.self.now _ _ (document_ends w.0) e (c.event.ensures ∙ ap (λ v. Some (event_value v)) w.1) f refl refl refl refl refl)
    o)
    o)
    c.in-StreamStart.is
