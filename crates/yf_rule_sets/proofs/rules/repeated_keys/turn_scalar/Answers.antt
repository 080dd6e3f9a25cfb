use Rattle.std.proofs.Common.{◌≡◌, ap, subst, sym, ◌∙◌, List, ℕ, Option, Some, None}
use Rattle.std.specs.Prelude.{slice_get, ◌&&◌}
use Rattle.std.proofs.lemmas.Result.{IfOk-weaker}
use Rattle.yf_props.specs.Props.{name_value}
use Rattle.yf_rule_sets.specs.Passes.KeyPass.{IsLast, KeyValue, has_key, past_key, takes_key}
use Rattle.yf_rule_sets.proofs.RuleSets.KeyListLemmas.{key_passed, turned, value_passed}
use Rattle.yf_rule_sets.proofs.rules.repeated_keys.turn_scalar.Goals as goal

pub returns-then-takes_key : goal.returns-then-takes_key
returns-then-takes_key c =
    let text = c.args.text.now in
    let w : KeyValue = (text, slice_get c.args.reading.now.resolved c.args.i) in
    let e : (text, Some (name_value c.resolved_at_cursor-tag.result)) ≡ w = ap (λ (o : Option (Option (List ℕ))). (text, o)) (sym c.resolved_at_cursor-tag.ensures) in
    IfOk-weaker c.add_key.result _ _
    (λ hit g outer l i. subst (λ (w : KeyValue). IsLast outer c.add_key.new.keys.items c.add_key.new.collection (past_key (Some w) l) × (hit ≡ (takes_key l && has_key w l.keys))) e
    (key_passed outer c.add_key.new.keys.items c.add_key.new.collection (text, Some (name_value c.resolved_at_cursor-tag.result)) l hit
    (sym (c.is_key_next-takes_key.ensures i.own l i.collection_is) ∙ c.if-takes_key.true) (g outer (past_key None l) (turned i c.turn.new.collection c.turn.ensures.first c.turn.ensures.turned))))
    c.add_key.ensures

pub returns : goal.returns
returns c = λ outer l i.
    value_passed outer c.args.keys.now.items c.turn.new.collection (c.args.text.now, slice_get c.args.reading.now.resolved c.args.i) l
    (sym (c.is_key_next-takes_key.ensures i.own l i.collection_is) ∙ c.if-takes_key.false)
    (turned i c.turn.new.collection c.turn.ensures.first c.turn.ensures.turned)
