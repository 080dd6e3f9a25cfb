use Rattle.std.proofs.Common.{refl, sym, ◌∙◌, ap}
use Rattle.yf_rule_sets.proofs.RuleSets.KeyListLemmas.{key_known, key_pushed, none_more}
use Rattle.yf_rule_sets.specs.Passes.KeyPass.{holds_key, key_value}
use Rattle.std.proofs.Common.{drop}
use Rattle.yf_rule_sets.proofs.rules.repeated_keys.add_key.Goals as goal

pub returns-then-is_among : goal.returns-then-is_among
returns-then-is_among c = λ outer l i. key_known i c.args.key (sym c.if-is_among.true ∙ c.is_among.ensures ∙ ap (λ ys. holds_key (key_value c.args.key) (drop c.args.collection.now.first ys)) c.as_slice.ensures.value)

pub returns-then-is_empty : goal.returns-then-is_empty
returns-then-is_empty c = λ outer l i.
    key_pushed i c.push.new.self.items c.args.key c.in_ok-push.ensures.items
    (sym c.if-is_among.false ∙ c.is_among.ensures ∙ ap (λ ys. holds_key (key_value c.args.key) (drop c.args.collection.now.first ys)) c.as_slice.ensures.value)
    (none_more c.args.key c.args.collection.now.more.keys (c.if-is_empty.ensures.0 refl))
