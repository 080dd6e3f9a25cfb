use Rattle.std.proofs.Common.{◌≡◌, Bool, true, false, refl}
use Rattle.yf_rule_sets.proofs.Indentation.EntryLemmas.{starts_none, starts_there, starts_within}
use Rattle.yf_rule_sets.proofs.facts.node_context.entry_start.Goals as goal

pub returns-then-is_char_boundary : goal.returns-then-is_char_boundary
returns-then-is_char_boundary c =
    starts_there c.args.src.now.text c.text.result.now c.args.reading.now.events c.args.i c.in-Some.entry c.in-Some.ensures c.text.ensures
    (c.if-is_char_boundary.ensures.test.0 refl)

pub returns-else-is_char_boundary : goal.returns-else-is_char_boundary
returns-else-is_char_boundary c =
    starts_within c.args.src.now.text c.text.result.now c.args.reading.now.events c.args.i c.in-Some.entry c.in-Some.ensures c.text.ensures
    (λ b. not_true (c.is_char_boundary.ensures.test.1 b) c.if-is_char_boundary.false) where
      not_true : {b : Bool} → b ≡ true → b ≡ false → ⊥
      not_true e f = cc

pub returns-in-None : goal.returns-in-None
returns-in-None c = starts_none c.args.src.now.text c.args.src.now.text c.args.reading.now.events c.args.i c.in-None.ensures
