use Rattle.std.proofs.Common.{Some, None, ap, sym, ◌∙◌}
use Rattle.yf_events.specs.Reading.{before_if}
use Rattle.yf_events.proofs.LeafRuns.{before_at}
use Rattle.yf_events.proofs.leaves.begins_before.Goals as goal

pub returns-in-Some : goal.returns-in-Some
returns-in-Some c =
    sym (before_at c.args.events.now c.args.i c.args.offset (Some c.in-Some.span) c.in-Some.ensures
    ∙ ap (λ b. before_if b (Some c.in-Some.span) c.args.offset) (sym c.begins_leaf.ensures ∙ c.if-begins_leaf.true))

pub returns-then-begins_leaf : goal.returns-then-begins_leaf
returns-then-begins_leaf c =
    sym (before_at c.args.events.now c.args.i c.args.offset None c.in_default.ensures
    ∙ ap (λ b. before_if b None c.args.offset) (sym c.begins_leaf.ensures ∙ c.if-begins_leaf.true))
