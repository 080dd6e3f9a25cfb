use Rattle.std.proofs.Common.{◌≤◌, length, take, drop, Some, ◌++◌, ◌∷◌, sym, ap, ◌∙◌, subst, arith}
use Rattle.std.proofs.lemmas.Result.{IfOk-equal}
use Rattle.yf_events.specs.Event.{placed_value}
use Rattle.yf_block.proofs.LineSteps.ContentMappings.{entry_within, put_there}
use Rattle.yf_block.proofs.Runs.WorkedLemmas.{if_worked}
use Rattle.yf_block.proofs.inline.put_before.Goals as goal

pub insert-requires : goal.insert-requires
insert-requires c =
    subst (λ z. c.args.event ≤ length z) (sym c.in_ok-set_entry.ensures) (entry_within c.args.part.now.events c.args.event c.args.entry (omega (arith, c.if-event-len.true, c.len.ensures)))

pub returns-then-event-len-clause-events : goal.returns-then-event-len-clause-events
returns-then-event-len-clause-events c = λ xs x ys e q.
    let start = placed_value c.start_with.result in
    IfOk-equal c.insert.result _ _ _ (if_worked c.insert.result _ _ c.insert.ensures)
    (ap (λ z. take c.args.event z ++ start ∷ drop c.args.event z) c.in_ok-set_entry.ensures ∙ put_there start c.args.entry xs x ys e q
    ∙ ap (λ z. xs ++ z ∷ record x { entry = Some c.args.entry } ∷ ys) c.start_with.ensures)
