use Rattle.std.proofs.Common.{arith}
use Rattle.yf_events.specs.Event.{event_value}
use Rattle.yf_forms.specs.Passes.EventsGiven.{given_in}
use Rattle.yf_forms.proofs.Measure.LevelLemmas.{noted_on_top, placed_on_top}
use Rattle.yf_forms.proofs.form.layout_context.place_node.Goals as goal

pub returns-then-count-gt0-clause-place : goal.returns-then-count-gt0-clause-place
returns-then-count-gt0-clause-place c = λ s.
    placed_on_top (given_in c.args.facts.now) (event_value c.args.facts.now.event.now) c.args.facts.now.i c.args.facts.now.measure.now
    c.args.stack.now.items c.len-count.result c.index_mut.result.now c.place_within.result (omega (arith, c.len-count.ensures, c.args.stack.now.ok.0))
    c.if-count-gt0.true c.index_mut.ensures.value (λ others. c.place_within.ensures.place others s)

pub returns-then-count-gt0-clause-stack : goal.returns-then-count-gt0-clause-stack
returns-then-count-gt0-clause-stack c =
    noted_on_top (given_in c.args.facts.now) (event_value c.args.facts.now.event.now) c.args.facts.now.i c.args.facts.now.measure.now
    c.args.stack.now.items c.len-count.result c.index_mut.result.now c.place_within.new.level (omega (arith, c.len-count.ensures, c.args.stack.now.ok.0))
    c.if-count-gt0.true c.index_mut.ensures.value c.place_within.ensures.level
