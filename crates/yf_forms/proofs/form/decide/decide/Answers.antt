use Rattle.std.proofs.Common.{arith, reverse, rules, [], ◌∙◌}
use Rattle.yf_events.specs.Event.{event_value}
use Rattle.yf_forms.specs.Passes.DecidePass.{given, state, pass}
use Rattle.yf_forms.proofs.Decide.SearchLemmas.{begins_first, begins_next}
use Rattle.yf_forms.proofs.Decide.RunLemmas.{steps_on, steps_long, at_end}
use Rattle.yf_forms.proofs.Decide.StreamLemmas.{decides}
use Rattle.yf_forms.proofs.form.decide.decide.Goals as goal

pub loop-i-init : goal.loop-i-init
loop-i-init c = record {
  long = search rules;
  runs = search rules;
  begins = begins_first c.comments.result.now c.args.reading.now.comments c.first_search-near.result c.comments.ensures c.first_search-near.ensures.rising
      c.first_search-near.ensures.either;
}

pub loop-i-preserved : goal.loop-i-preserved
loop-i-preserved c = record {
  long = λ s. steps_long (given c.args.style.now c.args.reading.now.comments c.args.reading.now.events) c.args.measures.now (event_value c.event-event.result) c.loop-i.list c.advance.new.list (reverse c.loop-i.stack.items)
      (reverse c.advance.new.stack.items) c.loop-i.done c.in_ok-done.done c.loop-i.i (c.loop-i.invariant.long s) (c.in_ok-done.ensures.forms s (c.loop-i.invariant.long s));
  runs = λ s. steps_on (given c.args.style.now c.args.reading.now.comments c.args.reading.now.events) c.args.measures.now c.args.reading.now.events c.loop-i.i (event_value c.event-event.result) c.loop-i.list c.advance.new.list
      (reverse c.loop-i.stack.items) (reverse c.advance.new.stack.items) c.loop-i.done c.in_ok-done.done (pass (given c.args.style.now c.args.reading.now.comments c.args.reading.now.events) c.args.measures.now c.args.reading.now.events (state [] [] 0)) c.event-event.ensures (c.loop-i.invariant.runs s)
      (c.in_ok-done.ensures.forms s (c.loop-i.invariant.long s));
  begins = begins_next c.args.reading.now.comments c.loop-i.near c.advance.new.near c.in_ok-done.ensures.near c.loop-i.invariant.begins;
}

pub returns : goal.returns
returns c = record {
  are = λ s t cs ds trees placed measured.
      at_end (given c.args.style.now c.args.reading.now.comments c.args.reading.now.events) c.args.measures.now c.args.reading.now.events c.loop-i.i
      c.loop-i.list (reverse c.loop-i.stack.items) c.loop-i.done
      (pass (given c.args.style.now c.args.reading.now.comments c.args.reading.now.events) c.args.measures.now c.args.reading.now.events (state [] [] 0))
      (omega arith) (c.loop-i.invariant.runs s)
      ∙ decides c.args.reading.now c.args.style.now c.args.measures.now t cs ds trees placed measured;
}
