-- The input of the pass that decides forms, from an event of a reading with the style.
use Rattle.yf_forms.specs.Passes.DecidePass.{DecideInput, given}
use Rattle.yf_forms.specs.declared.form.layout_context.EventFacts.{EventFacts}

abbrev pub given_in : EventFacts → DecideInput
given_in facts = given facts.style.now facts.reading.now.comments facts.reading.now.events
