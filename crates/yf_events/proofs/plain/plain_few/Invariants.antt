use Rattle.yf_events.specs.Plain.{PlainBetween}
use Rattle.yf_events.proofs.plain.plain_few.Given as goal

abbrev pub invariant-loop-i : goal.invariant-loop-i
invariant-loop-i l = PlainBetween l.text 0 l.i
