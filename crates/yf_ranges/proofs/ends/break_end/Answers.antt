use Rattle.yf_ranges.specs.Spans.BreakSpan.{one, none}
use Rattle.yf_ranges.proofs.ends.break_end.Goals as goal

pub returns-in-Some-clause-span : goal.returns-in-Some-clause-span
returns-in-Some-clause-span c = one c.in-Some.ensures.reads

pub returns-in-None-clause-span : goal.returns-in-None-clause-span
returns-in-None-clause-span c = none c.in-None.ensures.reads.none
