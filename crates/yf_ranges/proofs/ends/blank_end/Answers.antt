use Rattle.yf_ranges.specs.Spans.BlankSpan.{blank}
use Rattle.yf_ranges.proofs.ends.blank_end.Goals as goal

pub returns-clause-span : goal.returns-clause-span
returns-clause-span c = blank c.white_end.ensures.span c.break_end.ensures.span
