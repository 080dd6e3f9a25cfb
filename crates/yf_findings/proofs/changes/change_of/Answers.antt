use Rattle.std.proofs.Common.{◌∙◌}
use Rattle.yf_findings.proofs.changes.change_of.Goals as goal

pub returns : goal.returns
returns c = record {
  range = record {
    first = c.requires.first;
    last = c.requires.last;
    order = c.requires.order;
    from = c.range_between-range.ensures.start;
    to = c.range_between-range.ensures.end;
  };
  text = c.new.ensures ∙ c.in_ok-text.ensures.ok ∙ c.range.ensures.value;
}
