use Rattle.std.proofs.Common.{subst}
use Rattle.std.specs.Prelude.{slice_range}
use Rattle.yf_ranges.specs.FlowDetails.{IsDifference}
use Rattle.yf_ranges.specs.FlowDetails.TextMessage.{broken, differs}
use Rattle.yf_ranges.proofs.flow_layout.text_message.Goals as goal

pub returns-then-has_break : goal.returns-then-has_break
returns-then-has_break c = broken c.if-has_break.ensures

pub returns : goal.returns
returns c =
    let inside = c.args.inside in
    differs c.if-has_break.ensures
    (subst (λ w. IsDifference (slice_range c.args.text.now inside.start inside.end) w c.differing.result) c.as_bytes.ensures.value
    (subst (λ w. IsDifference w c.as_bytes.result.now c.differing.result) c.part_of.ensures c.differing.ensures))
