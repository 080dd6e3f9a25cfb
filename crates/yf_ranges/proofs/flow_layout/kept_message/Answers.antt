use Rattle.std.proofs.Common.{subst}
use Rattle.yf_ranges.specs.FlowDetails.{TextMessage}
use Rattle.yf_ranges.specs.FlowDetails.KeptMessage.{fits, too_long}
use Rattle.yf_ranges.proofs.flow_layout.kept_message.Goals as goal

pub returns-then-fits : goal.returns-then-fits
returns-then-fits c =
    fits c.place.ensures.place c.if-fits.ensures
    (subst (λ t. TextMessage t c.args.inside c.args.wanted.now c.text_message.result) c.text.ensures c.text_message.ensures)

pub returns : goal.returns
returns c = too_long c.place.ensures.place c.if-fits.ensures
