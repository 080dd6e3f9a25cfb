use Rattle.yf_forms.specs.NormalForms.Normal.{setting_of}
use Rattle.yf_ranges.proofs.FlowDetailLemmas.{message_told}
use Rattle.yf_ranges.proofs.flow_layout.flow_detail.Goals as goal

pub returns : goal.returns
returns c = λ x m n f.
    message_told c.args.src.now (setting_of c.args.reading.now c.args.style.now) x c.args.inside c.in_ok-message.message
    (c.in_ok-message.ensures x m n f) _ c.node_detail.result c.text-text.ensures c.node_detail.ensures
