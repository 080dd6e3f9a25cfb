use Rattle.std.proofs.Common.{List, subst, sym}
use Rattle.yf_ranges.proofs.KnownLemmas.{indentation_at, layout_at, quoting_at}
use Rattle.yf_ranges.specs.Known.{AreSorted, IsAmong, IsRuleDetail}
use Rattle.yf_ranges.specs.declared.detail.Detail.{Detail}
use Rattle.yf_ranges.proofs.known.KnownDetails.at.Goals as goal

pub returns-in-Indentation : goal.returns-in-Indentation
returns-in-Indentation c = λ src r house k b.
    subst (λ rule. IsRuleDetail rule src r house c.args.offset c.detail_at.result) (sym c.in-Indentation.is)
    (indentation_at src r house c.args.offset b _ c.detail_at.result k.indentation
    (subst (λ (ds : List Detail). IsAmong ds c.args.offset c.detail_at.result) c.as_slice.ensures.value
    (c.detail_at.ensures (subst (λ (ds : List Detail). AreSorted ds) (sym c.as_slice.ensures.value) k.indentation.sorted))))

pub returns-in-Quoting : goal.returns-in-Quoting
returns-in-Quoting c = λ src r house k b.
    subst (λ rule. IsRuleDetail rule src r house c.args.offset c.detail_at-in-Quoting.result) (sym c.in-Quoting.is)
    (quoting_at src r house c.args.offset b _ c.detail_at-in-Quoting.result k.quoting
    (subst (λ (ds : List Detail). IsAmong ds c.args.offset c.detail_at-in-Quoting.result) c.as_slice-in-Quoting.ensures.value
    (c.detail_at-in-Quoting.ensures (subst (λ (ds : List Detail). AreSorted ds) (sym c.as_slice-in-Quoting.ensures.value) k.quoting.sorted))))

pub returns-in-FlowLayout : goal.returns-in-FlowLayout
returns-in-FlowLayout c = λ src r house k b.
    subst (λ rule. IsRuleDetail rule src r house c.args.offset c.detail_at-in-FlowLayout.result) (sym c.in-FlowLayout.is)
    (layout_at src r house c.args.offset b _ c.detail_at-in-FlowLayout.result k.flow_layout
    (subst (λ (ds : List Detail). IsAmong ds c.args.offset c.detail_at-in-FlowLayout.result) c.as_slice-in-FlowLayout.ensures.value
    (c.detail_at-in-FlowLayout.ensures (subst (λ (ds : List Detail). AreSorted ds) (sym c.as_slice-in-FlowLayout.ensures.value) k.flow_layout.sorted))))
