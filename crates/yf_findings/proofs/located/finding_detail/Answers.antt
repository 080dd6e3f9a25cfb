use Rattle.std.proofs.Common.{Some, None, subst, sym}
use Rattle.std.specs.Str.{IsCharBoundary}
use Rattle.yf_findings.specs.Ranges.FindingDetail.{of_reading, of_text}
use Rattle.yf_ranges.specs.Details.{DetailAt, DetailOf}
use Rattle.yf_ranges.specs.Known.{IsRuleDetail}
use Rattle.yf_findings.proofs.located.finding_detail.Goals as goal

pub returns-in-Some : goal.returns-in-Some
returns-in-Some c = λ src reading same k.
    let b = subst (λ t. IsCharBoundary t c.args.offset) (sym same) c.requires in
    of_reading (subst (IsRuleDetail c.args.rule src reading c.args.style.now c.args.offset) c.in-Some.is (c.at.ensures src reading c.args.style.now k b))

pub returns-in-None : goal.returns-in-None
returns-in-None c = λ src reading same k.
    let b = subst (λ t. IsCharBoundary t c.args.offset) (sym same) c.requires in
    of_text (subst (IsRuleDetail c.args.rule src reading c.args.style.now c.args.offset) c.in-None.is (c.at.ensures src reading c.args.style.now k b))
    (subst (λ t. DetailAt (DetailOf c.args.rule t c.args.style.now) t c.args.offset c.detail_at.result) (sym same) c.detail_at.ensures)
