use Rattle.std.proofs.Common.{◌≡◌, subst, sym}
use Rattle.yf_findings.specs.Ranges.{FindingDetail, StartOf, rule_of}
use Rattle.yf_findings.proofs.DetailLemmas.{detail_start}
use Rattle.yf_findings.proofs.located.locate.Goals as goal

pub returns-clause-located : goal.returns-clause-located
returns-clause-located c = λ reading k.
    let v = c.args.src.now in
    let f = c.args.finding.now in
    let d = c.finding_detail-detail.result in
    let o = c.start_of-start.result.offset in
    let same = c.rule_of-rule.ensures in
    let by_rule : FindingDetail (rule_of f.number) v reading c.args.style.now o d =
    subst (λ r. FindingDetail r v reading c.args.style.now o d) same (c.finding_detail-detail.ensures v reading (sym c.text.ensures) k) in
    let at = detail_start (rule_of f.number) by_rule in
    let start : StartOf v (rule_of f.number) f.place o = subst (λ r. StartOf v r f.place o) same c.start_of-start.ensures.offset in
    record {
      start = subst (λ k. StartOf v (rule_of f.number) f.place k) (sym at) start;
      detail = subst (λ k. FindingDetail (rule_of f.number) v reading c.args.style.now k d) (sym at) by_rule;
      range = c.range_of.ensures;
    }
