use Rattle.std.proofs.Common.{◌≡◌, map, subst}
use Rattle.yf_rules.specs.Check.{finding_at}
use Rattle.yf_rules.specs.Check.FindingsOf.{at_places}
use Rattle.yf_rules.proofs.Findings.MendedFindings.{rule_silent}
use Rattle.yf_rules.proofs.check.findings_of.Goals as goal

pub returns-in-Ok-clause-findings : goal.returns-in-Ok-clause-findings
returns-in-Ok-clause-findings g c =
    let a = c.about_of-about in
    at_places a.result.number a.result.id a.result.fixable a.ensures.number a.ensures.id a.ensures.fixable c.in_ok-places.ensures.found c.in_ok-places.ensures.ascending
    (subst (λ ps. c.in-Ok.findings.items ≡ map (finding_at a.result.number a.result.id a.result.fixable) ps) c.as_slice.ensures.value c.in-Ok.ensures)

pub returns-in-Ok-clause-mends : goal.returns-in-Ok-clause-mends
returns-in-Ok-clause-mends g c =
    let a = c.about_of-about in
    rule_silent a.result.number a.result.id a.result.fixable _ c.as_slice.result.now _ c.in-Ok.findings.items a.ensures.fixable c.as_slice.ensures.value c.in_ok-places.ensures.mends c.in-Ok.ensures
