use Rattle.std.proofs.Common.{◌∙◌, Bool, Some, ap}
use Rattle.yf_rules.proofs.Findings.FindingLemmas.{any_same, wrote_same}
use Rattle.yf_guarded.proofs.lines.print_findings.Goals as goal

pub returns-clause-written : goal.returns-clause-written
returns-clause-written g c = wrote_same _ _ c.as_slice.ensures.value c.in_ok-write_findings.ensures

pub returns-clause-any : goal.returns-clause-any
returns-clause-any g c = ap (λ (b : Bool). Some b) (c.has_any-any.ensures ∙ any_same c.as_slice-2.ensures.value)
