use Rattle.std.proofs.Common.{ℕ, List, subst}
use Rattle.yf_guarded.specs.Judged.{ReadGuard}
use Rattle.yf_guarded.proofs.check.findings_by.Goals as goal

pub returns-in-Ok-clause-found : goal.returns-in-Ok-clause-found
returns-in-Ok-clause-found c = record {
  findings = c.in_ok-findings.findings.items;
  checked = c.in_ok-findings.ensures.findings;
  mends = c.in_ok-findings.ensures.mends;
  fault = c.in_ok-fault.fault;
  guard = subst (λ (t : List ℕ). ReadGuard t c.in_ok-fault.fault) c.text.ensures c.in_ok-fault.ensures.found;
  among = c.in-Ok.ensures;
}
