use Rattle.std.proofs.Common.{ℕ, List, subst, sym}
use Rattle.std.proofs.lemmas.Result.{IfErr-weaker, IfOk-weaker}
use Rattle.yf_guard.specs.Guards.{IsVault}
use Rattle.yf_stream.specs.StreamReader.{StreamFault, TheReading, for_memory}
use Rattle.yf_rules.proofs.Findings.FindingLemmas.{nested_same}
use Rattle.yf_guarded.proofs.CheckLemmas.{found_in}
use Rattle.yf_guarded.proofs.check.findings_in.Goals as goal

pub findings_by-requires-clause-not_vault : goal.findings_by-requires-clause-not_vault
findings_by-requires-clause-not_vault c = subst (λ (t : List ℕ). ¬ (IsVault t)) (sym c.in-Ok.ensures.text) c.requires

pub findings_by-requires-clause-reads : goal.findings_by-requires-clause-reads
findings_by-requires-clause-reads c =
    subst (λ (t : List ℕ). TheReading t c.in_ok-stream.stream) (sym c.in-Ok.ensures.text) c.in_ok-stream.ensures.reads

pub returns-clause-found : goal.returns-clause-found
returns-clause-found c =
    IfOk-weaker c.findings_by.result _ _
    (λ all faults. found_in _ c.args.style.now c.args.text.now c.in-Ok.src c.in_ok-stream.stream _ c.in-Ok.ensures.text c.in-Ok.ensures.lines
    (nested_same c.stream.view_is c.stream.invariant.stream) c.in_ok-stream.ensures.reads faults)
    c.findings_by.ensures.found

pub returns-in-Err-clause-refuses : goal.returns-in-Err-clause-refuses
returns-in-Err-clause-refuses c = for_memory

pub returns-clause-refuses : goal.returns-clause-refuses
returns-clause-refuses c =
    IfErr-weaker c.findings_by.result _ _ (λ fault same. subst (StreamFault c.args.text.now) (sym same) for_memory) c.findings_by.ensures.refused
