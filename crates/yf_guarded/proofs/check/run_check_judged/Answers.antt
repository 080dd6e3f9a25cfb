use Rattle.std.proofs.Common.{◌≤◌, IfErr, length, refl, rules}
use Rattle.std.proofs.lemmas.Result.{IfErr-weaker}
use Rattle.yf_rules.specs.Runs.ByteStream.{stream_of}
use Rattle.yf_rules.specs.Runs.Input.{IsNoText}
use Rattle.yf_rules.specs.declared.run.TheConstants.{INPUT_LIMIT}
use Rattle.yf_stream.specs.StreamReader.{StreamFault}
use Rattle.yf_rules.proofs.Runs.FormattedLemmas.{run_refused}
use Rattle.yf_rules.proofs.Runs.GivenTexts.{given_text, run_no_text}
use Rattle.yf_guarded.specs.Checked.CheckedRun.{encrypted}
use Rattle.yf_guarded.proofs.CheckLemmas.{lines_broke, lines_written}
use Rattle.yf_guarded.proofs.JudgeLemmas.{gives}
use Rattle.yf_guarded.proofs.check.run_check_judged.Goals as goal

pub returns-in_err-text-clause-refusals : goal.returns-in_err-text-clause-refusals
returns-in_err-text-clause-refusals g c =
    let input = stream_of g.R.Read.remaining g.R.Source.has_failed c.args.reader.now in
    let read = c.in_ok-kept in
    let within : length read.field-0.items ≤ INPUT_LIMIT = search rules in
    let refused : IfErr c.from_residual-in_err-text.result (IsNoText c.as_slice.result.now) = search rules in
    IfErr-weaker c.from_residual-in_err-text.result _ _
    (λ fault w. run_no_text input read.ensures.whole within c.as_slice.ensures.value read.ensures.works _ _ _ fault
    w (record { contents = refl; same = refl }))
    refused

pub returns-then-is_vault-clause-checked : goal.returns-then-is_vault-clause-checked
returns-then-is_vault-clause-checked g c =
    let read = c.in_ok-kept in
    let within : length read.field-0.items ≤ INPUT_LIMIT = search rules in
    let text = c.in_ok-text.ensures in
    let given = given_text read.ensures.whole within c.as_slice.ensures.value text.utf8 text.same in
    encrypted (gives given (rw c.if-is_vault.true at c.is_vault.ensures)) (record { contents = refl; same = refl }) refl

pub findings_in-requires : goal.findings_in-requires
findings_in-requires g c = rw c.if-is_vault.false at c.is_vault.ensures

pub returns-in_err-findings-clause-refusals : goal.returns-in_err-findings-clause-refusals
returns-in_err-findings-clause-refusals g c =
    let input = stream_of g.R.Read.remaining g.R.Source.has_failed c.args.reader.now in
    let read = c.in_ok-kept in
    let within : length read.field-0.items ≤ INPUT_LIMIT = search rules in
    let text = c.in_ok-text.ensures in
    let given = given_text read.ensures.whole within c.as_slice.ensures.value text.utf8 text.same in
    let refused : IfErr c.from_residual-in_err-findings.result (StreamFault c.in_ok-text.text.now) = search rules in
    IfErr-weaker c.from_residual-in_err-findings.result _ _
    (λ fault w. run_refused input given read.ensures.works _ _ _ fault w (record { contents = refl; same = refl }))
    refused

pub returns-clause-checked : goal.returns-clause-checked
returns-clause-checked g c =
    let input = stream_of g.R.Read.remaining g.R.Source.has_failed c.args.reader.now in
    let read = c.in_ok-kept in
    let within : length read.field-0.items ≤ INPUT_LIMIT = search rules in
    let text = c.in_ok-text.ensures in
    let given = given_text read.ensures.whole within c.as_slice.ensures.value text.utf8 text.same in
    lines_written _ c.args.style.now input _ _
    (gives given (rw c.if-is_vault.false at c.is_vault.ensures, c.in_ok-findings.ensures.found))
    c.print_findings.result c.print_findings.ensures.written c.print_findings.ensures.any

pub returns-clause-refusals : goal.returns-clause-refusals
returns-clause-refusals g c =
    let input = stream_of g.R.Read.remaining g.R.Source.has_failed c.args.reader.now in
    let read = c.in_ok-kept in
    let within : length read.field-0.items ≤ INPUT_LIMIT = search rules in
    let text = c.in_ok-text.ensures in
    let given = given_text read.ensures.whole within c.as_slice.ensures.value text.utf8 text.same in
    lines_broke _ c.args.style.now input _ _
    (gives given (rw c.if-is_vault.false at c.is_vault.ensures, c.in_ok-findings.ensures.found))
    c.print_findings.result read.ensures.works c.print_findings.ensures.refused
