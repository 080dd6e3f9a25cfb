-- The text was read or refused; the output for it.
use Rattle.std.proofs.Common.{◌≤◌, IfErr, length, refl, rules}
use Rattle.std.proofs.lemmas.Result.{IfErr-weaker}
use Rattle.yf_rules.specs.Runs.ByteStream.{stream_of}
use Rattle.yf_rules.specs.Runs.Input.{IsNoText}
use Rattle.yf_rules.specs.declared.run.TheConstants.{INPUT_LIMIT}
use Rattle.yf_rules.proofs.Runs.FormattedLemmas.{run_refused}
use Rattle.yf_rules.proofs.Runs.GivenTexts.{given_text, run_no_text}
use Rattle.yf_stream.specs.StreamReader.{StreamFault}
use Rattle.yf_parts.proofs.RunLemmas.{part_refused, part_run}
use Rattle.yf_parts.proofs.run.run_part.Goals as goal

pub returns-in_err-text-clause-refusals : goal.returns-in_err-text-clause-refusals
returns-in_err-text-clause-refusals g c =
    let input = stream_of g.R.Read.remaining g.R.Source.has_failed c.args.reader.now in
    let read = c.in_ok-kept in
    let within : length read.field-0.items ≤ INPUT_LIMIT = search rules in
    let refused : IfErr c.from_residual-in_err-text.result (IsNoText c.as_slice.result.now) = search rules in
    IfErr-weaker c.from_residual-in_err-text.result _ _
    (λ fault w. run_no_text input read.ensures.whole within c.as_slice.ensures.value read.ensures.works _ _ _ fault
    w (record { contents = refl; same = refl }))
    refused

pub returns-in_err-part-clause-refusals : goal.returns-in_err-part-clause-refusals
returns-in_err-part-clause-refusals g c =
    let input = stream_of g.R.Read.remaining g.R.Source.has_failed c.args.reader.now in
    let read = c.in_ok-kept in
    let within : length read.field-0.items ≤ INPUT_LIMIT = search rules in
    let text = c.in_ok-text.ensures in
    let given = given_text read.ensures.whole within c.as_slice.ensures.value text.utf8 text.same in
    let refused : IfErr c.from_residual-in_err-part.result (StreamFault c.in_ok-text.text.now) = search rules in
    IfErr-weaker c.from_residual-in_err-part.result _ _
    (λ fault w. run_refused input given read.ensures.works _ _ _ fault w (record { contents = refl; same = refl }))
    refused

pub returns-clause-done : goal.returns-clause-done
returns-clause-done g c =
    let input = stream_of g.R.Read.remaining g.R.Source.has_failed c.args.reader.now in
    let read = c.in_ok-kept in
    let within : length read.field-0.items ≤ INPUT_LIMIT = search rules in
    let text = c.in_ok-text.ensures in
    let given = given_text read.ensures.whole within c.as_slice.ensures.value text.utf8 text.same in
    part_run c.args.task.now c.args.name.now c.args.style.now input _ _ given.gave c.as_slice-2.ensures.value
    c.in_ok-part.ensures.part c.as_str.ensures.value c.show_part.result c.show_part.ensures.shown

pub returns-clause-refusals : goal.returns-clause-refusals
returns-clause-refusals g c =
    let input = stream_of g.R.Read.remaining g.R.Source.has_failed c.args.reader.now in
    let read = c.in_ok-kept in
    let within : length read.field-0.items ≤ INPUT_LIMIT = search rules in
    let text = c.in_ok-text.ensures in
    let given = given_text read.ensures.whole within c.as_slice.ensures.value text.utf8 text.same in
    part_refused c.args.task.now c.args.name.now c.args.style.now input _ _ given.gave c.as_slice-2.ensures.value
    c.in_ok-part.ensures.part c.as_str.ensures.value read.ensures.works c.show_part.result c.show_part.ensures.refused
