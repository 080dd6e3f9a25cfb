use Rattle.std.proofs.Common.{◌≤◌, IfErr, length, rules}
use Rattle.std.proofs.lemmas.Result.{IfErr-weaker}
use Rattle.yf_rules.specs.Runs.ByteStream.{stream_of}
use Rattle.yf_rules.specs.Runs.Input.{IsNoText}
use Rattle.yf_rules.specs.declared.run.TheConstants.{INPUT_LIMIT}
use Rattle.yf_rules.proofs.Runs.GivenTexts.{no_text}
use Rattle.yf_guarded.proofs.JudgeLemmas.{gives_bytes}
use Rattle.yf_guarded.proofs.read.read_text.Goals as goal

pub returns-in_err-text_of-clause-refusals : goal.returns-in_err-text_of-clause-refusals
returns-in_err-text_of-clause-refusals g c =
    let input = stream_of g.R.Read.remaining g.R.Source.has_failed c.args.reader.now in
    let read = c.in_ok-kept in
    let within : length read.field-0.items ≤ INPUT_LIMIT = search rules in
    let refused : IfErr c.from_residual-in_err-text_of.result (IsNoText c.as_slice.result.now) = search rules in
    IfErr-weaker c.from_residual-in_err-text_of.result _ _
    (no_text input read.ensures.whole within c.as_slice.ensures.value read.ensures.works) refused

pub returns-clause-text : goal.returns-clause-text
returns-clause-text g c =
    let read = c.in_ok-kept in
    let within : length read.field-0.items ≤ INPUT_LIMIT = search rules in
    let text = c.in_ok-text_of.ensures in
    gives_bytes read.ensures.whole within c.as_slice.ensures.value text.utf8 text.same tt
