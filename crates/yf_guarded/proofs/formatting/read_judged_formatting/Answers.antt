use Rattle.std.proofs.Common.{◌≤◌, IfErr, length, rules}
use Rattle.std.proofs.lemmas.Result.{IfErr-weaker, IfOk-weaker}
use Rattle.yf_rules.specs.Runs.ByteStream.{stream_of}
use Rattle.yf_rules.specs.Runs.Input.{IsNoText}
use Rattle.yf_rules.specs.declared.run.TheConstants.{INPUT_LIMIT}
use Rattle.yf_rules.proofs.Runs.FormattedLemmas.{refused_text}
use Rattle.yf_rules.proofs.Runs.GivenTexts.{given_text, no_text}
use Rattle.yf_guarded.proofs.JudgeLemmas.{gives_bytes}
use Rattle.yf_guarded.proofs.formatting.read_judged_formatting.Goals as goal

pub returns-in_err-text-clause-refusals : goal.returns-in_err-text-clause-refusals
returns-in_err-text-clause-refusals g c =
    let input = stream_of g.R.Read.remaining g.R.Source.has_failed c.args.reader.now in
    let read = c.in_ok-kept in
    let within : length read.field-0.items ≤ INPUT_LIMIT = search rules in
    let refused : IfErr c.from_residual-in_err-text.result (IsNoText c.as_slice.result.now) = search rules in
    IfErr-weaker c.from_residual-in_err-text.result _ _
    (no_text input read.ensures.whole within c.as_slice.ensures.value read.ensures.works) refused

pub returns-clause-formatted : goal.returns-clause-formatted
returns-clause-formatted g c =
    let read = c.in_ok-kept in
    let within : length read.field-0.items ≤ INPUT_LIMIT = search rules in
    let text = c.in_ok-text.ensures in
    IfOk-weaker c.judged_formatting.result _ _
    (λ verdict is. gives_bytes read.ensures.whole within c.as_slice.ensures.value text.utf8 text.same is)
    c.judged_formatting.ensures.formatted

pub returns-clause-refusals : goal.returns-clause-refusals
returns-clause-refusals g c =
    let input = stream_of g.R.Read.remaining g.R.Source.has_failed c.args.reader.now in
    let read = c.in_ok-kept in
    let within : length read.field-0.items ≤ INPUT_LIMIT = search rules in
    let text = c.in_ok-text.ensures in
    let given = given_text read.ensures.whole within c.as_slice.ensures.value text.utf8 text.same in
    IfErr-weaker c.judged_formatting.result _ _ (refused_text input given read.ensures.works) c.judged_formatting.ensures.refuses
