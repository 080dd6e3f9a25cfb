use Rattle.std.proofs.Common.{◌≤◌, IfErr, length, rules}
use Rattle.std.proofs.lemmas.Result.{IfErr-weaker}
use Rattle.yf_rules.specs.Runs.ByteStream.{stream_of}
use Rattle.yf_rules.specs.Runs.Input.{IsNoText}
use Rattle.yf_rules.specs.declared.run.TheConstants.{INPUT_LIMIT}
use Rattle.yf_rules.proofs.Runs.FormattedLemmas.{refused_text}
use Rattle.yf_rules.proofs.Runs.GivenTexts.{given_text, no_text}
use Rattle.yf_findings.proofs.TextLemmas.{read_checked}
use Rattle.yf_findings.proofs.reading.read_problems.Goals as goal

pub returns-in_err-text-clause-refusals : goal.returns-in_err-text-clause-refusals
returns-in_err-text-clause-refusals g c =
    let input = stream_of g.R.Read.remaining g.R.Source.has_failed c.args.reader.now in
    let read = c.in_ok-kept in
    let within : length read.field-0.items ≤ INPUT_LIMIT = search rules in
    let refused : IfErr c.from_residual-in_err-text.result (IsNoText c.as_slice.result.now) = search rules in
    IfErr-weaker c.from_residual-in_err-text.result _ _
    (no_text input read.ensures.whole within c.as_slice.ensures.value read.ensures.works) refused

pub returns-clause-problems : goal.returns-clause-problems
returns-clause-problems g c =
    let read = c.in_ok-kept in
    let within : length read.field-0.items ≤ INPUT_LIMIT = search rules in
    let text = c.in_ok-text.ensures in
    let given = given_text read.ensures.whole within c.as_slice.ensures.value text.utf8 text.same in
    read_checked (g.R.Read.remaining c.args.reader.now) c.problems_in.result c.args.asked c.args.without.now
    c.args.style.now c.in_ok-text.text.now given.gave given.within given.utf8 c.problems_in.ensures.found
    c.problems_in.ensures.changes

pub returns-clause-refusals : goal.returns-clause-refusals
returns-clause-refusals g c =
    let input = stream_of g.R.Read.remaining g.R.Source.has_failed c.args.reader.now in
    let read = c.in_ok-kept in
    let within : length read.field-0.items ≤ INPUT_LIMIT = search rules in
    let text = c.in_ok-text.ensures in
    let given = given_text read.ensures.whole within c.as_slice.ensures.value text.utf8 text.same in
    IfErr-weaker c.problems_in.result _ _ (refused_text input given read.ensures.works) c.problems_in.ensures.refuses
