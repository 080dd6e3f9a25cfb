use Rattle.std.proofs.Common.{◌≤◌, ℕ, IfErr, List, length, rules, string_bytes, subst}
use Rattle.std.proofs.lemmas.Result.{IfErr-weaker}
use Rattle.yf_findings.specs.Differences.{AskedChanges, DifferenceFrom}
use Rattle.yf_rules.specs.Runs.ByteStream.{stream_of}
use Rattle.yf_rules.specs.Runs.Input.{IsNoText}
use Rattle.yf_rules.specs.declared.run.TheConstants.{INPUT_LIMIT}
use Rattle.yf_rules.proofs.Runs.FormattedLemmas.{refused_text}
use Rattle.yf_rules.proofs.Runs.GivenTexts.{given_text, no_text}
use Rattle.yf_stream.specs.StreamReader.{StreamFault}
use Rattle.yf_findings.proofs.differences.read_difference.Goals as goal

pub returns-in_err-text-clause-refusals : goal.returns-in_err-text-clause-refusals
returns-in_err-text-clause-refusals g c =
    let input = stream_of g.R.Read.remaining g.R.Source.has_failed c.args.reader.now in
    let read = c.in_ok-kept in
    let within : length read.field-0.items ≤ INPUT_LIMIT = search rules in
    let refused : IfErr c.from_residual-in_err-text.result (IsNoText c.as_slice.result.now) = search rules in
    IfErr-weaker c.from_residual-in_err-text.result _ _
    (no_text input read.ensures.whole within c.as_slice.ensures.value read.ensures.works) refused

pub returns-in_err-formatted-clause-refusals : goal.returns-in_err-formatted-clause-refusals
returns-in_err-formatted-clause-refusals g c =
    let input = stream_of g.R.Read.remaining g.R.Source.has_failed c.args.reader.now in
    let read = c.in_ok-kept in
    let within : length read.field-0.items ≤ INPUT_LIMIT = search rules in
    let text = c.in_ok-text.ensures in
    let refused : IfErr c.from_residual-in_err-formatted.result (StreamFault c.in_ok-text.text.now) = search rules in
    let given = given_text read.ensures.whole within c.as_slice.ensures.value text.utf8 text.same in
    IfErr-weaker c.from_residual-in_err-formatted.result _ _ (refused_text input given read.ensures.works) refused

pub returns-in-Ok-clause-problems : goal.returns-in-Ok-clause-problems
returns-in-Ok-clause-problems g c =
    let read = c.in_ok-kept in
    let within : length read.field-0.items ≤ INPUT_LIMIT = search rules in
    let text = c.in_ok-text.ensures in
    let given = given_text read.ensures.whole within c.as_slice.ensures.value text.utf8 text.same in
    let t = c.in_ok-text.text.now in
    let found = c.in-Ok.found in
    record {
      formatted = string_bytes c.in_ok-formatted.formatted;
      rendered = record { text = t; gave = given.gave; headline = c.in_ok-formatted.ensures.headline };
      problems = subst (λ (u : List ℕ). DifferenceFrom t u found.problems.items) c.as_str.ensures.value
          c.in-Ok.ensures.problems;
      changes = subst (λ (u : List ℕ). AskedChanges c.args.asked t u found.changes.items) c.as_str.ensures.value
          c.in-Ok.ensures.changes;
    }
