use Rattle.std.proofs.Common.{◌++◌, ◌∷◌, [], ap, ◌∙◌, append_assoc, arith}
use Rattle.json.specs.Token.{begin_array}
use Rattle.yf_report.proofs.JsonLemmas.{added}
use Rattle.yf_report.proofs.SarifLemmas.{left_results, results_more, results_end}
use Rattle.yf_report.proofs.sarif.write_results.Goals as goal

pub loop-problem-init : goal.loop-problem-init
loop-problem-init c =
    let h = added c.in_ok-begin_array.ensures in
    record {
      before = h.before;
      tokens = ap (λ l. l ++ left_results c.args.problems.now) h.tokens
          ∙ append_assoc c.args.out.now.tokens (begin_array ∷ []) (left_results c.args.problems.now);
    }

pub loop-problem-preserved : goal.loop-problem-preserved
loop-problem-preserved c =
    let l = c.loop-problem in
    let h = c.in_ok-write_result.ensures in
    record {
      before = h.before ∙ l.invariant.before;
      tokens = results_more l.problem-index c.args.problems.now _ (omega arith) h l.invariant.tokens;
    }

pub returns : goal.returns
returns c =
    let l = c.loop-problem in
    results_end l.problem-index c.args.problems.now c.args.out.now l.out c.end_array.new.self (omega arith)
    l.invariant.before l.invariant.tokens (added c.in_ok-end_array.ensures)
