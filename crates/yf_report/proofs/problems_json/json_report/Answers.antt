use Rattle.std.proofs.Common.{map, ◌∙◌, arith}
use Rattle.yf_report.specs.Problems.{finding_of}
use Rattle.yf_report.specs.ProblemsJson.{report_json}
use Rattle.yf_report.proofs.JsonLemmas.{written_more, all_tokens, text_is, read_is, reads_back, report_depth}
use Rattle.yf_report.proofs.problems_json.json_report.Goals as goal

pub loop-problem-preserved : goal.loop-problem-preserved
loop-problem-preserved c =
    let l = c.loop-problem in
    let written = c.in_ok-write_problem.ensures in
    record {
      before = written.before ∙ l.invariant.before;
      tokens = written_more l.problem-index c.args.problems.now _ (omega arith) written l.invariant.tokens;
    }

pub returns-clause-text : goal.returns-clause-text
returns-clause-text c =
    let l = c.loop-problem in
    let v = c.end_array.new.self in
    let all = all_tokens c.args.problems.now l.problem-index l.out v
    (omega arith) l.invariant.tokens c.in_ok-end_array.ensures.ok in
    text_is _ v _ all (c.in_ok-end_array.ensures.room.0 ∙ l.invariant.before) c.into_inner.ensures.items

pub returns-clause-value : goal.returns-clause-value
returns-clause-value c =
    let l = c.loop-problem in
    let v = c.end_array.new.self in
    let all = all_tokens c.args.problems.now l.problem-index l.out v
    (omega arith) l.invariant.tokens c.in_ok-end_array.ensures.ok in
    read_is (report_json (map finding_of c.args.problems.now)) v _
    (report_depth (map finding_of c.args.problems.now)) all
    (c.in_ok-end_array.ensures.room.0 ∙ l.invariant.before) c.into_inner.ensures.items c.into_inner.ensures.reads_back

pub returns-clause-reads_back : goal.returns-clause-reads_back
returns-clause-reads_back c =
    reads_back (map finding_of c.args.problems.now) c.into_inner.result.items (returns-clause-value c)
