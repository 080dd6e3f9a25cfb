use Rattle.yf_report.specs.Problems.{finding_of}
use Rattle.std.proofs.Common.{subst}
use Rattle.json.specs.Json.{string}
use Rattle.yf_report.specs.Members.{Adds, member_tokens}
use Rattle.std.proofs.Common.{codes}
use Rattle.yf_report.proofs.JsonLemmas.{added, object_written}
use Rattle.yf_report.proofs.problems_json.write_problem.Goals as goal

pub returns : goal.returns
returns c =
    let named = subst (λ s. Adds c.write_text.new.out c.write_text-2.new.out
    (member_tokens (codes "severity") (string s)))
    c.name.ensures c.in_ok-write_text-2.ensures in
    object_written (finding_of c.args.problem.now) (added c.in_ok-begin_object.ensures) c.in_ok-write_file.ensures
    c.in_ok-write_range.ensures c.in_ok-write_text.ensures named c.in_ok-write_text-3.ensures
    c.in_ok-write_flag.ensures c.in_ok-write_related.ensures (added c.in_ok-end_object.ensures)
