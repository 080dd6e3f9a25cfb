use Rattle.std.proofs.Common.{codes, subst, ◌∙◌}
use Rattle.json.specs.Json.{string}
use Rattle.yf_report.specs.Members.{Adds, member_tokens}
use Rattle.yf_report.specs.Fixes.{fixed_of}
use Rattle.yf_report.proofs.JsonLemmas.{added}
use Rattle.yf_report.proofs.SarifLemmas.{result_written}
use Rattle.yf_report.proofs.sarif.write_result.Goals as goal

pub returns : goal.returns
returns c =
    let named = subst (λ s. Adds c.write_text.new.out c.write_text-2.new.out (member_tokens (codes "level") (string s)))
    c.name.ensures c.in_ok-write_text-2.ensures in
    result_written (fixed_of c.args.problem.now) c.as_str-name.result.now
    (c.as_str-name.ensures.value ∙ c.in_ok-uri.ensures) (added c.in_ok-begin_object.ensures)
    c.in_ok-write_text.ensures named c.in_ok-write_message.ensures c.in_ok-write_place.ensures
    c.in_ok-write_related.ensures c.in_ok-write_fix.ensures c.in_ok-write_properties.ensures
    (added c.in_ok-end_object.ensures)
