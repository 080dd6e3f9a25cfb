use Rattle.std.proofs.Common.{codes, subst}
use Rattle.json.specs.Json.{string}
use Rattle.yf_report.specs.Members.{Adds, member_tokens}
use Rattle.yf_report.proofs.JsonLemmas.{added, adds_more}
use Rattle.yf_report.proofs.code_quality.write_location.Goals as goal

pub returns : goal.returns
returns c =
    let named = subst (λ s. Adds c.begin_object.new.self c.write_text.new.out (member_tokens (codes "path") (string s)))
    c.name_or_stdin.ensures c.in_ok-write_text.ensures in
    adds_more (added c.in_ok-key.ensures) (adds_more (added c.in_ok-begin_object.ensures)
    (adds_more named (adds_more (added c.in_ok-key-2.ensures) (adds_more (added c.in_ok-begin_object-2.ensures)
    (adds_more c.in_ok-write_position.ensures (adds_more c.in_ok-write_position-2.ensures
    (adds_more (added c.in_ok-end_object.ensures) (added c.in_ok-end_object-2.ensures))))))))
