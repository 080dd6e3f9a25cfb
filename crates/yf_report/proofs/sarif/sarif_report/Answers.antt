use Rattle.std.proofs.Common.{map, ◌++◌, ap, ◌∙◌}
use Rattle.yf_report.specs.Fixes.{fixed_of}
use Rattle.yf_report.specs.Sarif.{described, log_json}
use Rattle.json.specs.Tree.{json_tokens}
use Rattle.yf_report.proofs.JsonLemmas.{added, read_is}
use Rattle.yf_report.proofs.SarifLemmas.{log_depth, log_written}
use Rattle.yf_report.proofs.SarifBack.{results_back}
use Rattle.yf_report.proofs.sarif.sarif_report.Goals as goal

pub returns-clause-value : goal.returns-clause-value
returns-clause-value c =
    let rs = map described c.args.rules.now in
    let fs = map fixed_of c.args.problems.now in
    let all = log_written rs fs c.in_ok-write_head.ensures c.in_ok-write_tool.ensures c.in_ok-write_text.ensures
    (added c.in_ok-key.ensures) c.in_ok-write_results.ensures (added c.in_ok-end_object.ensures)
    (added c.in_ok-end_array.ensures) (added c.in_ok-end_object-2.ensures) in
    read_is (log_json rs fs) c.end_object-2.new.self c.into_inner.result.items (log_depth rs fs)
    (all.tokens ∙ ap (λ l. l ++ json_tokens (log_json rs fs)) c.new-out.ensures.tokens)
    (all.before ∙ c.new-out.ensures.before ∙ c.new.ensures.items)
    c.into_inner.ensures.items c.into_inner.ensures.reads_back

pub returns-clause-reads_back : goal.returns-clause-reads_back
returns-clause-reads_back c =
    results_back (map described c.args.rules.now) (map fixed_of c.args.problems.now) c.into_inner.result.items
    (returns-clause-value c)
