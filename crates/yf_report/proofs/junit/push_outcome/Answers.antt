use Rattle.std.proofs.Common.{◌++◌, ap, ◌∙◌}
use Rattle.std.proofs.lemmas.Result.{on_ok_weaker}
use Rattle.yf_report.specs.Problems.{finding_of}
use Rattle.yf_report.specs.XmlText.{tag_text}
use Rattle.yf_report.proofs.JunitLemmas.{outcome_tag_is}
use Rattle.yf_report.proofs.junit.push_outcome.Goals as goal

pub returns : goal.returns
returns c =
    let f = finding_of c.args.problem.now in
    let same = outcome_tag_is f c.outcome_name.result.now c.name.result.now c.outcome_name.ensures c.name.ensures in
    on_ok_weaker c.push_empty.result (λ e. e ∙ ap (λ t. c.args.out.now.items ++ tag_text t) same) c.push_empty.ensures
