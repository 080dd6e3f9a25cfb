use Rattle.std.proofs.Common.{◌++◌, map, ap, ◌∙◌, arith}
use Rattle.std.proofs.lemmas.List.{length-map}
use Rattle.std.proofs.lemmas.Result.{on_ok_weaker}
use Rattle.yf_report.specs.Problems.{finding_of}
use Rattle.yf_report.specs.Xml.{open_tag}
use Rattle.yf_report.specs.XmlText.{tag_text}
use Rattle.yf_report.proofs.JunitLemmas.{errors-le, suite_is}
use Rattle.yf_report.proofs.junit.push_suite.Goals as goal

pub overflow_sub-attributes : goal.overflow_sub-attributes
overflow_sub-attributes c =
    let fs = map finding_of c.args.problems.now in
    omega (arith, errors-le fs, length-map c.args.problems.now finding_of, c.errors-errors.ensures)

pub returns : goal.returns
returns c =
    let same = suite_is c.args.problems.now c.errors-errors.result c.errors-errors.ensures in
    on_ok_weaker c.push_open.result
    (λ e. e ∙ ap (λ l. c.args.out.now.items ++ tag_text (open_tag c.args.name.now l)) same) c.push_open.ensures
