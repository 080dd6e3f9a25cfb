use Rattle.std.proofs.Common.{List, subst, sym}
use Rattle.std.specs.Prelude.{map}
use Rattle.std.proofs.lemmas.Result.{on_ok_weaker}
use Rattle.yf_ranges.specs.Details.{RuleDetails}
use Rattle.yf_ranges.specs.declared.detail.Detail.{Detail}
use Rattle.yf_server.specs.Analysis.{problem_read}
use Rattle.yf_problems.specs.Problems.{AreShown}
use Rattle.yf_problems.proofs.ProblemLemmas.{found_more}
use Rattle.yf_problems.proofs.problems.add_rule.Goals as goal

pub returns : goal.returns
returns c =
    let src = c.args.src.now in
    let r = c.args.reading.now in
    let style = c.args.style.now in
    let rule = c.args.rule.now in
    let read = subst (λ (d : List Detail). RuleDetails rule src r style d) (sym c.as_slice.ensures.value)
    c.in_ok-details.ensures in
    let shown = subst (λ (s : List Detail). AreShown rule src r style c.as_slice.result.now s)
    (sym c.as_slice-2.ensures.value) (c.in_ok-shown.ensures r style c.requires) in
    λ rules. on_ok_weaker c.add_all.result (λ more. found_more src r style rule c.as_slice.result.now
    c.as_slice-2.result.now c.id.result.now (map problem_read c.args.problems.now.items)
    (map problem_read c.add_all.new.problems.items) c.id.ensures read shown more rules) c.add_all.ensures
