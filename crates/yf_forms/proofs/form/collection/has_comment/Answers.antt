use Rattle.std.proofs.Common.{◌≡◌, ◌∙◌, ap, map, rules, subst}
use Rattle.std.specs.List.{list_any}
use Rattle.std.specs.Prelude.{is_some}
use Rattle.yf_comments.specs.Comment.{comment_value}
use Rattle.yf_comments.specs.declared.comment.Comment.{Comment}
use Rattle.yf_forms.specs.Nodes.OneLineFlows.{is_within}
use Rattle.yf_forms.specs.Passes.Searches.{TellsHalving}
use Rattle.yf_forms.proofs.Decide.HalvingEnds.{tells_halving}
use Rattle.yf_forms.proofs.Measure.StepLemmas.{by_found}
use Rattle.yf_forms.proofs.form.collection.has_comment.Goals as goal

pub returns-in-Some-clause-has : goal.returns-in-Some-clause-has
returns-in-Some-clause-has c = λ s.
    let e : c.is_some.result ≡ is_some c.first_between.result = search rules in
    rw c.in-Some.is (e ∙ by_found (is_within c.content_start-start.result c.in-Some.span.end) c.args.comments.now c.first_between.result c.first_between.ensures.within (c.first_between.ensures.first s)
    ∙ ap (λ n. list_any (is_within n c.in-Some.span.end) (map comment_value c.args.comments.now)) c.content_start-start.ensures)

pub returns-in-Some-clause-ends : goal.returns-in-Some-clause-ends
returns-in-Some-clause-ends c =
    let e : c.is_some.result ≡ is_some c.first_between.result = search rules in
    rw c.in-Some.is
    (subst (λ n. TellsHalving (map (λ (x : Comment). x.offset) c.args.comments.now) n c.in-Some.span.end c.is_some.result) c.content_start-start.ensures
    (tells_halving e c.first_between.ensures.ends))
