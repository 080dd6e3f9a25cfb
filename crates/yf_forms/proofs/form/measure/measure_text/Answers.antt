use Rattle.std.proofs.Common.{subst, sym}
use Rattle.std.specs.List.Sorted.{IsNonDecreasingBy}
use Rattle.yf_comments.specs.Comment.{CommentValue}
use Rattle.yf_forms.specs.Passes.FoundInPass.{FoundInPass}
use Rattle.yf_forms.specs.Passes.MeasurePass.{setting}
use Rattle.yf_forms.proofs.Measure.OffsetLemmas.{same_order}
use Rattle.yf_forms.proofs.form.measure.measure_text.Goals as goal

pub returns : goal.returns
returns c = λ s.
    let sorted = same_order c.comments.result.now (subst (λ w. IsNonDecreasingBy (λ (d : CommentValue). d.offset) w) (sym c.comments.ensures) s) in
    subst (λ w. FoundInPass c.args.text.now (setting c.args.style.now w) c.args.reading.now.events c.in_ok-measures.measures) c.comments.ensures
    (c.in_ok-measures.ensures sorted)
