use Rattle.std.proofs.Common.{subst, sym}
use Rattle.std.specs.List.Sorted.{IsNonDecreasingBy}
use Rattle.yf_comments.specs.Comment.{CommentValue}
use Rattle.yf_forms.specs.Nodes.FlowsAlone.{flows_alone}
use Rattle.yf_forms.specs.Passes.FoundInPass.{FoundInPass}
use Rattle.yf_forms.specs.Passes.MeasurePass.{setting}
use Rattle.yf_forms.proofs.Measure.OffsetLemmas.{same_order}
use Rattle.yf_forms.proofs.Measure.StepLemmas.{measured_in_pass}
use Rattle.yf_forms.proofs.form.measure_flows.measure_flows.Goals as goal

pub returns-clause-found : goal.returns-clause-found
returns-clause-found c = λ s.
    let sorted = same_order c.comments.result.now (subst (λ w. IsNonDecreasingBy (λ (d : CommentValue). d.offset) w) (sym c.comments.ensures) s) in
    let es = flows_alone 0 c.args.reading.now.events in
    subst (λ w. FoundInPass w (setting c.args.style.now c.args.reading.now.comments) es c.in_ok-measures.measures) c.text.ensures
    (subst (λ w. FoundInPass c.text.result.now (setting c.args.style.now w) es c.in_ok-measures.measures) c.comments.ensures (c.in_ok-measures.ensures sorted))

pub returns-clause-measured : goal.returns-clause-measured
returns-clause-measured c = λ s. measured_in_pass (returns-clause-found c s)
