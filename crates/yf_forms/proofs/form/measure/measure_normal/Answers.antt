use Rattle.std.proofs.Common.{[], arith}
use Rattle.std.proofs.lemmas.List.Sorted.{IsNonDecreasingBy-short}
use Rattle.std.proofs.lemmas.Result.{IfOk-weaker}
use Rattle.yf_comments.specs.declared.comment.Comment.{Comment}
use Rattle.yf_forms.proofs.Measure.StepLemmas.{measured_in_pass}
use Rattle.yf_forms.proofs.form.measure.measure_normal.Goals as goal

pub returns : goal.returns
returns c = IfOk-weaker c.measured.result _ _ (λ m h. measured_in_pass (h (IsNonDecreasingBy-short (λ (d : Comment). d.offset) [] (omega arith)))) c.measured.ensures
