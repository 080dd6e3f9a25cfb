use Rattle.std.proofs.Common.{map}
use Rattle.std.specs.Prelude.{reverse}
use Rattle.std.specs.List.Sorted.{IsNonDecreasingBy}
use Rattle.yf_comments.specs.Comment.{comment_value}
use Rattle.yf_comments.specs.declared.comment.Comment.{Comment}
use Rattle.yf_forms.specs.Passes.MeasurePass.{setting}
use Rattle.yf_forms.proofs.Measure.StepLemmas.{Runs, Texts}
use Rattle.yf_forms.proofs.form.measure.measured.Given as goal

abbrev pub invariant-loop-i : goal.invariant-loop-i
invariant-loop-i l =
    (IsNonDecreasingBy (λ (c : Comment). c.offset) l.comments → Runs l.text (setting l.style (map comment_value l.comments)) l.reading.events l.i l.list (reverse l.stack.items))
    × Texts l.reading.events l.i
