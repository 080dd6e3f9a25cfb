use Rattle.std.proofs.Common.{map, sym, ◌∙◌}
use Rattle.yf_comments.specs.Comment.{comment_value}
use Rattle.yf_forms.specs.Passes.MeasurePass.{setting}
use Rattle.yf_forms.proofs.Measure.FlowParts.{inside_depth, inside_passed, inside_text, outside_depth, outside_passed, outside_text}
use Rattle.yf_forms.proofs.form.measure_flows.pass_seen.Goals as goal

pub returns-then-is_outside-clause-depth : goal.returns-then-is_outside-clause-depth
returns-then-is_outside-clause-depth c = outside_depth _ _ (sym c.is_outside.ensures ∙ c.if-is_outside.true)

pub returns-then-is_outside-clause-passed : goal.returns-then-is_outside-clause-passed
returns-then-is_outside-clause-passed c =
    λ s l. outside_passed _ (setting c.args.style.now (map comment_value c.args.comments.now)) _ _ _ _ _ _ _ (sym c.is_outside.ensures ∙ c.if-is_outside.true) c.in_ok-push_none.ensures

pub returns-then-is_outside-clause-utf8 : goal.returns-then-is_outside-clause-utf8
returns-then-is_outside-clause-utf8 c = outside_text _ _ (sym c.is_outside.ensures ∙ c.if-is_outside.true)

pub returns-clause-depth : goal.returns-clause-depth
returns-clause-depth c = inside_depth _ _ _ (sym c.is_outside.ensures ∙ c.if-is_outside.false) c.depth_after.ensures

pub returns-clause-passed : goal.returns-clause-passed
returns-clause-passed c =
    λ s l. inside_passed _ (setting c.args.style.now (map comment_value c.args.comments.now)) _ _ _ _ _ _ (sym c.is_outside.ensures ∙ c.if-is_outside.false) (c.in_ok-pass.ensures.passed s l)

pub returns-clause-utf8 : goal.returns-clause-utf8
returns-clause-utf8 c = inside_text _ _ (sym c.is_outside.ensures ∙ c.if-is_outside.false) c.in_ok-pass.ensures.utf8
