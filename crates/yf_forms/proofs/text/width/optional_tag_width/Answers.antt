use Rattle.yf_forms.proofs.Measure.StepLemmas.{nil_wide}
use Rattle.yf_forms.proofs.text.width.optional_tag_width.Goals as goal

pub returns-in-None-clause-width : goal.returns-in-None-clause-width
returns-in-None-clause-width c = rw c.in-None.is nil_wide
