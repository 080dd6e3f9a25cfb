use Rattle.std.proofs.Common.{subst}
use Rattle.std.proofs.lemmas.Result.{IfOk-weaker}
use Rattle.yf_forms.specs.Passes.FoundInPass.{FoundInPass}
use Rattle.yf_forms.specs.NormalForms.Normal.{setting_of}
use Rattle.yf_forms.proofs.Measure.StepLemmas.{measured_in_pass}
use Rattle.yf_forms.proofs.form.measure.measure_all.Goals as goal

pub returns : goal.returns
returns c =
    IfOk-weaker c.measure_text.result _ _
    (λ m h s. measured_in_pass (subst (λ w. FoundInPass w (setting_of c.args.reading.now c.args.style.now) c.args.reading.now.events m) c.text.ensures (h s)))
    c.measure_text.ensures
