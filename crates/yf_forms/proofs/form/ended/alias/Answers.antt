use Rattle.std.proofs.Common.{◌≡◌, ap, refl, Some}
use Rattle.yf_forms.specs.NormalForms.Measures.{width_if}
use Rattle.std.specs.Prelude.{true, ◌∷◌}
use Rattle.yf_forms.proofs.Measure.StepLemmas.{head_wide}
use Rattle.yf_forms.proofs.form.ended.alias.Goals as goal

pub returns-clause-ended : goal.returns-clause-ended
returns-clause-ended c =
    let w = head_wide 42 c.args.name.now c.char_count.result c.saturating_add.result refl c.char_count.ensures.count c.saturating_add.ensures in
    let e : Some c.saturating_add.result ≡ width_if true (42 ∷ c.args.name.now) = ap Some w in
    rw (c.leaf.ensures, e) refl
