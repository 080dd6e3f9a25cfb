use Rattle.std.proofs.Common.{◌∙◌, ap, get_or}
use Rattle.yf_forms.specs.NormalForms.Forms.{no_form}
use Rattle.yf_forms.specs.declared.form.decide.Form.{Form}
use Rattle.yf_forms.proofs.Decide.FlagLemmas.{implicit_there}
use Rattle.yf_forms.proofs.form.decide.implicit_within.Goals as goal

pub returns : goal.returns
returns c = record {
  is = λ w.
      let forms = c.in_ok-forms.ensures.are w.comments c.args.src.now.text c.args.reading.now.comments w.trees w.of_reading w.placed
      (c.in_ok-measures.ensures w.comments) in
      ap (λ (f : Form). f.is_implicit) (c.at.ensures ∙ ap (λ fs. get_or fs c.args.i no_form) forms)
      ∙ implicit_there c.args.src.now.text c.args.reading.now c.args.style.now w.trees c.args.i;
}
