-- The measure and the form that a packed one holds: it has a flag for each optional number, which is true if the number
-- is present.
use Rattle.std.specs.Prelude.{ℕ, Bool, true, false, Option, Some, None}
use Rattle.yf_forms.specs.declared.form.decide.Form.{Form}
use Rattle.yf_forms.specs.declared.form.forms.PackedForm.{PackedForm}
use Rattle.yf_forms.specs.declared.form.measure.Measure.{Measure}
use Rattle.yf_forms.specs.declared.form.measures.PackedMeasure.{PackedMeasure}

abbrev pub some_if : Bool → ℕ → Option ℕ
some_if true n = Some n
some_if false n = None

abbrev pub measure_in : PackedMeasure → Measure
measure_in p = record {
  last = p.last;
  width = some_if p.has_width p.width;
  can_be_kept = p.can_be_kept;
  first_leaf = some_if p.has_first_leaf p.first_leaf;
  last_leaf = some_if p.has_last_leaf p.last_leaf;
}

abbrev pub form_in : PackedForm → Form
form_in p = record {
  is_kept = p.is_kept;
  is_implicit = p.is_implicit;
  key_comment = some_if p.has_key_comment p.key_comment;
  column = p.column;
}
