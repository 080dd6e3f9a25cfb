-- The part of the forms that a pass over the events needs to find each needless `?`.
use Rattle.std.specs.Prelude.{◌≡◌, ℕ, List, get_or}
use Rattle.yf_forms.specs.NormalForms.Forms.{no_form}
use Rattle.yf_forms.specs.Nodes.ImplicitKeys.{begins_implicit}
use Rattle.yf_forms.specs.Nodes.SingleNodes.{block_keys}
use Rattle.yf_forms.specs.declared.form.decide.Form.{Form}
use Rattle.yf_forms.specs.declared.style.Style.{Style}
use Rattle.yf_events.specs.Tree.{DocumentTree}
use Rattle.yf_events.specs.declared.lists.Lists.{Lists}

-- `is_implicit` of each form is `true` if and only if the event begins an implicit key
pub record TellsKeys (t : List ℕ) (r : Lists) (house : Style) (trees : List DocumentTree) (forms : List Form) : Type 0 where
  pub tells : (i : ℕ) → (get_or forms i no_form).is_implicit ≡ begins_implicit (block_keys t r house trees) i
