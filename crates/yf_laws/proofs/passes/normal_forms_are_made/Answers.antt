use Rattle.yf_laws.proofs.NormalForms.FormsHandedOn.{normal_made}
use Rattle.yf_laws.proofs.passes.normal_forms_are_made.Goals as goal

pub returns : goal.returns
returns c = normal_made
