use Rattle.yf_laws.proofs.NormalForms.FormsHandedOn.{kept_so}
use Rattle.yf_laws.proofs.passes.formattings_are_kept.Goals as goal

pub returns : goal.returns
returns c = λ t r m s ms fs u handed is. kept_so handed u is
