use Rattle.yf_laws.proofs.FormattingsAre.{each_formatting_holds}
use Rattle.yf_laws.proofs.every_text.formattings_hold.Goals as goal

pub returns : goal.returns
returns c = each_formatting_holds
