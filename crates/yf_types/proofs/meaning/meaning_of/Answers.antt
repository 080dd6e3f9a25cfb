use Rattle.yf_types.proofs.MeaningLemmas.{infinity_is, number_is, sixties_is}
use Rattle.yf_types.proofs.meaning.meaning_of.Goals as goal

pub returns-in-Number : goal.returns-in-Number
returns-in-Number c = number_is c.args.form c.args.text.now c.in-Number.is

pub returns-in-SixtiesNumber : goal.returns-in-SixtiesNumber
returns-in-SixtiesNumber c = sixties_is c.args.form c.args.text.now c.in-SixtiesNumber.is

pub returns-in-Infinity : goal.returns-in-Infinity
returns-in-Infinity c = infinity_is c.args.form c.args.text.now c.in-Infinity.is
