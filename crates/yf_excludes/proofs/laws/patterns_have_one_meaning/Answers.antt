use Rattle.yf_excludes.proofs.OneMeaningLemmas.{one_meaning}
use Rattle.yf_excludes.proofs.laws.patterns_have_one_meaning.Goals as goal

pub returns : goal.returns
returns c = one_meaning
