use Rattle.yf_server.proofs.LifecycleLemmas.{each_is_answered}
use Rattle.yf_server.proofs.laws.each_is_answered.Goals as goal

pub returns : goal.returns
returns c = each_is_answered
