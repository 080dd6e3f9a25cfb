use Rattle.json.specs.Value.{value_view}
use Rattle.yf_baseline.proofs.ReadLemmas.{number_is}
use Rattle.yf_baseline.proofs.read.number_in.Goals as goal

pub returns-in-Some : goal.returns-in-Some
returns-in-Some c =
    number_is c.args.name.now (value_view c.args.value.now) (value_view c.in-Some.member.now) c.as_u64.result
    c.in-Some.ensures c.as_u64.ensures
