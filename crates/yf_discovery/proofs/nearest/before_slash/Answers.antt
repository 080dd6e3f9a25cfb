use Rattle.yf_discovery.proofs.NearestLemmas.{folder_split}
use Rattle.yf_discovery.proofs.nearest.before_slash.Goals as goal

pub returns-in-Some-clause-split : goal.returns-in-Some-clause-split
returns-in-Some-clause-split c =
    folder_split c.args.path.now c.in-Some.front.now c.in-Some.field-0-1.now c.in-Some.ensures.cases
