use Rattle.std.proofs.lemmas.List.Elements.{Contains-get_or}
use Rattle.yf_ranges.proofs.known.detail_at.Goals as goal

pub returns-in-Ok : goal.returns-in-Ok
returns-in-Ok c = λ rise. (Contains-get_or c.args.details.now c.in-Ok.index _ c.in-Ok.ensures.bound, c.in-Ok.ensures.searched rise _)

pub returns-in-Err : goal.returns-in-Err
returns-in-Err c = λ rise. c.in-Err.ensures.searched rise
