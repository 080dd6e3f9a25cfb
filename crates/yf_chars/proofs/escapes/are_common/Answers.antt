use Rattle.yf_chars.proofs.CommonLanes.{all_told, common_all}
use Rattle.yf_chars.proofs.escapes.are_common.Goals as goal

pub returns-clause-common : goal.returns-clause-common
returns-clause-common c = common_all _ _ (rw c.as_bytes.ensures.value at c.all_common.ensures)

pub returns-clause-all : goal.returns-clause-all
returns-clause-all c = all_told _ _ (rw c.as_bytes.ensures.value at c.all_common.ensures)
