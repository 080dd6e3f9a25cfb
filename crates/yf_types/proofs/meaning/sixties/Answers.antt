use Rattle.std.proofs.Common.{lt_of_le_of_lt}
use Rattle.yf_types.proofs.SizeLemmas.{part_large, sum_large}
use Rattle.yf_types.proofs.meaning.sixties.Goals as goal

pub returns-in-None-part_after : goal.returns-in-None-part_after
returns-in-None-part_after c =
    λ f. c.in-None-part_after.ensures (lt_of_le_of_lt
    (part_large c.bytes.sum c.bytes.part _ c.bytes.rest.now c.in-len1-up.len_at_least c.bytes.invariant) f)

pub returns-in-None : goal.returns-in-None
returns-in-None c =
    λ f. c.in-None.ensures (lt_of_le_of_lt
    (sum_large c.bytes.sum c.bytes.part _ c.bytes.rest.now c.in-len1-up.len_at_least c.bytes.invariant) f)
