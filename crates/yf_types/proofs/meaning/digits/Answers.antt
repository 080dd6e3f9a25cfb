use Rattle.std.proofs.Common.{lt_of_le_of_lt}
use Rattle.yf_types.proofs.SizeLemmas.{digits_end, digits_large}
use Rattle.yf_types.proofs.meaning.digits.Goals as goal

pub returns-in-empty : goal.returns-in-empty
returns-in-empty c = digits_end c.args.base c.bytes.n _ c.bytes.rest.now c.in-empty.len_below c.bytes.invariant

pub returns-in-None : goal.returns-in-None
returns-in-None c =
    λ f. c.in-None.ensures (lt_of_le_of_lt
    (digits_large c.args.base c.bytes.n _ c.bytes.rest.now c.requires c.in-len1-up.len_at_least c.bytes.invariant.1) f)
