-- The counts decide whether a flag is set between two indices.
use Rattle.std.proofs.Common.{arith}
use Rattle.yf_parts.proofs.TryLemmas.{near_past, near_within}
use Rattle.yf_parts.proofs.candidates.is_near.Goals as goal

pub returns-then-reach-flags : goal.returns-then-reach-flags
returns-then-reach-flags c = near_past c.args.counts.now c.args.flags.now c.args.index c.args.reach
    c.saturating_sub-from.result c.requires.counts c.requires.inside
    (omega (arith, c.saturating_sub-from.ensures)) (omega arith)

pub returns : goal.returns
returns c = near_within c.args.counts.now c.args.flags.now c.args.index c.args.reach c.saturating_sub-from.result
    c.requires.counts c.requires.inside
    (omega (arith, c.saturating_sub-from.ensures)) (omega arith)
