use Rattle.std.proofs.Common.{[], arith}
use Rattle.yf_chars.specs.Chain.Chain.{done}
use Rattle.yf_chars.proofs.ChainLemmas.{chain_more}
use Rattle.yf_props.proofs.tag.skip_chars.Goals as goal

pub chars-init : goal.chars-init
chars-init c = record { run = ([], done); boundary = c.requires; order = omega arith }

pub chars-preserved : goal.chars-preserved
chars-preserved c = record {
  run = (_, chain_more c.chars.invariant.run.1 c.in-Some.ensures.reads.1);
  boundary = c.in-Some.ensures.boundary;
  order = omega (arith, c.chars.invariant.order, c.in-Some.ensures.order);
}
