use Rattle.std.proofs.Common.{arith}
use Rattle.yf_chars.specs.Chain.Chain.{done}
use Rattle.yf_chars.proofs.ChainLemmas.{chain_append, chain_more}
use Rattle.yf_quoted.specs.Body.SimpleChar.{simply}
use Rattle.yf_quoted.proofs.double.simple_end.Goals as goal

pub chars-init : goal.chars-init
chars-init c = record { read = (_, done); boundary = c.requires; order = omega arith }

pub returns-then-is_char_at-clause-reads : goal.returns-then-is_char_at-clause-reads
returns-then-is_char_at-clause-reads c = (_, chain_append c.chars.invariant.read.1 c.ordinary_run-run_end.ensures.reads.1)

pub chars-preserved-in-Some : goal.chars-preserved-in-Some
chars-preserved-in-Some c = record {
  read = (_, chain_more c.chars.invariant.read.1 (simply c.in-Some.ensures.reads));
  boundary = c.in-Some.ensures.boundary;
  order = omega (arith, c.chars.invariant.order, c.in-Some.ensures.order);
}

pub chars-preserved : goal.chars-preserved
chars-preserved c = record {
  read = (_, chain_more (chain_append c.chars.invariant.read.1 c.ordinary_run-run_end.ensures.reads.1) (simply c.in-Some-simple_char.ensures.reads));
  boundary = c.in-Some-simple_char.ensures.boundary;
  order = omega (arith, c.chars.invariant.order, c.ordinary_run-run_end.ensures.order, c.in-Some-simple_char.ensures.order);
}
