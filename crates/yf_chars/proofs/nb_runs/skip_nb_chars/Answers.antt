use Rattle.std.proofs.Common.{◌++◌, sym, ap, ◌∙◌, arith}
use Rattle.yf_chars.specs.Class.{is_nb_char}
use Rattle.yf_chars.specs.ClassEnds.{no_nb_char}
use Rattle.yf_chars.proofs.ChainLemmas.{chain_append}
use Rattle.yf_chars.proofs.NbLemmas.{nb_more}
use Rattle.yf_chars.proofs.nb_runs.skip_nb_chars.Goals as goal

pub chars-preserved-then-c-gt126 : goal.chars-preserved-then-c-gt126
chars-preserved-then-c-gt126 c =
    let r = c.in-Some.ensures in
    record {
      run = nb_more c.chars.invariant.run r (sym c.is_nb_char.ensures ∙ c.if-not-is_nb_char.false);
      boundary = r.boundary;
      order = omega (arith, r.later, c.chars.invariant.order);
    }

pub chars-preserved : goal.chars-preserved
chars-preserved c =
    let r = c.in-Some.ensures in
    let more = nb_more c.chars.invariant.run r (sym c.is_nb_char.ensures ∙ c.if-not-is_nb_char.false) in
    let follows = c.ascii_run-end-else-c-gt126.ensures in
    record {
      run = (more.0 ++ follows.chars.0, chain_append more.1 follows.chars.1);
      boundary = follows.boundary;
      order = omega (arith, r.later, c.chars.invariant.order, follows.order);
    }

pub returns-in-None-clause-all : goal.returns-in-None-clause-all
returns-in-None-clause-all c = ap is_nb_char c.in-None.ensures.0 ∙ no_nb_char
