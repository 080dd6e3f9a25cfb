use Rattle.std.proofs.Common.{[], ◌∷◌, ◌++◌, subst, arith}
use Rattle.yf_chars.specs.Chain.{Many}
use Rattle.yf_chars.specs.Chain.Chain.{done}
use Rattle.yf_chars.specs.Class.{is_nb_char}
use Rattle.yf_chars.specs.Text.{code}
use Rattle.yf_chars.proofs.ChainLemmas.{many_more}
use Rattle.yf_chars.proofs.nb_runs.ascii_run.Goals as goal

pub loop-end-init : goal.loop-end-init
loop-end-init c = record { run = ([], done); boundary = c.requires; order = omega arith }

pub loop-end-smaller : goal.loop-end-smaller
loop-end-smaller c = omega (arith, c.loop-end-test.ensures.read.within)

pub loop-end-preserved : goal.loop-end-preserved
loop-end-preserved c =
    let t = c.args.s.now in
    let r = c.loop-end-test.ensures.read in
    let w = c.loop-end.invariant.run in
    record {
      run = (
        w.0 ++ code t c.loop-end.end ∷ [],
        subst (λ j. Many t is_nb_char c.args.at j (w.0 ++ code t c.loop-end.end ∷ [])) r.end (many_more t is_nb_char w.1 c.loop-end-test.ensures.class),
      );
      boundary = r.boundary;
      order = omega (arith, c.loop-end.invariant.order);
    }
