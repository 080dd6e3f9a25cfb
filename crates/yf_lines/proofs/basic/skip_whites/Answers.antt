use Rattle.std.proofs.Common.{◌≡◌, [], ◌∷◌, ◌++◌, true, sym, subst, arith}
use Rattle.yf_chars.specs.Chain.{Many}
use Rattle.yf_chars.specs.Chain.Chain.{done}
use Rattle.yf_chars.specs.Class.{is_white}
use Rattle.yf_chars.specs.Text.{code}
use Rattle.yf_chars.proofs.ChainLemmas.{many_more}
use Rattle.yf_lines.proofs.basic.skip_whites.Goals as goal

pub loop-end-init : goal.loop-end-init
loop-end-init c = record { whites = ([], done); boundary = c.requires; order = omega arith }

pub loop-end-preserved : goal.loop-end-preserved
loop-end-preserved c =
    let t = c.args.s.now in
    let r = c.loop-end-test.ensures.read in
    let w = c.loop-end.invariant.whites in
    let e : is_white (code t c.loop-end.end) ≡ true = sym c.loop-end-test.ensures.value in
    record {
      whites = (
        w.0 ++ code t c.loop-end.end ∷ [],
        subst (λ j. Many t is_white c.args.at j (w.0 ++ code t c.loop-end.end ∷ [])) r.end (many_more t is_white w.1 e),
      );
      boundary = r.boundary;
      order = omega (arith, c.loop-end.invariant.order);
    }
