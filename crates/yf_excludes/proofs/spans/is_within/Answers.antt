use Rattle.std.proofs.Common.{◌<◌, length, refl, rules}
use Rattle.yf_excludes.specs.Spans.{from_here}
use Rattle.yf_excludes.proofs.SpansLemmas.{run_forth, run_back, rest_forth, rest_back}
use Rattle.yf_excludes.proofs.spans.is_within.Goals as goal

pub returns-in-Whole : goal.returns-in-Whole
returns-in-Whole g c = (λ _. c.loop-n.invariant.back (from_here c.in-Whole.ensures), λ _. refl)

pub loop-n-preserved-in-Run : goal.loop-n-preserved-in-Run
loop-n-preserved-in-Run g c = record {
  forth = λ w. run_forth c.in-Run.ensures c.after_index-pieces.ensures c.from_index-items.ensures
      (c.loop-n.invariant.forth w);
  back = λ w. c.loop-n.invariant.back (from_here
      (run_back c.in-Run.ensures c.after_index-pieces.ensures c.from_index-items.ensures w));
}

pub loop-n-preserved : goal.loop-n-preserved
loop-n-preserved g c =
    let some : 0 < length c.loop-n.items.now = search rules in
    record {
      forth = λ w. rest_forth c.in-Neither.ensures c.from_index-items-in-Neither.ensures (c.loop-n.invariant.forth w);
      back = λ w. c.loop-n.invariant.back (rest_back some c.from_index-items-in-Neither.ensures w);
    }
