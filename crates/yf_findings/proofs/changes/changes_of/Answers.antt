use Rattle.std.proofs.Common.{arith}
use Rattle.yf_findings.proofs.ChangeLemmas.{later_cut, no_more_hunks, one_more_of}
use Rattle.yf_findings.proofs.changes.changes_of.Goals as goal

pub loop-k-init : goal.loop-k-init
loop-k-init c = record {
  within = omega arith;
  cut = c.requires;
  changes = no_more_hunks c.args.src.now.text c.args.formatted.now c.new-changes.result.items
      c.new-changes.ensures.items;
}

pub loop-k-preserved : goal.loop-k-preserved
loop-k-preserved c =
    let k = c.loop-k.k in
    let hunks = c.args.hunks.now in record {
      within = omega (arith, c.loop-k-test.true);
      cut = later_cut c.args.src.now.text c.args.formatted.now hunks k c.loop-k-test.true c.loop-k.invariant.cut;
      changes = one_more_of hunks k _ c.loop-k-test.true c.loop-k.invariant.changes c.in_ok-change.ensures
          c.in_ok-push.ensures.items;
    }
