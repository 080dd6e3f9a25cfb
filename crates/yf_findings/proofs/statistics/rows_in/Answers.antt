use Rattle.yf_findings.proofs.StatisticsLemmas.{each_more, once_more}
use Rattle.yf_findings.proofs.statistics.rows_in.Goals as goal

pub loop-one-preserved : goal.loop-one-preserved
loop-one-preserved c = record {
  each = each_more c.in_ok-add_row.ensures c.loop-one.invariant.each;
  once = once_more c.args.found.now c.args.found.now c.loop-one.one-index _ c.loop-one-test.true c.in_ok-add_row.ensures c.loop-one.invariant.once;
}
