use Rattle.std.proofs.Common.{arith}
use Rattle.yf_events.proofs.SilentRows.{named_row, no_row, one_silent}
use Rattle.yf_events.proofs.packed.naming_from.Goals as goal

pub rows-preserved : goal.rows-preserved
rows-preserved c = record {
  later = omega (arith, c.rows.invariant.later);
  within = omega (arith, c.rows-test.true);
  silent = one_silent c.args.table.now c.args.rows.now c.args.start c.rows.at _ c.rows-test.true c.if-not-is_silent.ensures c.rows.invariant.silent;
}

pub returns-then-not-is_silent-clause-ends : goal.returns-then-not-is_silent-clause-ends
returns-then-not-is_silent-clause-ends c = named_row c.args.table.now c.args.rows.now c.rows.at _ c.rows-test.true c.if-not-is_silent.ensures

pub returns-clause-ends : goal.returns-clause-ends
returns-clause-ends c = no_row c.args.table.now c.args.rows.now c.rows.at (omega (arith, c.rows-test.false))
