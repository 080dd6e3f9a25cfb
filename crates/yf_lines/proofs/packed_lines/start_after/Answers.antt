use Rattle.std.proofs.Common.{sym, refl, arith}
use Rattle.yf_lines.proofs.RowLemmas.{next_within, next_past}
use Rattle.yf_lines.proofs.packed_lines.start_after.Goals as goal

pub returns-then-next-rows : goal.returns-then-next-rows
returns-then-next-rows c = sym (next_within c.args.rows.now c.args.i _ c.args.end _ refl c.if-next-rows.true)

pub returns : goal.returns
returns c = let f = c.if-next-rows.false in sym (next_past c.args.rows.now c.args.i c.args.end (omega (arith, f)))
