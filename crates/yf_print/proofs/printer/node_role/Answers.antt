use Rattle.std.proofs.Common.{arith}
use Rattle.yf_print.specs.Passes.Pages.{form_at, placed_at}
use Rattle.yf_print.proofs.Pass.AwaitedLemmas.{awaited_on_top}
use Rattle.yf_print.proofs.printer.node_role.Goals as goal

pub returns-then-count-gt0-clause-levels : goal.returns-then-count-gt0-clause-levels
returns-then-count-gt0-clause-levels c =
    awaited_on_top c.next_role.result (form_at c.args.page.now c.args.i) (placed_at c.args.page.now c.args.i).entry c.args.levels.now.items c.len-count.result
    c.index_mut.result.now c.next_role.new.level (omega (arith, c.len-count.ensures, c.args.levels.now.ok.0)) c.if-count-gt0.true
    c.index_mut.ensures.value c.next_role.ensures.level
