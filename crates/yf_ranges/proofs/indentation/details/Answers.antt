use Rattle.std.proofs.Common.{arith}
use Rattle.yf_ranges.proofs.IndentLemmas.{all_told, first_told}
use Rattle.yf_ranges.proofs.indentation.details.Goals as goal

pub loop-i-init : goal.loop-i-init
loop-i-init c =
    first_told c.args.src.now c.args.reading.now c.args.style.now c.in_ok-pass.pass.columns.items c.in_ok-pass.pass.begun _ c.new-details.result.items
    c.in_ok-pass.ensures.pass c.in_ok-pass.ensures.stack c.new-details.ensures.items

pub loop-i-preserved : goal.loop-i-preserved
loop-i-preserved c = c.in_ok-line.ensures c.loop-i.invariant

pub returns : goal.returns
returns c = all_told c.args.src.now c.args.reading.now c.args.style.now _ _ c.loop-i.i _ c.loop-i.details.items (omega (arith, c.len-i-end.ensures, c.loop-i-test.false)) c.loop-i.invariant
