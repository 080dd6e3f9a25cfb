use Rattle.std.proofs.Common.{arith}
use Rattle.yf_rule_sets.proofs.Indentation.FaultLemmas.{first_reached}
use Rattle.yf_rule_sets.proofs.Indentation.MisindentLemmas.{pass_done}
use Rattle.yf_rule_sets.proofs.rules.indentation.offsets.Goals as goal

pub loop-i-init : goal.loop-i-init
loop-i-init c =
    first_reached c.args.src.now c.args.reading.now c.args.style.now c.in_ok-pass.pass.columns.items c.in_ok-pass.pass.begun _ c.new-offsets.result.items
    c.in_ok-pass.ensures.pass c.in_ok-pass.ensures.stack c.new-offsets.ensures.items

pub loop-i-preserved : goal.loop-i-preserved
loop-i-preserved c = c.in_ok-line.ensures c.loop-i.invariant

pub returns : goal.returns
returns c = pass_done c.args.src.now c.args.reading.now c.args.style.now _ _ c.loop-i.i _ c.loop-i.offsets.items (omega (arith, c.len-i-end.ensures, c.loop-i-test.false)) c.loop-i.invariant
