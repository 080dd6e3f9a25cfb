-- The state between two steps of the script.
use Rattle.std.proofs.Common.{drop}
use Rattle.yf_positions.proofs.FollowLemmas.{Walk}
use Rattle.yf_positions.proofs.text_edit.edits_between.Given as goal

abbrev pub invariant-loop-step : goal.invariant-loop-step
invariant-loop-step l = Walk l.encoding l.document l.new l.edits.items l.from.old l.from.new l.to.old l.to.new
    l.step-items (drop l.step-index l.step-items)
