use Rattle.std.proofs.Common.{◌∙◌}
use Rattle.yf_command_line.proofs.WordLemmas.{one_more_text}
use Rattle.yf_command_line.proofs.without.add_names.Goals as goal

pub loop-part-preserved : goal.loop-part-preserved
loop-part-preserved c =
    let copy = c.new.ensures ∙ c.in_ok-from_str.ensures.ok in
    one_more_text c.as_slice-part-items.result.now c.loop-part.part-index _ _ _ _ _ c.loop-part-test.true
    c.in_ok-push.ensures.items copy c.loop-part.invariant
