use Rattle.std.proofs.Common.{sym, ◌∙◌}
use Rattle.yf_events.proofs.LeafRuns.{ends_at}
use Rattle.yf_events.proofs.leaves.ends_after.Goals as goal

pub returns-then-i-len : goal.returns-then-i-len
returns-then-i-len c = c.is_end.ensures ∙ sym (ends_at c.args.events.now _ _ c.event.ensures)
