use Rattle.yf_events.proofs.SilentRows.{named_seen, silent_seen}
use Rattle.yf_events.proofs.events.Events.naming_from.Goals as goal

pub returns-clause-silent : goal.returns-clause-silent
returns-clause-silent c = λ k l m.
    silent_seen c.self.inside.more.items c.as_slice-2.result.now c.self.inside.rows.items c.as_slice.result.now c.args.self.now k c.as_slice-2.ensures.value c.as_slice.ensures.value
    c.self.view_is (c.naming_from.ensures.silent k l m)

pub returns-clause-ends : goal.returns-clause-ends
returns-clause-ends c =
    named_seen c.self.inside.more.items c.as_slice-2.result.now c.self.inside.rows.items c.as_slice.result.now c.args.self.now c.naming_from.result
    c.as_slice-2.ensures.value c.as_slice.ensures.value c.self.view_is c.naming_from.ensures.ends
