-- The details so far have their values.
use Rattle.std.proofs.Common.{take}
use Rattle.yf_events.specs.declared.lists.Lists.{Lists}
use Rattle.yf_forms.specs.declared.style.Style.{Style}
use Rattle.yf_problems.specs.Problems.{AreShown}
use Rattle.yf_ranges.specs.Known.{AreKnown}
use Rattle.yf_problems.proofs.values.with_values.Given as goal

abbrev pub invariant-loop-detail : goal.invariant-loop-detail
invariant-loop-detail l = (reading : Lists) (style : Style) → AreKnown l.src reading style l.known
    → AreShown l.rule l.src reading style (take l.detail-index l.details) l.shown.items
