use Rattle.std.proofs.Common.{◌≡◌, ◌+◌, drop}
use Rattle.yf_print.specs.Passes.Drafts.{draft}
use Rattle.yf_print.specs.Passes.PrintPass.{events_noted}
use Rattle.yf_print.specs.Passes.Pages.{work_on}
use Rattle.yf_print.proofs.leaves.note_within.Given as goal

abbrev pub invariant-loop-k : goal.invariant-loop-k
invariant-loop-k l =
    events_noted (work_on l.page) l.last l.k (drop l.k l.page.reading.now.events) (draft l.output)
    ≡ events_noted (work_on l.page) l.last (l.first + 1) (drop (l.first + 1) l.page.reading.now.events) (draft l.initial.output)
