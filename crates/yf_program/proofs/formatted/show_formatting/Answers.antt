use Rattle.std.proofs.Common.{refl}
use Rattle.yf_program.proofs.ShownLemmas.{broke_ran, shown_ran}
use Rattle.yf_program.proofs.formatted.show_formatting.Goals as goal

pub returns-in-Ok-true : goal.returns-in-Ok-true
returns-in-Ok-true g c = rw (← c.streams.view_is)
    (shown_ran c.args.task.now c.args.name.now c.args.bytes.now c.args.formatted.now c.requires _ _ _ c.args.show c.in-Ok-true.field-0 _
    (rw c.in-Ok-true.field-0-test refl) c.in-Ok-true.ensures.shown)

pub returns-in-Ok-false : goal.returns-in-Ok-false
returns-in-Ok-false g c = rw (← c.streams.view_is)
    (shown_ran c.args.task.now c.args.name.now c.args.bytes.now c.args.formatted.now c.requires _ _ _ c.args.show c.in-Ok-false.field-0 _
    (rw c.in-Ok-false.field-0-test refl) c.in-Ok-false.ensures.shown)

pub returns-in-Err : goal.returns-in-Err
returns-in-Err g c = rw (← c.streams.view_is)
    (broke_ran c.args.task.now c.args.name.now c.args.bytes.now c.args.formatted.now c.requires _ _ _ _ c.report_input.result c.args.show c.in-Err.fault
    c.in-Err.ensures.refused c.report_input.ensures)
