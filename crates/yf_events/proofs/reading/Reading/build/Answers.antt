use Rattle.std.proofs.Common.{refl}
use Rattle.yf_events.proofs.Build.{is_nested, not_nested}
use Rattle.yf_events.proofs.reading.Reading.build.Goals as goal

pub invariant_of-result : goal.invariant_of-result
invariant_of-result c = record {
  fits = c.requires;
  stream = is_nested _ c.args.lists _ c.in-Ok-true.ensures c.in-Ok-true.field-0-test;
}

pub returns-in-Ok-true : goal.returns-in-Ok-true
returns-in-Ok-true c = (refl, is_nested _ c.args.lists _ c.in-Ok-true.ensures c.in-Ok-true.field-0-test)

pub returns-in-Ok-false : goal.returns-in-Ok-false
returns-in-Ok-false c = not_nested _ c.args.lists _ c.in-Ok-false.ensures c.in-Ok-false.field-0-test
