use Rattle.std.proofs.Common.{take}
use Rattle.yf_stream.specs.TagPass.{FirstOfBoth}
use Rattle.yf_stream.specs.WellFormed.{escape_breaches}
use Rattle.yf_stream.proofs.breaches.keep_escapes.Given as goal

abbrev pub invariant-loop-offset : goal.invariant-loop-offset
invariant-loop-offset l = FirstOfBoth l.initial.first l.first (escape_breaches (take l.offset-index l.escapes))
