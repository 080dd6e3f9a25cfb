use Rattle.yf_stream.proofs.TagPass.DeclaringLemmas.{Declaring}
use Rattle.yf_stream.proofs.declarations.declare_all.Given as goal

abbrev pub invariant-loop-directive : goal.invariant-loop-directive
invariant-loop-directive l = Declaring l.directives l.initial.handles l.initial.first l.directive-index l.has_version l.handles l.first
