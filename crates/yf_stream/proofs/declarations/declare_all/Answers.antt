use Rattle.std.proofs.Common.{length, refl}
use Rattle.std.proofs.lemmas.Option.{slice_get_read}
use Rattle.yf_stream.proofs.TagPass.DeclaringLemmas.{declaring_begins, declaring_ends, declaring_on}
use Rattle.yf_stream.proofs.declarations.declare_all.Goals as goal

pub loop-directive-init : goal.loop-directive-init
loop-directive-init c = declaring_begins c.args.directives.now c.args.handles.now c.args.first.now

pub loop-directive-preserved : goal.loop-directive-preserved
loop-directive-preserved c =
    let i = c.loop-directive.directive-index in
    let xs = c.args.directives.now in
    let d = c.directive-item.result in
    declaring_on c.loop-directive.invariant (slice_get_read xs (length xs) i d refl c.loop-directive-test.true c.directive-item.is)
    c.in_ok-has_version.ensures.handles c.in_ok-has_version.ensures.found c.in_ok-has_version.ensures.seen

pub returns : goal.returns
returns c = let e = declaring_ends c.loop-directive.invariant c.loop-directive-test.false in record { handles = e.0; found = e.1 }
