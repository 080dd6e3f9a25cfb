use Rattle.yf_stream.proofs.TagPass.FirstLemmas.{escapes_begin, escape_more, escapes_end}
use Rattle.yf_stream.proofs.breaches.keep_escapes.Goals as goal

pub loop-offset-init : goal.loop-offset-init
loop-offset-init c = escapes_begin c.args.escapes.now

pub loop-offset-preserved : goal.loop-offset-preserved
loop-offset-preserved c = escape_more c.args.escapes.now c.loop-offset.offset-index 0 c.loop-offset-test.true c.loop-offset.invariant c.keep_if.ensures

pub returns : goal.returns
returns c = escapes_end c.args.escapes.now c.loop-offset.offset-index c.loop-offset-test.false c.loop-offset.invariant
