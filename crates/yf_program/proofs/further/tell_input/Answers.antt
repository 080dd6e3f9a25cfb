use Rattle.yf_explain.specs.Explained.{Explains}
use Rattle.yf_program.proofs.FurtherLemmas.{told_further, told_nothing}
use Rattle.yf_program.proofs.further.tell_input.Goals as goal

pub returns-then-explained : goal.returns-then-explained
returns-then-explained g c = told_further (Explains c.args.bytes.now c.args.fault.now) c.args.explained _ c.if-explained.true c.explain.ensures c.tell_page.ensures

pub returns : goal.returns
returns g c = told_nothing c.args.explained _ _
