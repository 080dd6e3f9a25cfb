use Rattle.yf_program.proofs.FurtherLemmas.{told_lines, told_nothing}
use Rattle.yf_program.proofs.further.tell_key.Goals as goal

pub returns-then-explained : goal.returns-then-explained
returns-then-explained g c = told_lines c.args.explained _ c.if-explained.true c.tell_page.ensures

pub returns : goal.returns
returns g c = told_nothing c.args.explained _ _
