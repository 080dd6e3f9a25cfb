use Rattle.yf_lint.proofs.NameLemmas.{name_taken}
use Rattle.yf_lint.proofs.anchors.take_name.Goals as goal

pub returns : goal.returns
returns c = λ test i. name_taken test c.args.names.now c.remove.new.self c.args.name c.remove.result i c.remove.ensures.test c.remove.ensures.updates
