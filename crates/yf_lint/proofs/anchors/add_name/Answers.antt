use Rattle.yf_lint.proofs.NameLemmas.{name_added}
use Rattle.yf_lint.proofs.anchors.add_name.Goals as goal

pub returns : goal.returns
returns c = λ test i. name_added test c.args.names.now c.insert.new.self c.args.name c.in_ok-is_new.is_new i c.in_ok-is_new.ensures.added c.in_ok-is_new.ensures.updates
