use Rattle.std.proofs.Common.{ap, subst}
use Rattle.std.specs.Prelude.{OnOk}
use Rattle.yf_files.specs.Memory.{ContentAdded}
use Rattle.yf_files.specs.Tree.{Node, regular}
use Rattle.yf_files.proofs.logs.Logs.give.Goals as goal

pub returns-in-Ok-clause-ok : goal.returns-in-Ok-clause-ok
returns-in-Ok-clause-ok c =
    subst (λ (n : Node). OnOk c.be.result (ContentAdded c.args.self.now c.be.new.self c.args.inode n)) (ap regular (c.in-Ok.ensures.items_if_clones_equal (λ x y same. same))) c.be.ensures.ok
