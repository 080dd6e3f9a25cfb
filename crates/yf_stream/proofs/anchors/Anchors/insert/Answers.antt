use Rattle.yf_stream.proofs.TagPass.NameSets.{more_in_first, more_in_second}
use Rattle.yf_stream.proofs.anchors.Anchors.insert.Goals as goal
use Rattle.yf_stream.proofs.anchors.Anchors.insert.Goals.{in-Ok, in-Err, in-Ok-insert, in-Err-insert}

pub returns-then-len-lt-FEW : goal.returns-then-len-lt-FEW
returns-then-len-lt-FEW c =
    elim c.match-insert.branch [
      | in-Ok w ↦ rw w.result-is (more_in_first c.self.inside.few.keys c.self.inside.others.keys c.args.name c.self.view_is w.in-Ok.ensures.keys)
      | in-Err w ↦ rw w.result-is tt
    ]

pub returns : goal.returns
returns c =
    elim c.match-insert-2.branch [
      | in-Ok-insert w ↦ rw w.result-is (more_in_second c.self.inside.few.keys c.self.inside.others.keys c.args.name c.self.view_is w.in-Ok-insert.ensures.keys)
      | in-Err-insert w ↦ rw w.result-is tt
    ]
