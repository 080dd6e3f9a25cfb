use Rattle.std.proofs.lemmas.Result.{IfOk-weaker}
use Rattle.std.proofs.Common.{◌∙◌}
use Rattle.yf_discovery.proofs.NearestLemmas.{looked_at}
use Rattle.yf_discovery.proofs.nearest.look_at.Goals as goal

pub returns : goal.returns
returns g c = IfOk-weaker c.look_in.result _ _ (looked_at (g.F.Folders.shows c.args.folders.now) c.as_str.result.now _
    (c.as_str.ensures ∙ c.in_ok-folder.ensures)) c.look_in.ensures
