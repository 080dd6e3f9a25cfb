use Rattle.serde_json.specs.View.{view}
use Rattle.yf_server_loop.proofs.HandledLemmas.{reacts_since}
use Rattle.yf_server_loop.proofs.handle.take_step.Goals as goal

pub returns-in-Err : goal.returns-in-Err
returns-in-Err g c = reacts_since (g.A.Analysis.claim c.args.analysis.now) c.args.server.now c.step.new.server
    (view c.args.value.now) c.undone.new.server c.undone.result c.in-Err.ensures.kept c.undone.ensures
