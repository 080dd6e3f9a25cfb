use Rattle.std.proofs.lemmas.Result.{IfOk-weaker}
use Rattle.std.specs.Prelude.{map}
use Rattle.yf_program.specs.Server.{FindsAs}
use Rattle.yf_server.specs.Analysis.{problem_read}
use Rattle.yf_program.proofs.server.StartAnalysis.problems.Goals as goal

pub returns : goal.returns
returns g c =
    IfOk-weaker c.found_as.result
    (λ new. FindsAs c.in_ok-handling.handling c.args.text.now (map problem_read new.items)) _
    (λ new done. (c.in_ok-handling.handling, c.in_ok-handling.ensures, done)) c.found_as.ensures
