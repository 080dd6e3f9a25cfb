use Rattle.std.proofs.lemmas.Result.{IfOk-weaker}
use Rattle.std.specs.Prelude.{option_map, string_bytes}
use Rattle.yf_program.specs.Server.{FormatsAs}
use Rattle.yf_program.proofs.server.StartAnalysis.formatted.Goals as goal

pub returns : goal.returns
returns g c =
    IfOk-weaker c.formatted_as.result
    (λ new. FormatsAs c.in_ok-handling.handling c.args.text.now (option_map string_bytes new)) _
    (λ new done. (c.in_ok-handling.handling, c.in_ok-handling.ensures, done)) c.formatted_as.ensures
