use Rattle.std.proofs.lemmas.Result.{IfOk-weaker}
use Rattle.std.specs.Prelude.{option_map, string_bytes}
use Rattle.yf_program.specs.Server.{FormatsLinesAs}
use Rattle.yf_program.proofs.server.StartAnalysis.formatted_lines.Goals as goal

pub returns : goal.returns
returns g c =
    IfOk-weaker c.formatted_lines_as.result
    (λ new. FormatsLinesAs c.in_ok-handling.handling c.args.text.now c.args.first c.args.last (option_map string_bytes new)) _
    (λ new done. (c.in_ok-handling.handling, c.in_ok-handling.ensures, done)) c.formatted_lines_as.ensures
