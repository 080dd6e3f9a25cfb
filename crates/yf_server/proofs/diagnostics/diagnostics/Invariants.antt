-- The problems so far.
use Rattle.std.proofs.Common.{◌≡◌, map, take}
use Rattle.serde_json.specs.View.{view}
use Rattle.yf_server.specs.Analysis.{problem_read}
use Rattle.yf_server.specs.Diagnostics.{diagnostic}
use Rattle.yf_server.proofs.diagnostics.diagnostics.Given as goal

abbrev pub invariant-loop-problem : goal.invariant-loop-problem
invariant-loop-problem l = map view l.values.items
    ≡ map (diagnostic l.encoding l.document) (map problem_read (take l.problem-index l.problems))
