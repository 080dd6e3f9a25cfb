use Rattle.std.proofs.Common.{◌≡◌, ◌++◌, drop, false}
use Rattle.yf_findings.specs.Full.{walk}
use Rattle.yf_findings.proofs.full.push_file.Given as goal

abbrev pub invariant-loop-problem : goal.invariant-loop-problem
invariant-loop-problem l =
    l.pieces.items ++ walk l.name l.due (drop l.problem-index l.problems) l.left
    ≡ l.initial.pieces.items ++ walk l.name false l.problems l.changes
