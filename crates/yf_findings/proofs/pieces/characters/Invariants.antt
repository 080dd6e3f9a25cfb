use Rattle.std.proofs.Common.{◌≡◌}
use Rattle.yf_findings.proofs.pieces.characters.Given as goal

abbrev pub invariant-loop-c : goal.invariant-loop-c
invariant-loop-c l = l.line.items ≡ l.yielded
