use Rattle.std.proofs.Common.{◌≡◌, ◌++◌}
use Rattle.yf_explain.specs.Shown.{all_shown}
use Rattle.yf_findings.proofs.pieces.push_shown.Given as goal

abbrev pub invariant-loop-c : goal.invariant-loop-c
invariant-loop-c l = l.page ≡ l.initial.page ++ all_shown l.yielded
