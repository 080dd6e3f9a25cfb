use Rattle.std.proofs.Common.{◌≡◌, ◌++◌, drop}
use Rattle.yf_explain.specs.Shown.{all_shown}
use Rattle.yf_findings.proofs.pieces.push_chars.Given as goal

abbrev pub invariant-loop-c : goal.invariant-loop-c
invariant-loop-c l = l.page ++ all_shown (drop l.c-index l.line) ≡ l.initial.page ++ all_shown l.line
