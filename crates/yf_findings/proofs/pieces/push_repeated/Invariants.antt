use Rattle.std.proofs.Common.{◌≡◌, ◌++◌}
use Rattle.std.specs.Prelude.{replicate}
use Rattle.yf_explain.specs.Shown.{all_shown}
use Rattle.yf_findings.proofs.pieces.push_repeated.Given as goal

abbrev pub invariant-loop : goal.invariant-loop
invariant-loop l = l.page ≡ l.initial.page ++ all_shown (replicate l.counter l.c)
