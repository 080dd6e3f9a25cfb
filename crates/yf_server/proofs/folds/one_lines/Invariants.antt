-- The table so far.
use Rattle.std.proofs.Common.{◌≡◌}
use Rattle.yf_server.specs.Folds.{one_lines}
use Rattle.yf_server.proofs.folds.one_lines.Given as goal

abbrev pub invariant-loop-line : goal.invariant-loop-line
invariant-loop-line l = l.table.items ≡ one_lines l.line
