use Rattle.std.proofs.Common.{◌≡◌, ◌++◌}
use Rattle.yf_explain.specs.Source.{spaces}
use Rattle.yf_explain.proofs.source.push_spaces.Given as goal

abbrev pub invariant-loop : goal.invariant-loop
invariant-loop l = l.page ≡ l.initial.page ++ spaces l.counter
