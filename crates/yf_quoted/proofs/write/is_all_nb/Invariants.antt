use Rattle.std.proofs.Common.{◌≡◌, true}
use Rattle.yf_quoted.specs.Written.{all_nb}
use Rattle.yf_quoted.proofs.write.is_all_nb.Given as goal

abbrev pub invariant-loop-c : goal.invariant-loop-c
invariant-loop-c l = all_nb l.yielded ≡ true
