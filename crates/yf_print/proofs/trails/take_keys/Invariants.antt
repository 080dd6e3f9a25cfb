use Rattle.std.proofs.Common.{◌≡◌, drop}
use Rattle.yf_print.specs.Passes.TrailPass.{keys_taken}
use Rattle.yf_print.proofs.trails.take_keys.Given as goal

abbrev pub invariant-loop-i : goal.invariant-loop-i
invariant-loop-i l = keys_taken (drop l.i l.forms) l.is_trailing.items ≡ keys_taken l.forms l.initial.is_trailing.items
