-- The bytes so far have no such byte.
use Rattle.std.proofs.Common.{◌≡◌, drop}
use Rattle.yf_rules.specs.Quoted.{has_special}
use Rattle.yf_rules.proofs.quoted.has_special.Given as goal

abbrev pub invariant-loop-byte : goal.invariant-loop-byte
invariant-loop-byte l = has_special l.before (drop l.byte-index l.name) ≡ has_special 0 l.name
