-- The set has the names so far.
use Rattle.std.proofs.Common.{map, take}
use Rattle.yf_baseline.specs.SeenTexts.{Holds}
use Rattle.yf_baseline.proofs.listed.names_of.Given as goal

abbrev pub invariant-loop-name : goal.invariant-loop-name
invariant-loop-name l = Holds l.set (map (λ name. name.now) (take l.name-index l.files))
