use Rattle.std.proofs.Common.{◌≡◌, take}
use Rattle.yf_excludes.specs.Names.{texts}
use Rattle.yf_excludes.proofs.located.names_below.Given as goal

abbrev pub invariant-loop-k : goal.invariant-loop-k
invariant-loop-k l = take l.k (texts l.folder) ≡ take l.k (texts l.file)
