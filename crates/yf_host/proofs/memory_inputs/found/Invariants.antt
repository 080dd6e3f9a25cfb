-- A search of the remaining files finds the same file as a search of all files.
use Rattle.std.proofs.Common.{◌≡◌, drop}
use Rattle.yf_host.specs.MemoryInputs.{held}
use Rattle.yf_host.proofs.memory_inputs.found.Given as goal

abbrev pub invariant-loop-file : goal.invariant-loop-file
invariant-loop-file l = held l.files l.name ≡ held (drop l.file-index l.files) l.name
