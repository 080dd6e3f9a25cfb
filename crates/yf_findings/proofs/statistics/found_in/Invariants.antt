use Rattle.std.proofs.Common.{◌≡◌, ◌++◌, drop, map}
use Rattle.yf_findings.specs.Statistics.{found_value, kinds_in}
use Rattle.yf_findings.proofs.statistics.found_in.Given as goal

abbrev pub invariant-loop-file : goal.invariant-loop-file
invariant-loop-file l = map found_value l.found.items ++ kinds_in (drop l.file-index l.files) ≡ kinds_in l.files
