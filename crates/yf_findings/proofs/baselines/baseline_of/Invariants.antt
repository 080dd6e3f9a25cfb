use Rattle.std.proofs.Common.{◌≡◌, ◌++◌, drop}
use Rattle.yf_findings.specs.Baselines.{all_entries}
use Rattle.yf_findings.proofs.baselines.baseline_of.Given as goal

abbrev pub invariant-loop-file : goal.invariant-loop-file
invariant-loop-file l = l.entries.items ++ all_entries (drop l.file-index l.files) ≡ all_entries l.files
