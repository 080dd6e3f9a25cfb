use Rattle.std.proofs.Common.{◌≡◌, ◌≤◌, ◌-◌, length, map, take}
use Rattle.std.specs.List.{flat_map}
use Rattle.yf_findings.specs.Files.{entries_of, fix_of, fixes_of}
use Rattle.yf_report.specs.CodeQuality.{entry_of}
use Rattle.yf_findings.proofs.files.listed.Given as goal

abbrev pub invariant-loop-k : goal.invariant-loop-k
invariant-loop-k l = record {
  within : l.k ≤ length l.files;
  entries : map entry_of l.all.items ≡ flat_map entries_of (take l.k l.files);
  fixes : map fix_of l.all.items ≡ flat_map fixes_of (take l.k l.files);
}

abbrev pub decreases-loop-k : goal.decreases-loop-k
decreases-loop-k l = length l.files - l.k
