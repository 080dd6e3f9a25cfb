-- The entries of the problems so far, and the fixes of these and of the others.
use Rattle.std.proofs.Common.{◌≡◌, ◌++◌, drop, map, take}
use Rattle.std.specs.Prelude.{option_map}
use Rattle.yf_findings.specs.Files.{entry_with, fix_of, fixes_from}
use Rattle.yf_report.specs.CodeQuality.{entry_of}
use Rattle.yf_report.specs.Fixes.{replaced}
use Rattle.yf_findings.proofs.files.add.Given as goal

abbrev pub invariant-loop-problem : goal.invariant-loop-problem
invariant-loop-problem l = record {
  entries : map entry_of l.all.items
      ≡ map entry_of l.initial.all.items ++ map (entry_with (option_map (λ s. s.now) l.file))
      (take l.problem-index l.problems);
  fixes : map fix_of l.all.items ++ fixes_from (map replaced l.left) (drop l.problem-index l.problems)
      ≡ map fix_of l.initial.all.items ++ fixes_from (map replaced l.fix) l.problems;
}
