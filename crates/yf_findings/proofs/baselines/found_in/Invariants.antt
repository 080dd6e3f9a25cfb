use Rattle.std.proofs.Common.{◌≡◌, map, take}
use Rattle.yf_baseline.specs.Entries.{kept_of}
use Rattle.yf_findings.specs.Baselines.{kept_in}
use Rattle.yf_findings.proofs.baselines.found_in.Given as goal

abbrev pub invariant-loop-problem : goal.invariant-loop-problem
invariant-loop-problem l = map kept_of l.found.items ≡ map kept_in (take l.problem-index l.problems)
