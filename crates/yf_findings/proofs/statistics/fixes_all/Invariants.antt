use Rattle.std.proofs.Common.{◌≡◌, drop}
use Rattle.yf_findings.specs.Statistics.{fixes_all}
use Rattle.yf_findings.proofs.statistics.fixes_all.Given as goal

abbrev pub invariant-loop-one : goal.invariant-loop-one
invariant-loop-one l = fixes_all l.rule (drop l.one-index l.found) ≡ fixes_all l.rule l.found
