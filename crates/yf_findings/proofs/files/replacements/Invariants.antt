use Rattle.std.proofs.Common.{◌≡◌, map, take}
use Rattle.yf_findings.specs.Files.{replaced_by}
use Rattle.yf_report.specs.Fixes.{replaced}
use Rattle.yf_findings.proofs.files.replacements.Given as goal

abbrev pub invariant-loop-change : goal.invariant-loop-change
invariant-loop-change l = map replaced l.all.items ≡ map replaced_by (take l.change-index l.changes)
