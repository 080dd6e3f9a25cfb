-- The findings of the files so far.
use Rattle.std.proofs.Common.{◌≡◌, take}
use Rattle.yf_findings.specs.Selection.{count_findings}
use Rattle.yf_program.proofs.left_over.count_all.Given as goal

abbrev pub invariant-loop-file : goal.invariant-loop-file
invariant-loop-file l = l.count ≡ count_findings (take l.file-index l.files)
