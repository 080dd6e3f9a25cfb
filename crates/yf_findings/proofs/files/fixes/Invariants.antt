use Rattle.std.proofs.Common.{◌≡◌, map, take}
use Rattle.yf_findings.specs.Files.{fix_in, replaced_all}
use Rattle.yf_findings.proofs.files.fixes.Given as goal

abbrev pub invariant-loop-file : goal.invariant-loop-file
invariant-loop-file l = map replaced_all l.all.items ≡ map fix_in (take l.file-index l.files)
