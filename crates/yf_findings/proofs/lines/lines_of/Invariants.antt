use Rattle.std.proofs.Common.{◌≡◌, ◌++◌, drop}
use Rattle.std.specs.List.{flat_map}
use Rattle.yf_findings.specs.LineForm.{file_lines}
use Rattle.yf_findings.proofs.lines.lines_of.Given as goal

abbrev pub invariant-loop-file : goal.invariant-loop-file
invariant-loop-file l = l.out.items ++ flat_map (file_lines l.named) (drop l.file-index l.files) ≡ flat_map (file_lines l.named) l.files
