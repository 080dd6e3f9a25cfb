use Rattle.std.proofs.Common.{◌≡◌, ◌++◌, drop}
use Rattle.std.specs.List.{flat_map}
use Rattle.yf_findings.specs.Full.{file_pieces}
use Rattle.yf_findings.proofs.full.push_files.Given as goal

abbrev pub invariant-loop-file : goal.invariant-loop-file
invariant-loop-file l = l.pieces.items ++ flat_map file_pieces (drop l.file-index l.files) ≡ l.initial.pieces.items ++ flat_map file_pieces l.files
