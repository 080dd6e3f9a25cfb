use Rattle.std.proofs.Common.{◌≡◌, ◌++◌, drop, map, take}
use Rattle.yf_findings.specs.Selection.{first_problems, listed_in}
use Rattle.yf_findings.proofs.selection.cut_all.Given as goal

abbrev pub invariant-loop-file : goal.invariant-loop-file
invariant-loop-file l =
    map listed_in (take l.file-index l.file-items) ++ first_problems l.left (map listed_in (drop l.file-index l.file-items))
    ≡ first_problems l.limit (map listed_in l.initial.file-items)
