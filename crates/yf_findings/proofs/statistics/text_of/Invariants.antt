use Rattle.std.proofs.Common.{◌≡◌, ◌++◌, drop}
use Rattle.std.specs.List.{flat_map}
use Rattle.yf_findings.specs.Statistics.{row_text}
use Rattle.yf_findings.proofs.statistics.text_of.Given as goal

abbrev pub invariant-loop-row : goal.invariant-loop-row
invariant-loop-row l = l.out.items ++ flat_map (row_text l.width) (drop l.row-index l.rows) ≡ flat_map (row_text l.width) l.rows
