use Rattle.std.proofs.Common.{◌≡◌, drop}
use Rattle.std.specs.List.{list_any}
use Rattle.yf_findings.specs.Statistics.{is_row}
use Rattle.yf_findings.proofs.statistics.has_row.Given as goal

abbrev pub invariant-loop-row : goal.invariant-loop-row
invariant-loop-row l = list_any (is_row l.rule) (drop l.row-index l.rows) ≡ list_any (is_row l.rule) l.rows
