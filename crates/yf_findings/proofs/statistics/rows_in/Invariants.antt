use Rattle.std.proofs.Common.{◌≡◌, ℕ, List, take}
use Rattle.std.specs.List.{All}
use Rattle.yf_findings.specs.Statistics.{IsRow, occurs, rows_of}
use Rattle.yf_findings.proofs.statistics.rows_in.Given as goal

abbrev pub invariant-loop-one : goal.invariant-loop-one
invariant-loop-one l = record {
  each : All (IsRow l.found) l.rows.items;
  once : (id : List ℕ) → rows_of id l.rows.items ≡ occurs id (take l.one-index l.found);
}
