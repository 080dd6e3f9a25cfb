use Rattle.std.proofs.Common.{◌≡◌, ◌++◌}
use Rattle.yf_findings.specs.FullChanges.{rows}
use Rattle.yf_findings.specs.declared.full_changes.TheConstants.{LINES}
use Rattle.yf_findings.proofs.full_changes.push_rows.Given as goal

abbrev pub invariant-loop-count : goal.invariant-loop-count
invariant-loop-count l = l.pieces.items ++ rows l.count l.rest ≡ l.initial.pieces.items ++ rows LINES l.text

abbrev pub decreases-loop-count : goal.decreases-loop-count
decreases-loop-count l = l.count
