use Rattle.std.proofs.Common.{◌≡◌, ◌+◌, drop}
use Rattle.std.specs.List.{prefix_len}
use Rattle.yf_findings.specs.FullChanges.{ends_before}
use Rattle.yf_findings.proofs.full_changes.over_count.Given as goal

abbrev pub invariant-loop-change : goal.invariant-loop-change
invariant-loop-change l = record {
  index : l.count ≡ l.change-index;
  over : l.count + prefix_len (ends_before l.line) (drop l.change-index l.changes)
      ≡ prefix_len (ends_before l.line) l.changes;
}
