use Rattle.std.proofs.Common.{◌≡◌, ◌+◌, drop}
use Rattle.std.specs.List.{prefix_len}
use Rattle.yf_findings.specs.FullChanges.{is_no_feed}
use Rattle.yf_findings.proofs.full_changes.line_end.Given as goal

abbrev pub invariant-loop-c : goal.invariant-loop-c
invariant-loop-c l = record {
  index : l.count ≡ l.c-index;
  line : l.count + prefix_len is_no_feed (drop l.c-index l.text) ≡ prefix_len is_no_feed l.text;
}
