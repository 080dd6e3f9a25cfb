use Rattle.std.proofs.Common.{◌≡◌, ◌+◌, drop}
use Rattle.std.specs.List.{prefix_len}
use Rattle.yf_findings.specs.Excerpt.{is_byte_order_mark}
use Rattle.yf_findings.proofs.excerpt.skipped_in.Given as goal

abbrev pub invariant-loop-c : goal.invariant-loop-c
invariant-loop-c l = record {
  index : l.count ≡ l.c-index;
  marks : l.count + prefix_len is_byte_order_mark (drop l.c-index l.line) ≡ prefix_len is_byte_order_mark l.line;
}
