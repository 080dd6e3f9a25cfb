-- The line feeds so far.
use Rattle.std.proofs.Common.{◌≡◌, ◌≤◌, ◌==◌, take}
use Rattle.std.specs.List.{count_by}
use Rattle.yf_program.proofs.server.line_feeds.Given as goal

abbrev pub invariant-loop-byte : goal.invariant-loop-byte
invariant-loop-byte l = record {
  count : l.count ≡ count_by (λ b. b == 10) (take l.byte-index l.bytes);
  bound : l.count ≤ l.byte-index;
}
