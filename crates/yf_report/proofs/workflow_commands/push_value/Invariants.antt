-- The written bytes and those still to be written are the whole text.
use Rattle.std.proofs.Common.{◌≡◌, ◌++◌, drop}
use Rattle.yf_report.specs.CommandText.{value_text}
use Rattle.yf_report.proofs.workflow_commands.push_value.Given as goal

abbrev pub invariant-loop-byte : goal.invariant-loop-byte
invariant-loop-byte l =
    l.out.items ++ value_text (drop l.byte-index l.bytes) ≡ l.initial.out.items ++ value_text l.bytes
