-- The written bytes and those still to be written are the whole text.
use Rattle.std.proofs.Common.{◌≡◌, ◌++◌, drop}
use Rattle.yf_report.specs.CommandText.{message_text}
use Rattle.yf_report.proofs.workflow_commands.push_message.Given as goal

abbrev pub invariant-loop-byte : goal.invariant-loop-byte
invariant-loop-byte l =
    l.out.items ++ message_text (drop l.byte-index l.bytes) ≡ l.initial.out.items ++ message_text l.bytes
