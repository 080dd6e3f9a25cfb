-- The written bytes and those still to be written are the whole number.
use Rattle.std.proofs.Common.{◌≡◌, ◌++◌, drop}
use Rattle.yf_report.specs.XmlText.{xml_text}
use Rattle.yf_report.proofs.xml.push_number.Given as goal

abbrev pub invariant-loop-byte : goal.invariant-loop-byte
invariant-loop-byte l = l.out.items ++ xml_text (drop l.byte-index l.bytes) ≡ l.initial.out.items ++ xml_text l.bytes
