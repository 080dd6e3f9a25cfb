-- The written bytes and those still to be written, after the last two, are the whole text.
use Rattle.std.proofs.Common.{◌≡◌, ◌++◌, drop}
use Rattle.yf_report.specs.XmlText.{xml_text, allowed_after}
use Rattle.yf_report.proofs.xml.push_text.Given as goal

abbrev pub invariant-loop-byte : goal.invariant-loop-byte
invariant-loop-byte l =
    l.out.items ++ xml_text
    (allowed_after l.before l.last (drop l.byte-index l.bytes)) ≡ l.initial.out.items ++ xml_text
    (allowed_after 0 0 l.bytes)
