-- The written attributes and those still to be written are all attributes.
use Rattle.std.proofs.Common.{◌≡◌, ◌++◌, drop, map, flat_map}
use Rattle.yf_report.specs.XmlText.{attribute_text, attribute_of}
use Rattle.yf_report.proofs.xml.push_attributes.Given as goal

abbrev pub invariant-loop-attribute : goal.invariant-loop-attribute
invariant-loop-attribute l =
    l.out.items ++ flat_map attribute_text
    (map attribute_of (drop l.attribute-index l.attributes)) ≡ l.initial.out.items ++ flat_map attribute_text
    (map attribute_of l.attributes)
