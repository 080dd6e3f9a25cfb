use Rattle.yf_props.proofs.NameLemmas.{no_anchor_here}
use Rattle.yf_props.proofs.PropertiesLemmas.{no_properties}
use Rattle.yf_props.proofs.TagLemmas.{no_mark}
use Rattle.yf_props.proofs.properties.node_properties.Goals as goal

pub returns-clause-reads : goal.returns-clause-reads
returns-clause-reads c =
    let none = c.is_property_at.ensures c.if-is_property_at.false in
    no_properties (no_anchor_here none.0) (no_mark none.1)
