use Rattle.yf_props.proofs.NameOrder.{properties_forward}
use Rattle.yf_props.proofs.properties.anchor_or_tag.Goals as goal

pub returns-in-Some-clause-order : goal.returns-in-Some-clause-order
returns-in-Some-clause-order c = properties_forward c.in_ok-found-in-Some.ensures.reads.derived

pub returns-in_ok-found-in-Some-tag_property-clause-order : goal.returns-in_ok-found-in-Some-tag_property-clause-order
returns-in_ok-found-in-Some-tag_property-clause-order c = properties_forward c.in_ok-found-in-Some-tag_property.ensures.reads.derived
