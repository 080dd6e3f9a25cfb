-- Properties as contracts see them.
use Rattle.yf_props.specs.declared.properties.Properties.{Properties}
use Rattle.yf_props.specs.Names.{PropertiesValue}
use Rattle.yf_props.specs.Props.{props_value}

abbrev pub properties_value : Properties → PropertiesValue
properties_value p = record { props = props_value p.props; tag_offset = p.tag_offset; comments = p.comments }
