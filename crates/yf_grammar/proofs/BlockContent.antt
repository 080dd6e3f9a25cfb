-- leaves, properties and flow nodes in a block node, with the ends of their lines
pub mod BareNodes
pub mod BlockLeaves
pub mod BlockScalars
pub mod FlowLeaves
pub mod FlowReading
pub mod HaltGaps
pub mod InlineViews
pub mod LeafHalts
pub mod LeafKeys
pub mod LineNodes
pub mod LineParts
pub mod PlainCut
pub mod PlainStops
pub mod PlainTails
pub mod PropertiedNodes
pub mod PropertiesLines
pub mod PropertiesWalk
