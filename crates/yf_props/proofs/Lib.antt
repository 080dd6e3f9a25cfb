-- The lemmas, grouped by the function or the theorem that needs them.

-- `alias_node` and anchors
pub mod NameLemmas
pub mod NameOrder
-- tags: `tag_handle`, `tag_prefix` and the tag of a node
pub mod TagLemmas
pub mod LongestTags
pub mod SolidLemmas
-- `node_properties` and `read_props`
pub mod PropertiesLemmas
pub mod SeparationEnds
-- `Handles`: `declare` and `resolve`; the order of resolved tags
pub mod HandleLemmas
pub mod OrderLemmas
-- written names are read again (the laws of layouts of yf_laws)
pub mod NamesMade
pub mod NamesBack
pub mod PropsBack
pub mod PropsLines
-- the definitions on small texts
mod PropsShown
