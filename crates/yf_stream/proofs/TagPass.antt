-- the pass over the events: tags, handles, anchors and the first breach
pub mod NameSets
pub mod DeclaredLemmas
pub mod FirstLemmas
pub mod PassLemmas
pub mod PassSteps
pub mod BareRuns
pub mod DeclaringLemmas
pub mod PassDocuments
pub mod SameTags
