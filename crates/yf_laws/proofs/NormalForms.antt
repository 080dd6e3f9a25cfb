-- `normal`: the normal form of a reading, which is settled, and the only one
pub mod StyledTwice
pub mod SettledTwice
pub mod SettledForms
pub mod UniqueLemmas
pub mod NormalParts
pub mod NormalRestyled
pub mod NormalSame
pub mod FormsHandedOn
