-- Leaf readers end after their start.
pub use Rattle.yf_plain.proofs.PlainOrder.{plain_forward}
pub use Rattle.yf_props.proofs.NameOrder.{alias_forward, properties_forward}
