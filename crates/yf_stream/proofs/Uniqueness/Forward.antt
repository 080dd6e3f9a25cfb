-- The end of a line is at its start or after it.
pub use Rattle.yf_comments.proofs.LineOrder.{line_end_forward}
