-- Line ends and block scalars end after their start, and after a header a line begins.
pub use Rattle.yf_comments.proofs.LineOrder.{line_end_forward}
pub use Rattle.yf_block_scalar.proofs.ScalarOrder.{body_forward, header_later as header_forward, header_starts}
