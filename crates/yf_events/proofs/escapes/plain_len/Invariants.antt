use Rattle.std.proofs.Common.{◌≡◌, ℕ, ◌<◌, false, slice_index}
use Rattle.yf_events.specs.Notation.{is_escaped}
use Rattle.yf_events.proofs.escapes.plain_len.Given as goal

abbrev pub invariant-loop-i : goal.invariant-loop-i
invariant-loop-i l = (k : ℕ) → k < l.i → is_escaped (slice_index l.bytes k) ≡ false
