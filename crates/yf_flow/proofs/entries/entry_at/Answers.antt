use Rattle.std.proofs.Common.{refl}
use Rattle.yf_flow.proofs.entries.entry_at.Goals as goal

pub returns : goal.returns
returns c = λ n. record { start = refl; colon_there = refl; note = c.is_blank_before_entry.ensures n }
