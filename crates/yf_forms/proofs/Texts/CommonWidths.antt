-- Characters that need no escape in double quotes, as most are.
use Rattle.std.proofs.Common.{◌≡◌, ℕ, true, ap, length}
use Rattle.yf_chars.specs.Common.{is_common}
use Rattle.yf_chars.specs.Escape.{spelled}
use Rattle.yf_chars.proofs.CommonLemmas.{common_spelled}

pub common_width : (c : ℕ) → is_common c ≡ true → length (spelled c) ≡ 1
common_width c e = ap length (common_spelled c e)
