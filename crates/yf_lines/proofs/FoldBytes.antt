-- The line feeds of a fold, as bytes.
use Rattle.std.proofs.Common.{◌≡◌, ℕ, zero, suc, ◌∷◌, refl, ap, encode_utf8_all}
use lib.Utf8.{encode}
use Rattle.yf_lines.specs.Fold.{line_feeds, fold_text}

pub feeds_bytes : (k : ℕ) → encode_utf8_all (line_feeds k) ≡ line_feeds k
unfolding encode
feeds_bytes zero = refl
feeds_bytes (suc k) = ap (λ w. 10 ∷ w) (feeds_bytes k)

pub fold_bytes : (k : ℕ) → encode_utf8_all (fold_text k) ≡ fold_text k
unfolding encode
fold_bytes zero = refl
fold_bytes (suc k) = feeds_bytes (suc k)
