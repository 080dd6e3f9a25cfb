-- A block scalar is laid out as yf_block_scalar writes it.
use Rattle.std.proofs.Common.{◌≡◌, ℕ, zero, suc, ◌+◌, Bool, true, false, List, [], ◌∷◌, Some, None, refl}
use Rattle.std.specs.Prelude.{if◌then◌else◌}
use Rattle.yf_block_scalar.specs.Written.{digit_bytes, sign_bytes, style_bytes, indented}
use Rattle.yf_events.specs.declared.event.ScalarStyle.{ScalarStyle}
use Rattle.yf_events.specs.declared.event.ScalarStyle.TheVariants.{Plain, Single, Double, Literal, Folded}
use Rattle.yf_forms.specs.Nodes.BlockLines.{chomping_sign, line_at, style_sign}
use Rattle.yf_laws.specs.Nodes.BlockValues.{is_folded, chomp_of}

-- The header.

pub style_written : (style : ScalarStyle) → style_bytes (is_folded style) ≡ style_sign style
style_written Plain = refl
style_written Single = refl
style_written Double = refl
style_written Literal = refl
style_written Folded = refl

pub digit_written : (b : Bool) (indent : ℕ) → digit_bytes (if b then Some indent else None) indent ≡ (if b then (48 + indent) ∷ [] else [])
digit_written true indent = refl
digit_written false indent = refl

pub sign_written : (n : ℕ) → sign_bytes (chomp_of n) ≡ chomping_sign n
sign_written zero = refl
sign_written (suc zero) = refl
sign_written (suc (suc n)) = refl

-- The lines.

pub line_written : (column : ℕ) (x : List ℕ) → indented column x ≡ line_at column x
line_written column [] = refl
line_written column (b ∷ x) = refl
