-- A text in contracts: its bytes in UTF-8.
use Rattle.std.specs.Prelude.{ℕ, List}
use Rattle.yf_lines.specs.declared.text.Text.{Text}
use Rattle.yf_lines.specs.declared.text.Text.TheVariants.{Part, Owned}

-- the bytes of the slice, or of the owned text
abbrev pub text_bytes : Text → List ℕ
text_bytes (Part part) = part.now
text_bytes (Owned text) = text
