-- A text that begins no document marker at the start of a line, before any text that may follow.
use Rattle.std.specs.Prelude.{ℕ, List, ◌++◌}
use Rattle.std.specs.Str.{IsUtf8}
use Rattle.yf_lines.specs.Basic.{ForbiddenLine}
use Rattle.yf_lines.specs.LineText.{Follows, is_after_text}
use Rattle.yf_lines.specs.Rest.{Rest}

pub record IsNoMarker (w : List ℕ) : Type 0 where
  pub none : {t : List ℕ} (q : ℕ) (r : List ℕ) → IsUtf8 t → Follows is_after_text r → Rest t q (w ++ r) → ForbiddenLine t q → ⊥
