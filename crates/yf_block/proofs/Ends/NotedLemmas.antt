-- The offset noted for a plain scalar without its last line.
use Rattle.std.proofs.Common.{◌≡◌, ℕ, List, Option, Some, None, refl, sym, subst}
use Rattle.yf_block.specs.LastStarts.{LastStart, NoStart}
use Rattle.yf_block.specs.HaltNotes.{ShorterNoted, shorter_noted, one_line, no_plain}

pub shorter_there : {t : List ℕ} {end start p : ℕ} {old plain : Option ℕ} → plain ≡ Some start → LastStart t start end p → ShorterNoted t end old plain (Some p)
shorter_there {t} {end} {p = p} {old = old} e l = subst (λ o. ShorterNoted t end old o (Some p)) (sym e) (shorter_noted l)

pub one_line_there : {t : List ℕ} {end start : ℕ} {old plain : Option ℕ} → plain ≡ Some start → NoStart t start end → ShorterNoted t end old plain old
one_line_there {t} {end} {old = old} e n = subst (λ o. ShorterNoted t end old o old) (sym e) (one_line n)

pub no_plain_there : {t : List ℕ} {end : ℕ} {old : Option ℕ} (plain : Option ℕ) → ((p : ℕ) → plain ≡ Some p → ⊥) → ShorterNoted t end old plain old
no_plain_there None n = no_plain
no_plain_there (Some p) n = absurd (n p refl)
