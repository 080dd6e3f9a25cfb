-- Notes on the lines, which decide which blank lines are at fault. An index counts lines from 0.
use Rattle.std.specs.Prelude.{◌≡◌, ℕ, ◌+◌, ◌<◌, ◌≤◌, ◌⊎◌, Bool, true, false, List, length, get_or, slice_get, Some}
use Rattle.yf_events.specs.declared.lists.Lists.{Lists}
use Rattle.yf_lines.specs.declared.line.Line.{Line}
use Rattle.yf_lines.specs.Lines.{IsForbiddenLine, Table}
use Rattle.yf_rule_sets.specs.RuleSets.BlankLines.{DirectiveOf, HasOffset, IsBlank, MarkerOf}
use Rattle.yf_rule_sets.specs.Passes.LineFlags.{ListTells}
use Rattle.yf_rule_sets.specs.RuleSets.Whites.{IsAlone, WhitesEnd}

-- a document that begins at the offset `start`, on the line k, has a `---` (the flag `marked`), with only white space
-- after it
pub record MarkerThere (src : Table) (marked : Bool) (start k : ℕ) : Type 0 where
  pub written : marked ≡ true
  pub alone : IsAlone src.text start
  pub there : HasOffset src start k

-- the three lists flag the blank lines, the lines with a `---` that only white space follows, and the lines with a
-- directive
pub record AreNotes (src : Table) (r : Lists) (blank markers directives : List Bool) : Type 0 where
  pub count : length blank ≡ length src.lines
  pub is_blank : ListTells blank (IsBlank src r)
  pub has_marker : ListTells markers (λ k. (m : ℕ) × MarkerOf src r m k)
  pub has_directive : ListTells directives (λ k. (m : ℕ) × DirectiveOf src r m k)

-- a line at fault if it is blank: because of what precedes it, or because of what follows it
pub data IsAfterBlankOrMarker (src : Table) (r : Lists) (k : ℕ) : Type 0 where
  no_line : k ≡ 0 → IsAfterBlankOrMarker src r k
  blank : {j : ℕ} → j + 1 ≡ k → IsBlank src r j → IsAfterBlankOrMarker src r k
  marker : {j m : ℕ} → j + 1 ≡ k → MarkerOf src r m j → IsAfterBlankOrMarker src r k

pub data IsBeforeMarker (src : Table) (r : Lists) (k : ℕ) : Type 0 where
  marker_next : {l : Line} → slice_get src.lines (k + 1) ≡ Some l → IsForbiddenLine src.text l.start → IsBeforeMarker src r k
  directive_next : {m : ℕ} → DirectiveOf src r m (k + 1) → IsBeforeMarker src r k

-- the flag is false, and the line k has only white space
pub data BlankUnless (src : Table) (k : ℕ) : Bool → Type 0 where
  is_white : {l : Line} → slice_get src.lines k ≡ Some l → WhitesEnd src.text l.start l.end l.start → BlankUnless src k false

-- all lines from `last` on are blank, and the one before `last` is not
pub record LastLine (blank : List Bool) (last : ℕ) : Type 0 where
  pub follows : (m : ℕ) → last ≤ m → m < length blank → get_or blank m false ≡ true
  pub before : (last ≡ 0) ⊎ ((m : ℕ) × (m + 1 ≡ last) × (m < length blank) × (get_or blank m false ≡ false))
