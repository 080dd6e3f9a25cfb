-- An offset within a character has column 1, if it has any.
use Rattle.std.proofs.Common.{◌≡◌, ℕ, ◌+◌, ◌-◌, ◌≤◌, ◌⊎◌, List, [], length, refl, subst, inl, inr, ⊎_elim, ap, arith}
use Rattle.std.specs.Str.{IsCharBoundary, IsUtf8}
use Rattle.yf_chars.specs.Chain.{Many, one}
use Rattle.yf_chars.specs.Chain.Chain.{done, step}
use Rattle.yf_chars.specs.Text.{code}
use Rattle.yf_chars.proofs.TextLemmas.{reads_real}
use Rattle.yf_rule_sets.specs.RuleSets.Columns.{IsColumn}
use Rattle.yf_lines.specs.Lines.{ColumnOf, PlaceOf, among_marks, after_marks, after_lines, in_line, is_char}
use Rattle.yf_rule_sets.proofs.Findings.BackLemmas.{is_real}

run_boundary : {t : List ℕ} {i j : ℕ} {x : List ℕ} → IsUtf8 t → IsCharBoundary t i → Many t is_char i j x → IsCharBoundary t j
run_boundary u b done = b
run_boundary {t} u b (step (one {i = i} p) more) = run_boundary u (reads_real t i u (is_real (code t i) p)).boundary more

run_end : {t : List ℕ} {i j : ℕ} {x : List ℕ} → IsUtf8 t → Many t is_char i j x → (x ≡ []) ⊎ IsCharBoundary t j
run_end u done = inl refl
run_end {t} u (step (one {i = i} p) more) = inr (run_boundary u (reads_real t i u (is_real (code t i) p)).boundary more)

in_column : {t : List ℕ} {i o c : ℕ} → IsUtf8 t → ColumnOf t i o c → (c ≡ 1) ⊎ IsCharBoundary t o
in_column u (among_marks m l) = inl refl
in_column u (after_marks {x = x} m run) = ⊎_elim (λ (e : x ≡ []). inl (ap (λ w. length w + 1) e)) (λ b. inr b) (run_end u run)

pub column_one : {t : List ℕ} {o line column : ℕ} → IsUtf8 t → PlaceOf t o line column → (column ≡ 1) ⊎ IsCharBoundary t o
column_one u (in_line k ls at h c) = in_column u c
column_one u (after_lines ls e n) = inl refl

-- a column counts from 1
from_one : {t : List ℕ} {i o c : ℕ} → ColumnOf t i o c → 1 ≤ c
from_one (among_marks m l) = omega arith
from_one (after_marks {x = x} m run) = omega arith

place_from_one : {t : List ℕ} {o line column : ℕ} → PlaceOf t o line column → 1 ≤ column
place_from_one (in_line k ls at h c) = from_one c
place_from_one (after_lines ls e n) = omega arith

pub column_there : (t : List ℕ) (o line column less : ℕ) → PlaceOf t o line column → less ≡ column - 1 → IsColumn t o less
column_there t o line column less p e =
    let n = place_from_one p in
    record { line = line; place = subst (λ c. PlaceOf t o line c) (let q : column ≡ less + 1 = omega (arith, n, e) in q) p }
