-- A walk over its line reaches the column of a position.
use Rattle.std.proofs.Common.{◌≡◌, ◌≢◌, ◌&&◌, ◌==◌, Bool, true, false, ℕ, ◌+◌, ◌-◌, ◌<◌, ◌≤◌, List, length, Some, refl, sym, ap, ◌∙◌, subst, ⊎_elim, arith}
use Rattle.std.proofs.lemmas.Bool.{cases_lt, ne_eqb}
use Rattle.std.proofs.lemmas.Option.{same_Some, slice_get_within}
use Rattle.std.specs.Prelude.{slice_get}
use Rattle.yf_chars.specs.Chain.{Many}
use Rattle.yf_chars.specs.Chain.Chain.{done, step}
use Rattle.yf_chars.specs.Chain.One.{one}
use Rattle.yf_chars.specs.Text.{code}
use Rattle.yf_chars.proofs.TextLemmas.{code-past}
use Rattle.yf_lines.specs.declared.line.Line.{Line}
use Rattle.yf_lines.specs.Lines.{AreLines, ColumnOf, PlaceOf, is_char}
use Rattle.yf_lines.specs.Lines.ColumnOf.{among_marks, after_marks}
use Rattle.yf_lines.specs.Lines.PlaceOf.{in_line, after_lines}
use Rattle.yf_lines.proofs.LineLemmas.{lines_unique}
use Rattle.yf_lines.proofs.MarkLemmas.{marks_unique}
use Rattle.yf_rule_sets.specs.RuleSets.Places.{HasColumn}
use Rattle.yf_rule_sets.proofs.Findings.BackLemmas.{is_real}

-- no character begins at the end of the text
no_end : (t : List ℕ) (i : ℕ) → is_char (code t i) ≡ true → i ≡ length t → ⊥
no_end t i p e = let n = code-past t i (omega (arith, e)) in let m = is_real (code t i) p in absurd (omega (arith, n, m))

-- of the runs of characters from one offset, the one up to the end of the text is the longest
no_longer : {t : List ℕ} {i j k : ℕ} {x y : List ℕ} → Many t is_char i j x → Many t is_char i k y → j ≡ length t → length y ≤ length x
no_longer a done e = omega arith
no_longer {t} done (step (one {i = i} p) rest) e = absurd (no_end t i p e)
no_longer (step (one p) a) (step (one q) b) e = let n = no_longer a b e in omega (arith, n)

module _ (t : List ℕ) (start : ℕ) where
  in_column : {offset column : ℕ} (at reached : ℕ) → ColumnOf t start offset column → HasColumn t start at reached → reached ≤ column
      → (reached < column → at ≡ length t) → reached ≡ column
  in_column at reached (among_marks m s) r o w = let n = r.count in omega (arith, n, o)
  in_column {offset} at reached (after_marks {j = j} {x = x} m run) r o w =
      let same : j ≡ r.follows = marks_unique t start j r.follows m r.marks in
      let there : Many t is_char r.follows offset x = subst (λ k. Many t is_char k offset x) same run in
      let n = r.count in
      ⊎_elim (λ (h : reached < length x + 1). let s = no_longer r.run there (w h) in absurd (omega (arith, n, h, s)))
      (λ (h : length x + 1 ≤ reached). omega (arith, h, o))
      (cases_lt reached (length x + 1))

column_positive : {t : List ℕ} {i offset column : ℕ} → ColumnOf t i offset column → 1 ≤ column
column_positive (among_marks m s) = omega arith
column_positive (after_marks m run) = omega arith

-- lines and columns count from 1
pub counts_from_one : {t : List ℕ} {offset line column : ℕ} → PlaceOf t offset line column → (1 ≤ line) × (1 ≤ column)
counts_from_one (in_line k a e h column) = (omega arith, column_positive column)
counts_from_one (after_lines a p new) = (omega arith, omega arith)

-- a position after the last line
pub after_last : {t : List ℕ} {offset line column : ℕ} (ls : List Line) → AreLines t ls → PlaceOf t offset line column → length ls ≤ line - 1
    → (line ≡ length ls + 1) × (column ≡ 1)
after_last {t} ls lines (in_line {ls = ms} {l = n} k a e h column) w =
    let s = ap length (lines_unique t ms ls a lines) in
    let v = slice_get_within ms k n e in
    absurd (omega (arith, s, v, w))
after_last {t} ls lines (after_lines {ls = ms} a p new) w = (ap (λ z. length z + 1) (lines_unique t ms ls a lines), refl)

-- the column of a position in the line of an index
pub reaches : {t : List ℕ} {offset line column : ℕ} (ls : List Line) (m : ℕ) (l : Line) (at reached : ℕ) → AreLines t ls → slice_get ls m ≡ Some l
    → PlaceOf t offset line column → line ≡ m + 1 → HasColumn t l.start at reached → reached ≤ column
    → (reached < column → at ≡ length t) → reached ≡ column
reaches {t} {offset} ls m l at reached lines there (in_line {ls = ms} {l = n} {c = c} k a e h column) q r o w =
    let i : k ≡ m = omega (arith, q) in
    let f : slice_get ls k ≡ Some n = subst (λ xs. slice_get xs k ≡ Some n) (lines_unique t ms ls a lines) e in
    let g : slice_get ls m ≡ Some n = subst (λ j. slice_get ls j ≡ Some n) i f in
    let same : n ≡ l = same_Some _ _ (sym g ∙ there) in
    in_column t l.start at reached (subst (λ (z : Line). ColumnOf t z.start offset c) same column) r o w
reaches {t} ls m l at reached lines there (after_lines {ls = ms} a p new) q r o w =
    let s = ap length (lines_unique t ms ls a lines) in
    let v = slice_get_within ls m l there in
    absurd (omega (arith, s, v, q))

-- whether a number is one and a test holds
pub both_hold : (n : ℕ) (b : Bool) → n ≡ 1 → b ≡ true → ((n == 1) && b) ≡ true
both_hold n b e f = rw (e, f) refl

and_false : (a : Bool) → (a && false) ≡ false
and_false true = refl
and_false false = refl

pub second_fails : (n : ℕ) (b : Bool) → b ≡ false → ((n == 1) && b) ≡ false
second_fails n b f = subst (λ z. ((n == 1) && z) ≡ false) (sym f) (and_false (n == 1))

pub first_fails : (n : ℕ) (b : Bool) → n ≢ 1 → ((n == 1) && b) ≡ false
first_fails n b e = ap (λ z. z && b) (ne_eqb n 1 e)
