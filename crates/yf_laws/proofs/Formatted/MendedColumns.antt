-- An offset that is that many characters of one byte after a line's start has that column, in a text whose lines all
-- end with a break.
use Rattle.std.proofs.Common.{◌≡◌, ◌≢◌, ℕ, ◌+◌, ◌-◌, ◌<◌, ◌≤◌, ⊎_elim, true≢false, List, length, Some, sym, ◌∙◌, subst, arith}
use Rattle.std.specs.Prelude.{slice_get}
use Rattle.std.specs.Str.{IsUtf8}
use Rattle.std.proofs.lemmas.Bool.{cases_lt, ltb-true}
use Rattle.yf_chars.specs.Text.{code, next, no_char}
use Rattle.yf_chars.specs.Chain.{Many}
use Rattle.yf_chars.specs.Chain.Chain.{done, step}
use Rattle.yf_chars.specs.Chain.One.{one}
use Rattle.yf_chars.proofs.ChainLemmas.{chain_forward, one_functional}
use Rattle.yf_chars.proofs.TextLemmas.{byte_from_code, next_later, next-mark, reads_ascii, reads_real}
use Rattle.yf_lines.specs.Basic.{LineStart}
use Rattle.yf_lines.specs.Basic.LineStart.{at_text, after_break, after_mark}
use Rattle.yf_lines.specs.Lines.{AreLines, ColumnOf, LineHolds, Marks, NewLine, PlaceOf, is_char, is_mark}
use Rattle.yf_lines.specs.Lines.ColumnOf.{among_marks, after_marks}
use Rattle.yf_lines.specs.Lines.LineHolds.{inside, at_text_end}
use Rattle.yf_lines.specs.Lines.NewLine.{of_empty, of_break}
use Rattle.yf_lines.specs.Lines.PlaceOf.{in_line, after_lines}
use Rattle.yf_lines.specs.declared.line.Line.{Line}
use Rattle.yf_lines.proofs.BasicLemmas.{break_end}
use Rattle.yf_lines.proofs.ClearLemmas.{code_inside}
use Rattle.yf_lines.proofs.LineLemmas.{lines_unique}
use Rattle.yf_lines.proofs.MarkLemmas.{code_mark, marks_order, marks_stop, start_in_line}
use Rattle.yf_lines.proofs.TableLemmas.{table_cut, table_line, table_start}
use Rattle.yf_laws.proofs.Columns.SetNodes.{ColumnAt}
use Rattle.yf_rule_sets.proofs.RuleSets.DocumentLemmas.{char_boundary}

-- characters of one byte

pub ascii_next : {t : List ℕ} (i : ℕ) → IsUtf8 t → code t i < 128 → next t i ≡ i + 1
ascii_next {t} i u l = let b = byte_from_code t i u l in (reads_ascii t i u b.0 (let e = b.1 in omega (arith, e, l))).end

ascii_many : {t : List ℕ} {i o : ℕ} {x : List ℕ} (m : ℕ) → IsUtf8 t → Many t is_char i o x → o ≡ i + m → ((k : ℕ) → k < m → code t (i + k) < 127) → length x ≡ m
ascii_many {i = i} m u done e f = omega (arith, e)
ascii_many {t} {i = i} {o = o} m u (step {y = y} (one p) c) e f =
    let far = chain_forward (one_functional t is_char) c in
    let order = next_later t i in
    let some : 0 < m = omega (arith, e, far, order) in
    let zero_more : i + 0 ≡ i = omega arith in
    let here : code t i < 127 = subst (λ k. code t k < 127) zero_more (f 0 some) in
    let there : next t i ≡ i + 1 = ascii_next i u (omega (arith, here)) in
    let more = ascii_many (m - 1) u c (omega (arith, e, there, some)) (λ k l. let same : i + (k + 1) ≡ next t i + k = omega (arith, there) in subst (λ h. code t h < 127) same (f (k + 1) (omega (arith, l)))) in
    omega (arith, more, some)

-- characters after marks begin at the end of the marks or later
pub chars_past : {t : List ℕ} {s j a e : ℕ} {y x : List ℕ} → IsUtf8 t → code t j ≢ 0xFEFF → s ≤ j → Many t is_mark s a y → a ≤ e → Many t is_char j e x → a ≤ j
chars_past u n l run m done = m
chars_past {t} {j = j} u n l run m (step (one p) more) = marks_stop j u (char_boundary t j (ltb-true (code t j) no_char p)) n l run

-- Lines.

module _ {t : List ℕ} (u : IsUtf8 t) {m o : ℕ} (a : ColumnAt t m o) where
  at_offset : (q : ℕ) → a.line ≤ q → q < o → (32 ≤ code t q) × (code t q < 127)
  at_offset q l n =
      let is : o ≡ a.line + m = a.is in
      let there : a.line + (q - a.line) ≡ q = omega (arith, l) in
      let low = a.least (q - a.line) (omega (arith, is, l, n)) in
      let high = a.most (q - a.line) (omega (arith, is, l, n)) in
      (subst (λ k. 32 ≤ code t k) there low, subst (λ k. code t k < 127) there high)

  -- no line starts between
  no_start : (h : ℕ) → LineStart t h → a.line < h → h ≤ o → ⊥
  no_start h at_text l n = omega (arith, l)
  no_start h (after_break b) l n =
      let before = at_offset (h - 1) (omega (arith, l)) (omega (arith, l, n)) in
      ⊎_elim (λ (e : code t (h - 1) ≡ 10). let low = before.0 in absurd (omega (arith, e, low))) (λ (e : (code t (h - 1) ≡ 13) × (code t h ≢ 10)). let low = before.0 in let f = e.0 in absurd (omega (arith, f, low))) (break_end b)
  no_start h (after_mark {i = i} s e) l n =
      let w : next t i ≡ i + 3 = next-mark t i e in
      let last = at_offset (i + 2) (omega (arith, l, w)) (omega (arith, n, w)) in
      let none : code t (i + 2) ≡ no_char = code_inside u (reads_real t i u (omega (arith, e))) (omega arith) (omega (arith, w)) in
      let high = last.1 in
      omega (arith, none, high)

  length_is : {x : List ℕ} {j : ℕ} → a.line ≡ j → Many t is_char j o x → length x ≡ m
  length_is {x} e c =
      let is = a.is in
      ascii_many m u (subst (λ k. Many t is_char k o x) (sym e) c) is (λ k l. a.most k l)

  -- after the marks of a line that holds it
  after_run : {s j : ℕ} {y x : List ℕ} → s ≤ a.line → Many t is_mark s a.line y → Marks t s j → Many t is_char j o x → a.line ≡ j
  after_run {s} {j} {y} {x} l run marks c =
      ⊎_elim (λ (some : 0 < m).
      let zero_more : a.line + 0 ≡ a.line = omega arith in
      let here : code t a.line < 127 = subst (λ k. code t k < 127) zero_more (a.most 0 some) in
      let far : j ≤ a.line = marks_stop a.line u (char_boundary t a.line (omega (arith, here))) (λ e. omega (arith, here, e)) l marks.run in
      both far (chars_past u no_mark_at (marks_order t s j marks) run upto c))
      (λ (none : m ≤ 0).
      let is = a.is in
      let far = chain_forward (one_functional t is_char) c in
      both (omega (arith, is, far, none)) (chars_past u no_mark_at (marks_order t s j marks) run upto c))
      (cases_lt 0 m) where
        both : j ≤ a.line → a.line ≤ j → a.line ≡ j
        both f g = omega (arith, f, g)

        upto : a.line ≤ o
        upto = let is = a.is in omega (arith, is)

        no_mark_at : code t j ≢ 0xFEFF
        no_mark_at e = true≢false (sym (code_mark t j e) ∙ marks.stops)

  column_in : {s c : ℕ} {y : List ℕ} → s ≤ a.line → Many t is_mark s a.line y → ColumnOf t s o c → c ≡ m + 1
  column_in {s} {y = y} l run (among_marks {j = j} marks n) =
      ⊎_elim (λ (some : 0 < m).
      let zero_more : a.line + 0 ≡ a.line = omega arith in
      let here : code t a.line < 127 = subst (λ k. code t k < 127) zero_more (a.most 0 some) in
      let far : j ≤ a.line = marks_stop a.line u (char_boundary t a.line (omega (arith, here))) (λ e. omega (arith, here, e)) l marks.run in
      let is = a.is in
      absurd (omega (arith, far, is, n)))
      (λ (none : m ≤ 0). omega (arith, none))
      (cases_lt 0 m)
  column_in l run (after_marks {j = j} {x = x} marks c) = let long = length_is (after_run l run marks c) c in omega (arith, long)

  module _ {ls : List Line} (lines : AreLines t ls) (broken : (k : ℕ) (l : Line) → slice_get ls k ≡ Some l → l.end < l.next) where
    column_held : {c : ℕ} (k : ℕ) (l : Line) → slice_get ls k ≡ Some l → LineHolds l o → ColumnOf t l.start o c → c ≡ m + 1
    column_held k l e (at_text_end f g) d = absurd (let b = broken k l e in omega (arith, f, b))
    column_held k l e (inside f g) d =
        let from : l.start ≤ a.line = ⊎_elim (λ (n : a.line < l.start). absurd (no_start l.start (table_start t ls k l lines e) n f)) (λ (n : l.start ≤ a.line). n) (cases_lt a.line l.start) in
        let is = a.is in
        let run = start_in_line l u (table_line t ls k l lines e) (table_cut t ls k l u lines e) a.start from (omega (arith, is, g)) in
        column_in from run.1 d

    pub column_place : {line c : ℕ} → PlaceOf t o line c → c ≡ m + 1
    column_place (in_line {ls = ms} {l = l} k are e h d) =
        let same : ms ≡ ls = lines_unique t ms ls are lines in
        column_held k l (subst (λ w. slice_get w k ≡ Some l) same e) h d
    column_place (after_lines are e new) =
        ⊎_elim (λ (some : 0 < m). absurd (ended some new)) (λ (none : m ≤ 0). omega (arith, none)) (cases_lt 0 m) where
          ended : 0 < m → NewLine t → ⊥
          ended some (of_empty n) = let is = a.is in omega (arith, some, n, is, e)
          ended some (of_break b) =
              let is = a.is in
              let last = at_offset (length t - 1) (omega (arith, some, is, e)) (omega (arith, some, is, e)) in
              let low = last.0 in
              ⊎_elim (λ (f : code t (length t - 1) ≡ 10). omega (arith, f, low)) (λ (f : (code t (length t - 1) ≡ 13) × (code t (length t) ≢ 10)). let g = f.0 in omega (arith, g, low)) (break_end b)
