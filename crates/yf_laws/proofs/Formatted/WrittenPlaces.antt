-- The last character of a flow collection that is as it is written has the last column of its width.
use Rattle.std.proofs.Common.{◌≡◌, ◌≢◌, ℕ, ◌+◌, ◌-◌, ◌<◌, ◌≤◌, ⊎_elim, Bool, true, true≢false, List, [], ◌∷◌, ◌++◌, length, length-append, Some, refl, sym, ap, ◌∙◌, subst, arith}
use Rattle.std.specs.Prelude.{slice_get}
use Rattle.std.specs.Str.{IsUtf8}
use Rattle.std.proofs.lemmas.Bool.{cases_lt}
use Rattle.yf_chars.specs.Class.{is_nb_char}
use Rattle.yf_chars.specs.Text.{code, next, no_char}
use Rattle.yf_chars.specs.Chain.{Many}
use Rattle.yf_chars.specs.Chain.Chain.{done, step}
use Rattle.yf_chars.specs.Chain.One.{one}
use Rattle.yf_chars.proofs.ChainLemmas.{chain_forward, many_more, one_functional}
use Rattle.yf_chars.proofs.TextLemmas.{next_later}
use Rattle.yf_lines.specs.Lines.{AreLines, ColumnOf, LineHolds, Marks, PlaceOf, is_char, is_mark}
use Rattle.yf_lines.specs.Lines.ColumnOf.{among_marks, after_marks}
use Rattle.yf_lines.specs.Lines.LineHolds.{inside, at_text_end}
use Rattle.yf_lines.specs.Lines.PlaceOf.{in_line, after_lines}
use Rattle.yf_lines.specs.declared.line.Line.{Line}
use Rattle.yf_lines.proofs.LineLemmas.{lines_unique}
use Rattle.yf_lines.proofs.MarkLemmas.{code_mark, marks_order, marks_stop, start_in_line}
use Rattle.yf_lines.proofs.TableLemmas.{table_cut, table_line, table_start}
use Rattle.yf_events.specs.Tree.{Node}
use Rattle.yf_forms.specs.declared.style.Style.{Style}
use Rattle.yf_forms.specs.Nodes.OneLine.{width, written}
use Rattle.yf_laws.proofs.Formatted.MendedColumns.{ascii_next, chars_past}
use Rattle.yf_laws.proofs.Columns.WrittenNodes.{WrittenAt}
use Rattle.yf_chars.proofs.Tests.{below}
use Rattle.yf_chars.proofs.CharBounds.{nb_below}
use Rattle.yf_chars.proofs.CharFacts.{mark_no_nb}
use Rattle.yf_standard.proofs.Texts.{some_first}
use Rattle.yf_rule_sets.proofs.RuleSets.DocumentLemmas.{char_boundary}

-- Runs of characters.

-- parts between the same offsets are equally long
same_run : {t : List ℕ} {p q : ℕ → Bool} {i j k : ℕ} {x y : List ℕ} → Many t p i j x → Many t q i k y → j ≡ k → length x ≡ length y
same_run done done e = refl
same_run {t} {q = q} {i = i} done (step (one n) c) e = let far = chain_forward (one_functional t q) c in let order = next_later t i in absurd (omega (arith, far, order, e))
same_run {t} {p = p} {i = i} (step (one n) c) done e = let far = chain_forward (one_functional t p) c in let order = next_later t i in absurd (omega (arith, far, order, e))
same_run (step (one n) c) (step (one o) d) e = let more = same_run c d e in omega (arith, more)

module _ {t : List ℕ} (u : IsUtf8 t) {house : Style} {m : ℕ} {x : Node} (a : WrittenAt house t m x) where
  abbrev last : ℕ
  last = a.span.end - 1

  abbrev from : ℕ
  from = a.on.line

  upto : from ≤ last
  upto = less_one a.some where
    less_one : {p q : ℕ} → p < q → p ≤ q - 1
    less_one l = omega (arith, l)

  nb : is_nb_char (code t from) ≡ true
  nb = some_first a.on.run a.some

  no_mark : code t from ≢ 0xFEFF
  no_mark e = true≢false (sym nb ∙ (ap is_nb_char e ∙ mark_no_nb))

  -- its last character is one byte
  last_step : next t last ≡ a.span.end
  last_step = ascii_next last u a.last ∙ whole a.some where
    whole : {p q : ℕ} → p < q → q - 1 + 1 ≡ q
    whole l = omega (arith, l)

  last_char : is_char (code t last) ≡ true
  last_char = let l = a.last in below (code t last) no_char (omega (arith, l))

  -- after the marks of a line that holds it
  after_run : {s j : ℕ} {y z : List ℕ} → s ≤ from → Many t is_mark s from y → Marks t s j → Many t is_char j last z → from ≡ j
  after_run {s} {j} {y} {z} l run marks c =
      let far : j ≤ from = marks_stop from u (char_boundary t from (nb_below (code t from) nb)) no_mark l marks.run in
      let near : from ≤ j = chars_past u no_mark_at (marks_order t s j marks) run upto c in
      omega (arith, far, near) where
        no_mark_at : code t j ≢ 0xFEFF
        no_mark_at e = true≢false (sym (code_mark t j e) ∙ marks.stops)

  -- a character is before it, or it is the first
  some_wide : 1 ≤ m + width (written house x)
  some_wide = by a.on.run a.on.wide a.some where
    by : {i j : ℕ} {y : List ℕ} → Many t is_nb_char i j y → length y ≡ m + width (written house x) → i < j → 1 ≤ m + width (written house x)
    by done w l = absurd (omega (arith, l))
    by (step (one n) c) w l = omega (arith, w)

  column_in : {s c : ℕ} {y : List ℕ} → s ≤ from → Many t is_mark s from y → ColumnOf t s last c → c ≤ m + width (written house x)
  column_in l run (among_marks marks n) = some_wide
  column_in l run (after_marks {j = j} {x = z} marks c) =
      let same : from ≡ j = after_run l run marks c in
      let whole : Many t is_char j (next t last) (z ++ code t last ∷ []) = many_more t is_char c last_char in
      let long : length (z ++ code t last ∷ []) ≡ length a.on.before = same_run (subst (λ k. Many t is_char k (next t last) (z ++ code t last ∷ [])) (sym same) whole) a.on.run last_step in
      let count : length (z ++ code t last ∷ []) ≡ length z + 1 = length-append z (code t last ∷ []) in
      let w : length a.on.before ≡ m + width (written house x) = a.on.wide in
      omega (arith, long, count, w)

  -- in a text with a break at the end of each line
  module _ {ls : List Line} (lines : AreLines t ls) (broken : (k : ℕ) (l : Line) → slice_get ls k ≡ Some l → l.end < l.next) where
    column_held : {c : ℕ} (k : ℕ) (l : Line) → slice_get ls k ≡ Some l → LineHolds l last → ColumnOf t l.start last c → c ≤ m + width (written house x)
    column_held k l e (at_text_end f g) d = absurd (let b = broken k l e in omega (arith, f, b))
    column_held k l e (inside f g) d =
        let s : from < a.span.end = a.some in
        let reach = upto in
        let begins : l.start ≤ from =
        ⊎_elim (λ (n : from < l.start). absurd (a.on.quiet.none l.start n (omega (arith, f, s)) (table_start t ls k l lines e))) (λ (n : l.start ≤ from). n) (cases_lt from l.start) in
        let run = start_in_line l u (table_line t ls k l lines e) (table_cut t ls k l u lines e) a.on.start begins (omega (arith, g, reach)) in
        column_in begins run.1 d

    pub column_most : {line c : ℕ} → PlaceOf t last line c → c ≤ m + width (written house x)
    column_most (in_line {ls = ms} {l = l} k are e h d) =
        let same : ms ≡ ls = lines_unique t ms ls are lines in
        column_held k l (subst (λ w. slice_get w k ≡ Some l) same e) h d
    column_most (after_lines are e new) = some_wide
