-- Laws of packed lines: the lines that they give.
use Rattle.std.proofs.Common.{◌≡◌, ◌≢◌, ℕ, zero, suc, ◌+◌, ◌-◌, ◌<◌, ◌≤◌, true, false, List, [], ◌∷◌, ◌++◌, length, get_or, Some, refl, sym, ap, ◌∙◌, subst, ⊎_elim, arith, true≢false, leb}
use Rattle.std.proofs.lemmas.Bool.{cases_lt, cases_eq, ne_eqb, leb-true, le-leb}
use Rattle.std.proofs.lemmas.Option.{slice_get_within, get_or_from_slice_get, same_Some}
use Rattle.std.specs.List.{slice_get}
use Rattle.std.specs.List.Sorted.{IsNonDecreasingBy, IsPartitionPoint}
use Rattle.yf_chars.specs.Class.{is_break_char}
use Rattle.yf_chars.specs.Text.{code}
use Rattle.yf_chars.specs.Chain.{Chain}
use Rattle.yf_chars.proofs.ChainLemmas.{chain_more}
use Rattle.yf_chars.proofs.Tests.{no_item, same_head}
use Rattle.yf_lines.specs.declared.line.Line.{Line}
use Rattle.yf_lines.specs.declared.packed_lines.PackedLine.{PackedLine}
use Rattle.yf_lines.specs.Basic.{Break}
use Rattle.yf_lines.specs.Basic.Break.{cr_lf, lone_cr, lone_lf}
use Rattle.yf_lines.specs.Lines.{NoBreakIn, LineEnd, IsLine, OneLine, AreLines, LinesBegunAt, Table}
use Rattle.yf_lines.specs.Lines.LineEnd.{at_break, at_end}
use Rattle.yf_lines.specs.Rows.{RowsBegun, break_width, end_before, first_start, line_of, lines_of, next_start}
use Rattle.yf_lines.proofs.LineLemmas.{Made, line_made, lf_breaks, cr_breaks, same_fields}
use Rattle.yf_lines.proofs.TableLemmas.{starts_ascend}

-- the width of each break
width_cr_lf : (b l : ℕ) → l ≡ 10 → b ≡ 13 → break_width b l ≡ 2
width_cr_lf b l e d = ap (λ w. break_width b w) e ∙ ap (λ w. break_width w 10) d

width_lf : (b l : ℕ) → l ≡ 10 → b ≢ 13 → break_width b l ≡ 1
width_lf b l e n = rw e (rw (ne_eqb b 13 n) refl)

width_cr : (b l : ℕ) → l ≡ 13 → break_width b l ≡ 1
width_cr b l e = ap (λ w. break_width b w) e

width_other : (b l : ℕ) → l ≢ 10 → l ≢ 13 → break_width b l ≡ 0
width_other b l n m = rw (ne_eqb l 10 n) (rw (ne_eqb l 13 m) refl)

width_none : (t : List ℕ) (b i : ℕ) → is_break_char (code t i) ≡ false → break_width b (code t i) ≡ 0
width_none t b i f =
    ⊎_elim (λ (e : code t i ≡ 10). absurd (true≢false (sym (lf_breaks t i e) ∙ f)))
    (λ (n : code t i ≢ 10).
    ⊎_elim (λ (e : code t i ≡ 13). absurd (true≢false (sym (cr_breaks t i e) ∙ f)))
    (λ (m : code t i ≢ 13). width_other b (code t i) n m) (cases_eq (code t i) 13))
    (cases_eq (code t i) 10)

-- the end of a line
pub end_by : (t : List ℕ) (n w h : ℕ) → break_width (code t (n - 2)) (code t (n - 1)) ≡ w → n - w ≡ h → end_before t n ≡ h
end_by t n w h e q = ap (λ k. n - k) e ∙ q

pub end_cr_lf : (t : List ℕ) (n : ℕ) → code t (n - 1) ≡ 10 → code t (n - 2) ≡ 13 → end_before t n ≡ n - 2
end_cr_lf t n l b = end_by t n 2 (n - 2) (width_cr_lf (code t (n - 2)) (code t (n - 1)) l b) refl

pub end_lf : (t : List ℕ) (n : ℕ) → code t (n - 1) ≡ 10 → code t (n - 2) ≢ 13 → end_before t n ≡ n - 1
end_lf t n l b = end_by t n 1 (n - 1) (width_lf (code t (n - 2)) (code t (n - 1)) l b) refl

pub end_cr : (t : List ℕ) (n : ℕ) → code t (n - 1) ≡ 13 → end_before t n ≡ n - 1
end_cr t n l = end_by t n 1 (n - 1) (width_cr (code t (n - 2)) (code t (n - 1)) l) refl

break_found : {t : List ℕ} {i j : ℕ} → Break t i j → end_before t j ≡ i
break_found {t} {i} (cr_lf a b) =
    end_cr_lf t (i + 2) (ap (code t) (omega arith) ∙ b) (ap (code t) (omega arith) ∙ a) ∙ omega arith
break_found {t} {i} (lone_cr a b) = end_cr t (i + 1) (ap (code t) (omega arith) ∙ a) ∙ omega arith
break_found {t} {i} (lone_lf a b) =
    end_lf t (i + 1) (ap (code t) (omega arith) ∙ a) (λ e. b (ap (code t) (omega arith) ∙ e)) ∙ omega arith

end_found : {t : List ℕ} {s h j : ℕ} → s < j → NoBreakIn t s h → LineEnd t h j → end_before t j ≡ h
end_found o n (at_break b) = break_found b
end_found {t} {s} {h} o n (at_end e) =
    end_by t h 0 h (width_none t (code t (h - 2)) (h - 1) (n.none (h - 1) (omega arith) (omega arith))) (omega arith)

-- a packed line gives its line
line_kept : (t : List ℕ) (l : Line) (r : PackedLine) → IsLine t l → r.start ≡ l.start → r.indent ≡ l.indent → l ≡ line_of t r l.next
line_kept t l r m s d =
    same_fields l (line_of t r l.next) (sym s) (sym (end_found m.order m.unbroken m.ends)) refl (sym d)

rows_more : (t : List ℕ) (rs : List PackedLine) (r : PackedLine) (n : ℕ) → lines_of t n (rs ++ r ∷ []) ≡ lines_of t r.start rs ++ line_of t r n ∷ []
rows_more t [] r n = refl
rows_more t (q ∷ []) r n = refl
rows_more t (q ∷ p ∷ rs) r n = ap (λ w. line_of t q p.start ∷ w) (rows_more t (p ∷ rs) r n)

-- one more packed line is one more line
pub lines_more : (t : List ℕ) (at : ℕ) (rows after : List PackedLine) (r : PackedLine) (l : Line) → after ≡ rows ++ r ∷ []
    → Chain (OneLine t) 0 at (lines_of t at rows) → OneLine t at l.next (l ∷ []) → r.start ≡ l.start → r.indent ≡ l.indent
    → Chain (OneLine t) 0 l.next (lines_of t l.next after)
lines_more t at rows after r l is a o s d =
    let m : Made t at l.next (l ∷ []) = line_made o in
    let q : l ≡ m.line = same_head m.is in
    let made : IsLine t l = subst (λ w. IsLine t w) (sym q) m.made in
    let from : r.start ≡ at = s ∙ ap (λ w. w.start) q ∙ m.start in
    let k : l ≡ line_of t r l.next = line_kept t l r made s d in
    let e : lines_of t l.next after ≡ lines_of t at rows ++ l ∷ [] =
    ap (λ w. lines_of t l.next w) is ∙ rows_more t rows r l.next ∙ ap (λ w. lines_of t w rows ++ line_of t r l.next ∷ []) from
    ∙ ap (λ w. lines_of t at rows ++ w ∷ []) (sym k) in
    subst (λ w. Chain (OneLine t) 0 l.next w) (sym e) (chain_more a o)

pub length_lines : (t : List ℕ) (e : ℕ) (rs : List PackedLine) → length (lines_of t e rs) ≡ length rs
length_lines t e [] = refl
length_lines t e (r ∷ rs) = ap suc (length_lines t e rs)

pub no_rows : (t : List ℕ) (e : ℕ) (rs : List PackedLine) → lines_of t e rs ≡ [] → rs ≡ []
no_rows t e [] q = refl
no_rows t e (r ∷ rs) q = absurd (omega (arith, ap length q))

-- the start of the next line
pub next_within : (rs : List PackedLine) (k m e : ℕ) (d : PackedLine) → m ≡ k + 1 → m < length rs → next_start rs k e ≡ (get_or rs m d).start
next_within [] k m e d q l = absurd (omega arith)
next_within (r ∷ rs) k zero e d q l = absurd (omega (arith, q))
next_within (r ∷ []) zero (suc m) e d q l = absurd (omega arith)
next_within (r ∷ p ∷ rs) zero (suc zero) e d q l = refl
next_within (r ∷ p ∷ rs) zero (suc (suc m)) e d q l = absurd (omega (arith, q))
next_within (r ∷ rs) (suc k) (suc m) e d q l = next_within rs k m e d (omega (arith, q)) (omega arith)

pub next_past : (rs : List PackedLine) (k : ℕ) (e : ℕ) → length rs ≤ k + 1 → next_start rs k e ≡ e
next_past [] k e l = refl
next_past (r ∷ []) zero e l = refl
next_past (r ∷ q ∷ rs) zero e l = absurd (omega arith)
next_past (r ∷ rs) (suc k) e l = next_past rs k e (omega arith)

-- the line at an index
pub got_line : (t : List ℕ) (e : ℕ) (rs : List PackedLine) (k : ℕ) (r : PackedLine) → slice_get rs k ≡ Some r
    → slice_get (lines_of t e rs) k ≡ Some (line_of t r (next_start rs k e))
got_line t e [] k r is = absurd (no_item k r is)
got_line t e (q ∷ rs) zero r is = ap (λ w. Some (line_of t w (first_start rs e))) (same_Some _ _ is)
got_line t e (q ∷ rs) (suc k) r is = got_line t e rs k r is

-- the line that ends at h; the next line begins at n
pub line_by_end : (t : List ℕ) (r : PackedLine) (k n h : ℕ) → k ≡ n → h ≡ end_before t n
    → line_of t r k ≡ record { start = r.start; end = h; next = n; indent = r.indent }
line_by_end t r k n h e q =
    same_fields (line_of t r k) (record { start = r.start; end = h; next = n; indent = r.indent }) refl (ap (end_before t) e ∙ sym q) e refl

-- the packed line of a line
pub record RowAt (rs : List PackedLine) (k : ℕ) (l : Line) : Type 0 where
  pub row : PackedLine
  pub is : slice_get rs k ≡ Some row
  pub start : row.start ≡ l.start

row_at : (t : List ℕ) (e : ℕ) (rs : List PackedLine) (k : ℕ) (l : Line) → slice_get (lines_of t e rs) k ≡ Some l → RowAt rs k l
row_at t e [] k l is = absurd (no_item k l is)
row_at t e (q ∷ rs) zero l is =
    let s : line_of t q (first_start rs e) ≡ l = same_Some _ _ is in
    record { row = q; is = refl; start = ap (λ w. w.start) s }
row_at t e (q ∷ rs) (suc k) l is = let r = row_at t e rs k l is in record { row = r.row; is = r.is; start = r.start }

begun_lines : (t : List ℕ) (e : ℕ) (rs : List PackedLine) (offset k : ℕ) → RowsBegun rs offset k → LinesBegunAt (lines_of t e rs) offset k
begun_lines t e rs offset k b = record {
  before = λ m l is w. let r = row_at t e rs m l is in let o = b.before m r.row r.is w in omega (arith, r.start);
  follows = λ m l is w. let r = row_at t e rs m l is in let o = b.follows m r.row r.is w in omega (arith, r.start);
}

-- the packed lines of a table, if the slice ss is equal to them
pub begun_table : (v : Table) (t : List ℕ) (rs ss : List PackedLine) (offset k : ℕ) → ss ≡ rs → record { text = t; lines = lines_of t (length t) rs } ≡ v
    → RowsBegun ss offset k → LinesBegunAt v.lines offset k
begun_table v t rs ss offset k s e b =
    subst (λ w. LinesBegunAt w offset k) (ap (λ w. w.lines) e) (begun_lines t (length t) rs offset k (subst (λ w. RowsBegun w offset k) s b))

-- the starts of the packed lines ascend
start_at : (t : List ℕ) (e : ℕ) (rs : List PackedLine) (k : ℕ) (d : PackedLine) → (get_or (lines_of t e rs) k (line_of t d 0)).start ≡ (get_or rs k d).start
start_at t e [] k d = refl
start_at t e (r ∷ rs) zero d = refl
start_at t e (r ∷ rs) (suc k) d = start_at t e rs k d

pub rows_ascend : (t : List ℕ) (e : ℕ) (rs : List PackedLine) → AreLines t (lines_of t e rs) → IsNonDecreasingBy (λ r. r.start) rs
rows_ascend t e rs a k m d o w =
    let s = starts_ascend t (lines_of t e rs) a k m (line_of t d 0) o (omega (arith, w, length_lines t e rs)) in
    omega (arith, s, start_at t e rs k d, start_at t e rs m d)

-- the result of a binary search
pub rows_from_point : (rs : List PackedLine) (offset k : ℕ) → IsPartitionPoint (λ (r : PackedLine). leb r.start offset ≡ true) (λ (r : PackedLine). leb r.start offset ≡ false) rs k
    → RowsBegun rs offset k
rows_from_point rs offset k p = record {
  before = λ m r e w.
      let q : get_or rs m r ≡ r = get_or_from_slice_get rs m r r e in
      let b = leb-true (get_or rs m r).start offset (p.0 m r (omega arith) w) in omega (arith, ap (λ w. w.start) q);
  follows = λ m r e w.
      let q : get_or rs m r ≡ r = get_or_from_slice_get rs m r r e in
      let f : leb r.start offset ≡ false = subst (λ (v : PackedLine). leb v.start offset ≡ false) q (p.1 m r w (slice_get_within rs m r e)) in
      ⊎_elim (λ (a : offset < r.start). a) (λ (a : r.start ≤ offset). absurd (true≢false (sym (le-leb r.start offset a) ∙ f))) (cases_lt offset r.start);
}
