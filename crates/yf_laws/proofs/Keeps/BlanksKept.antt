-- The notes on blank lines of a formatted text are those of the text, if a blank line is allowed there.
use Rattle.std.proofs.Common.{◌≡◌, ℕ, Bool, false, List, [], ◌∷◌, ◌++◌, map, refl, sym, ap, ◌∙◌, subst}
use Rattle.std.specs.Prelude.{◌&&◌, filter, not}
use Rattle.std.specs.Str.{IsUtf8}
use Rattle.yf_comments.specs.Comment.{CommentValue}
use Rattle.yf_comments.specs.GapLines.{GapLine}
use Rattle.yf_events.specs.Event.{EventInText}
use Rattle.yf_events.specs.declared.lists.Lists.{Lists}
use Rattle.yf_forms.specs.declared.style.Style.{Style}
use Rattle.yf_laws.specs.Layouts.Decorated.{comments_left, decos_of, gap_of, rows_of}
use Rattle.yf_laws.specs.Format.{IsFormatting}
use Rattle.yf_laws.specs.Layouts.Layout.{Line, Source, comment_line, lines_of, may_be_blank_after, own_line_comments, precedes_item, row_line, source_of}
use Rattle.yf_forms.specs.NormalForms.Restyled.{SameButStyles, none_left, one_more}
use Rattle.yf_laws.specs.Layouts.RowShapes.{shape_of}
use Rattle.yf_print.specs.Layouts.Rows.{Ending, Row, anywhere, at_text_start}
use Rattle.yf_laws.specs.Preservation.SpacedLines.{SameBlanks, left_blank, notes_of}
use Rattle.yf_laws.proofs.SecondRun.AlikeLemmas.{shapes}
use Rattle.yf_laws.proofs.ReadAgain.BlanksAgain.{blanks_found}
use Rattle.yf_laws.proofs.SecondRun.FixedFormats.{found_layout}
use Rattle.yf_laws.proofs.SecondRun.FixedLawsHold.{found_reading}
use Rattle.yf_laws.proofs.SecondRun.FixedRows.{found_rows}
use Rattle.yf_laws.proofs.SecondRun.FormatsFixed.{again_carried, again_same}
use Rattle.yf_laws.proofs.ReadAgain.GapsAgain.{Blanks, first_remark, gap_at_end, gap_more, gap_with, last_line}
use Rattle.yf_laws.proofs.NormalForms.NormalRestyled.{normal_restyled}
use Rattle.yf_laws.proofs.ReadAgain.ReadingsAgain.{OwnCarried, alone_carried, rows_carried}
use Rattle.yf_laws.proofs.ReadAgain.RowsAgain.{Apart, Carry, last_carries, row_carries, kept_first, kept_others}
use Rattle.yf_forms.specs.NormalForms.BareStart.{is_bare}
use Rattle.yf_print.specs.Layouts.KeptColumns.{Columns, columns_of}
use Rattle.yf_laws.specs.Preservation.CommentsPlaced.{columns_in}

-- Between two rows.

abbrev comments_at : Columns → ℕ → List CommentValue → List Line
comments_at g column cs = map (comment_line g column) cs

-- hs are the comments that were laid out, and cs those that are found there; a row follows, or none
gap_spaced : {t : List ℕ} (g fs : Columns) (e : Ending) (column other : ℕ) (hs : List CommentValue) {b : Bool} {cs : List CommentValue} (x y : Line) (xs ys : List Line)
    → Blanks t (may_be_blank_after e) false (gap_with g e column hs x.blank_before) cs b → y.blank_before ≡ b → notes_of ys ≡ left_blank x.ending xs
    → notes_of (comments_at fs other cs ++ (y ∷ ys)) ≡ left_blank e (comments_at g column hs ++ (x ∷ xs))
gap_spaced g fs e column other [] x y xs ys w f more =
    let l = last_line (may_be_blank_after e) x.blank_before w in
    ap (λ z. notes_of (comments_at fs other z ++ (y ∷ ys))) l.none ∙ (ap (λ z. z ∷ notes_of ys) (f ∙ l.exact) ∙ ap (λ z. (may_be_blank_after e && x.blank_before) ∷ z) more)
gap_spaced {t} g fs e column other (h ∷ hs) {b} {cs} x y xs ys w f more =
    let r = first_remark (may_be_blank_after e) h.blank_before (g h column) (subst (λ z. Blanks t (may_be_blank_after e) false z cs b) (gap_more g e column h hs x.blank_before) w) in
    ap (λ z. notes_of (comments_at fs other z ++ (y ∷ ys))) r.are
    ∙ (ap (λ z. z ∷ notes_of (comments_at fs other r.cs ++ (y ∷ ys))) r.exact
    ∙ ap (λ z. (may_be_blank_after e && h.blank_before) ∷ z) (gap_spaced g fs anywhere column other hs x y xs ys r.more f more))

end_spaced : {t : List ℕ} (g fs : Columns) (e : Ending) (column other : ℕ) (hs : List CommentValue) {b : Bool} {cs : List CommentValue} → Blanks t (may_be_blank_after e) false (gap_with g e column hs false) cs b
    → notes_of (comments_at fs other cs) ≡ left_blank e (comments_at g column hs)
end_spaced g fs e column other [] w = ap (λ z. notes_of (comments_at fs other z)) (last_line (may_be_blank_after e) false w).none
end_spaced {t} g fs e column other (h ∷ hs) {b} {cs} w =
    let r = first_remark (may_be_blank_after e) h.blank_before (g h column) (subst (λ z. Blanks t (may_be_blank_after e) false z cs b) (gap_more g e column h hs false) w) in
    ap (λ z. notes_of (comments_at fs other z)) r.are
    ∙ (ap (λ z. z ∷ notes_of (comments_at fs other r.cs)) r.exact ∙ ap (λ z. (may_be_blank_after e && h.blank_before) ∷ z) (end_spaced g fs anywhere column other hs r.more))

-- Rows.

same_end : (x y : Row) → shape_of x ≡ shape_of y → y.ending ≡ x.ending
same_end x y e = ap (λ s. s.ending) (sym e)

-- the comments before a row, and those after it
apart_lines : {y : Row} {here left : List CommentValue} (fs : Columns) (d : Source) (ys : List Row) → Apart y here left
    → lines_of fs d (here ++ left) (y ∷ ys) ≡ comments_at fs y.column here ++ (row_line d y ∷ lines_of fs d left ys)
apart_lines {y} {here} {left} fs d ys a =
    ap (λ z. comments_at fs y.column z ++ (row_line d y ∷ lines_of fs d (filter (λ c. not (precedes_item y c)) (here ++ left)) ys)) (kept_first (precedes_item y) here left a.before a.follows)
    ∙ ap (λ z. comments_at fs y.column here ++ (row_line d y ∷ lines_of fs d z ys)) (kept_others (precedes_item y) here left a.before a.follows)

module _ {u : List ℕ} (g fs : Columns) (c d : Source) where
  -- after a row
  rows_spaced : (own : List CommentValue) (x : Row) (xs : List Row) {y : Row} {ys : List Row} {others : List CommentValue} → shapes (x ∷ xs) ≡ shapes (y ∷ ys)
      → Carry u g d (y ∷ ys) (decos_of g c own (x ∷ xs)) others → notes_of (lines_of fs d others ys) ≡ left_blank x.ending (lines_of g c (comments_left x own) xs)
  rows_spaced own x [] {y} same (last_carries {here = here} hs t q w) =
      let one : shape_of x ≡ shape_of y = cc in
      let blanks : Blanks u (may_be_blank_after x.ending) false (gap_of g x.ending (comments_left x own) []) here false =
      subst (λ z. Blanks u (may_be_blank_after z) false (gap_of g x.ending (comments_left x own) []) here false) (same_end x y one) w in
      end_spaced g fs x.ending 0 0 (comments_left x own) (subst (λ z. Blanks u (may_be_blank_after x.ending) false z here false) (gap_at_end g x.ending (comments_left x own)) blanks)
  rows_spaced own x [] same (row_carries hs b t q w a more) = absurd cc
  rows_spaced own x (v ∷ xs) {y} same (row_carries {next = next} {rows = ys} {here = here} {left = left} hs b t q w a more) =
      let one : shape_of x ≡ shape_of y = cc in
      let rest : shapes (v ∷ xs) ≡ shapes (next ∷ ys) = cc in
      let gap : List GapLine = gap_of g x.ending (comments_left x own) (v ∷ xs) in
      let blanks : Blanks u (may_be_blank_after x.ending) false gap here next.blank_before =
      subst (λ z. Blanks u (may_be_blank_after z) false gap here next.blank_before) (same_end x y one) w in
      ap notes_of (apart_lines fs d ys a)
      ∙ gap_spaced g fs x.ending v.column next.column (filter (precedes_item v) (comments_left x own)) (row_line c v) (row_line d next) (lines_of g c (comments_left v (comments_left x own)) xs) (lines_of fs d left ys) blanks refl
      (rows_spaced (comments_left x own) v xs rest more)

  all_spaced : (own : List CommentValue) (xs : List Row) (q : Lists) (ys : List Row) → d ≡ source_of q ys → shapes xs ≡ shapes ys → OwnCarried u g q ys (gap_of g at_text_start own xs) (decos_of g c own xs)
      → notes_of (lines_of fs d (own_line_comments d ys) ys) ≡ left_blank at_text_start (lines_of g c own xs)
  all_spaced own [] q [] e same (alone_carried firsts f w) =
      ap (λ z. notes_of (comments_at fs 0 (own_line_comments z []))) e ∙ (ap (λ z. notes_of (comments_at fs 0 z)) f
      ∙ end_spaced g fs at_text_start 0 0 own (subst (λ z. Blanks u false false z firsts false) (gap_at_end g at_text_start own) w))
  all_spaced own [] q (y ∷ ys) e same f = absurd cc
  all_spaced own (x ∷ xs) q [] e same f = absurd cc
  all_spaced own (x ∷ xs) q (y ∷ ys) e same (rows_carried firsts others f w a more) =
      ap (λ z. notes_of (lines_of fs d (own_line_comments z (y ∷ ys)) (y ∷ ys))) e ∙ (ap (λ z. notes_of (lines_of fs d z (y ∷ ys))) f ∙ (ap notes_of (apart_lines fs d ys a)
      ∙ gap_spaced g fs at_text_start x.column y.column (filter (precedes_item x) own) (row_line c x) (row_line d y) (lines_of g c (comments_left x own) xs) (lines_of fs d others ys) w refl
      (rows_spaced own x xs same (subst (λ z. Carry u g z (y ∷ ys) (decos_of g c own (x ∷ xs)) others) (sym e) more))))

-- The law.

restyled_entries : {house : Style} {es fs : List EventInText} → SameButStyles house es fs → map (λ (e : EventInText). e.entry) fs ≡ map (λ (e : EventInText). e.entry) es
restyled_entries none_left = refl
restyled_entries (one_more {e = e} flow more) = ap (λ w. e.entry ∷ w) (restyled_entries more)

pub blanks_kept : (t u : List ℕ) (s : Style) → IsUtf8 t → IsFormatting t s u → SameBlanks t s u
blanks_kept t u s utf8 given = record {
  lines = λ q b.
      let w = found_reading t u s q utf8 given b in
      found_layout given q b.trees (again_same q utf8 given b w (blanks_found t u s q utf8 given b w));
  notes = λ f q b.
      let m : Lists = f.normal in
      let xs : List Row = rows_of m s f.writes.trees in
      let ys : List Row = rows_of q s b.trees in
      let w = found_reading t u s q utf8 f b in
      let carried = again_carried q utf8 f b w (blanks_found t u s q utf8 f b w) in
      all_spaced (columns_in f) (columns_of u s ys) (source_of m xs) (source_of q ys) (own_line_comments (source_of m xs) xs) xs q ys refl (found_rows (is_bare m s) (is_bare q s) w.bare w.alike) carried.own;
  comments = λ f. ap (λ (w : Lists). w.comments) f.is_normal.is;
  entries = λ f. restyled_entries (normal_restyled f.is_normal).events;
}
