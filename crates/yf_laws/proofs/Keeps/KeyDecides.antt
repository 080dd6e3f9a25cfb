-- Texts with equal keys have equal formattings.
use Rattle.std.proofs.Common.{◌≡◌, ℕ, Bool, true, false, List, [], ◌∷◌, ◌++◌, length, map, flat_map, refl, sym, ap, ◌∙◌, subst}
use Rattle.std.specs.Prelude.{◌&&◌, filter, if◌then◌else◌, not}
use Rattle.std.proofs.lemmas.List.{length-map}
use Rattle.yf_comments.specs.Comment.{CommentValue}
use Rattle.yf_comments.specs.GapLines.{remark}
use Rattle.yf_events.specs.declared.lists.Lists.{Lists}
use Rattle.yf_forms.specs.declared.style.Style.{Style}
use Rattle.yf_laws.specs.Preservation.CommentsPlaced.{ends_line, rows_in, source_in, columns_in}
use Rattle.yf_laws.specs.Layouts.Decorated.{blank_if, comments_left, decorated, decos_of, ending_after, first_gap, gap_of, gap_then, lines_then, remarks_after, row_decos, rows_of}
use Rattle.yf_laws.specs.Format.{IsFormatting}
use Rattle.yf_laws.specs.Layouts.Layout.{Source, is_among, may_be_blank_after, own_line_comments, precedes_item, source_of, trailing}
use Rattle.yf_forms.specs.Nodes.Lines.{trimmed}
use Rattle.yf_laws.specs.Preservation.LayoutKey.{DependsOnKey, SameEnds, no_ends, same_end, SameKey, no_place, same_place, SamePlaces, no_comments, same_comment, SameRows, no_more_rows, same_row}
use Rattle.yf_laws.specs.Layouts.RowShapes.{shape_of}
use Rattle.yf_print.specs.Layouts.Rows.{Ending, Row, anywhere, at_text_start, all_rows}
use Rattle.yf_laws.proofs.SecondRun.AlikeLemmas.{shapes}
use Rattle.yf_laws.proofs.Keeps.CommentsStay.{rows_exact}
use Rattle.yf_laws.proofs.Derived.DecoratedLemmas.{layout_then}
use Rattle.yf_laws.proofs.SecondRun.FixedRows.{same_lines, all_same_rows}
use Rattle.yf_laws.proofs.Trails.TrailOthers.{firsts}
use Rattle.yf_forms.specs.NormalForms.BareStart.{is_bare}
use Rattle.yf_forms.specs.NormalForms.Normal.{setting_of}
use Rattle.yf_print.specs.Layouts.KeptColumns.{Columns}

-- Comments that are removed.

-- those before a row, with nothing known about the rows after it, and those that are left
before_row : {p q : Columns} {x y : Row} {xs ys : List Row} {cs ds : List CommentValue} → SamePlaces p q (x ∷ xs) (y ∷ ys) cs ds → SamePlaces p q [] [] (filter (precedes_item x) cs) (filter (precedes_item y) ds)
before_row no_comments = no_comments
before_row {p} {q} {x} {y} (same_comment {c = c} {d = d} {cs = cs} {ds = ds} a b (same_place e f) k more) = by (precedes_item x c) (precedes_item y d) e (before_row more) where
  by : (v w : Bool) → v ≡ w → SamePlaces p q [] [] (filter (precedes_item x) cs) (filter (precedes_item y) ds)
      → SamePlaces p q [] [] (if v then c ∷ filter (precedes_item x) cs else filter (precedes_item x) cs) (if w then d ∷ filter (precedes_item y) ds else filter (precedes_item y) ds)
  by true true e rest = same_comment a b no_place k rest
  by false false e rest = rest
  by true false e rest = absurd cc
  by false true e rest = absurd cc

after_row : {p q : Columns} {x y : Row} {xs ys : List Row} {cs ds : List CommentValue} → SamePlaces p q (x ∷ xs) (y ∷ ys) cs ds → SamePlaces p q xs ys (comments_left x cs) (comments_left y ds)
after_row no_comments = no_comments
after_row {p} {q} {x} {y} {xs} {ys} (same_comment {c = c} {d = d} {cs = cs} {ds = ds} a b (same_place e f) k more) = by (precedes_item x c) (precedes_item y d) e (after_row more) where
  by : (v w : Bool) → v ≡ w → SamePlaces p q xs ys (comments_left x cs) (comments_left y ds)
      → SamePlaces p q xs ys (if not v then c ∷ comments_left x cs else comments_left x cs) (if not w then d ∷ comments_left y ds else comments_left y ds)
  by true true e rest = rest
  by false false e rest = same_comment a b f k rest
  by true false e rest = absurd cc
  by false true e rest = absurd cc

-- those on lines of their own
own_places : {h i : Columns} (b c : Source) (p q : CommentValue → Bool) → ((d : CommentValue) → p d ≡ not (ends_line b d)) → ((d : CommentValue) → q d ≡ not (ends_line c d)) → {xs ys : List Row} {cs ds : List CommentValue}
    → SamePlaces h i xs ys cs ds → SameEnds b c cs ds → SamePlaces h i xs ys (filter p cs) (filter q ds)
own_places b c p q f g no_comments no_ends = no_comments
own_places {h} {i} b c p q f g {xs} {ys} (same_comment {c = k} {d = l} {cs = cs} {ds = ds} m n o j more) (same_end e ends) =
    by (p k) (q l) (f k ∙ (ap not e ∙ sym (g l))) (own_places b c p q f g more ends) where
      by : (v w : Bool) → v ≡ w → SamePlaces h i xs ys (filter p cs) (filter q ds) → SamePlaces h i xs ys (if v then k ∷ filter p cs else filter p cs) (if w then l ∷ filter q ds else filter q ds)
      by true true e rest = same_comment m n o j rest
      by false false e rest = rest
      by true false e rest = absurd cc
      by false true e rest = absurd cc

-- Gaps.

remarks_same : {p q : Columns} {xs ys : List Row} {cs ds : List CommentValue} (e : Ending) (column : ℕ) → SamePlaces p q xs ys cs ds → remarks_after p e column cs ≡ remarks_after q e column ds
remarks_same e column no_comments = refl
remarks_same {p} {q} e column (same_comment {c = c} {d = d} {cs = cs} {ds = ds} a b o k more) =
    ap (λ z. blank_if (may_be_blank_after e && z) ++ (remark (p c column) (trimmed c.text) ∷ remarks_after p anywhere column cs)) b
    ∙ (ap (λ z. blank_if (may_be_blank_after e && d.blank_before) ++ (remark (p c column) z ∷ remarks_after p anywhere column cs)) a
    ∙ (ap (λ z. blank_if (may_be_blank_after e && d.blank_before) ++ (remark z (trimmed d.text) ∷ remarks_after p anywhere column cs)) (k column)
    ∙ ap (λ z. blank_if (may_be_blank_after e && d.blank_before) ++ (remark (q d column) (trimmed d.text) ∷ z)) (remarks_same anywhere column more)))

ending_same : {p q : Columns} {xs ys : List Row} {cs ds : List CommentValue} (e : Ending) → SamePlaces p q xs ys cs ds → ending_after e cs ≡ ending_after e ds
ending_same e no_comments = refl
ending_same e (same_comment a b p k more) = refl

module _ (p q : Columns) (b c : Source) where
  gap_same : (e : Ending) {xs ys : List Row} {cs ds : List CommentValue} → SamePlaces p q xs ys cs ds → SameRows b c xs ys → shapes xs ≡ shapes ys → gap_of p e cs xs ≡ gap_of q e ds ys
  gap_same e places no_more_rows shaped = remarks_same e 0 places
  gap_same e {cs = cs} {ds = ds} places (same_row {x = x} {y = y} blank trails more) shaped =
      let here = before_row places in
      let one : shape_of x ≡ shape_of y = cc in
      ap (λ k. remarks_after p e k (filter (precedes_item x) cs) ++ blank_if (may_be_blank_after (ending_after e (filter (precedes_item x) cs)) && x.blank_before)) (ap (λ s. s.column) one)
      ∙ (ap (λ z. z ++ blank_if (may_be_blank_after (ending_after e (filter (precedes_item x) cs)) && x.blank_before)) (remarks_same e y.column here)
      ∙ (ap (λ z. remarks_after q e y.column (filter (precedes_item y) ds) ++ blank_if (may_be_blank_after z && x.blank_before)) (ending_same e here)
      ∙ ap (λ z. remarks_after q e y.column (filter (precedes_item y) ds) ++ blank_if (may_be_blank_after (ending_after e (filter (precedes_item y) ds)) && z)) blank))

  decos_same : {xs ys : List Row} {cs ds : List CommentValue} → SamePlaces p q xs ys cs ds → SameRows b c xs ys → shapes xs ≡ shapes ys → decos_of p b cs xs ≡ decos_of q c ds ys
  decos_same places no_more_rows shaped = refl
  decos_same {cs = cs} {ds = ds} places (same_row {x = x} {y = y} {xs = xs} {ys = ys} blank trails more) shaped =
      let one : shape_of x ≡ shape_of y = cc in
      let others : shapes xs ≡ shapes ys = cc in
      let left = after_row places in
      ap (λ z. record { trails = z; gap = gap_of p x.ending (comments_left x cs) xs } ∷ decos_of p b (comments_left x cs) xs) trails
      ∙ (ap (λ z. record { trails = map (λ (d : CommentValue). trimmed d.text) (trailing c y); gap = gap_of p z (comments_left x cs) xs } ∷ decos_of p b (comments_left x cs) xs) (ap (λ s. s.ending) one)
      ∙ (ap (λ z. record { trails = map (λ (d : CommentValue). trimmed d.text) (trailing c y); gap = z } ∷ decos_of p b (comments_left x cs) xs) (gap_same y.ending left more others)
      ∙ ap (λ z. record { trails = map (λ (d : CommentValue). trimmed d.text) (trailing c y); gap = gap_of q y.ending (comments_left y ds) ys } ∷ z) (decos_same left more others)))

-- Layouts.

-- each comment of a normal form has its note
pub as_many_notes : {t u : List ℕ} {s : Style} (f : IsFormatting t s u) → length f.normal.on_leaf_line ≡ length f.normal.comments
as_many_notes f =
    ap (λ (m : Lists). length m.on_leaf_line) f.is_normal.is ∙ (ap length f.reads.notes ∙ (length-map f.reading.comments _ ∙ sym (ap (λ (m : Lists). length m.comments) f.is_normal.is)))

own_of_normal : {t u : List ℕ} {s : Style} (f : IsFormatting t s u) → own_line_comments (source_in f) (rows_in f) ≡ filter (λ d. not (is_among (flat_map (trailing (source_in f)) (rows_in f)) d)) f.normal.comments
own_of_normal f =
    ap (filter (λ d. not (is_among (flat_map (trailing (source_in f)) (rows_in f)) d))) (firsts f.normal.comments f.normal.on_leaf_line (as_many_notes f))

same_layout : {t u v w : List ℕ} {s : Style} (f : IsFormatting t s u) (g : IsFormatting v s w) → SameKey f g → u ≡ w
same_layout {t} {u} {v} {w} {s} f g key =
    let m : Lists = f.normal in
    let n : Lists = g.normal in
    let xs : List Row = rows_of m s f.writes.trees in
    let ys : List Row = rows_of n s g.writes.trees in
    let shaped : shapes xs ≡ shapes ys =
    all_same_rows (is_bare m s) key.documents ∙ ap (λ b. shapes (all_rows (setting_of n s) b n.documents g.writes.trees)) key.bare in
    let p : Columns = columns_in f in
    let q : Columns = columns_in g in
    let own : SamePlaces p q xs ys (own_line_comments (source_of m xs) xs) (own_line_comments (source_of n ys) ys) =
    subst (λ z. SamePlaces p q xs ys z (own_line_comments (source_of n ys) ys)) (sym (own_of_normal f)) (subst (λ z. SamePlaces p q xs ys (filter (λ d. not (is_among (flat_map (trailing (source_of m xs)) xs) d)) m.comments) z) (sym (own_of_normal g))
    (own_places (source_of m xs) (source_of n ys) (λ d. not (is_among (flat_map (trailing (source_of m xs)) xs) d)) (λ d. not (is_among (flat_map (trailing (source_of n ys)) ys) d))
    (λ d. ap not (rows_exact m xs d)) (λ d. ap not (rows_exact n ys d)) key.places key.ends)) in
    let gap : first_gap p m xs ≡ first_gap q n ys = gap_same p q (source_of m xs) (source_of n ys) at_text_start own key.rows shaped in
    let decos : row_decos p m xs ≡ row_decos q n ys = decos_same p q (source_of m xs) (source_of n ys) own key.rows shaped in
    let lines : decorated p m xs ≡ decorated q n ys =
    ap (λ z. gap_then z (lines_then xs (row_decos p m xs) [])) gap
    ∙ (ap (λ z. gap_then (first_gap q n ys) (lines_then xs z [])) decos ∙ ap (λ z. gap_then (first_gap q n ys) z) (same_lines xs ys (row_decos q n ys) [] shaped)) in
    f.writes.is ∙ (layout_then t m s f.writes.trees ∙ (lines ∙ (sym (layout_then v n s g.writes.trees) ∙ sym g.writes.is)))

pub key_decides : (t u : List ℕ) (s : Style) → DependsOnKey t s u
key_decides t u s v w f g key = sym (same_layout f g key)
