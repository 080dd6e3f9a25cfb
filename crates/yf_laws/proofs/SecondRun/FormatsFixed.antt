-- A formatted text is its own formatting: its rows are found in it, and each carries what it carried. So a second run
-- changes nothing.
use Rattle.std.proofs.Common.{◌≡◌, ℕ, true, List, [], ◌∷◌, ◌++◌, length, map, refl, sym, ap, ◌∙◌, subst, arith, append-nil}
use Rattle.std.specs.Prelude.{filter, zip}
use Rattle.std.specs.Str.{IsUtf8}
use Rattle.yf_chars.specs.Text.{code}
use Rattle.yf_lines.specs.Lines.{AreLines}
use Rattle.yf_lines.specs.declared.line.Line.{Line}
use Rattle.yf_lines.specs.Rest.{Rest}
use Rattle.yf_lines.proofs.RestLemmas.{rest_spaces}
use Rattle.yf_comments.specs.Comment.{CommentValue}
use Rattle.yf_comments.specs.GapLines.{GapLine, remarks_of}
use Rattle.yf_comments.proofs.GapLinesLemmas.{texts}
use Rattle.yf_events.specs.Event.{EventInText}
use Rattle.yf_events.specs.declared.lists.Lists.{Lists}
use Rattle.yf_grammar.proofs.Documents.CommentOrder.{Ascend}
use Rattle.yf_stream.specs.ReadingOf.{NotedComments, no_comment, ReadingOf, leaf_lines}
use Rattle.yf_stream.specs.Stream.{Documents}
use Rattle.yf_forms.specs.declared.style.Style.{Style}
use Rattle.yf_laws.specs.Layouts.RowComments.{AreDecos}
use Rattle.yf_laws.specs.Layouts.Decorated.{decos_of, first_gap, gap_of, inline_then, lines_then, row_decos, rows_of}
use Rattle.yf_laws.specs.FixedLaws.{FormatsAreFixed}
use Rattle.yf_laws.specs.Format.{IsFormatting}
use Rattle.yf_laws.specs.Preservation.FoundTrees.{FoundSame}
use Rattle.yf_laws.specs.Layouts.Layout.{Source, own_line_comments, precedes_item, source_of}
use Rattle.yf_forms.specs.NormalForms.Normal.{normal_document, setting_of}
use Rattle.yf_laws.specs.Layouts.RowShapes.{RowShape, shape_of}
use Rattle.yf_print.specs.Layouts.Rows.{Row, at_text_start, all_rows}
use Rattle.yf_laws.proofs.SecondRun.AlikeLemmas.{shapes}
use Rattle.yf_laws.proofs.ReadAgain.BlanksAgain.{blanks_found}
use Rattle.yf_laws.proofs.ReadAgain.AllBlanks.{BlanksFound}
use Rattle.yf_laws.proofs.ReadAgain.CarriedAgain.{NextTied, Owns, Tied, all_of}
use Rattle.yf_laws.proofs.SameReading.CommentsCut.{In, Under, Upward, each_none, upward_of}
use Rattle.yf_laws.proofs.ReadAgain.DocumentTies.{rows_barely, Left, some_left, all_ties}
use Rattle.yf_laws.proofs.Derived.EntriesMade.{Begins, begins}
use Rattle.yf_laws.proofs.SecondRun.FixedFormats.{found_fixed, roots_fixed}
use Rattle.yf_laws.proofs.SecondRun.FixedLawsHold.{FoundReading, found_reading}
use Rattle.yf_laws.proofs.SecondRun.FixedRows.{found_rows}
use Rattle.yf_laws.proofs.SameReading.FormatLawsHold.{formats_accepted, formats_are_one}
use Rattle.yf_laws.proofs.OutputLines.FormattedLines.{formed}
use Rattle.yf_laws.proofs.SameReading.FoundAgain.{Unsigned}
use Rattle.yf_laws.proofs.RowNodes.FoundStreams.{StreamIn, no_stream, stream_in}
use Rattle.yf_laws.proofs.ReadAgain.GapsAgain.{gap_at_end, gap_with}
use Rattle.yf_laws.proofs.ReadAgain.OwnsAgain.{decos_beside, noted_parts, noted_texts, noted_under, owns_noted, rows_own, RowExtents}
use Rattle.yf_laws.proofs.RowNodes.PlacedRows.{PlacedRow}
use Rattle.yf_laws.proofs.RowNodes.QuietPlaces.{AllQuiet, ascend_under}
use Rattle.yf_laws.proofs.ReadAgain.ReadingsAgain.{CarriedSame, alone_same, before_text, carried_same, remarks}
use Rattle.yf_laws.proofs.SameReading.RowFlow.{Upright}
use Rattle.yf_laws.proofs.Trails.RowLeaves.{leaves_on}
use Rattle.yf_laws.proofs.ReadAgain.RowsTied.{extent_first, tied_rows}
use Rattle.yf_laws.proofs.Derived.RowsUtf8.{RowLines}
use Rattle.yf_laws.proofs.ReadAgain.RowTies.{Ties, a_tie, LaidRows, bare_gap, first_shape, laid_rows, next_tied, none_precedes}
use Rattle.yf_laws.proofs.SameReading.SourceOffsets.{source_is_at, normal_of, noted_upward}
use Rattle.yf_laws.proofs.Derived.StepsInText.{starts_of}
use Rattle.yf_laws.proofs.Trails.TrailChoice.{rising}
use Rattle.yf_laws.proofs.Trails.TrailOthers.{firsts}
use Rattle.yf_forms.specs.NormalForms.BareStart.{is_bare}
use Rattle.yf_events.specs.Tree.{flat_stream}
use Rattle.yf_print.specs.Layouts.KeptColumns.{Columns, columns_of}
use Rattle.yf_laws.specs.Preservation.CommentsPlaced.{columns_in}
use Rattle.yf_laws.proofs.ReadAgain.RowsAgain.{AllStay}
use Rattle.yf_laws.proofs.SecondRun.ColumnsStay.{formatted_stay}
use Rattle.yf_laws.proofs.OutputLines.ColumnsHold.{WalkFrom}

-- The facts about the rows of a reading q of the text u.
pub record RowsKnown (u : List ℕ) (q : Lists) (rows : List Row) : Type 0 where
  pub lines : List Line
  pub are_lines : AreLines u lines
  pub leaf_notes : q.on_leaf_line ≡ leaf_lines lines (leaves_on rows) q.comments
  pub count : length q.on_leaf_line ≡ length q.comments
  pub sign : (d : CommentValue) → In d q.comments → code u d.offset ≡ 35
  pub rises : rising (leaves_on rows) ≡ true
  pub unsigned : Unsigned u (starts_of (leaves_on rows))
  pub upright : Upright (source_of q rows) q.comments 0 rows

rows_known : (u : List ℕ) (s : Style) (q : Lists) → IsUtf8 u → (a : ReadingOf u q) → map (normal_document u (setting_of q s)) a.trees ≡ a.trees → RowsKnown u q (rows_of q s a.trees)
rows_known u s q utf8 a fixed =
    let w = source_is_at u s q a.trees utf8 a a.of_reading in
    let same : normal_of u s q a.trees ≡ q = ap (λ z. record q { events = flat_stream z }) fixed ∙ ap (λ z. record q { events = z }) (sym a.of_reading.events) in
    subst (λ b. RowsKnown u q (all_rows (setting_of q s) b q.documents a.trees)) (ap (λ m. is_bare m s) same)
    (subst (λ z. RowsKnown u q (all_rows (setting_of q s) (is_bare (normal_of u s q a.trees) s) q.documents z)) fixed (record {
      lines = a.lines;
      are_lines = a.are_lines;
      leaf_notes = a.notes ∙ ap (λ ls. leaf_lines a.lines ls q.comments) (sym w.leaves_are);
      count = w.noted;
      sign = w.sign;
      rises = w.rises;
      unsigned = w.unsigned;
      upright = w.upright;
    }))

-- the first row, if one is laid out
first_again : {u : List ℕ} {s : Style} {q : Lists} (g f : Columns) (mc : Source) (own : List CommentValue) (x row : Row) (xs found : List Row) (p : PlacedRow) (ps : List PlacedRow) {line end : ℕ} {owns : List (List CommentValue)} (known : RowsKnown u q (row ∷ found)) (ones : List CommentValue) → ((d : CommentValue) → WalkFrom u s f [] true (row ∷ found) d)
    → AllStay u s [] true (row ∷ found) (gap_of g at_text_start own (x ∷ xs)) (decos_of g mc own (x ∷ xs))
    → shapes (x ∷ xs) ≡ shapes (row ∷ found) → AreDecos (decos_of g mc own (x ∷ xs)) → q.comments ≡ ones ++ all_of owns → Upward 0 ones → Under line ones → texts ones ≡ remarks_of (gap_of g at_text_start own (x ∷ xs))
    → Ties q.comments (x ∷ xs) (row ∷ found) (p ∷ ps) → Owns (p ∷ ps) (decos_of g mc own (x ∷ xs)) line owns end → RowExtents u (p ∷ ps) (decos_of g mc own (x ∷ xs)) owns → AllQuiet q.comments (p ∷ ps)
    → BlanksFound u q.comments (gap_of g at_text_start own (x ∷ xs)) (decos_of g mc own (x ∷ xs)) (row ∷ found) (p ∷ ps) line end
    → CarriedSame u g f q (row ∷ found) (gap_of g at_text_start own (x ∷ xs)) (decos_of g mc own (x ∷ xs))
first_again {u} {s} {q} g f mc own x row xs found p ps {line} {end} {owns} known ones walk stays same fit are up under told (a_tie tie ties) each extents quiet blanks =
    let gap : List GapLine = gap_of g at_text_start own (x ∷ xs) in
    let here : List CommentValue = filter (precedes_item x) own in
    let c : Source = source_of q (row ∷ found) in
    let one : shape_of x ≡ shape_of row = ap (first_shape (shape_of x)) same in
    let laid : LaidRows g (x ∷ xs) (row ∷ found) (decos_of g mc own (x ∷ xs)) = laid_rows g mc own (x ∷ xs) (row ∷ found) same fit in
    let all : remarks q (row ∷ found) ≡ q.comments = firsts q.comments q.on_leaf_line known.count in
    let tied : Tied u g c q.comments (row ∷ found) (p ∷ ps) (decos_of g mc own (x ∷ xs)) owns =
    tied_rows known.lines known.are_lines c q.comments (ap (zip q.comments) known.leaf_notes) known.sign known.rises known.unsigned [] [] ones (a_tie tie ties) laid each extents known.upright quiet
    (blanks.after ones owns are told each) refl refl each_none under are in
    let next : NextTied q.comments row p (before_text gap) = next_tied tie (extent_first extents) (λ z. bare_gap g at_text_start x.column here x.blank_before (none_precedes x own z)) in
    carried_same f q row found ones here x.blank_before walk stays (all ∙ are) up under told (ap (λ z. gap_with g at_text_start z here x.blank_before) (ap (λ (z : RowShape). z.column) one)) (blanks.first ones (all_of owns) are told)
    (subst (λ z. NextTied z row p (before_text gap)) are next) each (subst (λ z. Tied u g c z (row ∷ found) (p ∷ ps) (decos_of g mc own (x ∷ xs)) owns) are tied)

-- all rows
carried_again : {u : List ℕ} {s : Style} {es : List EventInText} {q : Lists} (g f : Columns) (mc : Source) (own : List CommentValue) (xs found : List Row) {ps : List PlacedRow} {line : ℕ} (befores others : List CommentValue) → ((d : CommentValue) → WalkFrom u s f [] true found d) → AllStay u s [] true found (gap_of g at_text_start own xs) (decos_of g mc own xs) → IsUtf8 u → RowsKnown u q found
    → shapes xs ≡ shapes found → RowLines xs → AreDecos (decos_of g mc own xs) → Rest u line (lines_then xs (decos_of g mc own xs) []) → StreamIn u xs ps (decos_of g mc own xs) line others → Ascend u 0 befores line
    → texts befores ≡ remarks_of (gap_of g at_text_start own xs) → NotedComments u es (befores ++ others) q.comments → (Left q.comments (length u) xs found ps → Ties q.comments xs found ps) → AllQuiet q.comments ps
    → BlanksFound u q.comments (gap_of g at_text_start own xs) (decos_of g mc own xs) found ps line (length u) → CarriedSame u g f q found (gap_of g at_text_start own xs) (decos_of g mc own xs)
carried_again g f mc own [] [] befores others walk stays utf8 known same lines fit w (stream_in b rows) ascend told noted ties quiet blanks = elim rows [ ]
carried_again {u} {es = es} {q = q} g f mc own [] [] befores others walk stays utf8 known same lines fit w no_stream ascend told noted ties quiet blanks =
    let all : remarks q [] ≡ q.comments = firsts q.comments q.on_leaf_line known.count in
    let parts = noted_parts befores noted in
    let same_texts : texts parts.one ≡ remarks_of (gap_of g at_text_start own []) = noted_texts parts.first ∙ told in
    let none : parts.two ≡ [] = nothing parts.second in
    alone_same g f q parts.one own walk stays (all ∙ (parts.are ∙ (ap (λ z. parts.one ++ z) none ∙ append-nil parts.one))) (noted_upward (upward_of ascend) parts.first) (gap_at_end g at_text_start own)
    (blanks.first parts.one parts.two parts.are same_texts) where
      nothing : {ys : List CommentValue} → NotedComments u es [] ys → ys ≡ []
      nothing no_comment = refl
carried_again g f mc own [] (row ∷ found) befores others walk stays utf8 known same lines fit w rows ascend told noted ties quiet blanks = absurd cc
carried_again g f mc own (x ∷ xs) [] befores others walk stays utf8 known same lines fit w rows ascend told noted ties quiet blanks = absurd cc
carried_again {u} {es = es} {q = q} g f mc own (x ∷ xs) (row ∷ found) {ps = []} befores others walk stays utf8 known same lines fit w (stream_in b rows) ascend told noted ties quiet blanks = elim rows [ ]
carried_again {u} {es = es} {q = q} g f mc own (x ∷ xs) (row ∷ found) {ps = p ∷ ps} {line = line} befores others walk stays utf8 known same lines fit w (stream_in b rows) ascend told noted ties quiet blanks =
    let spaces = rest_spaces x.column line utf8 w in
    let column : x.column ≡ 0 = begin_column b in
    let start : Rest u line (inline_then (x ∷ xs) (decos_of g mc own (x ∷ xs)) []) = subst (λ k. Rest u k (inline_then (x ∷ xs) (decos_of g mc own (x ∷ xs)) [])) (omega (arith, column)) spaces.1 in
    let owned = rows_own utf8 (decos_beside g mc own (x ∷ xs)) lines fit start rows in
    let parts = noted_parts befores noted in
    let owns = owns_noted owned.each owned.extents (subst (λ z. NotedComments u es z parts.two) owned.are parts.second) in
    let are : q.comments ≡ parts.one ++ all_of owns.owns = parts.are ∙ ap (λ z. parts.one ++ z) owns.are in
    let under : Under line parts.one = noted_under (ascend_under ascend) parts.first in
    let laid = laid_rows g mc own (x ∷ xs) (row ∷ found) same fit in
    first_again g f mc own x row xs found p ps known parts.one walk stays same fit are (noted_upward (upward_of ascend) parts.first) under (noted_texts parts.first ∙ told)
    (ties (some_left parts.one (rows_barely rows) owns.each laid under are)) owns.each owns.extents quiet blanks where
      begin_column : {rs : List Row} → Begins 0 (x ∷ rs) → x.column ≡ 0
      begin_column (begins f) = f

-- The notes on blank lines are right.

pub again_carried : {t u : List ℕ} {s : Style} (q : Lists) → IsUtf8 t → (f : IsFormatting t s u) → (a : ReadingOf u q) → (w : FoundReading f q a)
    → BlanksFound u q.comments (first_gap (columns_in f) f.normal (rows_of f.normal s f.writes.trees)) (row_decos (columns_in f) f.normal (rows_of f.normal s f.writes.trees)) (rows_of q s a.trees) w.laid.found_rows w.laid.line (length u)
    → CarriedSame u (columns_in f) (columns_of u s (rows_of q s a.trees)) q (rows_of q s a.trees) (first_gap (columns_in f) f.normal (rows_of f.normal s f.writes.trees)) (row_decos (columns_in f) f.normal (rows_of f.normal s f.writes.trees))
again_carried {t} {u} {s} q utf8 f a w blanks =
    let m : Lists = f.normal in
    let xs : List Row = rows_of m s f.writes.trees in
    let form = formed utf8 f in
    let fixed : map (normal_document u (setting_of q s)) a.trees ≡ a.trees = roots_fixed f q a.trees w.alike in
    let noted : NotedComments u q.events (w.laid.firsts ++ w.laid.others) q.comments =
    subst (λ z. NotedComments u q.events z q.comments) (ap (λ (v : Documents). v.comments) w.derived ∙ w.laid.are) a.comments in
    carried_again {es = q.events} (columns_in f) (columns_of u s (rows_of q s a.trees)) (source_of m xs) (own_line_comments (source_of m xs) xs) xs (rows_of q s a.trees) w.laid.firsts w.laid.others (λ d. record { is = λ next. refl }) (formatted_stay q utf8 f a w) form.utf8 (rows_known u s q form.utf8 a fixed)
    (found_rows (is_bare m s) (is_bare q s) w.bare w.alike) form.rows form.decos w.laid.begin w.laid.placed w.laid.ascend w.laid.told noted (λ left. all_ties a.trees w.bare w.roots w.same w.alike left) w.quiet blanks

pub again_same : {t u : List ℕ} {s : Style} (q : Lists) → IsUtf8 t → (f : IsFormatting t s u) → (a : ReadingOf u q) → (w : FoundReading f q a)
    → BlanksFound u q.comments (first_gap (columns_in f) f.normal (rows_of f.normal s f.writes.trees)) (row_decos (columns_in f) f.normal (rows_of f.normal s f.writes.trees)) (rows_of q s a.trees) w.laid.found_rows w.laid.line (length u)
    → FoundSame t f.normal s f.writes.trees u q a.trees
again_same q utf8 f a w blanks =
    let carried = again_carried q utf8 f a w blanks in
    record { of_reading = a.of_reading; alike = w.alike; bare = w.bare; gap = carried.gap_is; decos = carried.decos_are }

-- The law: the notes are right.
pub formats_fixed : FormatsAreFixed
formats_fixed t u s utf8 f =
    let accepted = formats_accepted t u s utf8 f in
    let q : Lists = accepted.0 in
    let a : ReadingOf u q = accepted.1 in
    let w = found_reading t u s q utf8 f a in
    let again : IsFormatting u s u = found_fixed f q a.trees a (again_same q utf8 f a w (blanks_found t u s q utf8 f a w)) in
    record { again = again; only = λ v g. formats_are_one u v u s g again }
