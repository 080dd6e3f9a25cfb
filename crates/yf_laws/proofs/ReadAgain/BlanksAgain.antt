-- In each reading of a formatted text the notes on blank lines are those of the blank lines that were printed.
use Rattle.std.proofs.Common.{◌≡◌, ℕ, ◌+◌, ◌<◌, Bool, false, List, [], ◌∷◌, ◌++◌, flat_map, length, refl, sym, ap, ◌∙◌, subst, arith, add-zero}
use Rattle.std.specs.Prelude.{filter}
use Rattle.std.specs.Str.{IsUtf8}
use Rattle.yf_chars.specs.Chain.{Chain}
use Rattle.yf_lines.specs.Basic.{Spaces}
use Rattle.yf_lines.specs.Basic.LineStart.{at_text}
use Rattle.yf_lines.specs.Rest.{Rest}
use Rattle.yf_lines.proofs.RestLemmas.{rest_start}
use Rattle.yf_comments.specs.Comment.{CommentValue}
use Rattle.yf_comments.specs.Comments.{CommentLine, Row as CommentRow}
use Rattle.yf_comments.specs.Comments.Blank.{text_begins}
use Rattle.yf_comments.specs.GapLines.{AreGapLines, GapLine, gap_then, remarks_of}
use Rattle.yf_comments.proofs.GapLinesLemmas.{texts}
use Rattle.yf_comments.proofs.LineEndLemmas.{lines_rows}
use Rattle.yf_comments.proofs.RowLemmas.{row_functional}
use Rattle.yf_events.specs.Event.{EventInText, stream_ends, stream_starts}
use Rattle.yf_events.specs.Tree.{flat_document, unplaced}
use Rattle.yf_events.specs.declared.lists.Lists.{Lists}
use Rattle.yf_stream.specs.ReadingOf.{NotedComments, ReadingOf, floor_at}
use Rattle.yf_stream.specs.Stream.{Documents}
use Rattle.yf_laws.specs.Layouts.RowComments.{AreDecos}
use Rattle.yf_laws.specs.Layouts.Decorated.{Deco, first_gap, inline_then, lines_then, row_decos, rows_of}
use Rattle.yf_laws.specs.Format.{IsFormatting}
use Rattle.yf_laws.specs.Layouts.Layout.{Source, own_line_comments, precedes_item, source_of}
use Rattle.yf_forms.specs.NormalForms.Normal.{setting_of}
use Rattle.yf_print.specs.Layouts.Rows.{Row, at_text_start, all_rows}
use Rattle.yf_forms.specs.declared.style.Style.{Style}
use Rattle.yf_laws.proofs.SecondRun.AlikeLemmas.{shapes}
use Rattle.yf_laws.proofs.ReadAgain.AllBlanks.{BlanksFound, first_blank}
use Rattle.yf_laws.proofs.ReadAgain.BlanksRows.{as_many, ends_over, gap_forms, noted_gap, noted_split, pick_early, rows_blanks, rows_from}
use Rattle.yf_laws.proofs.ReadAgain.CarriedAgain.{Owns}
use Rattle.yf_laws.proofs.Derived.DecoratedLemmas.{layout_then}
use Rattle.yf_laws.proofs.Derived.DocumentsHeld.{all_events}
use Rattle.yf_laws.proofs.SecondRun.FixedLawsHold.{FoundReading}
use Rattle.yf_laws.proofs.SecondRun.FixedRows.{found_rows}
use Rattle.yf_laws.proofs.OutputLines.FormattedLines.{formed}
use Rattle.yf_laws.proofs.RowNodes.FoundStreams.{StreamIn, no_stream, stream_in}
use Rattle.yf_laws.proofs.Derived.EntriesMade.{begins, lines_begin}
use Rattle.yf_laws.proofs.ReadAgain.GapsAgain.{Blanks, gap_at_end, gap_with}
use Rattle.yf_laws.proofs.ReadAgain.GapNotes.{HeadNote, bare_head, gap_noted}
use Rattle.yf_laws.proofs.ReadAgain.GapsInText.{GapIsAt, gap_placed}
use Rattle.yf_laws.proofs.OutputLines.HeldLemmas.{BodiesHeld}
use Rattle.yf_laws.proofs.ReadAgain.NoteTrees.{start_unlined}
use Rattle.yf_laws.proofs.RowNodes.PlacedRows.{PlacedRow, RowsIn}
use Rattle.yf_laws.proofs.ReadAgain.RowGaps.{one_chain}
use Rattle.yf_laws.proofs.ReadAgain.RowNotes.{AllNoted, RowNotes, no_row_notes, note_kept, note_moved, all_noted, pick}
use Rattle.yf_laws.proofs.ReadAgain.NoteStreams.{all_noted_documents}
use Rattle.yf_forms.specs.NormalForms.BareStart.{is_bare}
use Rattle.yf_print.specs.Layouts.KeptColumns.{Columns}
use Rattle.yf_laws.specs.Preservation.CommentsPlaced.{columns_in}
use Rattle.yf_laws.proofs.Columns.SourceColumns.{text_column}
use Rattle.yf_chars.specs.Class.{is_white}
use Rattle.yf_grammar.proofs.Ends.SinceWalk.{since_later}
use Rattle.yf_laws.proofs.Derived.ClearRows.{place_of_rest as place_of}

-- the gap before the first row
first_found : (g : Columns) {t : List ℕ} {es : List EventInText} {line : ℕ} {gap : List GapLine} {firsts own noted : List CommentValue} {z : List ℕ} (others rest : List CommentValue) (column : ℕ) (hs : List CommentValue) (a : Bool) → IsUtf8 t → AreGapLines gap → gap ≡ gap_with g at_text_start column hs a
    → Rest t 0 (gap_then gap z) → Rest t line z → Chain (CommentLine t) 0 line firsts → NotedComments t es (firsts ++ others) noted → noted ≡ own ++ rest → texts firsts ≡ remarks_of gap → texts own ≡ remarks_of gap
    → ((o : ℕ) → o < line → floor_at o 0 es ≡ 0) → (k : ℕ) → Spaces t line k → (b : Bool) → HeadNote t 0 (line + k) a b → Blanks t false false gap own b
first_found g {t} {es} {line} {gap = gap} {firsts = firsts} {own = own} {z = z} others rest column hs a u lines shape begin next chain noted split told mine floor k s b head =
    let at = gap_placed gap z u lines at_text (text_column is_white t) begin in
    let place : at.place ≡ line = place_of at.rest next in
    let same : at.comments ≡ firsts = one_chain row_functional (subst (λ p. Chain (CommentRow t) 0 p at.comments) place (lines_rows at.lines)) (lines_rows chain) in
    let is_there : GapIsAt t 0 gap firsts line = subst (λ p. GapIsAt t 0 gap firsts p) place (subst (λ w. GapIsAt t 0 gap w at.place) same at.is_there) in
    let parts = noted_split firsts own (as_many firsts own told mine) (subst (λ w. NotedComments t es (firsts ++ others) w) split noted) in
    let over = noted_gap is_there (λ o l m. floor o m) parts.0 in
    subst (λ w. Blanks t false false w own b) (sym shape)
    (gap_noted g at_text_start column hs a u (subst (λ w. GapIsAt t 0 w firsts line) shape is_there) text_begins (omega arith) (λ w. let l = since_later w in omega (arith, l)) over k s head)

-- the head of the first row
head_of : {t : List ℕ} {f i j : ℕ} {ps : List PlacedRow} {x : Row} {xs ys : List Row} {ds : List Deco} {cs : List CommentValue} {r : List ℕ} {gs : List ℕ} → RowsIn t (x ∷ xs) ps ds i cs j r → RowNotes t f ps (x ∷ xs) ys gs
    → HeadNote t f i x.blank_before (first_blank ys)
head_of {t} {f} rows (note_kept {x = x} {y = y} h e a) = subst (λ z. HeadNote t f z x.blank_before y.blank_before) (rows_from rows) h
head_of {t} {f} rows (note_moved {x = x} {y = y} h n l a) = subst (λ z. HeadNote t f z x.blank_before y.blank_before) (rows_from rows) h

no_space : (t : List ℕ) (i : ℕ) → Spaces t i 0
no_space t i = record { each = λ m l. absurd (omega (arith, l)) }

found_of : {t : List ℕ} {es : List EventInText} {xs ys : List Row} {ps : List PlacedRow} {line : ℕ} {firsts others noted : List CommentValue} {gs : List ℕ} (g : Columns) (hs : List EventInText) (m : Lists) → IsUtf8 t → StreamIn t xs ps (row_decos g m xs) line others → AreGapLines (first_gap g m xs)
    → AreDecos (row_decos g m xs) → BodiesHeld t hs xs (row_decos g m xs) [] → Rest t 0 (gap_then (first_gap g m xs) (lines_then xs (row_decos g m xs) [])) → Rest t line (lines_then xs (row_decos g m xs) []) → Chain (CommentLine t) 0 line firsts
    → texts firsts ≡ remarks_of (first_gap g m xs) → NotedComments t es (firsts ++ others) noted → RowNotes t 0 ps xs ys gs → shapes xs ≡ shapes ys → ((o : ℕ) → floor_at o 0 es ≡ pick o 0 gs)
    → BlanksFound t noted (first_gap g m xs) (row_decos g m xs) ys ps line (length t)
found_of {t} {line = line} g hs m u no_stream lines decos held begin next chain told notes no_row_notes s at = record {
  first = λ own rest is mine. first_found g [] rest 0 (own_line_comments (source_of m []) []) false u lines (gap_at_end g at_text_start (own_line_comments (source_of m []) [])) begin next chain notes is told mine (λ o l. at o) 0 (no_space t line) false bare_head;
  after = λ own owns is mine owned. absurd (no_owns owned);
} where
  no_owns : {a b : ℕ} {ds : List Deco} {owns : List (List CommentValue)} → Owns [] ds a owns b → ⊥
  no_owns owned = elim owned [ ]
found_of {t} {es} {ys = ys} {line = line} {firsts = firsts} {others = others} {gs = gs} g hs m u (stream_in (begins {r = x} {rs = xs} e) rows) lines decos held begin next chain told notes row_notes s at =
    let c : Source = source_of m (x ∷ xs) in
    let own_lines : List CommentValue = own_line_comments c (x ∷ xs) in
    let inline : Rest t line (inline_then (x ∷ xs) (row_decos g m (x ∷ xs)) []) = subst (λ z. Rest t line z) (lines_begin (row_decos g m (x ∷ xs)) [] (begins {r = x} {rs = xs} e)) next in
    let place : line ≡ line + 0 = sym (add-zero line) in
    record {
      first = λ own rest is mine.
          first_found g others rest x.column (filter (precedes_item x) own_lines) x.blank_before u lines refl begin next chain notes is told mine (λ o l. at o ∙ pick_early o 0 gs (ends_over rows row_notes s l)) 0 (no_space t line) (first_blank ys)
          (subst (λ z. HeadNote t 0 z x.blank_before (first_blank ys)) place (head_of rows row_notes));
      after = λ own owns is mine owned.
          let parts = noted_split firsts own (as_many firsts own told mine) (subst (λ w. NotedComments t es (firsts ++ others) w) is notes) in
          rows_blanks g u es hs rows (gap_forms g c own_lines (x ∷ xs)) decos held inline row_notes s (omega arith) (λ o l. at o) owned parts.1;
    }

pub blanks_found : (t u : List ℕ) (s : Style) (q : Lists) → IsUtf8 t → (f : IsFormatting t s u) → (a : ReadingOf u q) → (w : FoundReading f q a)
    → BlanksFound u q.comments (first_gap (columns_in f) f.normal (rows_of f.normal s f.writes.trees)) (row_decos (columns_in f) f.normal (rows_of f.normal s f.writes.trees)) (rows_of q s a.trees) w.laid.found_rows w.laid.line (length u)
blanks_found t u s q utf8 f a w =
    let all = w.laid in
    let m : Lists = f.normal in
    let xs : List Row = rows_of m s f.writes.trees in
    let last : List EventInText = unplaced stream_ends ∷ [] in
    let form = formed utf8 f in
    let events = a.of_reading.events in
    let noted = subst (λ z. AllNoted u 0 z) events (all_noted a.noted) in
    let made = all_noted_documents {c = setting_of m s} q.comments a.trees w.roots w.same w.alike form.fit last noted.1 in
    let notes : RowNotes u 0 all.found_rows xs (rows_of q s a.trees) made.ends = subst (λ b. RowNotes u 0 all.found_rows xs (all_rows (setting_of q s) b q.documents a.trees) made.ends) (sym w.bare) made.rows in
    let at : (o : ℕ) → floor_at o 0 q.events ≡ pick o 0 made.ends =
    λ o. ap (λ z. floor_at o 0 z) events ∙ (start_unlined (unplaced stream_starts) (unplaced stream_ends) (λ v p. refl) (λ v p. refl) (flat_map flat_document a.trees) o 0 ∙ made.at o 0) in
    let text : u ≡ gap_then (first_gap (columns_in f) m xs) (lines_then xs (row_decos (columns_in f) m xs) []) = f.writes.is ∙ layout_then t m s f.writes.trees in
    let comments : a.derived.comments ≡ all.firsts ++ all.others = ap (λ (z : Documents). z.comments) w.derived ∙ all.are in
    found_of (columns_in f) (all_events all.well.documents.documents) m form.utf8 all.placed form.gap form.decos all.held.bodies (subst (λ z. Rest u 0 z) text (rest_start u form.utf8)) all.begin all.lines all.told (subst (λ z. NotedComments u q.events z q.comments) comments a.comments) notes
    (found_rows (is_bare m s) (is_bare q s) w.bare w.alike) at
