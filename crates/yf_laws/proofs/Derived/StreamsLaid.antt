-- A stream of documents from its rows.
use Rattle.std.proofs.Common.{◌≡◌, ℕ, max, ◌≤◌, true, false, List, [], ◌++◌, length, inl, refl, sym, ap, ◌∙◌, subst, arith, append_assoc, Bool, ◌∷◌}
use Rattle.std.specs.Str.{IsUtf8}
use Rattle.yf_chars.specs.Chain.{Chain}
use Rattle.yf_lines.specs.Basic.{LineStart}
use Rattle.yf_lines.specs.Basic.LineStart.{at_text}
use Rattle.yf_lines.proofs.RestLemmas.{Rest, rest_start}
use Rattle.yf_comments.specs.Comment.{CommentValue}
use Rattle.yf_comments.specs.Comments.{CommentLine}
use Rattle.yf_comments.specs.GapLines.{AreGapLines, remarks_of}
use Rattle.yf_comments.proofs.GapLinesLemmas.{texts, texts_append, gap_at}
use Rattle.yf_comments.proofs.LineEndLemmas.{lines_rows}
use Rattle.yf_block_scalar.proofs.PlacedLemmas.{rest_end}
use Rattle.yf_events.specs.declared.document.Doc.{Doc}
use Rattle.yf_events.specs.Tree.{DocumentTree}
use Rattle.yf_grammar.specs.Productions.TreesOfMeaning.{tall}
use Rattle.yf_grammar.proofs.Documents.CommentOrder.{Ascend, rows_ascend}
use Rattle.yf_stream.specs.Stream.{only_comments, with_document, with_comments, StreamRest}
use Rattle.yf_stream.specs.Stream.Stream.{begins_with_document, without_document}
use Rattle.yf_stream.specs.Stream.StreamRest.{stream_ended}
use Rattle.yf_laws.proofs.SameReading.RowSteps.{documents_begin, steps_with}
use Rattle.yf_laws.specs.Layouts.RowComments.{AreDecos, comments_in, Calm}
use Rattle.yf_laws.specs.Layouts.Decorated.{GapLine, gap_then, Deco, past, lines_then}
use Rattle.yf_laws.specs.Layouts.FitDocuments.{FitDocuments, fit_no_documents, fit_document, DocumentsMeant, no_documents_meant, tall_documents, FitsBare, fits_bare}
use Rattle.yf_laws.proofs.Derived.LayoutLaws.{StreamMade}
use Rattle.yf_forms.specs.NormalForms.Normal.{LayoutSetting}
use Rattle.yf_print.specs.Layouts.Rows.{Row, document_rows, stream_rows, all_rows, bare_rows, begun_at}
use Rattle.yf_laws.proofs.Derived.LayoutSteps.{comment_steps, steps_in}
use Rattle.yf_laws.proofs.Derived.DecoratedLemmas.{lines_append}
use Rattle.yf_laws.proofs.SameReading.DocumentsBegun.{comments_begun, documents_begun, starts_in}
use Rattle.yf_laws.proofs.Derived.DocumentsHeld.{all_events, comments_set, documents_held}
use Rattle.yf_laws.proofs.RowNodes.FoundStreams.{no_documents_found, StreamIn, no_stream, document_begins, stream_more, comments_with_document, comments_with_comments, documents_with_comments, AllFound, all_marked, all_found_with}
use Rattle.yf_laws.proofs.OutputLines.HeldLemmas.{EventsHeld}
use Rattle.yf_laws.proofs.Derived.LaidRows.{steps_append}
use Rattle.yf_laws.proofs.SameReading.NoStarts.{with_append}
use Rattle.yf_laws.proofs.RowNodes.PlacedRows.{PlacedRow}
use Rattle.yf_laws.proofs.Derived.RowEnds.{past_decos, comments_append, calm_append}
use Rattle.yf_laws.proofs.Columns.SetStreams.{SetAll, none_set, documents_set}
use Rattle.yf_laws.proofs.Derived.StepsInText.{Stand, nothing_is_at, stand_join, comments_stand, events_after}
use Rattle.yf_laws.proofs.Derived.StreamParts.{prefixes_of, texts_with_document, documents_with, texts_with_comments, same_documents, DocumentsLaid, no_documents_laid, laid_with_comments, documents_laid}
use Rattle.yf_laws.proofs.OutputLines.WellSet.{lines_set, set_append}
use Rattle.yf_laws.proofs.Derived.StreamsMade.{first_with, rest_made, root_rows}
use Rattle.yf_laws.proofs.Derived.BareMade.{FirstMade, BareRow, bare_made, bare_row, marked_first}
use Rattle.yf_laws.proofs.Derived.EntriesMade.{Begins, begins}

-- the derivation of the whole text, and its leaves and comments in the order of steps
pub record StreamLaid (t : List ℕ) (s : LayoutSetting) (bare : Bool) (ds : List Doc) (xs : List DocumentTree) (gap : List GapLine) (rs : List Row) (decos : List Deco) : Type 0 where
  pub made : StreamMade t bare ds xs (remarks_of gap ++ comments_in rs decos)
  pub laid : DocumentsLaid 0 (length t) made.documents (comment_steps (remarks_of gap) ++ steps_in rs decos)
  pub line : ℕ
  pub starts : LineStart t line
  pub firsts : List CommentValue
  pub others : List CommentValue
  pub begin : Rest t line (lines_then rs decos [])
  pub told : texts firsts ≡ remarks_of gap
  pub lines : Chain (CommentLine t) 0 line firsts
  pub ascend : Ascend t 0 firsts line
  pub are : made.documents.comments ≡ firsts ++ others
  pub found_rows : List PlacedRow
  pub found : AllFound t s bare xs made.documents.documents found_rows
  pub placed : StreamIn t rs found_rows decos line others
  pub begun : Stand 0 (starts_in made.documents) made.documents.comments (comment_steps (remarks_of gap) ++ steps_with documents_begin rs decos) (length t)
  pub held : EventsHeld t (all_events made.documents.documents) made.documents.comments rs decos []
  pub set : SetAll t s.style made.documents.documents

-- a stream that begins with these rows
stream_from : {t : List ℕ} (c : LayoutSetting) {bare : Bool} {d : Doc} {ds : List Doc} {x : DocumentTree} {xs : List DocumentTree} (head : List Row) (gap : List GapLine) (decos : List Deco) → Begins 0 head → FitDocuments c.style ds xs
    → ((r : List ℕ) (q : ℕ) → LineStart t q → Calm head decos r → Rest t q (lines_then head decos r) → FirstMade t c bare d x head decos q r) → IsUtf8 t → AreGapLines gap → AreDecos decos
    → Calm (head ++ stream_rows c false ds xs) decos [] → Rest t 0 (gap_then gap (lines_then (head ++ stream_rows c false ds xs) decos []))
    → StreamLaid t c bare (d ∷ ds) (x ∷ xs) gap (head ++ stream_rows c false ds xs) decos
stream_from {t} c {bare = bare} {d = d} {ds = ds} {x = x} {xs = xs} head gap decos starts more make u g a k w =
    let others : List Row = stream_rows c false ds xs in
    let at = gap_at gap (lines_then (head ++ others) decos []) u g at_text w in
    let ks = calm_append head others decos [] k in
    let one = make (lines_then others (past head decos) []) at.place at.start ks.0 (subst (λ z. Rest t at.place z) (lines_append head others decos []) at.rest) in
    let last = rest_made c more (past head decos) one.place u (past_decos head a) ks.1 one.rest in
    let low : one.height ≤ tall x.root = one.low in
    let high : last.height ≤ tall_documents xs = last.low in
    record {
      made = record {
        height = max one.height last.height;
        documents = with_document (at.comments ++ one.comments) one.document last.documents;
        derived = begins_with_document (prefixes_of at.lines) one.derived last.derived;
        low = omega (arith, low, high);
        meant = documents_with last.documents (at.comments ++ one.comments) one.meant last.meant;
        is = texts_with_document (at.comments ++ one.comments) one.document last.documents
            ∙ (joined_texts at.comments one.comments last.documents.comments at.is one.is last.is ∙ ap (λ z. remarks_of gap ++ z) (sym (comments_append head others decos)));
      };
      laid = subst (λ z. DocumentsLaid 0 (length t) (with_document (at.comments ++ one.comments) one.document last.documents) z)
          (append_assoc (comment_steps (remarks_of gap)) (steps_in head decos) (steps_in others (past head decos)) ∙ ap (λ z. comment_steps (remarks_of gap) ++ z) (sym (steps_append head others decos)))
          (documents_laid one.document (events_after (comments_stand (rows_ascend (lines_rows at.lines)) at.is) one.laid) last.laid);
      line = at.place;
      starts = at.start;
      firsts = at.comments;
      others = one.comments ++ last.documents.comments;
      begin = at.rest;
      told = at.is;
      lines = at.lines;
      ascend = rows_ascend (lines_rows at.lines);
      are = comments_with_document (at.comments ++ one.comments) one.document last.documents ∙ append_assoc at.comments one.comments last.documents.comments;
      found_rows = one.found_rows ++ last.found_rows;
      found = all_found_with one.found_rows last.found_rows (at.comments ++ one.comments) last.documents (λ ms z. one.found z) last.found;
      placed = stream_more starts one.placed (λ e. rest_end (subst (λ z. Rest t one.place (lines_then z (past head decos) [])) e one.rest)) last.placed;
      begun = subst (λ z. Stand 0 (starts_in (with_document (at.comments ++ one.comments) one.document last.documents)) (with_document (at.comments ++ one.comments) one.document last.documents).comments z (length t))
          (append_assoc (comment_steps (remarks_of gap)) (steps_with documents_begin head decos) (steps_with documents_begin others (past head decos))
          ∙ ap (λ z. comment_steps (remarks_of gap) ++ z) (sym (with_append documents_begin head others decos)))
          (documents_begun (at.comments ++ one.comments) one.document last.documents (stand_join (comments_stand (rows_ascend (lines_rows at.lines)) at.is) one.begun) last.begun);
      set = documents_set (at.comments ++ one.comments) one.document last.documents one.set last.set;
      held = documents_held (at.comments ++ one.comments) one.document last.documents head others decos
          (record { comments = set_append t at.comments one.comments (lines_set (inl at_text) at.lines) one.held.comments; bodies = one.held.bodies }) last.held;
    }
  where
    joined_texts : (us vs ws : List CommentValue) {xs ys zs : List (List ℕ)} → texts us ≡ xs → texts vs ≡ ys → texts ws ≡ zs → texts (us ++ vs) ++ texts ws ≡ xs ++ (ys ++ zs)
    joined_texts us vs ws e f g = ap (λ z. z ++ texts ws) (texts_append us vs) ∙ (append_assoc (texts us) (texts vs) (texts ws) ∙ λ n. e n ++ (f n ++ g n))

begins_bare_rows : {rs : List Row} (start : ℕ) → BareRow rs → Begins 0 (begun_at start rs)
begins_bare_rows start b = subst (λ z. Begins 0 (begun_at start z)) (sym b.are) (begins b.column)

stream_made : {t : List ℕ} (c : LayoutSetting) (bare : Bool) {ds : List Doc} {xs : List DocumentTree} (gap : List GapLine) (decos : List Deco) → FitDocuments c.style ds xs → FitsBare bare ds xs → IsUtf8 t → AreGapLines gap → AreDecos decos
    → Calm (all_rows c bare ds xs) decos [] → Rest t 0 (gap_then gap (lines_then (all_rows c bare ds xs) decos []))
    → StreamLaid t c bare ds xs gap (all_rows c bare ds xs) decos
stream_made {t} c false gap decos fit_no_documents fits u g a k w =
    let at = gap_at gap [] u g at_text w in
    let rest : StreamRest t 0 at.place (only_comments []) = subst (λ p. StreamRest t 0 p (only_comments [])) (sym (rest_end at.rest)) stream_ended in
    let end : at.place ≡ length t = rest_end at.rest in
    record {
      made = record {
        height = 0;
        documents = with_comments at.comments (only_comments []);
        derived = without_document (prefixes_of at.lines) rest;
        low = omega arith;
        meant = subst (λ z. DocumentsMeant false [] [] z) (same_documents at.comments (only_comments [])) no_documents_meant;
        is = texts_with_comments at.comments (only_comments []) ∙ ap (λ z. z ++ []) at.is;
      };
      laid = laid_with_comments at.comments (comments_stand (rows_ascend (lines_rows at.lines)) at.is) (no_documents_laid (omega (arith, end)));
      line = at.place;
      starts = at.start;
      firsts = at.comments;
      others = [];
      begin = at.rest;
      told = at.is;
      lines = at.lines;
      ascend = rows_ascend (lines_rows at.lines);
      are = comments_with_comments at.comments;
      found_rows = [];
      found = subst (λ z. AllFound t c false [] z []) (sym (documents_with_comments at.comments)) (all_marked no_documents_found);
      placed = no_stream;
      begun = comments_begun at.comments (only_comments []) (comments_stand (rows_ascend (lines_rows at.lines)) at.is) (nothing_is_at (omega (arith, end)));
      set = subst (λ z. SetAll t c.style z) (sym (documents_with_comments at.comments)) none_set;
      held = record { comments = comments_set t at.comments (lines_set (inl at_text) at.lines); bodies = tt };
    }
stream_made c false gap decos (fit_document {d = d} {x = x} f fit more) fits u g a k w =
    stream_from c {bare = false} {d = d} {x = x} (document_rows c true d x) gap decos (document_begins true d.start d.directives (root_rows c x)) more
    (λ r q l calm rest. marked_first (first_with c {d = d} x d.start d.directives decos r q refl f fit u a calm rest)) u g a k w
stream_made c true gap decos fit_no_documents fits u g a k w = elim fits [ ]
stream_made c true gap decos (fit_document {d = d} {x = x} f fit more) (fits_bare none some) u g a k w =
    stream_from c {bare = true} {d = d} {x = x} (bare_rows c d x) gap decos (begins_bare_rows d.start (bare_row c x some fit)) more
    (λ r q l calm rest. bare_made c {d = d} x d.start decos r q none some fit u a l calm rest) u g a k w

-- the layout is derived again, with its leaves and comments in their order
pub layout_derived : {t : List ℕ} (c : LayoutSetting) (bare : Bool) {ds : List Doc} {xs : List DocumentTree} (gap : List GapLine) (decos : List Deco) → FitDocuments c.style ds xs → FitsBare bare ds xs → IsUtf8 t → AreGapLines gap → AreDecos decos
    → Calm (all_rows c bare ds xs) decos [] → t ≡ gap_then gap (lines_then (all_rows c bare ds xs) decos [])
    → StreamLaid t c bare ds xs gap (all_rows c bare ds xs) decos
layout_derived {t} c bare gap decos fit fits u g a k e = stream_made c bare gap decos fit fits u g a k (subst (λ z. Rest t 0 z) e (rest_start t u))
