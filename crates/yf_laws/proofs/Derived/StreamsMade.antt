-- The documents of a stream from their rows.
use Rattle.std.proofs.Common.{◌≡◌, ℕ, ◌+◌, max, ◌<◌, ◌≤◌, true, false, List, [], ◌∷◌, ◌++◌, length, map, codes, refl, sym, ap, ◌∙◌, subst, arith, append_assoc}
use Rattle.std.specs.Prelude.{is_some}
use Rattle.std.specs.Str.{IsUtf8}
use Rattle.yf_chars.specs.Chain.Chain.{done}
use Rattle.yf_lines.proofs.RestLemmas.{Rest}
use Rattle.yf_comments.specs.Comment.{CommentValue}
use Rattle.yf_comments.proofs.GapLinesLemmas.{texts, texts_append}
use Rattle.yf_block_scalar.proofs.PlacedLemmas.{rest_end}
use Rattle.yf_events.specs.declared.directive.Directive.{Directive}
use Rattle.yf_events.specs.declared.document.Doc.{Doc}
use Rattle.yf_events.specs.Tree.{DocumentTree}
use Rattle.yf_grammar.specs.Productions.TreesOfMeaning.{tall}
use Rattle.yf_grammar.proofs.Documents.CommentOrder.{end_ascends}
use Rattle.yf_stream.specs.Stream.{Document, document_of, Documents, only_comments, with_document, AnyDocument, StreamRest}
use Rattle.yf_stream.specs.Stream.AnyDocument.{explicit_document, directive_document}
use Rattle.yf_stream.specs.Stream.StreamRest.{stream_ended, past_suffixes_and_document, past_explicit}
use Rattle.yf_stream.specs.Stream.Suffixes.{last_suffix}
use Rattle.yf_stream.proofs.Offsets.ReadingOrder.{directives_ascend}
use Rattle.yf_laws.proofs.SameReading.RowSteps.{documents_begin, steps_with}
use Rattle.yf_laws.specs.Layouts.RowComments.{AreDecos, carried_texts, comments_in, Calm}
use Rattle.yf_laws.specs.Layouts.Decorated.{Deco, first, after, past, end_then, lines_then}
use Rattle.yf_laws.specs.Layouts.FitDocuments.{FitDirective, FitDirectives, fit_directive, FitDocuments, fit_no_documents, fit_document, DocumentMeant, DocumentsMeant, no_documents_meant, tall_documents}
use Rattle.yf_laws.specs.Layouts.ReadableTrees.{Fit}
use Rattle.yf_forms.specs.NormalForms.Normal.{LayoutSetting, root_margins}
use Rattle.yf_print.specs.Layouts.Rows.{Row, plain_row, directive_row, start_row, joined_words, rows, document_rows, stream_rows}
use Rattle.yf_laws.proofs.Derived.LayoutSteps.{steps_in}
use Rattle.yf_laws.proofs.Derived.DecoratedLemmas.{lines_append}
use Rattle.yf_laws.proofs.SameReading.DocumentsBegun.{document_begun, documents_begun, explicit_begun, starts_in}
use Rattle.yf_laws.proofs.Derived.DocumentsHeld.{all_events, documents_held, held_events}
use Rattle.yf_laws.proofs.Derived.DocumentsMade.{ExplicitMade, explicit_made, directives_made, three_at, three_after}
use Rattle.yf_laws.proofs.RowNodes.FoundNodes.{meant_of}
use Rattle.yf_laws.proofs.RowNodes.FoundStreams.{FoundDocument, FoundDocuments, no_documents_found, found_document, StreamIn, no_stream, document_begins, stream_more, comments_with_document, found_with}
use Rattle.yf_laws.proofs.RowNodes.HeadRows.{HeadRows, mark_head, more_heads, heads_join, later_heads}
use Rattle.yf_laws.proofs.OutputLines.HeldLemmas.{BodiesHeld, EventsHeld, bare_row, bodies_append, row_ended}
use Rattle.yf_laws.proofs.Derived.LaidRows.{steps_append}
use Rattle.yf_laws.proofs.SameReading.NoStarts.{no_start_on, directives_none, quiet_steps, rows_none, with_append}
use Rattle.yf_laws.proofs.RowNodes.PlacedRows.{never_bare, none_inside, one_inside, PlacedRow, no_leaf_to, after_line, RowsIn, row_before, rows_in_append}
use Rattle.yf_laws.proofs.Derived.RowEnds.{row_end, first_deco, after_decos, past_decos, comments_append, calm_append}
use Rattle.yf_laws.proofs.Derived.RowTexts.{row_texts}
use Rattle.yf_laws.proofs.Columns.SetMeant.{SetDone}
use Rattle.yf_laws.proofs.Columns.SetStreams.{SetAll, none_set, document_set, documents_set}
use Rattle.yf_laws.proofs.Derived.StepsInText.{Stand, nothing_is_at, stand_after, stand_join, comments_stand, EventsLaid, events_after}
use Rattle.yf_laws.proofs.Derived.TreesMade.{node_claim}
use Rattle.yf_laws.proofs.Derived.StreamParts.{beside_tree, head_rows, meant_document, texts_with_document, documents_with, laid_document, DocumentsLaid, no_documents_laid, documents_laid}
use Rattle.yf_laws.proofs.OutputLines.WellSet.{set_append}

-- Rows of directives, and of the node after them.

pub record AnyMade (t : List ℕ) (s : LayoutSetting) (d : Doc) (x : DocumentTree) (rs : List Row) (ds : List Deco) (q : ℕ) (r : List ℕ) : Type 0 where
  pub height : ℕ
  pub place : ℕ
  pub document : Document
  pub comments : List CommentValue
  pub derived : AnyDocument t height q place document comments
  pub low : height ≤ tall x.root
  pub rest : Rest t place r
  pub meant : DocumentMeant true d x document
  pub is : texts comments ≡ comments_in rs ds
  pub laid : EventsLaid q place document.events comments (steps_in rs ds)
  pub found_rows : List PlacedRow
  pub found : FoundDocument t s true x document found_rows
  pub placed : RowsIn t rs found_rows ds q comments place r
  pub begun : Stand q (document.start ∷ []) comments (steps_with documents_begin rs ds) place
  pub held : EventsHeld t document.events comments rs ds r
  pub set : SetDone t s.style 0 s.style.indent document.events

abbrev pub root_rows : LayoutSetting → DocumentTree → List Row
root_rows c x = rows c (root_margins c.style) x.root

pub root_deep : (c : LayoutSetting) → 0 < c.style.indent
root_deep c = let wide : 2 ≤ c.style.indent = c.style.indent_from in omega (arith, wide)

explicit_at : {t : List ℕ} (c : LayoutSetting) (x : DocumentTree) (row : Row) (ds : List Deco) (r : List ℕ) (q : ℕ) → row.leaves ≡ [] → row.body ≡ [] → row.column ≡ 0 → length row.text ≡ 3 → is_some row.key_comment ≡ false → Fit c.style x.root → IsUtf8 t → AreDecos ds → Calm (root_rows c x) (after ds) r
    → Rest t q (45 ∷ 45 ∷ 45 ∷ end_then (first ds) [] (lines_then (root_rows c x) (after ds) r)) → ExplicitMade t c x.root (row ∷ root_rows c x) ds q r
explicit_at c x row ds r q none bare column width key fit u a k w = explicit_made row ds r q none bare column width key (node_claim c (root_margins c.style) fit) (row_texts c (root_margins c.style) (root_deep c) fit) u a k w

-- for a given first row, with any items
directed : {t : List ℕ} (c : LayoutSetting) {d : Doc} (x : DocumentTree) {e : Directive} {es : List Directive} (row : Row) (ds : List Deco) (r : List ℕ) (q : ℕ) → row.leaves ≡ [] → row.body ≡ [] → row.text ≡ 37 ∷ joined_words e.words → is_some row.key_comment ≡ false → documents_begin row ≡ [] → d.directives ≡ e ∷ es
    → FitDirective e.words → FitDirectives es → Fit c.style x.root → IsUtf8 t → AreDecos ds → Calm ((row ∷ map directive_row es) ++ (start_row ∷ root_rows c x)) ds r
    → Rest t q (37 ∷ (joined_words e.words ++ end_then (first ds) [] (lines_then (map directive_row es ++ (start_row ∷ root_rows c x)) (after ds) r)))
    → AnyMade t c d x ((row ∷ map directive_row es) ++ (start_row ∷ root_rows c x)) ds q r
directed {t} c {d} x {e} {es} row ds r q none bare said key plain same f fs fit u a k w =
    let tree : List Row = root_rows c x in
    let z : List ℕ = lines_then (start_row ∷ tree) (past (map directive_row es) (after ds)) r in
    let there : Rest t q (37 ∷ (joined_words e.words ++ end_then (first ds) [] (lines_then (map directive_row es) (after ds) z))) =
    subst (λ v. Rest t q (37 ∷ (joined_words e.words ++ end_then (first ds) [] v))) (lines_append (map directive_row es) (start_row ∷ tree) (after ds) r) w in
    let one = directives_made {d = e} {dirs = es} row ds z q none bare said key f fs u a there in
    let ks = calm_append (row ∷ map directive_row es) (start_row ∷ tree) ds r k in
    let node = explicit_at c x start_row (past (map directive_row es) (after ds)) r one.place refl refl refl refl refl fit u (past_decos (row ∷ map directive_row es) a) ks.1.1 one.rest in
    record {
      height = node.height;
      place = node.place;
      document = document_of one.place true one.meaning.directives node.meaning;
      comments = one.meaning.comments ++ node.meaning.comments;
      derived = directive_document one.lines node.node;
      low = node.low;
      rest = node.rest;
      meant = meant_document one.place one.meaning.directives (one.words ∙ ap (λ z. map (λ (e : Directive). e.words) z) (sym same)) (meant_of node.meant);
      is = texts_append one.meaning.comments node.meaning.comments ∙ (ap (λ z. z ++ texts node.meaning.comments) one.is
          ∙ (ap (λ z. comments_in (row ∷ map directive_row es) ds ++ z) node.is ∙ sym (comments_append (row ∷ map directive_row es) (start_row ∷ tree) ds)));
      laid = subst (λ z. EventsLaid q node.place (document_of one.place true one.meaning.directives node.meaning).events (one.meaning.comments ++ node.meaning.comments) z)
          (sym (steps_append (row ∷ map directive_row es) (start_row ∷ tree) ds)) (events_after one.stand (laid_document one.place one.meaning.directives node.laid));
      found_rows = one.found_rows ++ (node.head ∷ node.inner);
      found = found_document true one.place one.meaning.directives (one.found_rows ++ (node.head ∷ [])) (heads_join node.head one.heads node.unleaved node.from) node.meant (sym (append_assoc one.found_rows (node.head ∷ []) node.inner));
      placed = rows_in_append one.placed (subst (λ z. RowsIn t (start_row ∷ tree) (node.head ∷ node.inner) (past (row ∷ map directive_row es) ds) z node.meaning.comments node.place r) (omega arith) node.placed);
      begun = document_begun one.place one.meaning.directives node.meaning
          (subst (λ z. Stand q (one.place ∷ []) (one.meaning.comments ++ node.meaning.comments) z node.place) (sym (with_append documents_begin (row ∷ map directive_row es) (start_row ∷ tree) ds))
          (stand_join (subst (λ z. Stand q [] one.meaning.comments z one.place) (sym (quiet_steps (no_start_on {row = row} plain (directives_none es)) ds)) (comments_stand (directives_ascend one.lines) one.is))
          (explicit_begun start_row (past (map directive_row es) (after ds)) refl refl (rows_none c (root_margins c.style) x.root) node)));
      set = document_set one.place one.meaning.directives node.meaning node.set;
      held = record {
        comments = set_append t one.meaning.comments node.meaning.comments (one.held node.meaning.events).comments node.held.comments;
        bodies = held_events t node.meaning ((row ∷ map directive_row es) ++ (start_row ∷ tree)) ds r one.place one.meaning.directives (bodies_append t node.meaning.events (row ∷ map directive_row es) (start_row ∷ tree) ds r (one.held node.meaning.events).bodies node.held.bodies);
      };
    }

-- The first document of a stream.

pub first_with : {t : List ℕ} (c : LayoutSetting) {d : Doc} (x : DocumentTree) (start : ℕ) (dirs : List Directive) (ds : List Deco) (r : List ℕ) (q : ℕ) → d.directives ≡ dirs → FitDirectives dirs → Fit c.style x.root → IsUtf8 t → AreDecos ds
    → Calm (head_rows true start dirs ++ root_rows c x) ds r → Rest t q (lines_then (head_rows true start dirs ++ root_rows c x) ds r) → AnyMade t c d x (head_rows true start dirs ++ root_rows c x) ds q r
first_with {t} c {d} x start [] ds r q same f fit u a k w =
    let node = explicit_at c x (record start_row { items = start ∷ [] }) ds r q refl refl refl refl refl fit u a k.1 w in
    record {
      height = node.height;
      place = node.place;
      document = document_of q true [] node.meaning;
      comments = node.meaning.comments;
      derived = explicit_document node.node;
      low = node.low;
      rest = node.rest;
      meant = meant_document q [] (ap (λ z. map (λ (e : Directive). e.words) z) (sym same)) (meant_of node.meant);
      is = node.is;
      laid = laid_document q [] node.laid;
      found_rows = node.head ∷ node.inner;
      found = found_document true q [] (node.head ∷ []) (mark_head node.unleaved node.from) node.meant refl;
      placed = node.placed;
      begun = document_begun q [] node.meaning (explicit_begun (record start_row { items = start ∷ [] }) ds refl refl (rows_none c (root_margins c.style) x.root) node);
      set = document_set q [] node.meaning node.set;
      held = record { comments = node.held.comments; bodies = held_events t node.meaning (record start_row { items = start ∷ [] } ∷ root_rows c x) ds r q [] node.held.bodies };
    }
first_with {t} c {d} x start (e ∷ es) ds r q same (fit_directive f fs) fit u a k w =
    let row : Row = record (directive_row e) { items = start ∷ [] } in
    let shape = beside_tree row es (root_rows c x) in
    subst (λ z. AnyMade t c d x z ds q r) (sym shape)
    (directed c x {e = e} row ds r q refl refl refl refl refl same f fs fit u a (subst (λ z. Calm z ds r) shape k) (subst (λ z. Rest t q (lines_then z ds r)) shape w))

-- Later documents, each with what follows it.

record StepMade (t : List ℕ) (s : LayoutSetting) (d : Doc) (x : DocumentTree) (rs : List Row) (ds : List Deco) (q : ℕ) (r : List ℕ) : Type 0 where
  pub height : ℕ
  pub place : ℕ
  pub document : Document
  pub comments : List CommentValue
  pub join : (g : ℕ) (rest : Documents) → StreamRest t g place rest → StreamRest t (max height g) q (with_document comments document rest)
  pub low : height ≤ tall x.root
  pub rest : Rest t place r
  pub meant : DocumentMeant true d x document
  pub is : texts comments ≡ comments_in rs ds
  pub laid : EventsLaid q place document.events comments (steps_in rs ds)
  pub found_rows : List PlacedRow
  pub found : FoundDocument t s false x document found_rows
  pub placed : RowsIn t rs found_rows ds q comments place r
  pub begun : Stand q (document.start ∷ []) comments (steps_with documents_begin rs ds) place
  pub held : EventsHeld t document.events comments rs ds r
  pub set : SetDone t s.style 0 s.style.indent document.events

no_words : {w : List (List ℕ)} {ws : List (List (List ℕ))} → [] ≡ w ∷ ws → ⊥
no_words e = absurd cc

step_with : {t : List ℕ} (c : LayoutSetting) {d : Doc} (x : DocumentTree) (start : ℕ) (dirs : List Directive) (ds : List Deco) (r : List ℕ) (q : ℕ) → d.directives ≡ dirs → FitDirectives dirs → Fit c.style x.root → IsUtf8 t → AreDecos ds
    → Calm (head_rows false start dirs ++ root_rows c x) ds r → Rest t q (lines_then (head_rows false start dirs ++ root_rows c x) ds r) → StepMade t c d x (head_rows false start dirs ++ root_rows c x) ds q r
step_with {t} c {d} x start [] ds r q same f fit u a k w =
    let node = explicit_at c x (record start_row { items = start ∷ [] }) ds r q refl refl refl refl refl fit u a k.1 w in
    record {
      height = node.height;
      place = node.place;
      document = document_of q true [] node.meaning;
      comments = node.meaning.comments;
      join = λ g rest s. past_explicit node.node s;
      low = node.low;
      rest = node.rest;
      meant = meant_document q [] (ap (λ z. map (λ (e : Directive). e.words) z) (sym same)) (meant_of node.meant);
      is = node.is;
      laid = laid_document q [] node.laid;
      found_rows = node.head ∷ node.inner;
      found = found_document false q [] (node.head ∷ []) (mark_head node.unleaved node.from) node.meant refl;
      placed = node.placed;
      begun = document_begun q [] node.meaning (explicit_begun (record start_row { items = start ∷ [] }) ds refl refl (rows_none c (root_margins c.style) x.root) node);
      set = document_set q [] node.meaning node.set;
      held = record { comments = node.held.comments; bodies = held_events t node.meaning (record start_row { items = start ∷ [] } ∷ root_rows c x) ds r q [] node.held.bodies };
    }
step_with {t} c {d} x start (e ∷ es) ds r q same (fit_directive f fs) fit u a k w =
    let row : Row = directive_row e in
    let shape = beside_tree row es (root_rows c x) in
    let mark = three_at 46 u (omega arith) (omega arith) w in
    let rest : List ℕ = lines_then (((row ∷ map directive_row es) ++ (start_row ∷ [])) ++ root_rows c x) (after ds) r in
    let end = row_end (first ds) rest u (first_deco a) mark.1 in
    let ended = row_ended (first ds) rest u (three_after 46 u (omega arith) (omega arith) w) (first_deco a) mark.1 end.end in
    let made = directed c {d = d} x {e = e} row (after ds) r end.place refl refl refl refl refl same f fs fit u (after_decos a) (subst (λ z. Calm z (after ds) r) shape k.1)
    (subst (λ z. Rest t end.place (lines_then z (after ds) r)) shape end.rest) in
    let some : made.document.directives ≡ [] → ⊥ = λ z. no_words (sym (ap (λ (w : List Directive). map (λ (v : Directive). v.words) w) z) ∙ (made.meant.words ∙ ap (λ (w : List Directive). map (λ (v : Directive). v.words) w) same)) in
    let dots : PlacedRow = record { items = q ∷ []; leaves = []; commented = false; column = 0; from = q; upto = q + 3 } in
    record {
      height = made.height;
      place = made.place;
      document = made.document;
      comments = end.comments ++ made.comments;
      join = λ g rest s. past_suffixes_and_document (last_suffix mark.0 end.end) done made.derived s;
      low = made.low;
      rest = made.rest;
      meant = made.meant;
      is = texts_append end.comments made.comments ∙ (ap (λ z. z ++ texts made.comments) end.is
          ∙ ap (λ z. carried_texts (first ds) ++ z) (made.is ∙ ap (λ z. comments_in z (after ds)) (sym shape)));
      laid = events_after (stand_after (omega arith) (comments_stand (end_ascends end.end) end.is))
          (subst (λ z. EventsLaid end.place made.place made.document.events made.comments (steps_in z (after ds))) (sym shape) made.laid);
      found_rows = dots ∷ made.found_rows;
      found = record {
        node = made.found.node;
        alike = made.found.alike;
        events = made.found.events;
        heads = dots ∷ made.found.heads;
        head = subst (λ z. HeadRows made.document.start z (dots ∷ made.found.heads)) (sym (later_heads made.document.directives some)) (more_heads refl made.found.head);
        inner = made.found.inner;
        are = ap (λ z. dots ∷ z) made.found.are;
        rows = made.found.rows;
      };
      placed = row_before (record { from = refl; order = omega arith; size = λ z. refl; items = one_inside (omega arith) (omega arith) none_inside; leaves = none_inside; commented = refl; bare = λ z. never_bare z; column = refl })
          (record { ascend = end_ascends end.end; is = end.is; start = end.start; tail = after_line refl end.end no_leaf_to }) end.rest
          (subst (λ z. RowsIn t z made.found_rows (after ds) (end.place + 0) made.comments made.place r) (sym shape)
          (subst (λ z. RowsIn t ((row ∷ map directive_row es) ++ (start_row ∷ root_rows c x)) made.found_rows (after ds) z made.comments made.place r) (omega arith) made.placed));
      begun = stand_join (stand_after (omega arith) (comments_stand (end_ascends end.end) end.is))
          (subst (λ z. Stand end.place (made.document.start ∷ []) made.comments (steps_with documents_begin z (after ds)) made.place) (sym shape) made.begun);
      set = made.set;
      held = record {
        comments = set_append t end.comments made.comments ended.comments made.held.comments;
        bodies = (bare_row t made.document.events (record (plain_row 0 (codes "...")) { items = start ∷ [] }) (first ds) rest refl ended.seen, subst (λ z. BodiesHeld t made.document.events z (after ds) r) (sym shape) made.held.bodies);
      };
    }

-- The rest of a stream.

pub record RestMade (t : List ℕ) (s : LayoutSetting) (ds : List Doc) (xs : List DocumentTree) (rs : List Row) (decos : List Deco) (q : ℕ) : Type 0 where
  pub height : ℕ
  pub documents : Documents
  pub derived : StreamRest t height q documents
  pub low : height ≤ tall_documents xs
  pub meant : DocumentsMeant false ds xs documents.documents
  pub is : texts documents.comments ≡ comments_in rs decos
  pub laid : DocumentsLaid q (length t) documents (steps_in rs decos)
  pub found_rows : List PlacedRow
  pub found : FoundDocuments t s false xs documents.documents found_rows
  pub placed : StreamIn t rs found_rows decos q documents.comments
  pub begun : Stand q (starts_in documents) documents.comments (steps_with documents_begin rs decos) (length t)
  pub held : EventsHeld t (all_events documents.documents) documents.comments rs decos []
  pub set : SetAll t s.style documents.documents

pub rest_made : {t : List ℕ} (c : LayoutSetting) {ds : List Doc} {xs : List DocumentTree} → FitDocuments c.style ds xs → (decos : List Deco) (q : ℕ) → IsUtf8 t → AreDecos decos → Calm (stream_rows c false ds xs) decos []
    → Rest t q (lines_then (stream_rows c false ds xs) decos []) → RestMade t c ds xs (stream_rows c false ds xs) decos q
rest_made {t} c fit_no_documents decos q u a k w = record {
  height = 0;
  documents = only_comments [];
  derived = subst (λ p. StreamRest t 0 p (only_comments [])) (sym (rest_end w)) stream_ended;
  low = omega arith;
  meant = no_documents_meant;
  is = refl;
  laid = no_documents_laid (let end : q ≡ length t = rest_end w in omega (arith, end));
  found_rows = [];
  found = no_documents_found;
  placed = no_stream;
  begun = nothing_is_at (let end : q ≡ length t = rest_end w in omega (arith, end));
  set = none_set;
  held = record { comments = tt; bodies = tt };
}
rest_made {t} c (fit_document {d = d} {ds = ds} {x = x} {xs = xs} f fit more) decos q u a k w =
    let head : List Row = document_rows c false d x in
    let others : List Row = stream_rows c false ds xs in
    let ks = calm_append head others decos [] k in
    let one = step_with c {d = d} x d.start d.directives decos (lines_then others (past head decos) []) q refl f fit u a ks.0
    (subst (λ z. Rest t q z) (lines_append head others decos []) w) in
    let last = rest_made c more (past head decos) one.place u (past_decos head a) ks.1 one.rest in
    let low : one.height ≤ tall x.root = one.low in
    let high : last.height ≤ tall_documents xs = last.low in
    record {
      height = max one.height last.height;
      documents = with_document one.comments one.document last.documents;
      derived = one.join last.height last.documents last.derived;
      low = omega (arith, low, high);
      meant = documents_with last.documents one.comments one.meant last.meant;
      is = texts_with_document one.comments one.document last.documents ∙ (ap (λ z. z ++ texts last.documents.comments) one.is
          ∙ (ap (λ z. comments_in head decos ++ z) last.is ∙ sym (comments_append head others decos)));
      laid = subst (λ z. DocumentsLaid q (length t) (with_document one.comments one.document last.documents) z) (sym (steps_append head others decos)) (documents_laid one.document one.laid last.laid);
      found_rows = one.found_rows ++ last.found_rows;
      found = found_with one.comments last.documents one.found last.found;
      placed = subst (λ z. StreamIn t (head ++ others) (one.found_rows ++ last.found_rows) decos q z) (sym (comments_with_document one.comments one.document last.documents))
          (stream_more (document_begins false d.start d.directives (root_rows c x)) one.placed (λ e. rest_end (subst (λ z. Rest t one.place (lines_then z (past head decos) [])) e one.rest)) last.placed);
      begun = subst (λ z. Stand q (starts_in (with_document one.comments one.document last.documents)) (with_document one.comments one.document last.documents).comments z (length t))
          (sym (with_append documents_begin head others decos)) (documents_begun one.comments one.document last.documents one.begun last.begun);
      set = documents_set one.comments one.document last.documents one.set last.set;
      held = documents_held one.comments one.document last.documents head others decos one.held last.held;
    }
