-- In a formatted text, each document begins with a `---` on its own line, except for a first one that the style leaves
-- without.
use Rattle.std.proofs.Common.{◌≡◌, ℕ, zero, suc, ◌+◌, inl, Bool, true, true≢false, List, [], ◌∷◌, ◌++◌, map, Some, refl, sym, ap, ◌∙◌, subst, arith, append_assoc, false, ◌&&◌, append-nil}
use Rattle.std.specs.Prelude.{slice_get, not, ◌==◌}
use Rattle.std.specs.Str.{IsUtf8}
use Rattle.yf_chars.specs.Chain.Chain.{done, step}
use Rattle.yf_chars.specs.Chain.One.{one}
use Rattle.yf_chars.specs.Chain.{Many}
use Rattle.yf_chars.specs.Class.{is_break_char}
use Rattle.yf_chars.specs.Text.{code}
use Rattle.yf_chars.proofs.TextLemmas.{within_from_code}
use Rattle.yf_chars.proofs.Tests.{no_item}
use Rattle.yf_lines.specs.Basic.{ForbiddenLine}
use Rattle.yf_lines.specs.Lines.{Table, is_mark}
use Rattle.yf_lines.specs.declared.line.Line.{Line}
use Rattle.yf_lines.proofs.LineLemmas.{lf_breaks}
use Rattle.yf_lines.proofs.MarkLemmas.{mark_code, start_in_line}
use Rattle.yf_lines.proofs.RestLemmas.{rest_ascii}
use Rattle.yf_lines.proofs.TableLemmas.{line_of, table_cut, table_line}
use Rattle.yf_events.specs.Event.{EventValue, EventInText, stream_ends, document_ends, sequence_ends, mapping_ends}
use Rattle.yf_events.specs.Reading.{events_of}
use Rattle.yf_events.specs.Tree.{Node, scalar, alias, sequence, mapping, Items, no_items, item, Pairs, no_pairs, pair, flat, flat_items, flat_pairs, unplaced}
use Rattle.yf_events.specs.declared.document.Doc.{Doc}
use Rattle.yf_events.specs.declared.lists.Lists.{Lists}
use Rattle.yf_stream.specs.ReadingOf.{DocumentEvents, no_document, one_document, ReadingOf, doc_of}
use Rattle.yf_stream.specs.Stream.{Document}
use Rattle.yf_stream.proofs.Existence.BreachLemmas.{values, values_append}
use Rattle.yf_stream.proofs.Offsets.DocumentMarkers.{MarkersStand, no_markers, marker_is_at, stream_markers}
use Rattle.yf_stream.proofs.TagPass.SameTags.{noting_values}
use Rattle.yf_laws.specs.Layouts.FitDocuments.{DocumentsMeant, no_documents_meant, document_meant}
use Rattle.yf_forms.specs.declared.style.Style.{Style}
use Rattle.yf_laws.specs.Layouts.Decorated.{rows_of, first_gap}
use Rattle.yf_laws.specs.Layouts.Layout.{own_line_comments, source_of}
use Rattle.yf_forms.specs.NormalForms.Normal.{setting_of}
use Rattle.yf_laws.specs.Preservation.CommentsPlaced.{columns_in}
use Rattle.yf_laws.proofs.Derived.ClearRows.{feed_follows}
use Rattle.yf_laws.proofs.OutputLines.FormattedLines.{Formed, formed, formed_are, formed_lines}
use Rattle.yf_laws.proofs.OutputLines.LaidLines.{LineIs, line_feed, line_text}
use Rattle.yf_laws.proofs.Derived.RowKinds.{LineKind, no_marker, document_start, document_end, LineKinds, no_line, line_more, laid_kinds, all_kinds}
use Rattle.yf_laws.proofs.SameReading.SameContent.{formats_meant}
use Rattle.yf_rule_sets.specs.RuleSets.Documents.{IsUnmarked, NoMarkerLine, markers_in, may_be_bare}
use Rattle.yf_rule_sets.specs.RuleSets.Documents.IsUnmarked.{without_marker, not_alone}
use Rattle.yf_rule_sets.specs.RuleSets.Documents.NoMarkerLine.{of_document}
use Rattle.yf_laws.specs.Mended.{FormatsAreMended, IsFormatted}
use Rattle.yf_rule_sets.specs.Rules.{document_start as document_start_rule}
use Rattle.yf_rule_sets.specs.RuleSets.Whites.{IsAlone}
use Rattle.yf_laws.proofs.Formatted.MendedLines.{exactly_none, no_mark_there}
use Rattle.std.proofs.lemmas.Bool.{and_parts}
use Rattle.std.proofs.lemmas.Option.{same_Some}
use Rattle.yf_forms.specs.NormalForms.BareStart.{begins_bare, has_lead, is_bare, keeps_starts}

-- The events of documents determine only their markers.

pub events_joined : (xs ys : List EventInText) (rest : List EventValue) → values (xs ++ ys) ++ rest ≡ values xs ++ (values ys ++ rest)
events_joined xs ys rest = ap (λ w. w ++ rest) (values_append xs ys) ∙ append_assoc (values xs) (values ys) rest

mutual
  pub node_unmarked : (x : Node) (rest : List EventValue) → markers_in (values (flat x) ++ rest) ≡ markers_in rest
  node_unmarked (scalar at props style text lines) rest = refl
  node_unmarked (alias at name) rest = refl
  node_unmarked (sequence at flow props xs) rest = ap markers_in (events_joined (flat_items xs) (unplaced sequence_ends ∷ []) rest) ∙ items_unmarked xs (sequence_ends ∷ rest)
  node_unmarked (mapping at flow props ps) rest = ap markers_in (events_joined (flat_pairs ps) (unplaced mapping_ends ∷ []) rest) ∙ pairs_unmarked ps (mapping_ends ∷ rest)

  items_unmarked : (xs : Items) (rest : List EventValue) → markers_in (values (flat_items xs) ++ rest) ≡ markers_in rest
  items_unmarked no_items rest = refl
  items_unmarked (item x xs) rest = ap markers_in (events_joined (flat x) (flat_items xs) rest) ∙ (node_unmarked x (values (flat_items xs) ++ rest) ∙ items_unmarked xs rest)

  pairs_unmarked : (ps : Pairs) (rest : List EventValue) → markers_in (values (flat_pairs ps) ++ rest) ≡ markers_in rest
  pairs_unmarked no_pairs rest = refl
  pairs_unmarked (pair k v ps) rest =
      ap markers_in (events_joined (flat k) (flat v ++ flat_pairs ps) rest) ∙ (node_unmarked k (values (flat v ++ flat_pairs ps) ++ rest)
      ∙ (ap markers_in (events_joined (flat v) (flat_pairs ps) rest) ∙ (node_unmarked v (values (flat_pairs ps) ++ rest) ∙ pairs_unmarked ps rest)))

abbrev pub marks : List Document → List Bool
marks ds = map (λ (d : Document). d.marked) ds

documents_marks : {bare : Bool} {u : List ℕ} {ms : List Doc} {trees : List _} {es : List Document} {y : List EventInText} {tags : List _} (rest : List EventValue) → DocumentsMeant bare ms trees es
    → DocumentEvents u es y tags → markers_in (values y ++ rest) ≡ marks es ++ markers_in rest
documents_marks rest no_documents_meant no_document = refl
documents_marks rest (document_meant b more) (one_document {d = d} {x = x} {closed = closed} g l m others) =
    let last : List EventValue = document_ends closed ∷ (values x ++ rest) in
    let here : markers_in (values (d.events ++ (unplaced (document_ends closed) ∷ x)) ++ rest) ≡ markers_in (values x ++ rest) =
    ap markers_in (events_joined d.events (unplaced (document_ends closed) ∷ x) rest) ∙ (ap (λ w. markers_in (values w ++ last)) b.events ∙ node_unmarked b.node last) in
    ap (λ w. d.marked ∷ w) (here ∙ documents_marks rest more others)

-- the markers of documents in the events of a formatted text
pub reading_marks : {src : Table} {r : Lists} {s : Style} (w : IsFormatted src r s) → markers_in (events_of r) ≡ marks w.reads.derived.documents
reading_marks {src} {r} {s} w =
    let q : ReadingOf src.text r = w.reads in
    let all : values (q.derived_events ++ (unplaced stream_ends ∷ [])) ≡ values q.derived_events ++ (stream_ends ∷ []) = values_append q.derived_events (unplaced stream_ends ∷ []) in
    sym (ap markers_in (noting_values q.noted)) ∙ (ap markers_in all ∙ (documents_marks (stream_ends ∷ []) (formats_meant w.utf8 w.formats q) q.events ∙ append-nil (marks q.derived.documents)))

-- only a first document that may be bare has no `---`
marked_alone : {bare : Bool} {ms : List Doc} {trees : List _} {es : List Document} (k : ℕ) → DocumentsMeant bare ms trees es → slice_get (marks es) k ≡ Some false → (k ≡ 0) × (bare ≡ true)
marked_alone k no_documents_meant e = absurd (no_item k false e)
marked_alone zero (document_meant {bare = bare} a more) e = (refl, turned bare (sym a.marked ∙ same_Some _ _ e)) where
  turned : (b : Bool) → not b ≡ false → b ≡ true
  turned true f = refl
  turned false f = absurd (true≢false f)
marked_alone (suc k) (document_meant a more) e = absurd (true≢false (sym (marked_alone k more e).1))

-- The starts of documents.

kind_at : {xs : List (List ℕ)} (k : ℕ) (x : List ℕ) → LineKinds xs → slice_get xs k ≡ Some x → LineKind x
kind_at k x no_line e = absurd (no_item k x e)
kind_at zero x (line_more a more) e = subst (λ w. LineKind w) (same_Some _ _ e) a
kind_at (suc k) x (line_more a more) e = kind_at k x more e

formed_kinds : {src : Table} {r : Lists} {s : Style} (w : IsFormatted src r s) → Formed w.formats → LineKinds (formed_lines w.formats)
formed_kinds {s = s} w a =
    let m : Lists = w.formats.normal in
    let rows = rows_of m s w.formats.writes.trees in
    laid_kinds (columns_in w.formats) (first_gap (columns_in w.formats) m rows) (source_of m rows) (own_line_comments (source_of m rows) rows) a.gap (all_kinds (setting_of m s) (is_bare m s) a.fit) a.decos

-- a line that begins with dashes like a marker is only that marker
alone_there : {t : List ℕ} {l : Line} {x : List ℕ} → IsUtf8 t → LineIs t l x → LineKind x → ForbiddenLine t l.start → code t l.start ≡ 45 → IsAlone t l.start
alone_there {t} {l} u a (no_marker n) f e = absurd (n.none l.start (10 ∷ a.follows) u feed_follows a.there f)
alone_there {t} {l} u a document_start f e =
    let end : l.start + 3 ≡ l.end = sym a.end in
    record { whites = []; end = l.start + 3; run = done; stops = inl (subst (λ k. is_break_char (code t k) ≡ true) (sym end) (lf_breaks t l.end (line_feed u a))) }
alone_there {t} {l} u a document_end f e =
    let dot : code t l.start ≡ 46 = (rest_ascii 46 u (omega arith) (λ q. absurd (omega arith)) a.there).0.char in
    absurd (omega (arith, dot, e))

pub first_mark : {t : List ℕ} {i j : ℕ} {x : List ℕ} → ((k : ℕ) → code t k ≡ 0xFEFF → ⊥) → Many t is_mark i j x → i ≡ j
first_mark n done = refl
first_mark {t} n (step (one {i = i} e) c) = absurd (n i (mark_code t i e))

begins_alone : {src : Table} {r : Lists} {s : Style} → IsFormatted src r s → (i : ℕ) → ForbiddenLine src.text i → code src.text i ≡ 45 → IsAlone src.text i
begins_alone {src} w i f e =
    let a = formed w.utf8 w.formats in
    let t : List ℕ = src.text in
    let at = line_of t src.lines i w.lines (within_from_code t i (omega (arith, e))) in
    let line = line_text at.index at.line (formed_are src.lines w.formats a w.lines) at.is in
    let marks = start_in_line at.line a.utf8 (table_line t src.lines at.index at.line w.lines at.is) (table_cut t src.lines at.index at.line a.utf8 w.lines at.is) f.start at.from at.before in
    let same : at.line.start ≡ i = first_mark (λ k. no_mark_there w k) marks.1 in
    subst (λ k. IsAlone t k) same
    (alone_there a.utf8 line.is (kind_at at.index line.text (formed_kinds w a) line.among) (subst (λ k. ForbiddenLine t k) (sym same) f) (ap (code t) same ∙ e))

pub start_at : {t : List ℕ} {ds : List Document} (k : ℕ) (d : Doc) → MarkersStand t ds → slice_get (map doc_of ds) k ≡ Some d → slice_get (marks ds) k ≡ Some true → ForbiddenLine t d.start × (code t d.start ≡ 45)
start_at k d no_markers e g = absurd (no_item k d e)
start_at {t} zero d (marker_is_at f more) e g = subst (λ (w : Doc). ForbiddenLine t w.start × (code t w.start ≡ 45)) (same_Some _ _ e) (f (same_Some _ _ g))
start_at (suc k) d (marker_is_at f more) e g = start_at k d more e g

pub marker_at : {src : Table} {r : Lists} {s : Style} (w : IsFormatted src r s) (k : ℕ) (d : Doc) → slice_get r.documents k ≡ Some d → slice_get (markers_in (events_of r)) k ≡ Some true
    → ForbiddenLine src.text d.start × (code src.text d.start ≡ 45)
marker_at {src} {r} w k d e f =
    let q : ReadingOf src.text r = w.reads in
    start_at k d (stream_markers (formed w.utf8 w.formats).utf8 q.reads.shapes.derived) (subst (λ (ds : List Doc). slice_get ds k ≡ Some d) q.documents e) (subst (λ bs. slice_get bs k ≡ Some true) (reading_marks w) f)

none_unmarked : {t : List ℕ} {o x : ℕ} {b m : Bool} → (b ≡ true → IsAlone t o) → (b ≡ false → m ≡ true) → IsUnmarked t b m o x → ⊥
none_unmarked f g without_marker = true≢false (sym (g refl))
none_unmarked f g (not_alone n) = n (f refl)

may_be : (s : Style) (k : ℕ) → k ≡ 0 → keeps_starts s ≡ true → may_be_bare s k ≡ true
may_be s k e f = ap (λ b. b && (k == 0)) f ∙ ap (λ n. n == 0) e

none_at_fault : {src : Table} {r : Lists} {s : Style} → IsFormatted src r s → (k x : ℕ) → NoMarkerLine src.text r s k x → ⊥
none_at_fault {src} {r} {s} w k x (of_document {d = d} {marked = b} e f u) =
    let q : ReadingOf src.text r = w.reads in
    let m : Lists = w.formats.normal in
    none_unmarked
    (λ g. let start = marker_at w k d e (f ∙ ap Some g) in begins_alone w d.start start.0 start.1)
    (λ g. let first = marked_alone k (formats_meant w.utf8 w.formats q) (subst (λ bs. slice_get bs k ≡ Some false) (reading_marks w) (f ∙ ap Some g)) in
    may_be s k first.0 (and_parts (keeps_starts s) (begins_bare m.events && not (has_lead m)) first.1).0) u

pub document_start_mended : FormatsAreMended document_start_rule
document_start_mended fixable src r s w offsets e = exactly_none offsets (none_at_fault w) e
