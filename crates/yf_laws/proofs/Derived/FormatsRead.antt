-- The layout of a normal form is a well-formed stream, within the limit of open collections, with the same nodes and
-- directives.
use Rattle.std.proofs.Common.{◌≡◌, ℕ, suc, max, ◌≤◌, Bool, true, false, List, [], ◌∷◌, ◌++◌, map, refl, sym, ap, ◌∙◌, subst, arith, length}
use Rattle.std.specs.Prelude.{◌&&◌, if◌then◌else◌}
use Rattle.std.specs.Str.{IsUtf8}
use Rattle.yf_chars.specs.Chain.{Chain}
use Rattle.yf_lines.specs.Basic.{LineStart}
use Rattle.yf_lines.specs.Rest.{Rest}
use Rattle.yf_comments.specs.Comment.{CommentValue}
use Rattle.yf_comments.specs.Comments.{CommentLine}
use Rattle.yf_comments.specs.GapLines.{remarks_of}
use Rattle.yf_comments.proofs.GapLinesLemmas.{texts}
use Rattle.yf_events.proofs.TreeLemmas.{trees_unique}
use Rattle.yf_events.specs.Alike.{Alike, alike_scalars, alike_aliases, alike_sequences, alike_mappings, AlikeItems, alike_nothing, alike_item, AlikePairs, alike_no_pairs, alike_pair}
use Rattle.yf_events.specs.Event.{EventValue, EventInText, stream_starts, stream_ends, document_starts, document_ends, sequence_starts, sequence_ends, mapping_starts, mapping_ends, scalar_node, alias_node}
use Rattle.yf_events.specs.declared.lists.Lists.{Lists}
use Rattle.yf_events.specs.declared.reading.TheConstants.{DEPTH}
use Rattle.yf_events.specs.Tree.{Node, scalar, alias, sequence, mapping, Items, no_items, item, Pairs, no_pairs, pair, DocumentTree, TreesOf, flat}
use Rattle.yf_grammar.proofs.Documents.CommentOrder.{Ascend}
use Rattle.yf_grammar.specs.Productions.TreesOfMeaning.{Anywhere, tall, tall_items, tall_pairs}
use Rattle.yf_stream.specs.ReadingOf.{ReadingOf, doc_of}
use Rattle.yf_stream.specs.Stream.{Document}
use Rattle.yf_stream.proofs.Existence.BreachLemmas.{SameDocument, SameDocuments, no_same_documents, same_documents, alike_values, documents_quiet, sign, signs}
use Rattle.yf_stream.proofs.LawsHold.{derived_streams_are_shapes}
use Rattle.yf_stream.proofs.Offsets.ReadingTrees.{TreesMeant, no_trees_meant, tree_meant, reading_is_at}
use Rattle.yf_stream.proofs.Uniqueness.StreamDocuments.{DocumentsDerived, no_documents_derived, document_derived, stream_derived}
use Rattle.yf_forms.specs.declared.style.Style.{Style}
use Rattle.yf_laws.proofs.SameReading.RowSteps.{documents_begin, steps_with}
use Rattle.yf_laws.specs.Layouts.RowComments.{AreRemarks}
use Rattle.yf_laws.specs.Layouts.Decorated.{first_gap, lines_then, row_decos, rows_of}
use Rattle.yf_laws.specs.Layouts.FitDocuments.{FitDocuments, DocumentMeant, DocumentsMeant, no_documents_meant, document_meant, tall_documents, FitsBare}
use Rattle.yf_laws.specs.Format.{IsFormatting}
use Rattle.yf_laws.specs.FormatLaws.{WellFormed, FormatsAreWellFormed}
use Rattle.yf_laws.proofs.Derived.LayoutLaws.{StreamMade, printed_comments}
use Rattle.yf_forms.specs.NormalForms.Normal.{LayoutSetting, Margins, fits, settled, settled_items, settled_pairs, styled, styled_items, styled_pairs, inner_margins, key_margins, value_margins, root_margins, normal_document, setting_of}
use Rattle.yf_forms.specs.NormalForms.Restyled.{SameButStyles, none_left, one_more, restyled_event}
use Rattle.yf_laws.proofs.Derived.LayoutSteps.{comment_steps, steps_of}
use Rattle.yf_laws.proofs.Writable.CommentsFit.{reading_remarks}
use Rattle.yf_laws.proofs.RowNodes.FoundStreams.{StreamIn, AllFound}
use Rattle.yf_laws.proofs.Trails.FormatTrails.{formats_trail, normal_trees}
use Rattle.yf_laws.proofs.Derived.LayoutLawsHold.{layouts_are_texts, layouts_are_laid}
use Rattle.yf_laws.proofs.NormalForms.NormalRestyled.{root_restyled}
use Rattle.yf_laws.proofs.Derived.DocumentsHeld.{all_events}
use Rattle.yf_laws.proofs.Derived.StepsInText.{Stand}
use Rattle.yf_laws.proofs.OutputLines.HeldLemmas.{EventsHeld}
use Rattle.yf_laws.proofs.Columns.SetStreams.{SetAll}
use Rattle.yf_laws.proofs.RowNodes.PlacedRows.{PlacedRow}
use Rattle.yf_laws.proofs.Derived.StreamParts.{DocumentsLaid}
use Rattle.yf_laws.proofs.Derived.StreamsLaid.{StreamLaid}
use Rattle.yf_laws.proofs.Writable.TreesRead.{document_read, reading_fits, same_node, reading_bare}
use Rattle.yf_forms.specs.NormalForms.BareStart.{is_bare}
use Rattle.yf_laws.proofs.Derived.BareReadings.{bare_begins, normal_begins, reading_begins}
use Rattle.yf_print.specs.Layouts.KeptColumns.{columns_of}

-- Heights: styles and brackets don't change them.

two_tall : {a b c d : ℕ} → a ≡ c → b ≡ d → max a b ≡ max c d
two_tall {a} {b} {c} {d} e f = ap (λ w. max w b) e ∙ ap (λ w. max c w) f

mutual
  pub alike_tall : {K : Node → Node → Node → Node → Type 0} {x y : Node} → Alike K x y → tall x ≡ tall y
  alike_tall (alike_scalars e) = refl
  alike_tall (alike_aliases e) = refl
  alike_tall (alike_sequences e a) = ap suc (items_tall a)
  alike_tall (alike_mappings e a) = ap suc (pairs_tall a)

  items_tall : {K : Node → Node → Node → Node → Type 0} {xs ys : Items} → AlikeItems K xs ys → tall_items xs ≡ tall_items ys
  items_tall alike_nothing = refl
  items_tall (alike_item a more) = two_tall (alike_tall a) (items_tall more)

  pairs_tall : {K : Node → Node → Node → Node → Type 0} {ps qs : Pairs} → AlikePairs K ps qs → tall_pairs ps ≡ tall_pairs qs
  pairs_tall alike_no_pairs = refl
  pairs_tall (alike_pair a b k more) = two_tall (two_tall (alike_tall a) (alike_tall b)) (pairs_tall more)

mutual
  styled_tall : (t : List ℕ) (c : LayoutSetting) (x : Node) → tall (styled t c x) ≡ tall x
  styled_tall t c (scalar at props style text lines) = refl
  styled_tall t c (alias at name) = refl
  styled_tall t c (sequence at flow props xs) = ap suc (styled_items_tall t c xs)
  styled_tall t c (mapping at flow props ps) = ap suc (styled_pairs_tall t c ps)

  styled_items_tall : (t : List ℕ) (c : LayoutSetting) (xs : Items) → tall_items (styled_items t c xs) ≡ tall_items xs
  styled_items_tall t c no_items = refl
  styled_items_tall t c (item x xs) = two_tall (styled_tall t c x) (styled_items_tall t c xs)

  styled_pairs_tall : (t : List ℕ) (c : LayoutSetting) (ps : Pairs) → tall_pairs (styled_pairs t c ps) ≡ tall_pairs ps
  styled_pairs_tall t c no_pairs = refl
  styled_pairs_tall t c (pair k v ps) = two_tall (two_tall (styled_tall t c k) (styled_tall t c v)) (styled_pairs_tall t c ps)

either_tall : {n : ℕ} (x y : Node) (b : Bool) → tall x ≡ n → tall y ≡ n → tall (if b then x else y) ≡ n
either_tall x y true e f = e
either_tall x y false e f = f

mutual
  settled_tall : (c : LayoutSetting) (margins : Margins) (x : Node) → tall (settled c margins x) ≡ tall x
  settled_tall c margins (scalar at props style text lines) = refl
  settled_tall c margins (alias at name) = refl
  settled_tall c margins (sequence at flow props no_items) = refl
  settled_tall c margins (sequence at flow props (item x xs)) =
      either_tall (sequence at flow props (item x xs)) (sequence at false props (item (settled c (inner_margins c.style margins.entries) x) (settled_items c margins.entries xs)))
      (flow && fits c.style margins.column (sequence at flow props (item x xs))) refl
      (ap suc (two_tall (settled_tall c (inner_margins c.style margins.entries) x) (settled_items_tall c margins.entries xs)))
  settled_tall c margins (mapping at flow props no_pairs) = refl
  settled_tall c margins (mapping at flow props (pair k v ps)) =
      either_tall (mapping at flow props (pair k v ps))
      (mapping at false props (pair (settled c (key_margins c.style margins.entries k) k) (settled c (value_margins c margins.entries k v) v) (settled_pairs c margins.entries ps)))
      (flow && fits c.style margins.column (mapping at flow props (pair k v ps))) refl
      (ap suc (two_tall (two_tall (settled_tall c (key_margins c.style margins.entries k) k) (settled_tall c (value_margins c margins.entries k v) v)) (settled_pairs_tall c margins.entries ps)))

  settled_items_tall : (c : LayoutSetting) (column : ℕ) (xs : Items) → tall_items (settled_items c column xs) ≡ tall_items xs
  settled_items_tall c column no_items = refl
  settled_items_tall c column (item x xs) = two_tall (settled_tall c (inner_margins c.style column) x) (settled_items_tall c column xs)

  settled_pairs_tall : (c : LayoutSetting) (column : ℕ) (ps : Pairs) → tall_pairs (settled_pairs c column ps) ≡ tall_pairs ps
  settled_pairs_tall c column no_pairs = refl
  settled_pairs_tall c column (pair k v ps) = two_tall (two_tall (settled_tall c (key_margins c.style column k) k) (settled_tall c (value_margins c column k v) v)) (settled_pairs_tall c column ps)

pub root_tall : (t : List ℕ) (c : LayoutSetting) (d : DocumentTree) → tall (normal_document t c d).root ≡ tall d.root
root_tall t c d = settled_tall c (root_margins c.style) (styled t c d.root) ∙ styled_tall t c d.root

-- Signs: they don't change what the rules require of an event.

restyled_sign : (q : Style) (flow : Bool) (v : EventValue) → sign (restyled_event q flow v) ≡ sign v
restyled_sign q flow stream_starts = refl
restyled_sign q flow stream_ends = refl
restyled_sign q flow (document_starts marked) = refl
restyled_sign q flow (document_ends marked) = refl
restyled_sign q flow (sequence_starts g props) = refl
restyled_sign q flow sequence_ends = refl
restyled_sign q flow (mapping_starts g props) = refl
restyled_sign q flow mapping_ends = refl
restyled_sign q flow (scalar_node props style text) = refl
restyled_sign q flow (alias_node name) = refl

restyled_signs : {q : Style} {es fs : List EventInText} → SameButStyles q es fs → signs es ≡ signs fs
restyled_signs none_left = refl
restyled_signs {q} (one_more {e = e} {es = es} flow a) =
    ap (λ w. w ∷ signs es) (sym (restyled_sign q flow e.event)) ∙ ap (λ w. sign (restyled_event q flow e.event) ∷ w) (restyled_signs a)

-- Documents.

document_same : {mark : Bool} {d m : Document} {x : Node} {tree : DocumentTree} (t : List ℕ) (c : LayoutSetting) → d.events ≡ flat x → Alike Anywhere x tree.root
    → DocumentMeant mark (doc_of d) (normal_document t c tree) m → SameDocument d m
document_same {tree = tree} t c e a b = record {
  directives = sym b.words;
  nodes = ap signs e ∙ (ap (map sign) (alike_values a) ∙ (restyled_signs (root_restyled t c tree) ∙ (ap (map sign) (alike_values b.alike) ∙ ap signs (sym b.events))));
  escapes = b.escapes;
}

documents_same : {bare : Bool} {ds ms : List Document} {trees : List DocumentTree} (t : List ℕ) (c : LayoutSetting) → TreesMeant ds trees
    → DocumentsMeant bare (map doc_of ds) (map (normal_document t c) trees) ms → SameDocuments ds ms
documents_same t c no_trees_meant no_documents_meant = no_same_documents
documents_same t c (tree_meant e a more) (document_meant b others) = same_documents (document_same t c e a b) (documents_same t c more others)

documents_low : {s : List ℕ} {h : ℕ} {ds : List Document} {trees : List DocumentTree} (t : List ℕ) (c : LayoutSetting) → IsUtf8 s → DocumentsDerived s h ds → TreesMeant ds trees
    → tall_documents (map (normal_document t c) trees) ≤ h
documents_low t c u no_documents_derived no_trees_meant = omega arith
documents_low {h = h} t c u (document_derived {h = g} a l more) (tree_meant {x = x} {tree = tree} {trees = trees} e b others) =
    let d = document_read u a in
    let low : tall d.node ≤ g = d.low in
    let same : tall d.node ≡ tall x = ap tall (same_node d.events e) in
    let kept : tall x ≡ tall tree.root = alike_tall b in
    let rest : tall_documents (map (normal_document t c) trees) ≤ h = documents_low t c u more others in
    omega (arith, low, same, kept, root_tall t c tree, rest, l)

-- Streams.

-- the trees of a reading, with what they mean
reading_meant : {t : List ℕ} {r : Lists} {trees : List DocumentTree} → IsUtf8 t → (a : ReadingOf t r) → TreesOf r trees → TreesMeant a.derived.documents trees
reading_meant {t} {r} {trees} u a of_reading =
    let w = reading_is_at u a in subst (λ xs. TreesMeant a.derived.documents xs) (trees_unique r w.trees trees w.of_reading of_reading) w.meant

pub formats_fit : {t u : List ℕ} {s : Style} → IsUtf8 t → (f : IsFormatting t s u) → FitDocuments s f.normal.documents f.writes.trees
formats_fit {t} {u} {s} utf8 f =
    let n = normal_trees f in
    subst (λ xs. FitDocuments s f.normal.documents xs) (sym n.same)
    (subst (λ ds. FitDocuments s ds (map (normal_document t (setting_of f.reading s)) n.trees)) (sym n.documents) (reading_fits utf8 t (setting_of f.reading s) f.reads n.of_reading))

-- and a first document without a `---` may be laid out without one
pub formats_bare : {t u : List ℕ} {s : Style} → IsUtf8 t → (f : IsFormatting t s u) → FitsBare (is_bare f.normal s) f.normal.documents f.writes.trees
formats_bare {t} {u} {s} utf8 f =
    let n = normal_trees f in
    let b : Bool = is_bare f.normal s in
    subst (λ xs. FitsBare b f.normal.documents xs) (sym n.same)
    (subst (λ ds. FitsBare b ds (map (normal_document t (setting_of f.reading s)) n.trees)) (sym n.documents)
    (reading_bare utf8 t (setting_of f.reading s) b f.reads n.of_reading (λ e. sym (reading_begins f.reads) ∙ (sym (normal_begins f.is_normal) ∙ bare_begins f.normal s e))))

-- documents that mean the trees of the normal form have the nodes and directives of those that were formatted
pub same_in_documents : {t u : List ℕ} {s : Style} {es : List Document} → IsUtf8 t → (f : IsFormatting t s u) → DocumentsMeant (is_bare f.normal s) f.normal.documents f.writes.trees es
    → SameDocuments f.reads.derived.documents es
same_in_documents {t} {u} {s} {es} utf8 f meant =
    let n = normal_trees f in
    let c : LayoutSetting = setting_of f.reading s in
    let documents : f.normal.documents ≡ map doc_of f.reads.derived.documents = n.documents ∙ f.reads.documents in
    documents_same t c (reading_meant utf8 f.reads n.of_reading)
    (subst (λ ds. DocumentsMeant (is_bare f.normal s) ds (map (normal_document t c) n.trees) es) documents (subst (λ xs. DocumentsMeant (is_bare f.normal s) f.normal.documents xs es) n.same meant))

-- the derivation has its leaves and comments in the order of the layout
pub record FormattedLaid {t : List ℕ} {s : Style} {u : List ℕ} (f : IsFormatting t s u) : Type 0 where
  pub well : WellFormed f
  pub laid : DocumentsLaid 0 (length u) well.documents (steps_of (columns_of t s (rows_of f.normal s f.writes.trees)) f.normal (rows_of f.normal s f.writes.trees))
  pub begun : Stand 0 (map (λ (d : Document). d.start) well.documents.documents) well.documents.comments
      (comment_steps (remarks_of (first_gap (columns_of t s (rows_of f.normal s f.writes.trees)) f.normal (rows_of f.normal s f.writes.trees)))
      ++ steps_with documents_begin (rows_of f.normal s f.writes.trees) (row_decos (columns_of t s (rows_of f.normal s f.writes.trees)) f.normal (rows_of f.normal s f.writes.trees))) (length u)
  pub held : EventsHeld u (all_events well.documents.documents) well.documents.comments (rows_of f.normal s f.writes.trees) (row_decos (columns_of t s (rows_of f.normal s f.writes.trees)) f.normal (rows_of f.normal s f.writes.trees)) []
  pub set : SetAll u s well.documents.documents
  pub line : ℕ
  pub starts : LineStart u line
  pub firsts : List CommentValue
  pub others : List CommentValue
  pub told : texts firsts ≡ remarks_of (first_gap (columns_of t s (rows_of f.normal s f.writes.trees)) f.normal (rows_of f.normal s f.writes.trees))
  pub lines : Chain (CommentLine u) 0 line firsts
  pub begin : Rest u line (lines_then (rows_of f.normal s f.writes.trees) (row_decos (columns_of t s (rows_of f.normal s f.writes.trees)) f.normal (rows_of f.normal s f.writes.trees)) [])
  pub ascend : Ascend u 0 firsts line
  pub are : well.documents.comments ≡ firsts ++ others
  pub found_rows : List PlacedRow
  pub found : AllFound u (setting_of f.normal s) (is_bare f.normal s) f.writes.trees well.documents.documents found_rows
  pub placed : StreamIn u (rows_of f.normal s f.writes.trees) found_rows (row_decos (columns_of t s (rows_of f.normal s f.writes.trees)) f.normal (rows_of f.normal s f.writes.trees)) line others

pub formats_laid : (t u : List ℕ) (s : Style) → IsUtf8 t → (f : IsFormatting t s u) → FormattedLaid f
formats_laid t u s utf8 f =
    let trails = formats_trail t u s utf8 f in
    let n = normal_trees f in
    let c : LayoutSetting = setting_of f.reading s in
    let m : Lists = f.normal in
    let trees : List DocumentTree = f.writes.trees in
    let fit = formats_fit utf8 f in
    let remarks : AreRemarks m.comments = subst (λ cs. AreRemarks cs) (sym n.comments) (reading_remarks utf8 f.reads) in
    let text : IsUtf8 u = subst (λ w. IsUtf8 w) (sym f.writes.is) (layouts_are_texts t m s trees fit remarks trails) in
    let laid : StreamLaid u (setting_of m s) (is_bare m s) m.documents trees (first_gap (columns_of t s (rows_of m s trees)) m (rows_of m s trees)) (rows_of m s trees) (row_decos (columns_of t s (rows_of m s trees)) m (rows_of m s trees)) =
    subst (λ w. StreamLaid w (setting_of m s) (is_bare m s) m.documents trees (first_gap (columns_of t s (rows_of m s trees)) m (rows_of m s trees)) (rows_of m s trees) (row_decos (columns_of t s (rows_of m s trees)) m (rows_of m s trees))) (sym f.writes.is) (layouts_are_laid t m s trees fit (formats_bare utf8 f) remarks trails) in
    let made : StreamMade u (is_bare m s) m.documents trees (printed_comments t m s trees) = laid.made in
    let shapes = f.reads.reads.shapes in
    let derived = stream_derived shapes.derived in
    let meant = reading_meant utf8 f.reads n.of_reading in
    let low : tall_documents (map (normal_document t c) n.trees) ≤ shapes.height = documents_low t c utf8 derived meant in
    let same : tall_documents trees ≡ tall_documents (map (normal_document t c) n.trees) = ap tall_documents n.same in
    let limit : shapes.height ≤ DEPTH = shapes.within in
    let high : made.height ≤ tall_documents trees = made.low in
    record {
      well = record {
        utf8 = text;
        documents = made.documents;
        reads = record {
          shapes = derived_streams_are_shapes u made.height made.documents text made.derived (omega (arith, low, same, limit, high));
          well_formed = documents_quiet (same_in_documents utf8 f made.meant) f.reads.reads.well_formed;
        };
        meant = made.meant;
      };
      laid = laid.laid;
      begun = laid.begun;
      held = laid.held;
      set = laid.set;
      line = laid.line;
      starts = laid.starts;
      firsts = laid.firsts;
      others = laid.others;
      told = laid.told;
      lines = laid.lines;
      begin = laid.begin;
      ascend = laid.ascend;
      are = laid.are;
      found_rows = laid.found_rows;
      found = laid.found;
      placed = laid.placed;
    }

pub formats_well : FormatsAreWellFormed
formats_well t u s utf8 f = (formats_laid t u s utf8 f).well
