-- The `---` of documents are kept as the setting says.
use Rattle.std.proofs.Common.{◌≡◌, Bool, true, false, List, [], ◌∷◌, ◌++◌, length, map, flat_map, refl, sym, ap, ◌∙◌, subst, arith, append-nil}
use Rattle.std.specs.Prelude.{not, ◌&&◌, ◌||◌}
use Rattle.yf_events.specs.Event.{EventValue, document_ends, stream_ends}
use Rattle.yf_events.specs.Reading.{events_of}
use Rattle.yf_events.specs.Tree.{DocumentTree, flat, flat_document, flat_stream, unplaced}
use Rattle.yf_events.specs.declared.document.Doc.{Doc}
use Rattle.yf_events.specs.declared.lists.Lists.{Lists}
use Rattle.yf_lines.specs.Lines.{Table}
use Rattle.yf_stream.specs.Stream.{Document}
use Rattle.yf_stream.proofs.Existence.BreachLemmas.{values, values_append}
use Rattle.yf_stream.proofs.LawsHold.{readings_are_one}
use Rattle.yf_forms.specs.NormalForms.BareStart.{begins_bare, has_lead, is_bare, keeps_starts}
use Rattle.yf_rule_sets.specs.RuleSets.Documents.{markers_in}
use Rattle.yf_laws.specs.Layouts.FitDocuments.{DocumentsMeant, no_documents_meant, document_meant}
use Rattle.yf_laws.specs.Settings.DocumentStarts.{StartsAreKept, kept_markers}
use Rattle.yf_laws.proofs.Derived.BareReadings.{normal_begins}
use Rattle.yf_laws.proofs.Formatted.MendedDocumentStart.{events_joined, marks, node_unmarked, reading_marks}
use Rattle.yf_laws.proofs.SameReading.BareAgain.{normal_lead}
use Rattle.yf_laws.proofs.SameReading.SameContent.{formats_meant}

-- The markers of a reading are those of its trees.

abbrev tree_marks : List DocumentTree → List Bool
tree_marks ds = map (λ (d : DocumentTree). d.marked) ds

documents_marks : (ds : List DocumentTree) (rest : List EventValue) → markers_in (values (flat_map flat_document ds) ++ rest) ≡ tree_marks ds ++ markers_in rest
documents_marks [] rest = refl
documents_marks (d ∷ ds) rest =
    let last : List EventValue = document_ends d.closed ∷ (values (flat_map flat_document ds) ++ rest) in
    ap markers_in (events_joined (flat_document d) (flat_map flat_document ds) rest)
    ∙ ap (λ w. d.marked ∷ w) (ap markers_in (events_joined (flat d.root) (unplaced (document_ends d.closed) ∷ []) (values (flat_map flat_document ds) ++ rest))
    ∙ (node_unmarked d.root last ∙ documents_marks ds rest))

stream_marks : (ds : List DocumentTree) → markers_in (values (flat_stream ds)) ≡ tree_marks ds
stream_marks ds =
    ap markers_in (values_append (flat_map flat_document ds) (unplaced stream_ends ∷ []))
    ∙ (documents_marks ds (stream_ends ∷ []) ∙ append-nil (tree_marks ds))

-- Whether its first document has no marker decides the markers of a formatting.

decided : (keeps marked leads : Bool) → not (keeps && (not marked && not leads)) ≡ (not keeps || (marked || leads))
decided true true leads = refl
decided true false true = refl
decided true false false = refl
decided false marked leads = refl

all_marked : {ms : List Doc} {xs : List DocumentTree} {es : List Document} (ds : List DocumentTree) → DocumentsMeant false ms xs es → length ms ≡ length ds
    → marks es ≡ map (λ (other : Bool). true) (tree_marks ds)
all_marked [] no_documents_meant e = refl
all_marked (d ∷ ds) no_documents_meant e = absurd (omega (arith, e))
all_marked [] (document_meant a more) e = absurd (omega (arith, e))
all_marked (d ∷ ds) (document_meant {ms = es} a more) e = ap (λ b. b ∷ marks es) a.marked ∙ ap (λ w. true ∷ w) (all_marked ds more (omega (arith, e)))

first_marked : (keeps leads : Bool) {ms : List Doc} {xs : List DocumentTree} {es : List Document} (ds : List DocumentTree)
    → DocumentsMeant (keeps && (begins_bare (flat_stream ds) && not leads)) ms xs es → length ms ≡ length ds → marks es ≡ kept_markers keeps leads (tree_marks ds)
first_marked keeps leads [] no_documents_meant e = refl
first_marked keeps leads (d ∷ ds) no_documents_meant e = absurd (omega (arith, e))
first_marked keeps leads [] (document_meant a more) e = absurd (omega (arith, e))
first_marked keeps leads (d ∷ ds) (document_meant {ms = es} a more) e =
    ap (λ b. b ∷ marks es) (a.marked ∙ decided keeps d.marked leads) ∙ ap (λ w. (not keeps || (d.marked || leads)) ∷ w) (all_marked ds more (omega (arith, e)))

pub starts_are_kept : StartsAreKept
starts_are_kept t u s r q utf8 f a b =
    let m : Lists = f.normal in
    let n = f.is_normal in
    let same : f.reading ≡ r = readings_are_one t r f.reading a f.reads in
    let bare : is_bare m s ≡ keeps_starts s && (begins_bare (flat_stream n.trees) && not (has_lead r)) =
    ap (λ z. keeps_starts s && (z && not (has_lead m))) (normal_begins n ∙ ap begins_bare n.of_reading.events)
    ∙ ap (λ z. keeps_starts s && (begins_bare (flat_stream n.trees) && not z)) (normal_lead n ∙ ap has_lead same) in
    let counted : length m.documents ≡ length n.trees = ap (λ (w : Lists). length w.documents) n.is ∙ n.of_reading.documents in
    let read : markers_in (events_of r) ≡ tree_marks n.trees = ap (λ (w : Lists). markers_in (events_of w)) (sym same) ∙ (ap (λ w. markers_in (values w)) n.of_reading.events ∙ stream_marks n.trees) in
    let table : Table = record { text = u; lines = b.lines } in
    let written : markers_in (events_of q) ≡ marks b.derived.documents = reading_marks {src = table} {r = q} {s = s} (record { source = t; utf8 = utf8; formats = f; lines = b.are_lines; reads = b }) in
    let meant = subst (λ z. DocumentsMeant z m.documents f.writes.trees b.derived.documents) bare (formats_meant utf8 f b) in
    written ∙ (first_marked (keeps_starts s) (has_lead r) n.trees meant counted ∙ ap (kept_markers (keeps_starts s) (has_lead r)) (sym read))
