-- The reading of a formatted text has the content of the reading that was formatted.
use Rattle.std.proofs.Common.{◌≡◌, ℕ, false, List, [], ◌∷◌, ◌++◌, map, flat_map, zip, Option, None, refl, sym, ap, ◌∙◌, subst, append_assoc, Bool}
use Rattle.yf_events.specs.Content.{ContentValue, BeforeValue, before_document, a_directive, a_word, content_of, nodes_of, items_of_event, items_of_directive, items_of_document}
use Rattle.yf_events.specs.Event.{EventValue, EventInText, stream_starts, stream_ends, document_starts, document_ends, sequence_starts, sequence_ends, mapping_starts, mapping_ends, scalar_node, alias_node}
use Rattle.yf_events.specs.declared.directive.Directive.{Directive}
use Rattle.yf_events.specs.declared.document.Doc.{Doc}
use Rattle.yf_events.specs.declared.lists.Lists.{Lists}
use Rattle.yf_events.specs.Tree.{DocumentTree, unplaced, flat, flat_document}
use Rattle.yf_stream.specs.ReadingOf.{DocumentEvents, no_document, one_document, ReadingOf, doc_of}
use Rattle.yf_stream.specs.Stream.{Document, Documents}
use Rattle.yf_stream.proofs.Existence.BreachLemmas.{alike_values, values, values_append, words}
use Rattle.yf_stream.proofs.LawsHold.{readings_are_one}
use Rattle.yf_stream.proofs.TagPass.SameTags.{noting_values, same_tags}
use Rattle.std.specs.Str.{IsUtf8}
use Rattle.yf_forms.specs.declared.style.Style.{Style}
use Rattle.yf_laws.specs.Format.{IsFormatting}
use Rattle.yf_laws.specs.Layouts.FitDocuments.{DocumentsMeant, no_documents_meant, document_meant}
use Rattle.yf_laws.specs.FormatLaws.{FormatsKeepContent}
use Rattle.yf_laws.proofs.Derived.FormatsRead.{formats_well, same_in_documents}
use Rattle.yf_laws.proofs.NormalForms.NormalRestyled.{normal_restyled}
use Rattle.yf_forms.proofs.NormalForms.RestyledLemmas.{same_content}
use Rattle.yf_forms.specs.NormalForms.BareStart.{is_bare}

-- Markers say nothing.

abbrev pub unmarked_value : EventValue → EventValue
unmarked_value stream_starts = stream_starts
unmarked_value stream_ends = stream_ends
unmarked_value (document_starts marked) = document_starts false
unmarked_value (document_ends marked) = document_ends false
unmarked_value (sequence_starts flow props) = sequence_starts flow props
unmarked_value sequence_ends = sequence_ends
unmarked_value (mapping_starts flow props) = mapping_starts flow props
unmarked_value mapping_ends = mapping_ends
unmarked_value (scalar_node props style text) = scalar_node props style text
unmarked_value (alias_node name) = alias_node name

abbrev pub unmarked : List EventValue → List EventValue
unmarked vs = map unmarked_value vs

unmarked_items : (v : EventValue) (tag : Option (List ℕ)) → items_of_event (unmarked_value v) tag ≡ items_of_event v tag
unmarked_items stream_starts tag = refl
unmarked_items stream_ends tag = refl
unmarked_items (document_starts marked) tag = refl
unmarked_items (document_ends marked) tag = refl
unmarked_items (sequence_starts flow props) tag = refl
unmarked_items sequence_ends tag = refl
unmarked_items (mapping_starts flow props) tag = refl
unmarked_items mapping_ends tag = refl
unmarked_items (scalar_node props style text) tag = refl
unmarked_items (alias_node name) tag = refl

abbrev said : List EventValue → List (Option (List ℕ)) → List ContentValue
said vs tags = flat_map (λ e. items_of_event e.0 e.1) (zip vs tags)

unmarked_said : (vs : List EventValue) (tags : List (Option (List ℕ))) → said (unmarked vs) tags ≡ said vs tags
unmarked_said [] tags = refl
unmarked_said (v ∷ vs) [] = refl
unmarked_said (v ∷ vs) (tag ∷ tags) = ap (λ w. w ++ said (unmarked vs) tags) (unmarked_items v tag) ∙ ap (λ w. items_of_event v tag ++ w) (unmarked_said vs tags)

unmarked_append : (xs ys : List EventValue) → unmarked (xs ++ ys) ≡ unmarked xs ++ unmarked ys
unmarked_append [] ys = refl
unmarked_append (x ∷ xs) ys = ap (λ w. unmarked_value x ∷ w) (unmarked_append xs ys)

-- Events.

abbrev pub bare : List EventInText → List EventValue
bare es = unmarked (values es)

bare_append : (xs ys : List EventInText) → bare (xs ++ ys) ≡ bare xs ++ bare ys
bare_append xs ys = ap unmarked (values_append xs ys) ∙ unmarked_append (values xs) (values ys)

bare_joined : (a b c d : List EventInText) → bare a ≡ bare c → bare b ≡ bare d → bare (a ++ b) ≡ bare (c ++ d)
bare_joined a b c d e f = bare_append a b ∙ (ap (λ w. w ++ bare b) e ∙ (ap (λ w. bare c ++ w) f ∙ sym (bare_append c d)))

documents_bare : {bare_first : Bool} {u : List ℕ} {ms : List Doc} {trees : List DocumentTree} {es : List Document} {y : List EventInText} {tags : List (Option (List ℕ))} → DocumentsMeant bare_first ms trees es
    → DocumentEvents u es y tags → bare y ≡ bare (flat_map flat_document trees)
documents_bare no_documents_meant no_document = refl
documents_bare (document_meant {x = tree} {xs = trees} a more) (one_document {d = d} {x = x} {closed = closed} g l e others) =
    let end : List EventInText = unplaced (document_ends closed) ∷ [] in
    let last : List EventInText = unplaced (document_ends tree.closed) ∷ [] in
    let root : bare d.events ≡ bare (flat tree.root) = ap bare a.events ∙ ap unmarked (sym (alike_values a.alike)) in
    let here : bare (d.events ++ end) ≡ bare (flat tree.root ++ last) = bare_joined d.events end (flat tree.root) last root refl in
    let rest : bare ((d.events ++ end) ++ x) ≡ bare ((flat tree.root ++ last) ++ flat_map flat_document trees) =
    bare_joined (d.events ++ end) x (flat tree.root ++ last) (flat_map flat_document trees) here (documents_bare more others) in
    let regrouped : bare (d.events ++ (unplaced (document_ends closed) ∷ x)) ≡ bare ((d.events ++ end) ++ x) = ap bare (sym (append_assoc d.events end x)) in
    ap (λ w. document_starts false ∷ w) (regrouped ∙ rest)

-- Directives.

directive_items : (ds es : List Directive) → words ds ≡ words es → flat_map items_of_directive ds ≡ flat_map items_of_directive es
directive_items ds es e = by ds ∙ (ap (λ w. flat_map items_of_words w) e ∙ sym (by es)) where
  items_of_words : List (List ℕ) → List BeforeValue
  items_of_words w = a_directive ∷ map (λ word. a_word word) w

  by : (ds : List Directive) → flat_map items_of_directive ds ≡ flat_map items_of_words (words ds)
  by [] = refl
  by (d ∷ ds) = ap (λ w. items_of_directive d ++ w) (by ds)

documents_items : {bare_first : Bool} {ms : List Doc} {trees : List DocumentTree} {es : List Document} → DocumentsMeant bare_first ms trees es → flat_map items_of_document (map doc_of es) ≡ flat_map items_of_document ms
documents_items no_documents_meant = refl
documents_items (document_meant {d = d} {ds = ds} {m = m} {ms = ms} a more) =
    ap (λ w. (before_document ∷ w) ++ flat_map items_of_document (map doc_of ms)) (directive_items m.directives d.directives a.words)
    ∙ ap (λ w. items_of_document d ++ w) (documents_items more)

-- Readings.

content_same : (q m : Lists) → flat_map items_of_document q.documents ≡ flat_map items_of_document m.documents → said (values q.events) q.resolved ≡ said (values m.events) m.resolved
    → content_of q ≡ content_of m
unfolding content_of nodes_of
content_same q m e f =
    ap (λ w. record { directives = w; nodes = said (values q.events) q.resolved }) e ∙ ap (λ w. record { directives = flat_map items_of_document m.documents; nodes = w }) f

-- the derivation of a formatted text has the documents of the normal form
pub formats_meant : {t u : List ℕ} {s : Style} {q : Lists} → IsUtf8 t → (f : IsFormatting t s u) → (b : ReadingOf u q) → DocumentsMeant (is_bare f.normal s) f.normal.documents f.writes.trees b.derived.documents
formats_meant {t} {u} {s} utf8 f b =
    let well = formats_well t u s utf8 f in
    let shapes = b.reads.shapes in
    let derived : b.derived ≡ well.documents = well.reads.shapes.only shapes.height b.derived shapes.derived shapes.within in
    subst (λ (w : Documents). DocumentsMeant (is_bare f.normal s) f.normal.documents f.writes.trees w.documents) (sym derived) well.meant

-- and its reading the events of the normal form, except for markers
pub formats_values : {t u : List ℕ} {s : Style} {q : Lists} → IsUtf8 t → (f : IsFormatting t s u) → ReadingOf u q → bare q.events ≡ bare f.normal.events
formats_values utf8 f b =
    ap unmarked (sym (noting_values b.noted)) ∙ (ap (λ w. stream_starts ∷ w)
    (bare_joined b.derived_events (unplaced stream_ends ∷ []) (flat_map flat_document f.writes.trees) (unplaced stream_ends ∷ []) (documents_bare (formats_meant utf8 f b) b.events) refl)
    ∙ ap bare (sym f.writes.of_reading.events))

-- and its resolved tags
pub formats_tags : {t u : List ℕ} {s : Style} {q : Lists} → IsUtf8 t → (f : IsFormatting t s u) → ReadingOf u q → q.resolved ≡ f.normal.resolved
formats_tags utf8 f b =
    let tags = same_tags (same_in_documents utf8 f (formats_meant utf8 f b)) f.reads.events b.events in
    b.resolved ∙ (ap (λ w. None ∷ (w ++ (None ∷ []))) (sym tags) ∙ (sym f.reads.resolved ∙ ap (λ (w : Lists). w.resolved) (sym f.is_normal.is)))

pub formats_content : FormatsKeepContent
formats_content t u s utf8 f r q a b =
    let m : Lists = f.normal in
    let meant : DocumentsMeant (is_bare m s) m.documents f.writes.trees b.derived.documents = formats_meant utf8 f b in
    let events : bare q.events ≡ bare m.events = formats_values utf8 f b in
    let resolved : q.resolved ≡ m.resolved = formats_tags utf8 f b in
    let nodes : said (values q.events) q.resolved ≡ said (values m.events) m.resolved =
    sym (unmarked_said (values q.events) q.resolved) ∙ (ap (λ w. said w q.resolved) events ∙ (unmarked_said (values m.events) q.resolved ∙ ap (said (values m.events)) resolved)) in
    let directives : flat_map items_of_document q.documents ≡ flat_map items_of_document m.documents = ap (λ w. flat_map items_of_document w) b.documents ∙ documents_items meant in
    let formatted : content_of q ≡ content_of m = content_same q m directives nodes in
    let normal : content_of m ≡ content_of f.reading = same_content (normal_restyled f.is_normal) in
    let reading : content_of f.reading ≡ content_of r = sym (ap content_of (readings_are_one t f.reading r f.reads a)) in
    formatted ∙ (normal ∙ reading)
