-- Each breach of a stream's documents is between characters: the offsets of its nodes and of their tags are those of
-- characters, and the parts that were read give those of its directives and escapes.
use Rattle.std.proofs.Common.{◌≡◌, ℕ, ◌<◌, Bool, true, false, ◌||◌, not, List, [], ◌∷◌, ◌++◌, map, flat_map, Option, Some, None, refl, sym, subst, is_some, arith}
use Rattle.std.proofs.lemmas.List.Elements.{All-append, All-cons, All-contains, All-head, All-nil, All-tail}
use Rattle.std.proofs.lemmas.Str.{IsCharBoundary-start}
use Rattle.std.specs.List.{All}
use Rattle.std.specs.Str.{IsCharBoundary, IsUtf8}
use Rattle.yf_chars.specs.Text.{begins, code, no_char}
use Rattle.yf_chars.proofs.TextLemmas.{boundary_from_begins}
use Rattle.yf_comments.specs.Comment.{CommentValue}
use Rattle.yf_plain.proofs.PlainLemmas.{ns_below}
use Rattle.yf_props.specs.Handles.{Declaration, is_declared}
use Rattle.yf_events.specs.Event.{EventInText, props_of}
use Rattle.yf_events.specs.Tree.{Items, Node, Pairs, flat, flat_items, flat_pairs}
use Rattle.yf_events.specs.declared.directive.Directive.{Directive}
use Rattle.yf_events.specs.declared.document.Doc.{Doc}
use Rattle.yf_events.specs.declared.event.Span.{Span}
use Rattle.yf_grammar.specs.Productions.Meaning.{Meaning, empty_node, from_to, noting, plain_event}
use Rattle.yf_grammar.proofs.NodesInText.NodePlaces.{ItemsStand, NodeIsAt, PairsStand, alias_is_at, item_is_at, mapping_is_at, no_items_stand, no_pairs_stand, pair_is_at, scalar_is_at, sequence_is_at, is_at_nowhere}
use Rattle.yf_stream.specs.ReadingOf.{doc_of}
use Rattle.yf_stream.specs.RefusalPlaces.{DirectivesAt, DocumentsAt}
use Rattle.yf_stream.specs.Stream.{AnyDocument, Document, Documents, ExplicitNode, document_of}
use Rattle.yf_stream.specs.Stream.AnyDocument.{bare_document, directive_document, explicit_document}
use Rattle.yf_stream.specs.Stream.ExplicitNode.{marked_node, marked_nothing}
use Rattle.yf_stream.specs.WellFormed.{IsFirst, Shapes, alias_breaches, alias_of, breach_if, breaches, declaration_breaches, declaration_of, declarations, directive_breaches, document_breaches, escape_breaches, event_breaches, has_name, is_unknown, is_version_one, offset_or, start_or, version_breaches, version_of, with_declaration, with_name}
use Rattle.yf_stream.specs.WrittenParts.{PartsOf}
use Rattle.yf_stream.specs.declared.breaches.Breach.{Breach}
use Rattle.yf_stream.specs.declared.breaches.BreachKind.{BreachKind}
use Rattle.yf_stream.specs.declared.breaches.BreachKind.TheVariants.{BadVersion, EscapeValue, RepeatedDirective, UnknownAlias, UnknownHandle}
use Rattle.yf_stream.specs.declared.documents.Parts.{Parts}
use Rattle.yf_stream.proofs.Offsets.DocumentPlaces.{DocumentsStand, document_is_at, no_documents_stand, stream_is_at}
use Rattle.yf_stream.proofs.Uniqueness.StreamDocuments.{DocumentsDerived, document_derived, no_documents_derived, stream_derived}
use Rattle.yf_stream.proofs.Offsets.TagPlaces.{OffsetAt, OffsetsAt, offsets_at}

first_all : {X : Type 0} (P : X → Type 0) (xs ys : List X) → All P (xs ++ ys) → All P xs
first_all P [] ys a = All-nil P
first_all P (x ∷ xs) ys a = All-cons P x xs (All-head P x (xs ++ ys) a) (first_all P xs ys (All-tail P x (xs ++ ys) a))

second_all : {X : Type 0} (P : X → Type 0) (xs ys : List X) → All P (xs ++ ys) → All P ys
second_all P [] ys a = a
second_all P (x ∷ xs) ys a = second_all P xs ys (All-tail P x (xs ++ ys) a)

-- the spans of events begin with characters
abbrev StartAt : List ℕ → Option Span → Type 0
StartAt t None = Unit {0}
StartAt t (Some s) = code t s.start < no_char

abbrev StartsAt : List ℕ → List EventInText → Type 0
StartsAt t [] = Unit {0}
StartsAt t (e ∷ es) = StartAt t e.span × StartsAt t es

module _ (t : List ℕ) where
  start_of_none : {o : Option Span} → o ≡ None → StartAt t o
  start_of_none e = subst (λ z. StartAt t z) (sym e) tt

  start_of_some : {o : Option Span} (a b : ℕ) → o ≡ from_to a b → code t a < no_char → StartAt t o
  unfolding from_to
  start_of_some a b e l = subst (λ z. StartAt t z) (sym e) l

  starts_join : (xs ys : List EventInText) → StartsAt t xs → StartsAt t ys → StartsAt t (xs ++ ys)
  starts_join [] ys a b = b
  starts_join (x ∷ xs) ys a b = (a.0, starts_join xs ys a.1 b)

  mutual
    node_starts : {i j : ℕ} {x : Node} → NodeIsAt t i j x → StartsAt t (flat x)
    node_starts (is_at_nowhere l e) = (start_of_none e, tt)
    node_starts (scalar_is_at {a = a} {b = z} e b m n w s) = (start_of_some a z e (ns_below (code t a) b.visible.ns), tt)
    node_starts (alias_is_at {a = a} {b = z} e b m n s) = (start_of_some a z e (ns_below (code t a) b.visible.ns), tt)
    node_starts (sequence_is_at {a = a} {b = z} {xs = xs} e b m n s) = (start_of_some a z e (ns_below (code t a) b.visible.ns), starts_join (flat_items xs) _ (items_start m) (tt, tt))
    node_starts (mapping_is_at {a = a} {b = z} {ps = ps} e b m n s) = (start_of_some a z e (ns_below (code t a) b.visible.ns), starts_join (flat_pairs ps) _ (pairs_start m) (tt, tt))

    items_start : {i j : ℕ} {xs : Items} → ItemsStand t i j xs → StartsAt t (flat_items xs)
    items_start (no_items_stand l) = tt
    items_start (item_is_at {x = x} {xs = xs} e q m a b) = starts_join (flat x) (flat_items xs) (node_starts a) (items_start b)

    pairs_start : {i j : ℕ} {ps : Pairs} → PairsStand t i j ps → StartsAt t (flat_pairs ps)
    pairs_start (no_pairs_stand l) = tt
    pairs_start (pair_is_at {k = k} {v = v} {ps = ps} e q m a c b d) = starts_join (flat k) _ (node_starts a) (starts_join (flat v) (flat_pairs ps) (node_starts b) (pairs_start d))

  -- tags of documents
  explicit_offsets : {h i j : ℕ} {x : Meaning} → ExplicitNode t h i j x → OffsetsAt t x.events
  unfolding noting empty_node plain_event
  explicit_offsets (marked_node e n) = offsets_at t n.derived
  explicit_offsets (marked_nothing e d) = (tt, tt)

  document_offsets : {h i j : ℕ} {d : Document} {cs : List CommentValue} → AnyDocument t h i j d cs → OffsetsAt t d.events
  unfolding document_of
  document_offsets (bare_document n c) = offsets_at t n.derived
  document_offsets (explicit_document e) = explicit_offsets e
  document_offsets (directive_document d e) = explicit_offsets e

-- the offsets of breaches are between characters
module _ {t : List ℕ} (u : IsUtf8 t) where
  boundary_at : (i : ℕ) → code t i < no_char → IsCharBoundary t i
  unfolding code
  boundary_at i l = go (begins t i) refl where
    go : (b : Bool) → begins t i ≡ b → IsCharBoundary t i
    go true e = boundary_from_begins t i e
    go false e = let f : code t i ≡ no_char = rw e refl in absurd (omega arith)

  offset_there : (o : Option ℕ) → OffsetAt t o → IsCharBoundary t (offset_or 0 o)
  offset_there None a = IsCharBoundary-start t u
  offset_there (Some i) a = boundary_at i a

  start_there : (o : Option Span) → StartAt t o → IsCharBoundary t (start_or 0 o)
  start_there None a = IsCharBoundary-start t u
  start_there (Some s) a = boundary_at s.start a

  one_told : (b : Bool) (kind : BreachKind) (offset : ℕ) → IsCharBoundary t offset → All (λ (b : Breach). IsCharBoundary t b.offset) (breach_if b kind offset)
  one_told true kind offset k = All-cons (λ (b : Breach). IsCharBoundary t b.offset) (record { offset = offset; kind = kind }) [] k (All-nil (λ (b : Breach). IsCharBoundary t b.offset))
  one_told false kind offset k = All-nil (λ (b : Breach). IsCharBoundary t b.offset)

  both_told : (a b : List Breach) → All (λ (b : Breach). IsCharBoundary t b.offset) a → All (λ (b : Breach). IsCharBoundary t b.offset) b
      → All (λ (b : Breach). IsCharBoundary t b.offset) (a ++ b)
  both_told a b p q = All-append (λ (b : Breach). IsCharBoundary t b.offset) a b p q

  versions_told : (seen : Bool) (offset : ℕ) (o : Option (List ℕ)) → IsCharBoundary t offset → All (λ (b : Breach). IsCharBoundary t b.offset) (version_breaches seen offset o)
  versions_told seen offset None k = All-nil (λ (b : Breach). IsCharBoundary t b.offset)
  versions_told seen offset (Some v) k =
      both_told (breach_if seen RepeatedDirective offset) _ (one_told seen RepeatedDirective offset k) (one_told (not (is_version_one v)) BadVersion offset k)

  declared_told : (ds : List Declaration) (offset : ℕ) (o : Option Declaration) → IsCharBoundary t offset
      → All (λ (b : Breach). IsCharBoundary t b.offset) (declaration_breaches ds offset o)
  declared_told ds offset None k = All-nil (λ (b : Breach). IsCharBoundary t b.offset)
  declared_told ds offset (Some d) k = one_told (is_declared ds d.0) RepeatedDirective offset k

  directives_told : (seen : Bool) (ds : List Declaration) (xs : List Directive) → DirectivesAt t xs → All (λ (b : Breach). IsCharBoundary t b.offset) (directive_breaches seen ds xs)
  directives_told seen ds [] a = All-nil (λ (b : Breach). IsCharBoundary t b.offset)
  directives_told seen ds (d ∷ xs) a =
      let here = All-head (λ (d : Directive). IsCharBoundary t d.offset) d xs a in
      let rest = All-tail (λ (d : Directive). IsCharBoundary t d.offset) d xs a in
      both_told (version_breaches seen d.offset (version_of d.words)) _ (versions_told seen d.offset (version_of d.words) here)
      (both_told (declaration_breaches ds d.offset (declaration_of d.words)) _ (declared_told ds d.offset (declaration_of d.words) here)
      (directives_told (seen || is_some (version_of d.words)) (with_declaration ds (declaration_of d.words)) xs rest))

  alias_told : (names : List (List ℕ)) (offset : ℕ) (o : Option (List ℕ)) → IsCharBoundary t offset → All (λ (b : Breach). IsCharBoundary t b.offset) (alias_breaches names offset o)
  alias_told names offset None k = All-nil (λ (b : Breach). IsCharBoundary t b.offset)
  alias_told names offset (Some name) k = one_told (not (has_name names name)) UnknownAlias offset k

  events_told : (ds : List Declaration) (names : List (List ℕ)) (es : List EventInText) → StartsAt t es → OffsetsAt t es → All (λ (b : Breach). IsCharBoundary t b.offset) (event_breaches ds names es)
  events_told ds names [] s o = All-nil (λ (b : Breach). IsCharBoundary t b.offset)
  events_told ds names (e ∷ es) s o =
      both_told (breach_if (is_unknown ds (props_of e.event).tag) UnknownHandle (offset_or 0 e.tag_offset)) _
      (one_told (is_unknown ds (props_of e.event).tag) UnknownHandle (offset_or 0 e.tag_offset) (offset_there e.tag_offset o.0))
      (both_told (alias_breaches names (start_or 0 e.span) (alias_of e.event)) _ (alias_told names (start_or 0 e.span) (alias_of e.event) (start_there e.span s.0))
      (events_told ds (with_name (props_of e.event).anchor names) es s.1 o.1))

  escapes_told : (xs : List ℕ) → All (IsCharBoundary t) xs → All (λ (b : Breach). IsCharBoundary t b.offset) (escape_breaches xs)
  escapes_told [] a = All-nil (λ (b : Breach). IsCharBoundary t b.offset)
  escapes_told (x ∷ xs) a =
      All-cons (λ (b : Breach). IsCharBoundary t b.offset) (record { offset = x; kind = EscapeValue }) (escape_breaches xs) (All-head (IsCharBoundary t) x xs a)
      (escapes_told xs (All-tail (IsCharBoundary t) x xs a))

  documents_told : {i limit : ℕ} {ds : List Document} → DocumentsStand t i ds → DocumentsDerived t limit ds → DocumentsAt t (map doc_of ds)
      → All (IsCharBoundary t) (flat_map (λ (d : Document). d.escapes) ds) → All (λ (b : Breach). IsCharBoundary t b.offset) (breaches ds)
  documents_told (no_documents_stand l) no_documents_derived d e = All-nil (λ (b : Breach). IsCharBoundary t b.offset)
  documents_told (document_is_at {d = x} {ds = xs} a more) (document_derived y w rest) d e =
      let docs = map doc_of xs in
      let others = flat_map (λ (d : Document). d.escapes) xs in
      let starts = subst (λ z. StartsAt t z) (sym a.events) (node_starts t a.is_there) in
      both_told (document_breaches x) (breaches xs)
      (both_told (directive_breaches false [] x.directives) _ (directives_told false [] x.directives (All-head (λ (d : Doc). DirectivesAt t d.directives) (doc_of x) docs d))
      (both_told (event_breaches (declarations [] x.directives) [] x.events) (escape_breaches x.escapes)
      (events_told (declarations [] x.directives) [] x.events starts (document_offsets t y))
      (escapes_told x.escapes (first_all (IsCharBoundary t) x.escapes others e))))
      (documents_told more rest (All-tail (λ (d : Doc). DirectivesAt t d.directives) (doc_of x) docs d) (second_all (IsCharBoundary t) x.escapes others e))

  -- so the first of them is between characters
  pub first_told : {x : Documents} {p : Parts} {b : Breach} → Shapes t x → PartsOf t x p → DocumentsAt t p.documents → All (IsCharBoundary t) p.part.escapes
      → IsFirst (breaches x.documents) b → IsCharBoundary t b.offset
  first_told {x} {p} {b} s w d e f =
      All-contains (λ (b : Breach). IsCharBoundary t b.offset) (breaches x.documents) b
      (documents_told (stream_is_at u s.derived) (stream_derived s.derived) (subst (λ z. DocumentsAt t z) w.documents d) (subst (λ z. All (IsCharBoundary t) z) w.escapes e)) f.among
