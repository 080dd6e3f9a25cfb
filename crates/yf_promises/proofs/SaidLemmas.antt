-- The events, the content and the comments of a reading are those that the documents state.
use Rattle.std.proofs.Common.{◌≡◌, ℕ, Bool, List, [], ◌∷◌, ◌++◌, map, flat_map, Option, Some, None, refl, sym, ap, ◌∙◌, append_assoc}
use Rattle.std.specs.List.{zip}
use Rattle.std.proofs.lemmas.Grind.{flat_map-append}
use Rattle.std.proofs.lemmas.List.{map-append}
use Rattle.yf_comments.specs.Comment.{CommentValue}
use Rattle.yf_props.specs.Handles.{Declaration}
use Rattle.yf_events.specs.Content.{ContentValue, a_document, content_of, items_of_document, items_of_event, nodes_of}
use Rattle.yf_events.specs.Event.{EventInText, EventValue, document_ends, document_starts, stream_ends, stream_starts}
use Rattle.yf_events.specs.Reading.{events_of}
use Rattle.yf_events.specs.Tree.{unplaced}
use Rattle.yf_events.specs.declared.lists.Lists.{Lists}
use Rattle.yf_forms.specs.Nodes.Lines.{trimmed}
use Rattle.yf_grammar.specs.Productions.ReadParts.{Noting, no_event as nothing_noted, with_entry, without_entry}
use Rattle.yf_stream.specs.ReadingOf.{DocumentEvents, no_document, one_document, EventTags, no_event, tagged, untagged, NotedComments, no_comment, one_comment, ReadingOf, doc_of}
use Rattle.yf_stream.specs.Stream.{Document}
use Rattle.yf_stream.proofs.Uniqueness.OneReading.{tags_one}
use Rattle.yf_standard.specs.Readings.{DocumentSaid, StreamSaid, document_said, documents_said}
use Rattle.yf_standard.specs.Tokens.{Note, notes_of}
use Rattle.yf_promises.specs.Said.{ContentSaid, EventsSaid, StreamEvents, TaggedEvent, directives_said}
use Rattle.yf_promises.specs.Said.EventsSaid.{no_events, events_of_one}
use Rattle.yf_promises.proofs.Stops.{noted_ends}

-- ---- Events

abbrev values : List EventInText → List EventValue
values es = map (λ e. e.event) es

noted_events : {t : List ℕ} {floor : ℕ} {x y : List EventInText} → Noting t floor x y → values y ≡ values x
noted_events nothing_noted = refl
noted_events (without_entry {e = e} n r) = ap (λ z. e.event ∷ z) (noted_events r)
noted_events (with_entry {e = e} entry i n r) = ap (λ z. e.event ∷ z) (noted_events r)

-- the events of one document and of those after it, without their positions
one_more : (d : Document) (closed : Bool) (x : List EventInText)
    → values (unplaced (document_starts d.marked) ∷ (d.events ++ (unplaced (document_ends closed) ∷ x)))
    ≡ document_starts d.marked ∷ (values d.events ++ (document_ends closed ∷ values x))
one_more d closed x =
    ap (λ z. document_starts d.marked ∷ z)
    (map-append (λ (e : EventInText). e.event) d.events (unplaced (document_ends closed) ∷ x))

-- resolved tags don't depend on places
placeless : {ds : List Declaration} {es : List EventInText} {tags : List (Option (List ℕ))} → EventTags ds es tags
    → EventTags ds (map unplaced (values es)) tags
placeless no_event = no_event
placeless (untagged e r) = untagged e (placeless r)
placeless (tagged e a r) = tagged e a (placeless r)

-- events with their tags, and those after them
tags_append : {ds : List Declaration} {es : List EventInText} {tags : List (Option (List ℕ))} → EventTags ds es tags
    → (more : List EventValue) (rest : List (Option (List ℕ)))
    → zip (values es ++ more) (tags ++ rest) ≡ zip (values es) tags ++ zip more rest
tags_append no_event more rest = refl
tags_append (untagged {e = e} u r) more rest = ap (λ z. (e.event, None) ∷ z) (tags_append r more rest)
tags_append (tagged {e = e} {text = text} u a r) more rest =
    ap (λ z. (e.event, Some text) ∷ z) (tags_append r more rest)

-- the events of documents with their tags, whatever follows them
record EventsIn (ds : List Document) (ends : List Bool) (x : List EventInText) (tags : List (Option (List ℕ)))
    : Type 0 where
  events : List TaggedEvent
  said : EventsSaid (map document_said ds) ends events
  are : (more : List EventValue) (rest : List (Option (List ℕ)))
      → zip (values x ++ more) (tags ++ rest) ≡ events ++ zip more rest

-- the lists of one document and of those after it
events_before : (d : Document) (closed : Bool) (x : List EventInText) (more : List EventValue)
    → values (unplaced (document_starts d.marked) ∷ (d.events ++ (unplaced (document_ends closed) ∷ x))) ++ more
    ≡ document_starts d.marked ∷ (values d.events ++ (document_ends closed ∷ (values x ++ more)))
events_before d closed x more =
    ap (λ z. z ++ more) (one_more d closed x)
    ∙ ap (λ z. document_starts d.marked ∷ z) (append_assoc (values d.events) (document_ends closed ∷ values x) more)

tags_before : (tags others rest : List (Option (List ℕ)))
    → (None ∷ (tags ++ (None ∷ others))) ++ rest ≡ None ∷ (tags ++ (None ∷ (others ++ rest)))
tags_before tags others rest = ap (λ z. None ∷ z) (append_assoc tags (None ∷ others) rest)

events_in : {t : List ℕ} {ds : List Document} {x : List EventInText} {tags : List (Option (List ℕ))}
    → (g : DocumentEvents t ds x tags) → EventsIn ds (noted_ends g) x tags
events_in no_document = record { events = []; said = no_events; are = λ more rest. refl }
events_in (one_document {d = d} {ds = ds} {x = x} {tags = tags} {more = others} {closed = closed} g l m r) =
    let after = events_in r in
    let ends : TaggedEvent = (document_ends closed, None) in
    let starts : TaggedEvent = (document_starts d.marked, None) in
    record {
      events = starts ∷ (zip (values d.events) tags ++ (ends ∷ after.events));
      said = events_of_one (document_said d) closed (placeless g) after.said;
      are = λ more rest.
          ap (λ z. zip z ((None ∷ (tags ++ (None ∷ others))) ++ rest)) (events_before d closed x more)
          ∙ ap (λ z. zip (document_starts d.marked ∷ (values d.events ++ (document_ends closed ∷ (values x ++ more)))) z)
          (tags_before tags others rest)
          ∙ ap (λ z. starts ∷ z) (tags_append g (document_ends closed ∷ (values x ++ more)) (None ∷ (others ++ rest)))
          ∙ ap (λ z. starts ∷ (zip (values d.events) tags ++ (ends ∷ z))) (after.are more rest)
          ∙ ap (λ z. starts ∷ z)
          (sym (append_assoc (zip (values d.events) tags) (ends ∷ after.events) (zip more rest)));
    }

-- a stream's events
whole_values : (x : List EventInText)
    → values (unplaced stream_starts ∷ (x ++ (unplaced stream_ends ∷ [])))
    ≡ stream_starts ∷ (values x ++ (stream_ends ∷ []))
whole_values x = ap (λ z. stream_starts ∷ z) (map-append (λ (e : EventInText). e.event) x (unplaced stream_ends ∷ []))

abbrev pub tagged_events : Lists → List TaggedEvent
tagged_events r = zip (events_of r) r.resolved

pub reading_events : {t : List ℕ} {r : Lists} (g : ReadingOf t r)
    → StreamEvents (documents_said g.derived) (noted_ends g.events) (tagged_events r)
reading_events {t} {r} g =
    let n = events_in g.events in
    record {
      inside = n.events;
      documents = n.said;
      whole = ap (λ z. zip z r.resolved) (noted_events g.noted ∙ whole_values g.derived_events)
          ∙ ap (λ z. zip (stream_starts ∷ (values g.derived_events ++ (stream_ends ∷ []))) z) g.resolved
          ∙ ap (λ z. (stream_starts, None) ∷ z) (n.are (stream_ends ∷ []) (None ∷ []));
    }

-- ---- Content

same_directives : (ds : List Document)
    → flat_map items_of_document (map doc_of ds) ≡ flat_map directives_said (map document_said ds)
same_directives [] = refl
same_directives (d ∷ ds) = ap (λ z. directives_said (document_said d) ++ z) (same_directives ds)

pub reading_content : {t : List ℕ} {r : Lists} (g : ReadingOf t r)
    → ContentSaid (documents_said g.derived) (content_of r)
unfolding content_of nodes_of
reading_content {t} {r} g = record {
  directives = ap (λ z. flat_map items_of_document z) g.documents ∙ same_directives g.derived.documents;
  ends = noted_ends g.events;
  events = tagged_events r;
  said = reading_events g;
  nodes = refl;
}

-- the items of events, which don't depend on the marks of documents
abbrev pub items : List TaggedEvent → List ContentValue
items es = flat_map (λ e. items_of_event e.0 e.1) es

items_append : (x y : List TaggedEvent) → items (x ++ y) ≡ items x ++ items y
items_append x y = flat_map-append (λ (e : TaggedEvent). items_of_event e.0 e.1) x y

document_items : (m c : Bool) (x rest : List TaggedEvent)
    → items ((document_starts m, None) ∷ (x ++ ((document_ends c, None) ∷ rest))) ≡ a_document ∷ (items x ++ items rest)
document_items m c x rest = ap (λ z. a_document ∷ z) (items_append x ((document_ends c, None) ∷ rest))

documents_items : {ds : List DocumentSaid} {a b : List Bool} {x y : List TaggedEvent} → EventsSaid ds a x
    → EventsSaid ds b y → items x ≡ items y
documents_items no_events no_events = refl
documents_items (events_of_one {tags = a} {es = p} d m g r) (events_of_one {tags = b} {es = q} _ n h s) =
    document_items d.marked m (zip d.events a) p
    ∙ ap (λ z. a_document ∷ (items (zip d.events z) ++ items p)) (tags_one g h)
    ∙ ap (λ z. a_document ∷ (items (zip d.events b) ++ z)) (documents_items r s)
    ∙ sym (document_items d.marked n (zip d.events b) q)

pub stream_items : {s : StreamSaid} {m n : List Bool} {x y : List TaggedEvent} → StreamEvents s m x
    → StreamEvents s n y → items x ≡ items y
stream_items {x = x} {y = y} a b =
    ap (λ z. items z) a.whole
    ∙ items_append a.inside ((stream_ends, None) ∷ [])
    ∙ ap (λ z. z ++ []) (documents_items a.documents b.documents)
    ∙ sym (items_append b.inside ((stream_ends, None) ∷ []))
    ∙ sym (ap (λ z. items z) b.whole)

-- ---- Comments

same_notes : {t : List ℕ} {es : List EventInText} {cs ds : List CommentValue} → NotedComments t es cs ds
    → map (λ (c : Note). trimmed c.text) (notes_of cs) ≡ map (λ (c : CommentValue). trimmed c.text) ds
same_notes no_comment = refl
same_notes (one_comment {c = c} n r) = ap (λ z. trimmed c.text ∷ z) (same_notes r)

pub reading_comments : {t : List ℕ} {r : Lists} (g : ReadingOf t r)
    → map (λ (c : Note). trimmed c.text) (notes_of g.derived.comments)
    ≡ map (λ (c : CommentValue). trimmed c.text) r.comments
reading_comments g = same_notes g.comments
