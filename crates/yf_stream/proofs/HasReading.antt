-- A well-formed text has a reading: the notes that `ReadingOf` adds to its derivation exist.
use Rattle.std.proofs.Common.{◌≡◌, ℕ, ◌+◌, Bool, true, false, List, [], ◌∷◌, ◌++◌, map, flat_map, Option, Some, None, is_none, refl, sym, ◌∙◌, true≢false, ⊎_elim}
use Rattle.std.proofs.lemmas.Bool.{cases_Bool}
use Rattle.std.proofs.lemmas.Str.{IsUtf8-from_is_utf8, is_utf8-from_IsUtf8}
use Rattle.std.specs.Str.{IsUtf8, is_utf8}
use Rattle.yf_comments.specs.Comment.{CommentValue}
use Rattle.yf_comments.specs.Comments.{LineEnd}
use Rattle.yf_props.specs.Handles.{Declaration, SuffixText, TagText, prefix_of}
use Rattle.yf_props.specs.Handles.SuffixText.{as_decoded, as_written}
use Rattle.yf_props.specs.Handles.TagText.{non_specific_text, shorthand_text, verbatim_text}
use Rattle.yf_props.specs.Props.{TagValue}
use Rattle.yf_props.specs.Props.TagValue.{IsVerbatim, IsShort, IsNonSpecific}
use Rattle.yf_events.specs.Event.{EventInText, stream_ends, stream_starts, props_of}
use Rattle.yf_events.specs.Tree.{leaves, unplaced}
use Rattle.yf_events.specs.declared.event.Entry.{Entry}
use Rattle.yf_events.specs.declared.lists.Lists.{Lists}
use Rattle.yf_grammar.specs.Productions.Meaning.{Meaning, empty_node, noting}
use Rattle.yf_grammar.specs.Productions.ReadParts.{Noting, no_event as none_noted, with_entry, without_entry, floor_after_event}
use Rattle.yf_grammar.proofs.Ends.GapLemmas.{end_next}
use Rattle.yf_stream.proofs.Existence.NodeFinish.{LineRows, finish_ends, rows_there}
use Rattle.yf_grammar.proofs.Ends.SinceKnown.{note_since_known}
use Rattle.yf_stream.specs.HasReading.{WellFormedTextsHaveReadings}
use Rattle.yf_stream.specs.ReadingOf.{DocumentEvents, no_document, one_document, EventTags, no_event, tagged, untagged, NotedComments, no_comment, one_comment, doc_of, floor_at, leaf_lines}
use Rattle.yf_stream.specs.Stream.{AnyDocument, Document, ExplicitNode, document_of}
use Rattle.yf_stream.specs.Stream.AnyDocument.{bare_document, directive_document, explicit_document}
use Rattle.yf_stream.specs.Stream.ExplicitNode.{marked_node, marked_nothing}
use Rattle.yf_stream.specs.WellFormed.{alias_breaches, alias_of, breach_if, breaches, declarations, directive_breaches, document_breaches, event_breaches, is_unknown, offset_or, start_or, with_name}
use Rattle.yf_stream.specs.declared.breaches.BreachKind.TheVariants.{UnknownHandle}
use Rattle.yf_stream.proofs.Existence.BreachLemmas.{both_empty, some_none}
use Rattle.yf_stream.proofs.Existence.LinesExist.{lines_exist}
use Rattle.yf_stream.proofs.Offsets.ReadingTrees.{trees_stand}
use Rattle.yf_stream.proofs.Existence.RowsKnown.{end_known}
use Rattle.yf_stream.proofs.Uniqueness.StreamDocuments.{DocumentsDerived, document_derived, no_documents_derived, stream_derived}

-- Resolved tags.

suffix_from : {s x : List ℕ} → (IsUtf8 x → SuffixText s x) → ((IsUtf8 x → ⊥) → SuffixText s s) → (y : List ℕ) × SuffixText s y
suffix_from {s} {x} decoded written =
    ⊎_elim (λ (e : is_utf8 x ≡ true). (x, decoded (IsUtf8-from_is_utf8 x e)))
    (λ (e : is_utf8 x ≡ false). (s, written (λ v. true≢false (sym (is_utf8-from_IsUtf8 x v) ∙ e))))
    (cases_Bool (is_utf8 x))

suffix_known : (s : List ℕ) → (x : List ℕ) × SuffixText s x
suffix_known s = suffix_from {s = s} as_decoded as_written

prefix_known : (ds : List Declaration) (handle : List ℕ) (o : Option (List ℕ)) → prefix_of ds handle ≡ o → is_none o ≡ false
    → (p : List ℕ) × (prefix_of ds handle ≡ Some p)
prefix_known ds handle None e n = absurd (true≢false n)
prefix_known ds handle (Some p) e n = (p, e)

tag_known : (ds : List Declaration) (tag : TagValue) → is_unknown ds (Some tag) ≡ false → (x : List ℕ) × TagText ds tag x
tag_known ds (IsVerbatim text) e = (text, verbatim_text)
tag_known ds (IsShort handle suffix) e =
    let p = prefix_known ds handle (prefix_of ds handle) refl e in
    let s = suffix_known suffix in
    (p.0 ++ s.0, shorthand_text p.1 s.1)
tag_known ds IsNonSpecific e = (_, non_specific_text)

not_breached : (b : Bool) (i : ℕ) → breach_if b UnknownHandle i ≡ [] → b ≡ false
not_breached true i e = some_none e
not_breached false i e = refl

tag_of_event : (ds : List Declaration) (e : EventInText) (es : List EventInText) (tags : List (Option (List ℕ))) (tag : Option TagValue) → (props_of e.event).tag ≡ tag
    → is_unknown ds tag ≡ false → EventTags ds es tags → (all : List (Option (List ℕ))) × EventTags ds (e ∷ es) all
tag_of_event ds e es tags None is known rest = (None ∷ tags, untagged is rest)
tag_of_event ds e es tags (Some tag) is known rest = let x = tag_known ds tag known in (Some x.0 ∷ tags, tagged is x.1 rest)

tags_exist : (ds : List Declaration) (names : List (List ℕ)) (es : List EventInText) → event_breaches ds names es ≡ [] → (tags : List (Option (List ℕ))) × EventTags ds es tags
tags_exist ds names [] e = ([], no_event)
tags_exist ds names (x ∷ es) e =
    let first = both_empty (breach_if (is_unknown ds (props_of x.event).tag) UnknownHandle (offset_or 0 x.tag_offset)) _ e in
    let second = both_empty (alias_breaches names (start_or 0 x.span) (alias_of x.event)) _ first.1 in
    let rest = tags_exist ds (with_name (props_of x.event).anchor names) es second.1 in
    tag_of_event ds x es rest.0 (props_of x.event).tag refl (not_breached (is_unknown ds (props_of x.event).tag) (offset_or 0 x.tag_offset) first.0) rest.1

-- The ends of documents.

module _ {t : List ℕ} where
  nothing_finish : (i : ℕ) {j : ℕ} {cs : List CommentValue} → LineEnd t (i + 3) j cs → LineRows t (noting (empty_node (i + 3)) cs).finish j
  unfolding noting empty_node
  nothing_finish i d = rows_there d

module _ {t : List ℕ} (u : IsUtf8 t) where
  pub explicit_finish : {h i j : ℕ} {x : Meaning} → ExplicitNode t h i j x → LineRows t x.finish j
  explicit_finish (marked_node e n) = finish_ends u n.derived
  explicit_finish (marked_nothing {i = i} e d) = nothing_finish i d

  pub document_finish : {h i j : ℕ} {d : Document} {cs : List CommentValue} → AnyDocument t h i j d cs → LineRows t d.finish j
  unfolding document_of
  document_finish (bare_document n c) = finish_ends u n.derived
  document_finish (explicit_document e) = explicit_finish e
  document_finish (directive_document d e) = explicit_finish e

-- The events of documents, with their tags.
record EventsOf (t : List ℕ) (ds : List Document) : Type 0 where
  events : List EventInText
  tags : List (Option (List ℕ))
  are : DocumentEvents t ds events tags

module _ {t : List ℕ} (u : IsUtf8 t) where
  events_exist : {limit : ℕ} {ds : List Document} → DocumentsDerived t limit ds → breaches ds ≡ [] → EventsOf t ds
  events_exist no_documents_derived e = record { events = []; tags = []; are = no_document }
  events_exist (document_derived {d = d} a l more) e =
      let both = both_empty (document_breaches d) _ e in
      let first = both_empty (directive_breaches false [] d.directives) _ both.0 in
      let second = both_empty (event_breaches (declarations [] d.directives) [] d.events) _ first.1 in
      let tags = tags_exist (declarations [] d.directives) [] d.events second.0 in
      let rest = events_exist more both.1 in
      let finish = (document_finish u a).ends in
      let closed = end_known u finish.end (end_next finish.line) in
      record { events = _; tags = _; are = one_document tags.1 finish.line closed.1 rest.are }

  -- Notes on blank lines.
  noting_with : (floor : ℕ) (e : EventInText) (es ys : List EventInText) (entry : Option Entry) → e.entry ≡ entry → Noting t (floor_after_event floor e e.event) es ys
      → (all : List EventInText) × Noting t floor (e ∷ es) all
  noting_with floor e es ys None is rest = (e ∷ ys, without_entry is rest)
  noting_with floor e es ys (Some entry) is rest = let n = note_since_known t floor entry.start u in (_, with_entry entry is n.1 rest)

  pub noting_exists : (floor : ℕ) (es : List EventInText) → (ys : List EventInText) × Noting t floor es ys
  noting_exists floor [] = ([], none_noted)
  noting_exists floor (e ∷ es) =
      let rest = noting_exists (floor_after_event floor e e.event) es in noting_with floor e es rest.0 e.entry refl rest.1

  noted_exist : (es : List EventInText) (cs : List CommentValue) → (noted : List CommentValue) × NotedComments t es cs noted
  noted_exist es [] = ([], no_comment)
  noted_exist es (c ∷ cs) =
      let rest = noted_exist es cs in
      let n = note_since_known t (floor_at c.offset 0 es) c.offset u in
      (_, one_comment n.1 rest.1)

-- The whole reading.
pub well_formed_texts_have_readings : WellFormedTextsHaveReadings
well_formed_texts_have_readings t x u reads =
    let s = reads.shapes in
    let documents = events_exist u (stream_derived s.derived) reads.well_formed in
    let noted = noting_exists u 0 (unplaced stream_starts ∷ (documents.events ++ (unplaced stream_ends ∷ []))) in
    let comments = noted_exist u noted.0 x.comments in
    let ls = lines_exist t in
    let trees = trees_stand u s.derived documents.are noted.1 in
    let r : Lists = record {
      events = noted.0;
      resolved = None ∷ (documents.tags ++ (None ∷ []));
      comments = comments.0;
      on_leaf_line = leaf_lines ls.0 (flat_map (λ d. leaves d.root) trees.trees) comments.0;
      documents = map doc_of x.documents;
      escapes = flat_map (λ d. d.escapes) x.documents;
    } in (
      r,
      record {
        derived = x;
        reads = reads;
        derived_events = documents.events;
        between = documents.tags;
        events = documents.are;
        noted = noted.1;
        resolved = refl;
        comments = comments.1;
        lines = ls.0;
        are_lines = ls.1;
        trees = trees.trees;
        of_reading = record { events = trees.events; documents = trees.documents };
        notes = refl;
        documents = refl;
        escapes = refl;
      },
    )
