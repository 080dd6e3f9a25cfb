-- The parts after one more step of the reader of streams.
use Rattle.std.proofs.Common.{◌≡◌, ◌≢◌, ℕ, ◌+◌, ◌≤◌, Bool, true, false, not, inr, List, [], ◌∷◌, ◌++◌, length, map, flat_map, Option, Some, None, refl, sym, ap, ◌∙◌, subst, arith, append_assoc, append-nil, true≢false}
use Rattle.std.specs.Str.{IsUtf8}
use Rattle.yf_chars.specs.Text.{code}
use Rattle.yf_chars.specs.Class.{is_break_char, is_white}
use Rattle.yf_chars.specs.Chain.{Stuck}
use Rattle.yf_comments.specs.Comment.{CommentValue}
use Rattle.yf_comments.specs.Comments.{Row, is_gap}
use Rattle.yf_props.specs.Props.{PropsValue, no_props}
use Rattle.yf_events.specs.Event.{EventValue, EventInText, alias_node, document_ends, document_starts, mapping_ends, mapping_starts, scalar_node, sequence_ends, sequence_starts, stream_ends, stream_starts}
use Rattle.yf_events.specs.Tree.{Items, Node, Pairs, flat, flat_items, flat_pairs, unplaced}
use Rattle.yf_events.specs.declared.directive.Directive.{Directive}
use Rattle.yf_events.specs.declared.event.ScalarStyle.{ScalarStyle}
use Rattle.yf_events.specs.declared.event.ScalarStyle.TheVariants.{Double, Folded, Literal, Plain, Single}
use Rattle.yf_events.specs.declared.event.Span.{Span}
use Rattle.yf_grammar.specs.Productions.Meaning.{Meaning, empty_node, from_to, noting, plain_event}
use Rattle.yf_grammar.specs.Productions.ReadParts.{Noting, end_or, floor_after_event, no_event as none_noted, without_entry}
use Rattle.yf_grammar.proofs.NodesInText.NodePlaces.{ColonIsAt, ItemsStand, NodeIsAt, PairsStand, a_colon, alias_is_at, item_is_at, items_order, mapping_is_at, no_colon, no_items_stand, no_pairs_stand, node_order, pair_is_at, pairs_order, scalar_is_at, sequence_is_at, is_at_nowhere, colon_order}
use Rattle.yf_grammar.proofs.NodesInText.PlacedNodes.{NodeAt, node_noting, nothing_at}
use Rattle.yf_grammar.proofs.NodesInText.PlacesDerived.{places}
use Rattle.yf_stream.specs.DerivedParts.{no_parts}
use Rattle.yf_stream.specs.DocumentReaders.{closed, opened, with_event}
use Rattle.yf_stream.specs.DocumentSteps.{with_comments_read}
use Rattle.yf_stream.specs.ReadingOf.{doc_of}
use Rattle.yf_stream.specs.Stream.{Document, Documents, document_of, only_comments}
use Rattle.yf_stream.specs.WrittenParts.{DocumentsWritten, nothing_written}
use Rattle.yf_stream.specs.declared.documents.Parts.{Parts}
use Rattle.yf_stream.specs.declared.documents.StreamCursor.{StreamCursor}
use Rattle.yf_stream.proofs.BlankNotes.CommentNotes.{Guard, guarded, no_floor}
use Rattle.yf_stream.proofs.Offsets.DirectiveOrder.{directives_order, directives_stand}
use Rattle.yf_stream.proofs.Uniqueness.Forward.{line_end_forward}
use Rattle.yf_stream.proofs.Reader.NextSteps.{NodeDone, StepTo, bare_to, dashes_to, directives_to, dots_to, lines_read, node_done, nothing_done}
use Rattle.yf_stream.proofs.Existence.NodeFinish.{LineRows, finish_ends, rows_there}
use Rattle.yf_stream.proofs.BlankNotes.NotingLemmas.{EntriesAfter, floor_join, floor_of, node_entries, none_after, noting_join, noting_over}
use Rattle.yf_stream.proofs.BlankNotes.PartsUpto.{ClosedParts, EventsRead, EventsUpto, EventsWritten, all_closed, last_open, mark_there, no_mark_there, no_more, parts_closed}
use Rattle.yf_stream.proofs.Reader.PrefixLemmas.{rows_prefix}
use Rattle.yf_stream.proofs.Reader.StreamUpto.{followed, one_document}
use Rattle.yf_comments.proofs.RowLemmas.{end_code}

-- the spans of events end at an offset or before it
abbrev pub SpanWithin : ℕ → Option Span → Type 0
SpanWithin m None = Unit {0}
SpanWithin m (Some s) = s.end ≤ m

abbrev pub EndsWithin : ℕ → List EventInText → Type 0
EndsWithin m [] = Unit {0}
EndsWithin m (e ∷ es) = SpanWithin m e.span × EndsWithin m es

module _ (m : ℕ) where
  end_within : (f : ℕ) (o : Option Span) → f ≤ m → SpanWithin m o → end_or f o ≤ m
  end_within f None l w = l
  end_within f (Some s) l w = w

  style_within : (f : ℕ) (e : EventInText) (q : PropsValue) (s : ScalarStyle) (x : List ℕ) → f ≤ m → SpanWithin m e.span → floor_after_event f e (scalar_node q s x) ≤ m
  style_within f e q Plain x l w = l
  style_within f e q Single x l w = l
  style_within f e q Double x l w = l
  style_within f e q Literal x l w = end_within f e.span l w
  style_within f e q Folded x l w = end_within f e.span l w

  pub event_within : (f : ℕ) (e : EventInText) (v : EventValue) → f ≤ m → SpanWithin m e.span → floor_after_event f e v ≤ m
  event_within f e stream_starts l w = l
  event_within f e stream_ends l w = l
  event_within f e (document_starts b) l w = l
  event_within f e (document_ends b) l w = l
  event_within f e (sequence_starts b q) l w = l
  event_within f e sequence_ends l w = l
  event_within f e (mapping_starts b q) l w = l
  event_within f e mapping_ends l w = l
  event_within f e (scalar_node q s x) l w = style_within f e q s x l w
  event_within f e (alias_node x) l w = l

  pub floor_within : (f : ℕ) (es : List EventInText) → f ≤ m → EndsWithin m es → floor_of f es ≤ m
  floor_within f [] l w = l
  floor_within f (e ∷ es) l w = floor_within (floor_after_event f e e.event) es (event_within f e e.event l w.0) w.1

  ends_join : (xs ys : List EventInText) → EndsWithin m xs → EndsWithin m ys → EndsWithin m (xs ++ ys)
  ends_join [] ys a b = b
  ends_join (x ∷ xs) ys a b = (a.0, ends_join xs ys a.1 b)

  none_within : {o : Option Span} → o ≡ None → SpanWithin m o
  none_within e = subst (λ z. SpanWithin m z) (sym e) tt

  some_within : {o : Option Span} (a b : ℕ) → o ≡ from_to a b → b ≤ m → SpanWithin m o
  unfolding from_to
  some_within a b e l = subst (λ z. SpanWithin m z) (sym e) l

module _ {t : List ℕ} (m : ℕ) where
  mutual
    pub node_within : {i j : ℕ} {x : Node} → j ≤ m → NodeIsAt t i j x → EndsWithin m (flat x)
    node_within l (is_at_nowhere k e) = (none_within m e, tt)
    node_within l (scalar_is_at {a = a} {b = z} e b k n w s) = (some_within m a z e (omega arith), tt)
    node_within l (alias_is_at {a = a} {b = z} e b k n s) = (some_within m a z e (omega arith), tt)
    node_within l (sequence_is_at {a = a} {b = z} {xs = xs} e b k n s) =
        (some_within m a z e (omega arith), ends_join m (flat_items xs) _ (items_within (omega arith) k) (tt, tt))
    node_within l (mapping_is_at {a = a} {b = z} {ps = ps} e b k n s) =
        (some_within m a z e (omega arith), ends_join m (flat_pairs ps) _ (pairs_within (omega arith) k) (tt, tt))

    items_within : {i j : ℕ} {xs : Items} → j ≤ m → ItemsStand t i j xs → EndsWithin m (flat_items xs)
    items_within l (no_items_stand k) = tt
    items_within l (item_is_at {x = x} {xs = xs} e q k a b) =
        let o = items_order b in ends_join m (flat x) (flat_items xs) (node_within (omega arith) a) (items_within l b)

    pairs_within : {i j : ℕ} {ps : Pairs} → j ≤ m → PairsStand t i j ps → EndsWithin m (flat_pairs ps)
    pairs_within l (no_pairs_stand k) = tt
    pairs_within l (pair_is_at {k = k} {v = v} {ps = ps} e q g a c b d) =
        let o = colon_order c in
        let p = node_order b in
        let r = pairs_order d in
        ends_join m (flat k) _ (node_within (omega arith) a) (ends_join m (flat v) (flat_pairs ps) (node_within (omega arith) b) (pairs_within l d))

pub signs_solid : (is_gap 45 ≡ false) × (is_gap 46 ≡ false)
unfolding is_gap is_white is_break_char
signs_solid = (refl, refl)

map_last : (ds : List Document) (d : Document) → map doc_of (ds ++ d ∷ []) ≡ map doc_of ds ++ doc_of d ∷ []
map_last [] d = refl
map_last (x ∷ ds) d = ap (λ z. doc_of x ∷ z) (map_last ds d)

escapes_last : (ds : List Document) (d : Document) → flat_map (λ (d : Document). d.escapes) (ds ++ d ∷ []) ≡ flat_map (λ (d : Document). d.escapes) ds ++ d.escapes
escapes_last [] d = append-nil d.escapes
escapes_last (x ∷ ds) d = ap (λ z. x.escapes ++ z) (escapes_last ds d) ∙ sym (append_assoc x.escapes (flat_map (λ (d : Document). d.escapes) ds) d.escapes)

-- a document's node, and its parts after the start of the document
record NodeParts (t : List ℕ) (at : ℕ) (start : ℕ) (marked : Bool) (dirs : List Directive) (a b : Parts) (after : StreamCursor) (y : Meaning) : Type 0 where
  from : ℕ
  order : at ≤ from
  placed : NodeAt t from after.at y
  given : List EventInText
  noted : Noting t 0 y.events given
  events : b.part.events ≡ (a.part.events ++ unplaced (document_starts marked) ∷ []) ++ given
  documents : b.documents ≡ a.documents ++ (record { start = start; directives = dirs }) ∷ []
  escapes : b.part.escapes ≡ a.part.escapes ++ y.escapes
  line : LineRows t y.finish after.at
  is_open : not after.may_be_bare ≡ true
  bare : after.may_be_bare ≡ false

module _ {t : List ℕ} (u : IsUtf8 t) where
  node_parts : {at start : ℕ} {marked : Bool} {dirs : List Directive} {a b : Parts} {after : StreamCursor} {y : Meaning} → NodeDone t at (opened start marked dirs a) b after y
      → NodeParts t at start marked dirs a b after y
  unfolding noting empty_node plain_event
  node_parts {a = a} (node_done n) =
      let d = n.chosen.derived in
      let p = places u d.derived in
      record {
        from = p.from;
        order = p.begins.order;
        placed = p.node;
        given = n.part.events;
        noted = d.events;
        events = ap (λ z. z.part.events) n.parts;
        documents = ap (λ z. z.documents) n.parts;
        escapes = ap (λ z. z.part.escapes) n.parts ∙ ap (λ z. a.part.escapes ++ z) d.escapes;
        line = finish_ends u d.derived;
        is_open = ap not n.bare;
        bare = n.bare;
      }
  node_parts {at} {a = a} (nothing_done n) =
      let d = n.ends.line.derived in
      record {
        from = at;
        order = omega arith;
        placed = node_noting n.ends.comments (nothing_at (line_end_forward d));
        given = unplaced (scalar_node no_props Plain []) ∷ [];
        noted = without_entry refl none_noted;
        events = ap (λ z. z.part.events) n.ends.parts;
        documents = ap (λ z. z.documents) n.ends.parts;
        escapes = ap (λ z. z.part.escapes) n.ends.parts ∙ sym (append-nil a.part.escapes);
        line = rows_there d;
        is_open = ap not n.ends.bare;
        bare = n.ends.bare;
      }

  note_from : {f m from j : ℕ} {y : Meaning} {ys : List EventInText} → Guard t f m → m ≤ from → NodeAt t from j y → Noting t 0 y.events ys → Noting t f y.events ys
  note_from {y = y} {ys = ys} (no_floor e) l a n = subst (λ z. Noting t z y.events ys) (sym e) n
  note_from {y = y} (guarded p r s o k) l a n =
      let after : EntriesAfter p y.events = subst (λ z. EntriesAfter p z) (sym a.events) (node_entries p (omega arith) a.is_there (none_after p a.no_entry)) in
      noting_over u p r s (inr (omega arith, o)) after n

  -- one more document
  document_more : {k m at start : ℕ} {marked : Bool} {dirs : List Directive} {a b : Parts} {after : StreamCursor} {y : Meaning} (x : Documents) (cs : List CommentValue)
      (c : ClosedParts t k x.documents a) → Guard t (floor_of 0 c.derived) m → m ≤ at → k ≤ at → NodeParts t at start marked dirs a b after y
      → EventsRead t after (followed x (one_document cs (document_of start marked dirs y))) b
  unfolding followed document_of
  document_more {k} {start = start} {marked = marked} {dirs = dirs} {a = a} {b = b} {after = after} {y = y} x cs c g l o n =
      let d = document_of start marked dirs y in
      let s = unplaced (document_starts marked) in
      let f = floor_of 0 c.derived in
      let order = node_order n.placed.is_there in
      let note = note_from g (omega (arith, n.order)) n.placed n.noted in
      let ends : EndsWithin after.at y.events = subst (λ z. EndsWithin after.at z) (sym n.placed.events) (node_within after.at n.placed.ends n.placed.is_there) in
      let top : floor_of f y.events ≤ after.at = floor_within after.at f y.events (omega (arith, c.floor, n.order, n.placed.ends)) ends in
      record {
        derived = c.derived ++ (s ∷ y.events);
        so_far = subst (λ z. EventsUpto t z after.at (x.documents ++ d ∷ []) (c.derived ++ (s ∷ y.events))) (sym n.is_open)
            (last_open d c.written n.line.ends.line (rows_prefix n.line.rows));
        noted = subst (λ z. Noting t 0 (unplaced stream_starts ∷ (c.derived ++ (s ∷ y.events))) z)
            (sym (n.events ∙ append_assoc a.part.events (s ∷ []) n.given))
            (noting_join c.noted (without_entry refl note));
        floor = subst (λ z. z ≤ after.at) (sym (floor_join 0 c.derived (s ∷ y.events))) top;
        bare = λ q. absurd (true≢false (sym q ∙ n.bare));
        documents = n.documents ∙ ap (λ z. z ++ (record { start = start; directives = dirs }) ∷ []) c.documents ∙ sym (map_last x.documents d);
        escapes = n.escapes ∙ ap (λ z. z ++ y.escapes) c.escapes ∙ sym (escapes_last x.documents d);
      }

-- if no document is open
written_of : {t : List ℕ} {o : Bool} {k : ℕ} {ds : List Document} {es : List EventInText} → o ≡ false → EventsUpto t o k ds es → DocumentsWritten t ds es
written_of e (all_closed w) = w
written_of e (last_open d w l c) = absurd (true≢false e)

module _ {t : List ℕ} (u : IsUtf8 t) {cursor : StreamCursor} {x : Documents} {a : Parts} (r : EventsRead t cursor x a) where
  with_other_comments : (cs : List CommentValue) → not cursor.may_be_bare ≡ false → ClosedParts t cursor.at x.documents (with_comments_read cs a)
  with_other_comments cs e = record { derived = r.derived; written = written_of e r.so_far; noted = r.noted; floor = r.floor; documents = r.documents; escapes = r.escapes }

  pub events_go_on : {b : Parts} {after : StreamCursor} {y : Documents} → code t cursor.at ≢ 0xFEFF → Stuck (Row t cursor.at) → StepTo t cursor x a b after y → EventsRead t after y b
  events_go_on {b} {after} m n (dots_to s f e) =
      let c = parts_closed true (λ j cs l q. mark_there f e l q) r in
      let forward = line_end_forward s.line.derived in
      let same = no_more x s.comments in
      record {
        derived = c.derived;
        so_far = subst (λ z. EventsUpto t (not after.may_be_bare) after.at z c.derived) (sym same)
            (subst (λ z. EventsUpto t z after.at x.documents c.derived) (sym (ap not s.bare)) (all_closed c.written));
        noted = subst (λ z. Noting t 0 (unplaced stream_starts ∷ c.derived) z) (sym (ap (λ z. z.part.events) s.parts)) c.noted;
        floor = omega (arith, c.floor);
        bare = λ q. record { no_document = ap not s.bare; guard = guarded cursor.at (omega arith) (ap is_gap e ∙ signs_solid.1) c.floor (omega arith) };
        documents = ap (λ z. z.documents) s.parts ∙ c.documents ∙ ap (map doc_of) (sym same);
        escapes = ap (λ z. z.part.escapes) s.parts ∙ c.escapes ∙ ap (flat_map (λ (d : Document). d.escapes)) (sym same);
      }
  events_go_on m n (dashes_to {y = y} f e d) =
      let c = parts_closed false (λ j cs l q. no_mark_there m n (λ g h. absurd (omega arith)) q) r in
      let g : Guard t (floor_of 0 c.derived) (cursor.at + 1) = guarded cursor.at (omega arith) (ap is_gap e ∙ signs_solid.0) c.floor (omega arith) in
      document_more u x y.comments c g (omega arith) (omega arith) (node_parts u d)
  events_go_on m n (directives_to {p = p} {cs = cs} {y = y} q h d f e done) =
      let c = with_other_comments cs (r.bare q).no_document in
      let order = directives_order (directives_stand (lines_read d.upto.longest h d.last)) in
      let g : Guard t (floor_of 0 c.derived) (p + 1) = guarded p (omega arith) (ap is_gap e ∙ signs_solid.0) (omega (arith, c.floor)) (omega arith) in
      document_more u x (d.upto.comments ++ y.comments) c g (omega arith) (omega arith) (node_parts u done)
  events_go_on m n (bare_to {y = y} q c d) =
      let s = r.bare q in
      let parts : ClosedParts t cursor.at x.documents a = record {
        derived = r.derived;
        written = written_of s.no_document r.so_far;
        noted = r.noted;
        floor = r.floor;
        documents = r.documents;
        escapes = r.escapes;
      } in
      document_more u x y.comments parts s.guard (omega arith) (omega arith) (node_parts u d)

-- only the start of the stream has been read
pub events_begin : {t : List ℕ} {a b : Parts} (cursor : StreamCursor) → cursor.at ≡ 0 → not cursor.may_be_bare ≡ false → a ≡ no_parts → b ≡ with_event a stream_starts
    → EventsRead t cursor (only_comments []) b
events_begin {t} cursor k o e f =
    let all = f ∙ ap (λ z. with_event z stream_starts) e in
    record {
      derived = [];
      so_far = subst (λ z. EventsUpto t z cursor.at [] []) (sym o) (all_closed nothing_written);
      noted = subst (λ z. Noting t 0 (unplaced stream_starts ∷ []) z) (sym (ap (λ z. z.part.events) all)) (without_entry refl none_noted);
      floor = omega arith;
      bare = λ q. record { no_document = o; guard = no_floor refl };
      documents = ap (λ z. z.documents) all;
      escapes = ap (λ z. z.part.escapes) all;
    }

-- at the end of the text
pub events_end : {t : List ℕ} {cursor : StreamCursor} {x : Documents} {a b c : Parts} → cursor.at ≡ length t → code t cursor.at ≢ 0xFEFF → Stuck (Row t cursor.at) → EventsRead t cursor x a
    → b ≡ closed false (not cursor.may_be_bare) a → c ≡ with_event b stream_ends → EventsWritten t x c
events_end {t} {cursor} {x} {a} {b} {c} k m n r e f =
    let none = end_code t k in
    let p = parts_closed false (λ j cs l q. no_mark_there m n (λ g h. absurd (omega arith)) q) r in
    let all = f ∙ ap (λ z. with_event z stream_ends) e in
    record {
      derived = p.derived;
      written = p.written;
      events = subst (λ z. Noting t 0 (unplaced stream_starts ∷ (p.derived ++ (unplaced stream_ends ∷ []))) z) (sym (ap (λ z. z.part.events) all))
          (noting_join p.noted (without_entry refl none_noted));
      documents = ap (λ z. z.documents) all ∙ p.documents;
      escapes = ap (λ z. z.part.escapes) all ∙ p.escapes;
    }
