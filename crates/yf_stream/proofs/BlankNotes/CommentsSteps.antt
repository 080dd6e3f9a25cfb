-- The notes of comments after one more step of the reader of streams.
use Rattle.std.proofs.Common.{◌≡◌, ◌≢◌, ℕ, ◌+◌, ◌<◌, ◌≤◌, Bool, true, false, not, ⊎_elim, List, [], ◌∷◌, ◌++◌, length, refl, sym, ap, ◌∙◌, subst, arith, append_assoc, true≢false}
use Rattle.std.specs.Str.{IsUtf8}
use Rattle.yf_chars.specs.Text.{code}
use Rattle.yf_chars.specs.Chain.{Stuck}
use Rattle.yf_chars.specs.Class.{is_break_char, is_white}
use Rattle.yf_comments.specs.Comment.{CommentValue}
use Rattle.yf_comments.specs.Comments.{Blank, Row, is_gap}
use Rattle.yf_comments.specs.Comments.Blank.{text_begins}
use Rattle.yf_comments.proofs.LineOrder.{line_end_forward}
use Rattle.yf_events.specs.Event.{EventInText, document_ends, document_starts, scalar_node, stream_ends, stream_starts}
use Rattle.yf_events.specs.Tree.{unplaced}
use Rattle.yf_events.specs.declared.directive.Directive.{Directive}
use Rattle.yf_events.specs.declared.event.ScalarStyle.TheVariants.{Plain}
use Rattle.yf_props.specs.Props.{no_props}
use Rattle.yf_grammar.specs.Productions.Meaning.{Meaning, empty_node, noting, plain_event}
use Rattle.yf_grammar.specs.Productions.ReadParts.{NotedSince, Noting, no_event, with_entry, without_entry}
use Rattle.yf_grammar.proofs.Documents.CommentOrder.{derived_ascends}
use Rattle.yf_grammar.proofs.Prefixes.PrefixNodes.{derived_order}
use Rattle.yf_stream.specs.DerivedParts.{no_parts}
use Rattle.yf_stream.specs.DocumentReaders.{closed, opened, with_event}
use Rattle.yf_stream.specs.ReadingOf.{NotedComments, no_comment}
use Rattle.yf_stream.specs.Stream.{DirectiveLines, Directives, Documents, only_comments}
use Rattle.yf_stream.specs.Stream.DirectiveLines.{last_directive, more_directives}
use Rattle.yf_stream.specs.WrittenParts.{PartsOf}
use Rattle.yf_stream.specs.declared.documents.Parts.{Parts}
use Rattle.yf_stream.specs.declared.documents.StreamCursor.{StreamCursor}
use Rattle.yf_stream.proofs.BlankNotes.CommentNotes.{Each, Guard, NotedComment, each_join, each_weaker, guard_later, guarded, line_told, no_element, no_floor, one_element, since_guarded, told_wider}
use Rattle.yf_stream.proofs.BlankNotes.CommentsUpto.{CommentsRead, CommentsNotedTo, Silent, Since, floor_top, noted_node, noted_silent, noted_told, past_floor, same_floor, silent_floor, told_within}
use Rattle.yf_stream.proofs.BlankNotes.DerivedNotes.{derived_notes}
use Rattle.yf_stream.proofs.Offsets.DirectiveOrder.{directives_order, directives_stand, parameters_forward}
use Rattle.yf_stream.proofs.BlankNotes.FloorWalk.{FloorIn, end_same, floor_kept, floor_set}
use Rattle.yf_stream.proofs.BlankNotes.FloorsAt.{floor_sets, noting_floor, noting_last}
use Rattle.yf_stream.proofs.BlankNotes.FloorsBlank.{floors_blank}
use Rattle.yf_stream.proofs.Reader.NextSteps.{NodeDone, StepTo, bare_to, dashes_to, directives_to, dots_to, lines_read, node_done, nothing_done}
use Rattle.yf_stream.proofs.BlankNotes.NodeNotes.{NoteOver, Within, within_of}
use Rattle.yf_stream.proofs.BlankNotes.NotingLemmas.{floor_join, floor_of}
use Rattle.yf_stream.proofs.BlankNotes.PartsSteps.{events_end, signs_solid}
use Rattle.yf_stream.proofs.BlankNotes.PartsUpto.{EventsRead}
use Rattle.yf_stream.proofs.Reader.StreamUpto.{ReadUpto, followed}

-- notes of entries keep the floors
noting_floors : {t : List ℕ} {f i j : ℕ} {xs ys : List EventInText} → Noting t f xs ys → Each (FloorIn i j) xs → Each (FloorIn i j) ys
noting_floors no_event no_element = no_element
noting_floors (without_entry e n) (one_element x r) = one_element x (noting_floors n r)
noting_floors (with_entry entry e s n) (one_element (floor_kept k) r) = one_element (floor_kept k) (noting_floors n r)
noting_floors (with_entry entry e s n) (one_element (floor_set p q k a b) r) = one_element (floor_set p q k a b) (noting_floors n r)

-- a node with its comments, after the start of its document
record NodeNoted (t : List ℕ) (at : ℕ) (a b : Parts) (after : StreamCursor) (y : Meaning) : Type 0 where
  given : List EventInText
  events : b.part.events ≡ a.part.events ++ given
  comments : b.part.comments ≡ a.part.comments ++ y.comments
  order : at ≤ after.at
  floors : Each (FloorIn at after.at) given
  notes : (f : ℕ) → Guard t f at → Each (NoteOver t (λ c. f) given) y.comments
  within : Each (Within t at after.at) y.comments
  floor : after.floor ≡ floor_of 0 given
  blank : after.floor < length t → Blank t after.floor
  bare : after.may_be_bare ≡ false

blank_start : {t : List ℕ} {f : ℕ} → f ≡ 0 → Blank t f
blank_start {t} e = subst (λ z. Blank t z) (sym e) text_begins

plain_kept : (f : ℕ) → floor_of f (unplaced (scalar_node no_props Plain []) ∷ []) ≡ f
plain_kept f = refl

module _ {t : List ℕ} (u : IsUtf8 t) where
  node_noted : {at : ℕ} {a b : Parts} {after : StreamCursor} {y : Meaning} → NodeDone t at a b after y → NodeNoted t at a b after y
  unfolding noting empty_node plain_event
  node_noted {at} {a = a} {after = after} (node_done n) =
      let d = n.chosen.derived in
      let y = d.meaning in
      let x = derived_notes u d.derived in
      let last : floor_of 0 y.events ≡ after.floor = noting_last 0 d.events ∙ sym n.floor in
      record {
        given = n.part.events;
        events = ap (λ z. z.part.events) n.parts;
        comments = ap (λ z. z.part.comments) n.parts ∙ ap (λ z. a.part.comments ++ z) d.comments;
        order = derived_order d.derived;
        floors = noting_floors d.events x.floors;
        notes = λ f g. each_weaker (λ c o. record { note = subst (λ z. NotedSince t z c.offset c.blank_before) (noting_floor c.offset f d.events) o.note }) (x.notes (λ c. f) (λ c. g));
        within = within_of (derived_ascends d.derived);
        floor = n.floor;
        blank = subst (λ z. z < length t → Blank t z) last (floors_blank u d.derived 0 (λ l. text_begins));
        bare = n.bare;
      }
  node_noted {at} {a = a} {after = after} (nothing_done n) =
      let d = n.ends.line.derived in
      record {
        given = unplaced (scalar_node no_props Plain []) ∷ [];
        events = ap (λ z. z.part.events) n.ends.parts;
        comments = ap (λ z. z.part.comments) n.ends.parts;
        order = line_end_forward d;
        floors = one_element (floor_kept (λ f p. refl)) no_element;
        notes = λ f g. each_weaker (λ c o. record { note = subst (λ z. NotedSince t z c.offset c.blank_before) (sym (end_same c.offset f)) (since_guarded u g o.after o.note) }) (line_told d);
        within = told_within (line_told d);
        floor = n.ends.floor;
        blank = λ l. blank_start n.ends.floor;
        bare = n.ends.bare;
      }

  -- one more document
  document_noted : {k at : ℕ} {a b : Parts} {after : StreamCursor} {y : Meaning} (cs : List CommentValue) (x : Documents) → CommentsNotedTo t k a.part.events cs a.part.comments → k ≤ at
      → Guard t (floor_of 0 a.part.events) at → x.comments ≡ cs ++ y.comments → NodeNoted t at a b after y → CommentsRead t after x b
  document_noted {k} {at} {a} {b} {after} {y} cs x c l g e n =
      let all = noted_node l n.order c n.floors (n.notes (floor_of 0 a.part.events) g) n.within in
      let join : floor_of 0 b.part.events ≡ floor_of (floor_of 0 a.part.events) n.given = ap (λ z. floor_of 0 z) n.events ∙ floor_join 0 a.part.events n.given in
      record {
        comments = subst (λ z. CommentsNotedTo t after.at z x.comments b.part.comments) (sym n.events)
            (subst (λ z. CommentsNotedTo t after.at (a.part.events ++ n.given) x.comments z) (sym n.comments)
            (subst (λ z. CommentsNotedTo t after.at (a.part.events ++ n.given) z (a.part.comments ++ y.comments)) (sym e) all));
        since = ⊎_elim (λ s. same_floor (n.floor ∙ s 0 (floor_of 0 a.part.events) ∙ sym join))
            (λ s. past_floor (n.floor ∙ s 0) (subst (λ z. Guard t z after.at) (sym (join ∙ s (floor_of 0 a.part.events))) (guard_later n.order g)))
            (floor_sets n.floors);
        blank = n.blank;
        bare = λ q. absurd (true≢false (sym q ∙ n.bare));
      }

silent_end : (b : Bool) → Each Silent (unplaced (document_ends b) ∷ [])
silent_end b = one_element (record { kept = λ f p. refl }) no_element

silent_start : (b : Bool) → Each Silent (unplaced (document_starts b) ∷ [])
silent_start b = one_element (record { kept = λ f p. refl }) no_element

closed_floor : (b o : Bool) (a : Parts) → floor_of 0 (closed b o a).part.events ≡ floor_of 0 a.part.events
closed_floor b true a = floor_join 0 a.part.events (unplaced (document_ends b) ∷ []) ∙ silent_floor (floor_of 0 a.part.events) (silent_end b)
closed_floor b false a = refl

opened_floor : (start : ℕ) (b : Bool) (ds : List Directive) (a : Parts) → floor_of 0 (opened start b ds a).part.events ≡ floor_of 0 a.part.events
opened_floor start b ds a = floor_join 0 a.part.events (unplaced (document_starts b) ∷ []) ∙ silent_floor (floor_of 0 a.part.events) (silent_start b)

module _ {t : List ℕ} where
  noted_closed : {k : ℕ} {cs : List CommentValue} (b o : Bool) (a : Parts) → CommentsNotedTo t k a.part.events cs a.part.comments
      → CommentsNotedTo t k (closed b o a).part.events cs (closed b o a).part.comments
  noted_closed b true a n = noted_silent n (silent_end b)
  noted_closed b false a n = n

  -- comments of directives
  directives_told : {i j : ℕ} {x : Directives} → DirectiveLines t i j x → Each (NotedComment t i j) x.comments
  directives_told (last_directive e r p d) =
      let f = r.some in
      let g = parameters_forward p in
      told_wider (omega arith) (omega arith) (line_told d)
  directives_told (more_directives a b) =
      let f = directives_order (directives_stand a) in
      let g = directives_order (directives_stand b) in
      each_join (told_wider (omega arith) g (directives_told a)) (told_wider f (omega arith) (directives_told b))

module _ {t : List ℕ} (u : IsUtf8 t) {cursor : StreamCursor} {x : Documents} {a : Parts} (r : CommentsRead t cursor x a) where
  top : floor_of 0 a.part.events ≤ cursor.at
  top = floor_top 0 (omega arith) r.comments.floors

  pub comments_go_on : {b : Parts} {after : StreamCursor} {y : Documents} → StepTo t cursor x a b after y → CommentsRead t after y b
  unfolding followed
  comments_go_on {b} {after} (dots_to s f e) =
      let c = closed true (not cursor.may_be_bare) a in
      let same = closed_floor true (not cursor.may_be_bare) a in
      let g : Guard t (floor_of 0 c.part.events) (cursor.at + 3) = guarded cursor.at (omega arith) (ap is_gap e ∙ signs_solid.1) (omega (arith, same, top)) (omega arith) in
      let forward = line_end_forward s.line.derived in
      let n = noted_told u (omega arith) forward g (noted_closed true (not cursor.may_be_bare) a r.comments) (line_told s.line.derived) in
      let events : b.part.events ≡ c.part.events = ap (λ z. z.part.events) s.parts in
      let comments : b.part.comments ≡ c.part.comments ++ s.comments = ap (λ z. z.part.comments) s.parts in
      let after_it = guard_later forward g in
      record {
        comments = subst (λ z. CommentsNotedTo t after.at z (x.comments ++ s.comments) b.part.comments) (sym events)
            (subst (λ z. CommentsNotedTo t after.at c.part.events (x.comments ++ s.comments) z) (sym comments) n);
        since = subst (λ z. Since t after.floor (floor_of 0 z) after.at) (sym events) (past_floor s.floor after_it);
        blank = λ l. blank_start s.floor;
        bare = λ q. subst (λ z. Guard t (floor_of 0 z) after.at) (sym events) after_it;
      }
  comments_go_on (dashes_to {y = y} f e d) =
      let c = closed false (not cursor.may_be_bare) a in
      let o = opened cursor.at true [] c in
      let same = opened_floor cursor.at true [] c ∙ closed_floor false (not cursor.may_be_bare) a in
      let g : Guard t (floor_of 0 o.part.events) (cursor.at + 3) = guarded cursor.at (omega arith) (ap is_gap e ∙ signs_solid.0) (omega (arith, same, top)) (omega arith) in
      document_noted u x.comments _ (noted_silent (noted_closed false (not cursor.may_be_bare) a r.comments) (silent_start true)) (omega arith) g refl (node_noted u d)
  comments_go_on (directives_to {p = p} {ds = ds} {cs = cs} {y = y} q h d f e done) =
      let lines = lines_read d.upto.longest h d.last in
      let order = directives_order (directives_stand lines) in
      let n = noted_told u (omega arith) order (r.bare q) r.comments (directives_told lines) in
      let m = noted_silent n (silent_start true) in
      let g : Guard t (floor_of 0 (a.part.events ++ unplaced (document_starts true) ∷ [])) (p + 3) =
      subst (λ z. Guard t z (p + 3)) (sym (opened_floor p true ds a)) (guard_later (omega arith) (r.bare q)) in
      document_noted u (x.comments ++ d.upto.comments) _
      (subst (λ z. CommentsNotedTo t p (a.part.events ++ unplaced (document_starts true) ∷ []) (x.comments ++ d.upto.comments) z) (sym d.upto.list) m)
      (omega arith) g (sym (append_assoc x.comments d.upto.comments y.comments)) (node_noted u done)
  comments_go_on (bare_to {start = start} {y = y} q c d) =
      let g = subst (λ z. Guard t z cursor.at) (sym (opened_floor start false [] a)) (r.bare q) in
      document_noted u x.comments _ (noted_silent r.comments (silent_start false)) (omega arith) g refl (node_noted u d)

-- the text that has been read up to a cursor, and its parts
pub record ReadSoFar (t : List ℕ) (cursor : StreamCursor) (p : Parts) : Type 0 where
  pub documents : Documents
  pub read : ReadUpto t cursor.may_be_bare cursor.at documents
  pub parts : EventsRead t cursor documents p
  pub comments : CommentsRead t cursor documents p

begins_empty : {t : List ℕ} {b : Parts} (cursor : StreamCursor) → cursor.floor ≡ 0 → b.part.events ≡ unplaced stream_starts ∷ [] → b.part.comments ≡ [] → CommentsRead t cursor (only_comments []) b
begins_empty {t} {b} cursor k e f = record {
  comments = subst (λ z. CommentsNotedTo t cursor.at z [] b.part.comments) (sym e) (subst (λ z. CommentsNotedTo t cursor.at (unplaced stream_starts ∷ []) [] z) (sym f)
      (record { noted = no_comment; within = no_element; floors = one_element (floor_kept (λ f p. refl)) no_element }));
  since = past_floor k (no_floor (ap (λ z. floor_of 0 z) e));
  blank = λ l. blank_start k;
  bare = λ q. no_floor (ap (λ z. floor_of 0 z) e);
}

-- only the start of the stream has been read
pub comments_begin : {t : List ℕ} {a b : Parts} (cursor : StreamCursor) → cursor.floor ≡ 0 → a ≡ no_parts → b ≡ with_event a stream_starts → CommentsRead t cursor (only_comments []) b
comments_begin cursor k e f =
    let all = f ∙ ap (λ z. with_event z stream_starts) e in begins_empty cursor k (ap (λ z. z.part.events) all) (ap (λ z. z.part.comments) all)

-- at the end of the text
comments_end : {t : List ℕ} {cursor : StreamCursor} {x : Documents} {a b c : Parts} → CommentsRead t cursor x a → b ≡ closed false (not cursor.may_be_bare) a → c ≡ with_event b stream_ends
    → NotedComments t c.part.events x.comments c.part.comments
comments_end {t} {cursor} {x} {a} {b} {c} r e f =
    let all = f ∙ ap (λ z. with_event z stream_ends) e in
    let n = noted_silent (noted_closed false (not cursor.may_be_bare) a r.comments) (one_element (record { kept = λ f p. refl }) no_element) in
    subst (λ z. NotedComments t z.part.events x.comments z.part.comments) (sym all) n.noted

-- all parts of a stream
pub stream_written : {t : List ℕ} {cursor : StreamCursor} {x : Documents} {a b c : Parts} → cursor.at ≡ length t → code t cursor.at ≢ 0xFEFF → Stuck (Row t cursor.at) → EventsRead t cursor x a
    → CommentsRead t cursor x a → b ≡ closed false (not cursor.may_be_bare) a → c ≡ with_event b stream_ends → PartsOf t x c
stream_written k m n r s e f =
    let w = events_end k m n r e f in
    record { derived = w.derived; written = w.written; events = w.events; comments = comments_end s e f; documents = w.documents; escapes = w.escapes }
