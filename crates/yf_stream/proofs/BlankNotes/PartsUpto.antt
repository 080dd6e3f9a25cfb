-- The text that the reader of streams has read so far, in its parts: the events with their notes, the documents and the
-- escapes.
use Rattle.std.proofs.Common.{◌≡◌, ◌≢◌, ℕ, ◌≤◌, Bool, true, false, not, List, [], ◌∷◌, ◌++◌, map, flat_map, refl, sym, ap, ◌∙◌, subst, arith, append_assoc, append-nil}
use Rattle.yf_chars.specs.Text.{code}
use Rattle.yf_chars.specs.Chain.{Chain, Stuck}
use Rattle.yf_chars.proofs.ChainLemmas.{chain_append, chain_forward, stuck_unique}
use Rattle.yf_lines.specs.Basic.{ForbiddenLine}
use Rattle.yf_comments.specs.Comment.{CommentValue}
use Rattle.yf_comments.specs.Comments.{LineEnd, Row}
use Rattle.yf_events.specs.Event.{EventInText, document_ends, document_starts, stream_ends, stream_starts}
use Rattle.yf_events.specs.Tree.{unplaced}
use Rattle.yf_grammar.specs.Productions.ReadParts.{Noting, no_event as none_noted, without_entry}
use Rattle.yf_grammar.proofs.BlockOutcomes.BlockEnds.{LineOrEnd}
use Rattle.yf_grammar.proofs.Ends.GapLemmas.{end_next}
use Rattle.yf_stream.specs.DocumentReaders.{PrefixRead, PrefixRow, closed}
use Rattle.yf_stream.specs.ReadingOf.{doc_of}
use Rattle.yf_stream.specs.Stream.{Document, Documents, EndIsMarked, only_comments}
use Rattle.yf_stream.specs.Stream.EndIsMarked.{marked_end, unmarked_end}
use Rattle.yf_stream.specs.WrittenParts.{DocumentsWritten, document_written, nothing_written}
use Rattle.yf_stream.specs.declared.documents.Parts.{Parts}
use Rattle.yf_stream.specs.declared.documents.StreamCursor.{StreamCursor}
use Rattle.yf_stream.proofs.BlankNotes.CommentNotes.{Guard, guard_later}
use Rattle.yf_stream.proofs.BlankNotes.NotingLemmas.{floor_join, floor_of, noting_join}
use Rattle.yf_stream.proofs.Uniqueness.OneDirective.{dot_still}
use Rattle.yf_stream.proofs.Reader.PrefixLemmas.{prefix_functional, prefixes_rows, rows_parts, still}
use Rattle.yf_stream.proofs.Reader.StreamUpto.{followed}

-- the events of documents; the last one may be open, without its end among them
pub data EventsUpto (t : List ℕ) : Bool → ℕ → List Document → List EventInText → Type 0 where
  all_closed : {k : ℕ} {ds : List Document} {x : List EventInText} → DocumentsWritten t ds x → EventsUpto t false k ds x
  last_open : {k j : ℕ} {ds : List Document} (d : Document) {x : List EventInText} {cs more : List CommentValue} → DocumentsWritten t ds x → LineEnd t d.finish j cs
      → Chain (PrefixRow t) j k more → EventsUpto t true k (ds ++ d ∷ []) (x ++ (unplaced (document_starts d.marked) ∷ d.events))

-- a cursor at which a document may begin without `---`
pub record BareCursor (t : List ℕ) (cursor : StreamCursor) (f : ℕ) : Type 0 where
  pub no_document : not cursor.may_be_bare ≡ false
  pub guard : Guard t f cursor.at

pub record EventsRead (t : List ℕ) (cursor : StreamCursor) (x : Documents) (p : Parts) : Type 0 where
  pub derived : List EventInText
  pub so_far : EventsUpto t (not cursor.may_be_bare) cursor.at x.documents derived
  pub noted : Noting t 0 (unplaced stream_starts ∷ derived) p.part.events
  pub floor : floor_of 0 derived ≤ cursor.at
  pub bare : cursor.may_be_bare ≡ true → BareCursor t cursor (floor_of 0 derived)
  pub documents : p.documents ≡ map doc_of x.documents
  pub escapes : p.part.escapes ≡ flat_map (λ (d : Document). d.escapes) x.documents

-- the parts of the stream x, without its comments
pub record EventsWritten (t : List ℕ) (x : Documents) (p : Parts) : Type 0 where
  pub derived : List EventInText
  pub written : DocumentsWritten t x.documents derived
  pub events : Noting t 0 (unplaced stream_starts ∷ (derived ++ (unplaced stream_ends ∷ []))) p.part.events
  pub documents : p.documents ≡ map doc_of x.documents
  pub escapes : p.part.escapes ≡ flat_map (λ (d : Document). d.escapes) x.documents

-- the parts if no document is open
pub record ClosedParts (t : List ℕ) (k : ℕ) (ds : List Document) (p : Parts) : Type 0 where
  pub derived : List EventInText
  pub written : DocumentsWritten t ds derived
  pub noted : Noting t 0 (unplaced stream_starts ∷ derived) p.part.events
  pub floor : floor_of 0 derived ≤ k
  pub documents : p.documents ≡ map doc_of ds
  pub escapes : p.part.escapes ≡ flat_map (λ (d : Document). d.escapes) ds

joined_end : (x es : List EventInText) (s e : EventInText) → x ++ (s ∷ (es ++ (e ∷ []))) ≡ (x ++ (s ∷ es)) ++ (e ∷ [])
joined_end x es s e = sym (append_assoc x (s ∷ es) (e ∷ []))

module _ {t : List ℕ} where
  -- documents that are written, and one more
  pub written_last : {ds : List Document} (d : Document) {x : List EventInText} {closed : Bool} {j : ℕ} {cs : List CommentValue} → DocumentsWritten t ds x → LineEnd t d.finish j cs
      → EndIsMarked t j closed → DocumentsWritten t (ds ++ d ∷ []) (x ++ (unplaced (document_starts d.marked) ∷ (d.events ++ (unplaced (document_ends closed) ∷ []))))
  written_last last nothing_written l m = document_written l m nothing_written
  written_last last {closed = closed} (document_written {d = d} {ds = ds} {x = x} {closed = b} l m w) k n =
      let tail = unplaced (document_starts last.marked) ∷ (last.events ++ (unplaced (document_ends closed) ∷ [])) in
      subst (λ z. DocumentsWritten t (d ∷ (ds ++ last ∷ [])) (unplaced (document_starts d.marked) ∷ z))
      (sym (append_assoc d.events (unplaced (document_ends b) ∷ x) tail))
      (document_written l m (written_last last w k n))

  -- whether the end of a document is marked, from the text after document prefixes
  pub mark_there : {j k : ℕ} {cs : List CommentValue} → ForbiddenLine t k → code t k ≡ 46 → LineOrEnd t j → Chain (PrefixRow t) j k cs → EndIsMarked t j true
  mark_there f e l c = marked_end (rows_parts l c) f e

  pub no_mark_there : {j k : ℕ} {cs : List CommentValue} → code t k ≢ 0xFEFF → Stuck (Row t k) → (ForbiddenLine t k → code t k ≡ 46 → ⊥) → Chain (PrefixRow t) j k cs → EndIsMarked t j false
  no_mark_there {k = k} m r n c = unmarked_end (λ q ds d f e.
      let same = (stuck_unique prefix_functional (prefixes_rows d) (still (λ b. absurd (omega arith)) (dot_still e)) c (still m r)).0 in
      n (subst (λ z. ForbiddenLine t z) same f) (ap (code t) (sym same) ∙ e))

  -- the end of the open document
  pub parts_closed : {cursor : StreamCursor} {x : Documents} {p : Parts} (b : Bool)
      → ((j : ℕ) (cs : List CommentValue) → LineOrEnd t j → Chain (PrefixRow t) j cursor.at cs → EndIsMarked t j b) → EventsRead t cursor x p
      → ClosedParts t cursor.at x.documents (closed b (not cursor.may_be_bare) p)
  parts_closed {cursor} {x} {p} b ends r = go (not cursor.may_be_bare) x.documents r.derived r.so_far r.noted r.floor r.documents r.escapes where
    go : (o : Bool) (ds : List Document) (es : List EventInText) → EventsUpto t o cursor.at ds es → Noting t 0 (unplaced stream_starts ∷ es) p.part.events → floor_of 0 es ≤ cursor.at
        → p.documents ≡ map doc_of ds → p.part.escapes ≡ flat_map (λ (d : Document). d.escapes) ds → ClosedParts t cursor.at ds (closed b o p)
    go false ds es (all_closed w) n f d e = record { derived = es; written = w; noted = n; floor = f; documents = d; escapes = e }
    go true ds es (last_open {j = j} d {x = y} {more = more} w l c) n f docs e =
        let s = unplaced (document_starts d.marked) in
        let last = unplaced (document_ends b) in
        let all = subst (λ z. DocumentsWritten t ds z) (joined_end y d.events s last) (written_last d w l (ends j more (end_next l) c)) in
        record {
          derived = es ++ (last ∷ []);
          written = all;
          noted = noting_join n (without_entry refl none_noted);
          floor = subst (λ z. z ≤ cursor.at) (sym (floor_join 0 es (last ∷ []))) f;
          documents = docs;
          escapes = e;
        }

-- comment lines and byte order marks after the text that has been read
same_flag : (cursor s : StreamCursor) → s ≡ record cursor { at = s.at } → (not s.may_be_bare ≡ not cursor.may_be_bare) × (s.may_be_bare ≡ cursor.may_be_bare)
same_flag cursor s e = (ap (λ z. not z.may_be_bare) e, ap (λ z. z.may_be_bare) e)

pub no_more : (x : Documents) (cs : List CommentValue) → (followed x (only_comments cs)).documents ≡ x.documents
unfolding followed
no_more x cs = append-nil x.documents

module _ {t : List ℕ} where
  rows_after : {o : Bool} {k l : ℕ} {ds : List Document} {es : List EventInText} {cs : List CommentValue} → EventsUpto t o k ds es → Chain (PrefixRow t) k l cs → EventsUpto t o l ds es
  rows_after (all_closed w) c = all_closed w
  rows_after (last_open x w l d) c = last_open x w l (chain_append d c)

  pub events_past_prefix : {cursor s : StreamCursor} {x : Documents} {a b : Parts} {c d : List CommentValue} → s ≡ record cursor { at = s.at } → (r : PrefixRead t cursor.floor cursor.at s.at c d)
      → b.part.events ≡ a.part.events → b.documents ≡ a.documents → b.part.escapes ≡ a.part.escapes → EventsRead t cursor x a
      → EventsRead t s (followed x (only_comments r.upto.comments)) b
  events_past_prefix {cursor} {s} {x} {a} {b} e r same docs escapes p =
      let flags = same_flag cursor s e in
      let forward = chain_forward prefix_functional r.upto.rows in
      let none = no_more x r.upto.comments in
      record {
        derived = p.derived;
        so_far = subst (λ z. EventsUpto t (not s.may_be_bare) s.at z p.derived) (sym none)
            (subst (λ z. EventsUpto t z s.at x.documents p.derived) (sym flags.0) (rows_after p.so_far r.upto.rows));
        noted = subst (λ z. Noting t 0 (unplaced stream_starts ∷ p.derived) z) (sym same) p.noted;
        floor = omega (arith, p.floor);
        bare = λ q. let n = p.bare (sym flags.1 ∙ q) in record { no_document = flags.0 ∙ n.no_document; guard = guard_later forward n.guard };
        documents = docs ∙ p.documents ∙ ap (map doc_of) (sym none);
        escapes = escapes ∙ p.escapes ∙ ap (flat_map (λ (d : Document). d.escapes)) (sym none);
      }
