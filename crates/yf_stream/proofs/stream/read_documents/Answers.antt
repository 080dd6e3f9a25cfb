use Rattle.std.proofs.Common.{[], ◌+◌, ◌∙◌, refl, sym, ap, subst}
use Rattle.std.proofs.lemmas.List.Elements.{All-nil}
use Rattle.std.proofs.lemmas.Str.{IsCharBoundary-start}
use Rattle.std.specs.List.{All}
use Rattle.std.specs.Str.{IsCharBoundary}
use Rattle.yf_events.specs.declared.document.Doc.{Doc}
use Rattle.yf_stream.specs.RefusalPlaces.{DirectivesAt, DocumentsAt}
use Rattle.yf_stream.specs.Stream.{only_comments}
use Rattle.yf_stream.specs.ReaderSteps.{NextAt}
use Rattle.yf_stream.proofs.Reader.NextSteps.{next_of, no_stream_read, reading_goes_on, cursor_on, too_deep_there}
use Rattle.yf_stream.proofs.BlankNotes.CommentsSteps.{comments_begin, comments_go_on, stream_written}
use Rattle.yf_stream.proofs.BlankNotes.CommentsUpto.{comments_past_prefix}
use Rattle.yf_stream.proofs.BlankNotes.PartsSteps.{events_begin, events_go_on}
use Rattle.yf_stream.proofs.BlankNotes.PartsUpto.{events_past_prefix}
use Rattle.yf_stream.proofs.Reader.StreamUpto.{reading_begins, reading_ends}
use Rattle.yf_stream.proofs.stream.read_documents.Goals as goal

pub documents-init : goal.documents-init
documents-init c =
    let t = c.args.text.now in
    record {
      place = IsCharBoundary-start t c.utf8.text;
      reached = IsCharBoundary-start t c.utf8.text;
      parts = record {
        escapes = subst (All (IsCharBoundary t)) (sym (c.in_ok-push_unplaced.ensures.escapes ∙ ap (λ z. z.part.escapes) c.requires.nothing)) (All-nil (IsCharBoundary t));
        documents = subst (DocumentsAt t) (sym (c.in_ok-push_unplaced.ensures.documents ∙ ap (λ z. z.documents) c.requires.nothing)) (All-nil (λ (d : Doc). DirectivesAt t d.directives));
      };
      derived = λ l. record { documents = only_comments []; read = reading_begins c.utf8.text; parts = events_begin _ refl refl c.requires.nothing c.in_ok-push_unplaced.ensures.parts; comments = comments_begin _ refl c.requires.nothing c.in_ok-push_unplaced.ensures.parts };
    }

pub skip_prefix-requires : goal.skip_prefix-requires
skip_prefix-requires c = c.documents.invariant.place

pub read_next-requires : goal.read_next-requires
read_next-requires c =
    let t = c.args.text.now in
    record {
      boundary = c.in_ok-cursor.ensures.place.boundary;
      reached = subst (λ z. IsCharBoundary t z.reached) (sym c.in_ok-cursor.ensures.cursor) c.documents.invariant.reached;
      parts = record {
        escapes = subst (All (IsCharBoundary t)) (sym c.in_ok-cursor.ensures.escapes) c.documents.invariant.parts.escapes;
        documents = subst (DocumentsAt t) (sym c.in_ok-cursor.ensures.documents) c.documents.invariant.parts.documents;
      };
    }

pub documents-preserved : goal.documents-preserved
documents-preserved c =
    let t = c.args.text.now in
    let n = subst (NextAt t (c.in_ok-cursor.cursor.at + 1)) c.in-Go.is c.in_ok-next.ensures.next in
    record {
      place = n.0.boundary;
      reached = n.1;
      parts = c.in_ok-next.ensures.parts;
      derived = λ l.
          let i = c.documents.invariant.derived l in
          let pre = c.in_ok-cursor.ensures.reads in
          let g = cursor_on c.documents.cursor c.in_ok-cursor.cursor c.utf8.text c.in_ok-cursor.ensures.cursor pre i.read in
          let e = events_past_prefix c.in_ok-cursor.ensures.cursor pre c.in_ok-cursor.ensures.events c.in_ok-cursor.ensures.documents c.in_ok-cursor.ensures.escapes i.parts in
          let k = comments_past_prefix c.utf8.text c.in_ok-cursor.ensures.cursor pre c.in_ok-cursor.ensures.events i.comments in
          let n = reading_goes_on c.utf8.text c.in_ok-cursor.cursor pre c.if-cursor-text.false g
          (next_of t c.in_ok-cursor.cursor c.skip_prefix.new.parts c.read_next.new.self (c.read_next.ensures.reads l) c.in_ok-next.was c.in-Go.is) in
          record { documents = n.documents; read = n.read; parts = events_go_on c.utf8.text e pre.no_mark pre.no_row n.step; comments = comments_go_on c.utf8.text k n.step };
    }

pub returns-then-cursor-text : goal.returns-then-cursor-text
returns-then-cursor-text c =
    let t = c.args.text.now in
    record {
      refusal = tt;
      underived = tt;
      derived = λ l.
          let i = c.documents.invariant.derived l in
          let pre = c.in_ok-cursor.ensures.reads in
          let g = cursor_on c.documents.cursor c.in_ok-cursor.cursor c.utf8.text c.in_ok-cursor.ensures.cursor pre i.read in
          let e = events_past_prefix c.in_ok-cursor.ensures.cursor pre c.in_ok-cursor.ensures.events c.in_ok-cursor.ensures.documents c.in_ok-cursor.ensures.escapes i.parts in
          let k = comments_past_prefix c.utf8.text c.in_ok-cursor.ensures.cursor pre c.in_ok-cursor.ensures.events i.comments in
          record {
            documents = _;
            shapes = reading_ends c.utf8.text c.if-cursor-text.true g;
            parts = stream_written c.if-cursor-text.true pre.no_mark pre.no_row e k c.in_ok-close.ensures.parts c.in_ok-push_unplaced-2.ensures.parts;
          };
      parts = record {
        escapes = subst (All (IsCharBoundary t)) (sym (c.in_ok-push_unplaced-2.ensures.escapes ∙ c.in_ok-close.ensures.escapes ∙ c.in_ok-cursor.ensures.escapes)) c.documents.invariant.parts.escapes;
        documents = subst (DocumentsAt t) (sym (c.in_ok-push_unplaced-2.ensures.documents ∙ c.in_ok-close.ensures.documents ∙ c.in_ok-cursor.ensures.documents)) c.documents.invariant.parts.documents;
      };
    }

pub returns-in-Syntax : goal.returns-in-Syntax
returns-in-Syntax c = record {
  refusal = subst (NextAt c.args.text.now (c.in_ok-cursor.cursor.at + 1)) c.in-Syntax.is c.in_ok-next.ensures.next;
  underived = tt;
  derived = λ l.
      let g = cursor_on c.documents.cursor c.in_ok-cursor.cursor c.utf8.text c.in_ok-cursor.ensures.cursor c.in_ok-cursor.ensures.reads (c.documents.invariant.derived l).read in
      no_stream_read c.utf8.text c.in_ok-cursor.cursor c.in_ok-cursor.ensures.reads c.if-cursor-text.false g
      (next_of c.args.text.now c.in_ok-cursor.cursor c.skip_prefix.new.parts c.read_next.new.self (c.read_next.ensures.reads l) c.in_ok-next.was c.in-Syntax.is);
  parts = c.in_ok-next.ensures.parts;
}

pub returns-in-TooDeep : goal.returns-in-TooDeep
returns-in-TooDeep c = record {
  refusal = subst (NextAt c.args.text.now (c.in_ok-cursor.cursor.at + 1)) c.in-TooDeep.is c.in_ok-next.ensures.next;
  underived = tt;
  derived = λ l.
      let g = cursor_on c.documents.cursor c.in_ok-cursor.cursor c.utf8.text c.in_ok-cursor.ensures.cursor c.in_ok-cursor.ensures.reads (c.documents.invariant.derived l).read in
      too_deep_there c.utf8.text c.in_ok-cursor.cursor c.in_ok-cursor.ensures.reads c.if-cursor-text.false g
      (next_of c.args.text.now c.in_ok-cursor.cursor c.skip_prefix.new.parts c.read_next.new.self (c.read_next.ensures.reads l) c.in_ok-next.was c.in-TooDeep.is);
  parts = c.in_ok-next.ensures.parts;
}
