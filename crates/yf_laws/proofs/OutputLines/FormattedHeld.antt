-- The relation of the readings of a formatted text to its rows.
use Rattle.std.proofs.Common.{◌≡◌, ℕ, zero, suc, List, [], ◌∷◌, ◌++◌, Option, Some, sym, subst}
use Rattle.std.specs.Prelude.{slice_get}
use Rattle.std.specs.Str.{IsUtf8}
use Rattle.std.proofs.lemmas.Option.{same_Some}
use Rattle.yf_chars.proofs.Tests.{no_item}
use Rattle.yf_comments.specs.Comment.{CommentValue}
use Rattle.yf_events.specs.Event.{EventValue, EventInText, stream_ends}
use Rattle.yf_events.specs.Tree.{unplaced}
use Rattle.yf_events.specs.declared.event.Span.{Span}
use Rattle.yf_events.specs.declared.lists.Lists.{Lists}
use Rattle.yf_grammar.specs.Productions.ReadParts.{Noting, no_event, without_entry, with_entry}
use Rattle.yf_stream.specs.ReadingOf.{DocumentEvents, no_document, one_document, NotedComments, no_comment, one_comment, ReadingOf}
use Rattle.yf_stream.specs.Stream.{Document, Documents}
use Rattle.yf_laws.specs.Layouts.Decorated.{row_decos, rows_of}
use Rattle.yf_laws.specs.Format.{IsFormatting}
use Rattle.yf_forms.specs.declared.style.Style.{Style}
use Rattle.yf_laws.proofs.Derived.FormatsRead.{formats_laid}
use Rattle.yf_laws.proofs.OutputLines.HeldLemmas.{BodiesHeld, EventsHeld, Holds, bodies_more, here, holds_left, there}
use Rattle.yf_laws.proofs.Derived.DocumentsHeld.{all_events}
use Rattle.yf_laws.proofs.OutputLines.WellSet.{AllSet, WellSet}
use Rattle.yf_laws.specs.Preservation.CommentsPlaced.{columns_in}

-- Comments.

noted_set : {t : List ℕ} {es : List EventInText} {xs ys : List CommentValue} → NotedComments t es xs ys → AllSet t xs → AllSet t ys
noted_set no_comment a = tt
noted_set (one_comment n more) a = (a.0, noted_set more a.1)

set_at : (t : List ℕ) (cs : List CommentValue) (k : ℕ) (c : CommentValue) → AllSet t cs → slice_get cs k ≡ Some c → WellSet t c.offset
set_at t [] k c a e = absurd (no_item k c e)
set_at t (d ∷ cs) zero c a e = subst (λ (w : CommentValue). WellSet t w.offset) (same_Some _ _ e) a.0
set_at t (d ∷ cs) (suc k) c a e = set_at t cs k c a.1 e

-- Events.

nothing_held : {X : Type 0} {event : EventValue} {part : Option Span} → Holds event part [] → X
nothing_held h = elim h [ ]

-- among events and others after them
past_events : {event : EventValue} {part : Option Span} (es : List EventInText) {fs gs : List EventInText} → (Holds event part fs → Holds event part gs) → Holds event part (es ++ fs) → Holds event part (es ++ gs)
past_events [] f h = f h
past_events (e ∷ es) f (here a b) = here a b
past_events (e ∷ es) f (there h) = there (past_events es f h)

in_documents : {t : List ℕ} {ds : List Document} {es : List EventInText} {tags : List (Option (List ℕ))} {event : EventValue} {part : Option Span} → DocumentEvents t ds es tags
    → Holds event part (all_events ds) → Holds event part es
in_documents no_document h = h
in_documents (one_document {d = d} g l m more) h = there (past_events d.events (λ k. there (in_documents more k)) h)

in_noted : {t : List ℕ} {floor : ℕ} {xs ys : List EventInText} {event : EventValue} {part : Option Span} → Noting t floor xs ys → Holds event part xs → Holds event part ys
in_noted no_event h = nothing_held h
in_noted (without_entry n more) (here a b) = here a b
in_noted (without_entry n more) (there h) = there (in_noted more h)
in_noted (with_entry entry n s more) (here a b) = here a b
in_noted (with_entry entry n s more) (there h) = there (in_noted more h)

-- Readings.

pub record ReadingHeld {t u : List ℕ} {s : Style} (f : IsFormatting t s u) (q : Lists) : Type 0 where
  pub comments : (k : ℕ) (c : CommentValue) → slice_get q.comments k ≡ Some c → WellSet u c.offset
  pub bodies : BodiesHeld u q.events (rows_of f.normal s f.writes.trees) (row_decos (columns_in f) f.normal (rows_of f.normal s f.writes.trees)) []

pub reading_held : {t u : List ℕ} {s : Style} {q : Lists} → IsUtf8 t → (f : IsFormatting t s u) → ReadingOf u q → ReadingHeld f q
reading_held {t} {u} {s} {q} utf8 f a =
    let all = formats_laid t u s utf8 f in
    let shapes = a.reads.shapes in
    let rows = rows_of f.normal s f.writes.trees in
    let decos = row_decos (columns_in f) f.normal rows in
    let derived : a.derived ≡ all.well.documents = all.well.reads.shapes.only shapes.height a.derived shapes.derived shapes.within in
    let held : EventsHeld u (all_events a.derived.documents) a.derived.comments rows decos [] = subst (λ (x : Documents). EventsHeld u (all_events x.documents) x.comments rows decos []) (sym derived) all.held in
    record {
      comments = λ k c e. set_at u q.comments k c (noted_set a.comments held.comments) e;
      bodies = bodies_more u (all_events a.derived.documents) q.events rows decos [] (λ event part h. in_noted a.noted (there (holds_left (unplaced stream_ends ∷ []) (in_documents a.events h)))) held.bodies;
    }
