-- The documents of a stream: their comments are well set, and the lines of block scalars are those of their events.
use Rattle.std.proofs.Common.{ℕ, true, List, [], ◌++◌, flat_map}
use Rattle.yf_comments.specs.Comment.{CommentValue}
use Rattle.yf_events.specs.Event.{EventInText}
use Rattle.yf_events.specs.declared.directive.Directive.{Directive}
use Rattle.yf_grammar.specs.Productions.Meaning.{Meaning}
use Rattle.yf_stream.specs.Stream.{Document, document_of, Documents, only_comments, with_document, with_comments}
use Rattle.yf_laws.specs.Layouts.Decorated.{Deco, past, lines_then}
use Rattle.yf_print.specs.Layouts.Rows.{Row}
use Rattle.yf_laws.proofs.OutputLines.HeldLemmas.{BodiesHeld, EventsHeld, bodies_append, bodies_more, holds_left, holds_right}
use Rattle.yf_laws.proofs.OutputLines.WellSet.{AllSet, set_append}

pub held_events : (t : List ℕ) (m : Meaning) (rs : List Row) (ds : List Deco) (r : List ℕ) (s : ℕ) (dirs : List Directive) → BodiesHeld t m.events rs ds r → BodiesHeld t (document_of s true dirs m).events rs ds r
unfolding document_of
held_events t m rs ds r s dirs a = a

-- the events of all documents
abbrev pub all_events : List Document → List EventInText
all_events ds = flat_map (λ (d : Document). d.events) ds

pub comments_set : (t : List ℕ) (cs : List CommentValue) → AllSet t cs → AllSet t (with_comments cs (only_comments [])).comments
unfolding with_comments
comments_set t cs a = set_append t cs [] a tt

pub documents_held : {t : List ℕ} (cs : List CommentValue) (d : Document) (rest : Documents) (xs ys : List Row) (ds : List Deco) → EventsHeld t d.events cs xs ds (lines_then ys (past xs ds) [])
    → EventsHeld t (all_events rest.documents) rest.comments ys (past xs ds) []
    → EventsHeld t (all_events (with_document cs d rest).documents) (with_document cs d rest).comments (xs ++ ys) ds []
unfolding with_document
documents_held {t} cs d rest xs ys ds a b = record {
  comments = set_append t cs rest.comments a.comments b.comments;
  bodies = bodies_append t (d.events ++ all_events rest.documents) xs ys ds []
      (bodies_more t d.events (d.events ++ all_events rest.documents) xs ds (lines_then ys (past xs ds) []) (λ event part h. holds_left (all_events rest.documents) h) a.bodies)
      (bodies_more t (all_events rest.documents) (d.events ++ all_events rest.documents) ys (past xs ds) [] (λ event part h. holds_right d.events h) b.bodies);
}
