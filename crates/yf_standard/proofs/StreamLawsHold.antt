-- The laws of `StreamLaws` on the tokens of a stream.
use Rattle.std.proofs.Common.{◌≡◌, ℕ, List, [], ◌∷◌, ◌++◌, length, map, flat_map, refl, sym, ap, ◌∙◌, arith}
use Rattle.yf_comments.specs.Comment.{CommentValue}
use Rattle.yf_comments.specs.declared.comment.Comment.{Comment}
use Rattle.yf_events.specs.Event.{EventInText}
use Rattle.yf_stream.specs.ReadingOf.{NotedComments, doc_of}
use Rattle.yf_stream.specs.ReadingOf.NotedComments.{no_comment, one_comment}
use Rattle.yf_stream.specs.Stream.{Document}
use Rattle.yf_events.specs.declared.reading.TheConstants.{DEPTH}
use Rattle.yf_standard.specs.Notation.Form.{l-yaml-stream}
use Rattle.yf_standard.specs.Tokens.{note_of, notes_of}
use Rattle.yf_standard.specs.Readings.{stream_said, document_said, documents_said}
use Rattle.yf_standard.specs.StreamLaws.{StreamMeans, StreamTokens, SaysReading, ReadingsAreSaid}
use Rattle.yf_standard.proofs.Meant.{means}
use Rattle.yf_standard.proofs.ContentLawsHold.{zone}
use Rattle.yf_standard.proofs.StreamParts.{StreamIs}
use Rattle.yf_standard.proofs.StreamsSaid.{Streams, streams}

pub stream_tokens : StreamTokens
unfolding Streams
stream_tokens t e u d =
    let s = means {f = l-yaml-stream} (streams t (zone t u (length t))) (omega arith) (omega arith) d refl refl in
    record { height = s.height; value = s.value; derived = s.derived; within = s.fits; says = s.says }

same_notes : {t : List ℕ} {es : List EventInText} {cs ds : List CommentValue} → NotedComments t es cs ds → notes_of cs ≡ notes_of ds
same_notes no_comment = refl
same_notes (one_comment {c = c} n r) = ap (λ z. note_of c ∷ z) (same_notes r)

same_escapes : (ds : List Document) → flat_map (λ d. d.escapes) (map document_said ds) ≡ flat_map (λ d. d.escapes) ds
same_escapes [] = refl
same_escapes (d ∷ ds) = ap (λ z. d.escapes ++ z) (same_escapes ds)

same_directives : (ds : List Document) → map (λ d. d.directives) (map document_said ds) ≡ map (λ d. d.directives) (map doc_of ds)
same_directives [] = refl
same_directives (d ∷ ds) = ap (λ z. d.directives ∷ z) (same_directives ds)

pub readings_are_said : ReadingsAreSaid
readings_are_said t r u g d =
    let s = stream_tokens t DEPTH u d in
    let p = s.says ∙ ap (λ x. documents_said x) (g.reads.shapes.only s.height s.value s.derived s.within) in
    record {
      documents = p;
      comments = ap (λ s. s.comments) p ∙ same_notes g.comments;
      escapes = ap (λ s. flat_map (λ d. d.escapes) s.documents) p ∙ same_escapes g.derived.documents ∙ sym g.escapes;
      directives = ap (λ s. map (λ d. d.directives) s.documents) p ∙ same_directives g.derived.documents ∙ ap (λ z. map (λ d. d.directives) z) (sym g.documents);
    }
