-- The events of a text's reading are well nested, with no more collections open at once than the limit.
use Rattle.std.proofs.Common.{◌≡◌, ℕ, ◌≤◌, List, [], ◌∷◌, Option, sym, refl, ap, ◌∙◌, subst, arith}
use Rattle.yf_comments.specs.Comment.{CommentValue}
use Rattle.yf_events.specs.Event.{EventInText, document_ends, document_starts, stream_ends, stream_starts}
use Rattle.yf_events.specs.Nested.{IsStream, NestsWithin, a_scalar, a_stream, many_documents, more_documents, no_documents, one_node}
use Rattle.yf_events.specs.Reading.{events_of}
use Rattle.yf_events.specs.Tree.{unplaced}
use Rattle.yf_events.specs.declared.lists.Lists.{Lists}
use Rattle.yf_events.specs.declared.reading.TheConstants.{DEPTH}
use Rattle.yf_grammar.specs.Productions.Meaning.{empty_node, noting, plain_event}
use Rattle.yf_grammar.specs.Productions.ReadParts.{Noting}
use Rattle.yf_grammar.specs.Productions.ReadParts.Noting.{no_event, with_entry, without_entry}
use Rattle.yf_stream.specs.ReadingOf.{DocumentEvents, ReadingOf}
use Rattle.yf_stream.specs.ReadingOf.DocumentEvents.{no_document, one_document}
use Rattle.yf_stream.specs.Stream.{AnyDocument, Document, document_of}
use Rattle.yf_stream.specs.Stream.AnyDocument.{bare_document, directive_document, explicit_document}
use Rattle.yf_stream.specs.Stream.ExplicitNode.{marked_node, marked_nothing}
use Rattle.yf_stream.proofs.Offsets.NestedNodes.{kinds, kinds_join, nests}
use Rattle.yf_stream.proofs.Uniqueness.StreamDocuments.{DocumentsDerived, stream_derived}
use Rattle.yf_stream.proofs.Uniqueness.StreamDocuments.DocumentsDerived.{document_derived, no_documents_derived}

module _ {t : List ℕ} (n : ℕ) where
  document_nests : {h i j : ℕ} {d : Document} {cs : List CommentValue} → h ≤ n → AnyDocument t h i j d cs → NestsWithin one_node n (kinds d.events)
  unfolding document_of noting empty_node plain_event
  document_nests l (bare_document r c) = nests n l r.derived
  document_nests l (explicit_document (marked_node m r)) = nests n l r.derived
  document_nests l (explicit_document (marked_nothing m e)) = a_scalar
  document_nests l (directive_document ds (marked_node m r)) = nests n l r.derived
  document_nests l (directive_document ds (marked_nothing m e)) = a_scalar

  documents_nest : {k : ℕ} {ds : List Document} {x : List EventInText} {tags : List (Option (List ℕ))} → k ≤ n → DocumentsDerived t k ds → DocumentEvents t ds x tags
      → NestsWithin many_documents n (kinds x)
  documents_nest l no_documents_derived no_document = no_documents
  documents_nest l (document_derived {d = d} a w more) (one_document {x = x} {closed = closed} e f m rest) =
      subst (λ z. NestsWithin many_documents n (document_starts d.marked ∷ z)) (sym (kinds_join d.events (unplaced (document_ends closed) ∷ x)))
      (more_documents closed (document_nests (omega arith) a) (documents_nest l more rest))

-- notes on blank lines change no event
kinds_noted : {t : List ℕ} {f : ℕ} {x y : List EventInText} → Noting t f x y → kinds y ≡ kinds x
kinds_noted no_event = refl
kinds_noted (without_entry {e = e} none rest) = ap (λ z. e.event ∷ z) (kinds_noted rest)
kinds_noted (with_entry {e = e} entry some since rest) = ap (λ z. e.event ∷ z) (kinds_noted rest)

pub reading_nests : {t : List ℕ} {r : Lists} → ReadingOf t r → IsStream DEPTH (events_of r)
reading_nests a =
    let nested = documents_nest DEPTH a.reads.shapes.within (stream_derived a.reads.shapes.derived) a.events in
    subst (λ z. IsStream DEPTH z) (sym (kinds_noted a.noted ∙ ap (λ z. stream_starts ∷ z) (kinds_join a.derived_events (unplaced stream_ends ∷ [])))) (a_stream nested)
