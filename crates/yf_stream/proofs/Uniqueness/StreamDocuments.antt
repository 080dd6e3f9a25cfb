-- Each document of a stream is derived, and has no more collections open at once than the stream.
use Rattle.std.proofs.Common.{ℕ, ◌≤◌, List, [], ◌∷◌, arith}
use Rattle.yf_comments.specs.Comment.{CommentValue}
use Rattle.yf_stream.specs.Stream.{AnyDocument, Document, Documents, Stream, StreamRest, with_comments, with_document}
use Rattle.yf_stream.specs.Stream.AnyDocument.{explicit_document}
use Rattle.yf_stream.specs.Stream.Stream.{begins_with_document, without_document}
use Rattle.yf_stream.specs.Stream.StreamRest.{past_explicit, past_prefix, past_suffixes, past_suffixes_and_document, stream_ended}

-- with at most `limit` open collections
pub data DocumentsDerived (t : List ℕ) (limit : ℕ) : List Document → Type 0 where
  no_documents_derived : DocumentsDerived t limit []
  document_derived : {h i j : ℕ} {d : Document} {cs : List CommentValue} {ds : List Document} → AnyDocument t h i j d cs → h ≤ limit
      → DocumentsDerived t limit ds → DocumentsDerived t limit (d ∷ ds)

module _ {t : List ℕ} where
  documents_within : {k l : ℕ} {ds : List Document} → k ≤ l → DocumentsDerived t k ds → DocumentsDerived t l ds
  documents_within m no_documents_derived = no_documents_derived
  documents_within m (document_derived a l more) = document_derived a (omega arith) (documents_within m more)

  rest_derived : {h i : ℕ} {x : Documents} → StreamRest t h i x → DocumentsDerived t h x.documents
  unfolding with_comments with_document
  rest_derived stream_ended = no_documents_derived
  rest_derived (past_prefix s r) = rest_derived r
  rest_derived (past_suffixes s p r) = rest_derived r
  rest_derived (past_suffixes_and_document s p d r) = document_derived d (omega arith) (documents_within (omega arith) (rest_derived r))
  rest_derived (past_explicit e r) = document_derived (explicit_document e) (omega arith) (documents_within (omega arith) (rest_derived r))

  pub stream_derived : {h : ℕ} {x : Documents} → Stream t h x → DocumentsDerived t h x.documents
  unfolding with_comments with_document
  stream_derived (begins_with_document p d r) = document_derived d (omega arith) (documents_within (omega arith) (rest_derived r))
  stream_derived (without_document p r) = rest_derived r
