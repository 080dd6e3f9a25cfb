-- The parts that were read are those of a stream: its events with their notes, its comments with theirs, its documents
-- and escapes. They have no tags, which are resolved afterwards.
use Rattle.std.specs.Prelude.{◌≡◌, ℕ, Bool, List, [], ◌∷◌, ◌++◌, map, flat_map}
use Rattle.yf_comments.specs.Comment.{CommentValue}
use Rattle.yf_comments.specs.Comments.{LineEnd}
use Rattle.yf_events.specs.Event.{EventInText, document_ends, document_starts, stream_ends, stream_starts}
use Rattle.yf_events.specs.Tree.{unplaced}
use Rattle.yf_grammar.specs.Productions.ReadParts.{Noting}
use Rattle.yf_stream.specs.ReadingOf.{NotedComments, doc_of}
use Rattle.yf_stream.specs.Stream.{Document, Documents, EndIsMarked}
use Rattle.yf_stream.specs.declared.documents.Parts.{Parts}

-- the events of documents; a document's end is marked if the next forbidden line after it is a `...`
pub data DocumentsWritten (t : List ℕ) : List Document → List EventInText → Type 0 where
  nothing_written : DocumentsWritten t [] []
  document_written : {d : Document} {ds : List Document} {x : List EventInText} {closed : Bool} {j : ℕ} {cs : List CommentValue}
      → LineEnd t d.finish j cs → EndIsMarked t j closed → DocumentsWritten t ds x
      → DocumentsWritten t (d ∷ ds) (unplaced (document_starts d.marked) ∷ (d.events ++ (unplaced (document_ends closed) ∷ x)))

-- the parts of the stream x
pub record PartsOf (t : List ℕ) (x : Documents) (p : Parts) : Type 0 where
  pub derived : List EventInText
  pub written : DocumentsWritten t x.documents derived
  pub events : Noting t 0 (unplaced stream_starts ∷ (derived ++ (unplaced stream_ends ∷ []))) p.part.events
  pub comments : NotedComments t p.part.events x.comments p.part.comments
  pub documents : p.documents ≡ map doc_of x.documents
  pub escapes : p.part.escapes ≡ flat_map (λ d. d.escapes) x.documents
