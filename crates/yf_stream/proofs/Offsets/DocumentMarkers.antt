-- Each document of a stream with a `---` begins with it, at the start of a line.
use Rattle.std.proofs.Common.{◌≡◌, ℕ, true, true≢false, List, [], ◌∷◌, inl, sym}
use Rattle.std.specs.Str.{IsUtf8}
use Rattle.yf_chars.specs.Text.{code}
use Rattle.yf_comments.specs.Comment.{CommentValue}
use Rattle.yf_lines.specs.Basic.{ForbiddenLine}
use Rattle.yf_lines.specs.Basic.LineStart.{at_text}
use Rattle.yf_grammar.proofs.BlockOutcomes.BlockEnds.{LineOrEnd}
use Rattle.yf_grammar.proofs.Ends.GapLemmas.{end_next}
use Rattle.yf_stream.specs.Stream.{AnyDocument, DirectiveLines, Directives, Document, Documents, Stream, StreamRest, document_of, with_comments, with_document}
use Rattle.yf_stream.specs.Stream.AnyDocument.{bare_document, directive_document, explicit_document}
use Rattle.yf_stream.specs.Stream.DirectiveLines.{last_directive, more_directives}
use Rattle.yf_stream.specs.Stream.Stream.{begins_with_document, without_document}
use Rattle.yf_stream.specs.Stream.StreamRest.{past_explicit, past_prefix, past_suffixes, past_suffixes_and_document, stream_ended}
use Rattle.yf_stream.proofs.Uniqueness.StreamPath.{document_next, explicit_marker, explicit_next, part_next, parts_next, suffixes_next}

pub data MarkersStand (t : List ℕ) : List Document → Type 0 where
  no_markers : MarkersStand t []
  marker_is_at : {d : Document} {ds : List Document} → (d.marked ≡ true → ForbiddenLine t d.start × (code t d.start ≡ 45)) → MarkersStand t ds → MarkersStand t (d ∷ ds)

module _ {t : List ℕ} (u : IsUtf8 t) where
  pub directives_next : {i k : ℕ} {x : Directives} → DirectiveLines t i k x → LineOrEnd t k
  directives_next (last_directive e r p l) = end_next l
  directives_next (more_directives a b) = directives_next b

  any_marker : {h k j : ℕ} {d : Document} {cs : List CommentValue} → LineOrEnd t k → AnyDocument t h k j d cs → d.marked ≡ true → ForbiddenLine t d.start × (code t d.start ≡ 45)
  unfolding document_of
  any_marker l (bare_document n c) e = absurd (true≢false (sym e))
  any_marker l (explicit_document a) e = explicit_marker u l a
  any_marker l (directive_document ds a) e = explicit_marker u (directives_next ds) a

  rest_markers : {h i : ℕ} {x : Documents} → LineOrEnd t i → StreamRest t h i x → MarkersStand t x.documents
  unfolding with_comments with_document document_of
  rest_markers l stream_ended = no_markers
  rest_markers l (past_prefix s r) = rest_markers (part_next u l s) r
  rest_markers l (past_suffixes s p r) = rest_markers (parts_next u (suffixes_next u s) p) r
  rest_markers l (past_suffixes_and_document s p a r) = marker_is_at (any_marker (parts_next u (suffixes_next u s) p) a) (rest_markers (document_next u a) r)
  rest_markers l (past_explicit e r) = marker_is_at (λ q. explicit_marker u l e) (rest_markers (explicit_next u e) r)

  pub stream_markers : {h : ℕ} {x : Documents} → Stream t h x → MarkersStand t x.documents
  unfolding with_comments with_document
  stream_markers (begins_with_document p a r) = marker_is_at (any_marker (parts_next u (inl at_text) p) a) (rest_markers (document_next u a) r)
  stream_markers (without_document p r) = rest_markers (parts_next u (inl at_text) p) r
