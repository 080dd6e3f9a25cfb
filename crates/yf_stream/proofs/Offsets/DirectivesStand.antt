-- Each directive of a stream begins with its percent sign, at the start of a line.
use Rattle.std.proofs.Common.{◌≡◌, ℕ, List, [], ◌∷◌, ◌++◌, inl, inr, arith}
use Rattle.std.specs.Str.{IsUtf8}
use Rattle.yf_chars.specs.Text.{code}
use Rattle.yf_chars.proofs.TextLemmas.{within_from_code}
use Rattle.yf_comments.specs.Comment.{CommentValue}
use Rattle.yf_events.specs.declared.directive.Directive.{Directive}
use Rattle.yf_lines.specs.Basic.{LineStart}
use Rattle.yf_lines.specs.Basic.LineStart.{at_text}
use Rattle.yf_grammar.proofs.BlockOutcomes.BlockEnds.{LineOrEnd}
use Rattle.yf_stream.specs.Stream.{AnyDocument, DirectiveLines, Directives, Document, Documents, Stream, StreamRest, document_of, with_comments, with_document}
use Rattle.yf_stream.specs.Stream.AnyDocument.{bare_document, directive_document, explicit_document}
use Rattle.yf_stream.specs.Stream.DirectiveLines.{last_directive, more_directives}
use Rattle.yf_stream.specs.Stream.Stream.{begins_with_document, without_document}
use Rattle.yf_stream.specs.Stream.StreamRest.{past_explicit, past_prefix, past_suffixes, past_suffixes_and_document, stream_ended}
use Rattle.yf_stream.proofs.Offsets.DocumentMarkers.{directives_next}
use Rattle.yf_stream.proofs.Uniqueness.StreamPath.{document_next, explicit_next, part_next, parts_next, suffixes_next}

pub data DirectivesStand (t : List ℕ) : List Directive → Type 0 where
  no_directives : DirectivesStand t []
  directive_is_at : {d : Directive} {ds : List Directive} → LineStart t d.offset → code t d.offset ≡ 37 → DirectivesStand t ds → DirectivesStand t (d ∷ ds)

pub data AllDirected (t : List ℕ) : List Document → Type 0 where
  none_directed : AllDirected t []
  one_directed : {d : Document} {ds : List Document} → DirectivesStand t d.directives → AllDirected t ds → AllDirected t (d ∷ ds)

stand_append : {t : List ℕ} {xs ys : List Directive} → DirectivesStand t xs → DirectivesStand t ys → DirectivesStand t (xs ++ ys)
stand_append no_directives b = b
stand_append (directive_is_at l e more) b = directive_is_at l e (stand_append more b)

begun_line : {t : List ℕ} {i : ℕ} → LineOrEnd t i → code t i ≡ 37 → LineStart t i
begun_line (inl l) e = l
begun_line {t} {i} (inr f) e = let within = within_from_code t i (omega (arith, e)) in absurd (omega (arith, within, f))

module _ {t : List ℕ} (u : IsUtf8 t) where
  lines_stand : {i k : ℕ} {x : Directives} → LineOrEnd t i → DirectiveLines t i k x → DirectivesStand t x.directives
  lines_stand l (last_directive e r p f) = directive_is_at (begun_line l e) e no_directives
  lines_stand l (more_directives a b) = stand_append (lines_stand l a) (lines_stand (directives_next u a) b)

  any_directed : {h k j : ℕ} {d : Document} {cs : List CommentValue} → LineOrEnd t k → AnyDocument t h k j d cs → DirectivesStand t d.directives
  unfolding document_of
  any_directed l (bare_document n c) = no_directives
  any_directed l (explicit_document a) = no_directives
  any_directed l (directive_document ds a) = lines_stand l ds

  rest_directed : {h i : ℕ} {x : Documents} → LineOrEnd t i → StreamRest t h i x → AllDirected t x.documents
  unfolding with_comments with_document document_of
  rest_directed l stream_ended = none_directed
  rest_directed l (past_prefix s r) = rest_directed (part_next u l s) r
  rest_directed l (past_suffixes s p r) = rest_directed (parts_next u (suffixes_next u s) p) r
  rest_directed l (past_suffixes_and_document s p a r) = one_directed (any_directed (parts_next u (suffixes_next u s) p) a) (rest_directed (document_next u a) r)
  rest_directed l (past_explicit e r) = one_directed no_directives (rest_directed (explicit_next u e) r)

  pub stream_directed : {h : ℕ} {x : Documents} → Stream t h x → AllDirected t x.documents
  unfolding with_comments with_document
  stream_directed (begins_with_document p a r) = one_directed (any_directed (parts_next u (inl at_text) p) a) (rest_directed (document_next u a) r)
  stream_directed (without_document p r) = rest_directed (parts_next u (inl at_text) p) r
