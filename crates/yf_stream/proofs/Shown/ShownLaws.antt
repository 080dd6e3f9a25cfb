-- A small text of two documents: the law gives its one shape from one derivation, without a look at other ones.
use Rattle.std.proofs.Common.{ℕ, suc, zero, true, List, [], ◌∷◌, codes, refl, arith}
use Rattle.std.proofs.lemmas.Str.{IsUtf8-from_ascii}
use Rattle.yf_chars.specs.Text.{begins, code}
use Rattle.std.specs.Str.{IsAscii, chars}
use Rattle.yf_chars.specs.Chain.Chain.{done}
use Rattle.yf_lines.specs.Basic.{Break, is_three}
use Rattle.yf_lines.specs.Basic.Break.{lone_lf}
use Rattle.yf_comments.specs.Comments.{LineEnd}
use Rattle.yf_comments.specs.Comments.BreakOrEnd.{by_break}
use Rattle.yf_comments.specs.Comments.LineEnd.{past_rest}
use Rattle.yf_comments.specs.Comments.LineRest.{nothing}
use Rattle.yf_grammar.specs.Productions.Meaning.{empty_node, noting, plain_event}
use Rattle.yf_stream.specs.Stream.{Documents, Stream, document_of, with_comments, with_document}
use Rattle.yf_stream.specs.Stream.AnyDocument.{explicit_document}
use Rattle.yf_stream.specs.Stream.ExplicitNode.{marked_nothing}
use Rattle.yf_stream.specs.Stream.Stream.{begins_with_document}
use Rattle.yf_stream.specs.Stream.StreamRest.{past_explicit, stream_ended}
use Rattle.yf_stream.specs.WellFormed.{Shapes}
use Rattle.yf_stream.proofs.LawsHold.{derived_streams_are_shapes}

abbrev two_markers : List ℕ
two_markers = codes "---\n---\n"

two_markers_feed_3 : Break two_markers 3 4
unfolding code begins chars
two_markers_feed_3 = lone_lf refl (λ e. omega (arith, e))

two_markers_feed_7 : Break two_markers 7 8
unfolding code begins chars
two_markers_feed_7 = lone_lf refl (λ e. omega (arith, e))

two_markers_end_3 : LineEnd two_markers 3 4 []
two_markers_end_3 = past_rest (nothing (by_break two_markers_feed_3)) done

two_markers_end_7 : LineEnd two_markers 7 8 []
two_markers_end_7 = past_rest (nothing (by_break two_markers_feed_7)) done

abbrev two_markers_meant : Documents
two_markers_meant = record { documents = document_of 0 true [] (empty_node 3) ∷ document_of 4 true [] (empty_node 7) ∷ []; comments = [] }

two_markers_derived : Stream two_markers 0 two_markers_meant
unfolding code begins chars noting plain_event document_of with_document with_comments is_three empty_node
two_markers_derived = begins_with_document done (explicit_document (marked_nothing refl two_markers_end_3)) (past_explicit (marked_nothing refl two_markers_end_7) stream_ended)

two_markers_ascii : IsAscii two_markers
two_markers_ascii zero = omega arith
two_markers_ascii (suc zero) = omega arith
two_markers_ascii (suc (suc zero)) = omega arith
two_markers_ascii (suc (suc (suc zero))) = omega arith
two_markers_ascii (suc (suc (suc (suc zero)))) = omega arith
two_markers_ascii (suc (suc (suc (suc (suc zero))))) = omega arith
two_markers_ascii (suc (suc (suc (suc (suc (suc zero)))))) = omega arith
two_markers_ascii (suc (suc (suc (suc (suc (suc (suc zero))))))) = omega arith
two_markers_ascii (suc (suc (suc (suc (suc (suc (suc (suc i)))))))) = omega arith

two_markers_read : Shapes two_markers two_markers_meant
two_markers_read = derived_streams_are_shapes two_markers 0 two_markers_meant (IsUtf8-from_ascii two_markers two_markers_ascii) two_markers_derived (omega arith)
