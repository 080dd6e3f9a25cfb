-- Small streams, derived in each way: the node before a comment line may take it, or the prefix of the next document,
-- and both streams have one meaning.
use Rattle.std.proofs.Common.{ℕ, ◌+◌, ◌-ℤ◌, pos, ◌<◌, false, List, [], ◌∷◌, codes, refl, sym, arith}
use Rattle.std.proofs.lemmas.Bool.{true≢false}
use Rattle.std.specs.Str.{chars}
use Rattle.yf_chars.specs.declared.context.Ctx.TheVariants.{FlowOut}
use Rattle.yf_chars.specs.Text.{begins, code, next}
use Rattle.yf_chars.specs.Class.{is_between, is_printable, is_break_char, is_nb_char, is_ns_char, is_white, is_indicator, is_flow_indicator, is_white_or_end}
use Rattle.yf_chars.specs.Chain.{Many}
use Rattle.yf_chars.specs.Chain.Chain.{done, step}
use Rattle.yf_chars.specs.Chain.One.{one}
use Rattle.yf_lines.specs.Basic.{Break, Clear, is_marker, is_three}
use Rattle.yf_lines.specs.Basic.Break.{lone_lf}
use Rattle.yf_lines.specs.Basic.LineStart.{at_text, after_break}
use Rattle.yf_lines.specs.Basic.SeparateInLine.{at_start, by_whites}
use Rattle.yf_lines.proofs.BasicLemmas.{clear_join}
use Rattle.yf_comments.specs.Comment.{CommentValue}
use Rattle.yf_comments.specs.Comments.{CommentLine, CommentText, LineEnd, HasBlankNote, is_gap}
use Rattle.yf_comments.specs.Comments.CommentText.{comment_text}
use Rattle.yf_comments.specs.Comments.BreakOrEnd.{by_break}
use Rattle.yf_comments.specs.Comments.LineRest.{nothing}
use Rattle.yf_comments.specs.Comments.CommentLine.{comment_line}
use Rattle.yf_comments.specs.Comments.LineEnd.{past_rest}
use Rattle.yf_comments.specs.Comments.SeparateLines.{in_line}
use Rattle.yf_comments.specs.Comments.Separate.{in_node}
use Rattle.yf_plain.specs.Plain.{is_plain_first}
use Rattle.yf_plain.specs.Plain.PlainLine.{one_line}
use Rattle.yf_plain.specs.Plain.PlainText.{as_lines}
use Rattle.yf_events.specs.declared.event.ScalarStyle.TheVariants.{Plain}
use Rattle.yf_grammar.specs.Productions.Grammar.{Derives, FlowNode}
use Rattle.yf_grammar.specs.Productions.Grammar.Derives.{flow_node, a_plain, flow_in_block}
use Rattle.yf_grammar.specs.Productions.Meaning.{scalar, meaning_after, noting, plain_event, from_to}
use Rattle.yf_stream.specs.Stream.{RootNode, ContentAt, Document, Documents, Stream, StreamRest, document_of, with_document, with_comments, only_comments}
use Rattle.yf_stream.specs.Stream.ContentAt.{content_at}
use Rattle.yf_stream.specs.Stream.AnyDocument.{bare_document}
use Rattle.yf_stream.specs.Stream.Suffixes.{last_suffix}
use Rattle.yf_stream.specs.Stream.PrefixPart.{prefix_comment}
use Rattle.yf_stream.specs.Stream.StreamRest.{stream_ended, past_prefix, past_suffixes_and_document}
use Rattle.yf_stream.specs.Stream.Stream.{begins_with_document}
use Rattle.yf_stream.proofs.Shown.ShownParts.{clear_one, first_comment, later_comment, unmarked, no_mark}

abbrev pub comment_at : ℕ → CommentValue
comment_at offset = record { text = codes "# c"; offset = offset; blank_before = false }

-- a document without `---` that is the word `a` at the offset
abbrev pub word_document : ℕ → Document
word_document i = document_of i false [] (scalar Plain (codes "a") [] i (i + 1))

-- a comment line, and `a`: the document begins at the `a`
abbrev pub comment_then_word : List ℕ
comment_then_word = codes "# c\na\n"

pub comment_then_word_feed_3 : Break comment_then_word 3 4
unfolding code begins chars
comment_then_word_feed_3 = lone_lf refl (λ e. omega (arith, e))

comment_then_word_feed_5 : Break comment_then_word 5 6
unfolding code begins chars
comment_then_word_feed_5 = lone_lf refl (λ e. omega (arith, e))

comment_then_word_note : HasBlankNote comment_then_word 0 false
unfolding code begins chars is_gap is_white is_break_char unmarked
comment_then_word_note = first_comment comment_then_word

pub comment_then_word_text : CommentText comment_then_word 0 3 (comment_at 0 ∷ [])
unfolding code begins chars next is_nb_char is_printable is_break_char is_between
comment_then_word_text = comment_text refl (step (one refl) (step (one refl) done)) comment_then_word_note

comment_then_word_comment : CommentLine comment_then_word 0 4 (comment_at 0 ∷ [])
comment_then_word_comment = comment_line (at_start at_text) comment_then_word_text (by_break comment_then_word_feed_3)

comment_then_word_word : Derives comment_then_word 0 (FlowNode (pos 0) FlowOut) 4 5 (scalar Plain (codes "a") [] 4 5)
unfolding code begins chars next is_plain_first is_ns_char is_nb_char is_printable is_break_char is_between is_white is_indicator is_flow_indicator lib.Utf8.encode
comment_then_word_word = flow_node {json = false} (a_plain (as_lines refl (one_line refl done) done))

comment_then_word_clear : Clear comment_then_word 4 6
unfolding code begins chars is_marker is_three is_white_or_end is_white is_break_char
comment_then_word_clear = clear_join (clear_one comment_then_word 4 refl) (clear_one comment_then_word 5 refl)

comment_then_word_content : ContentAt comment_then_word 4 4
unfolding code begins chars is_ns_char is_nb_char is_printable is_break_char is_between is_white
comment_then_word_content = content_at (at_start (after_break comment_then_word_feed_3)) refl (λ e. omega (arith, e))

pub comment_then_word_read : Stream comment_then_word 0 (record { documents = word_document 4 ∷ []; comments = comment_at 0 ∷ [] })
unfolding code begins chars next is_white noting meaning_after scalar plain_event from_to document_of with_document with_comments
comment_then_word_read =
    let node = flow_in_block {n = pos 0 -ℤ pos 1} refl (in_node refl (in_line (at_start (after_break comment_then_word_feed_3)))) comment_then_word_word (past_rest (nothing (by_break comment_then_word_feed_5)) done) in
    begins_with_document (step (prefix_comment comment_then_word_comment) done) (bare_document (record { derived = node; clear = comment_then_word_clear }) comment_then_word_content) stream_ended

no_content_at_a_comment : (k : ℕ) → ContentAt comment_then_word 0 k → ⊥
unfolding code begins chars is_white
no_content_at_a_comment k c = none c where
  none : {k : ℕ} → ContentAt comment_then_word 0 k → ⊥
  none (content_at (at_start l) s h) = h refl
  none (content_at (by_whites w l) s h) = no_whites w l where
    no_whites : {j : ℕ} {x : List ℕ} → Many comment_then_word is_white 0 j x → 0 < j → ⊥
    no_whites done l = omega arith
    no_whites (step (one e) r) l = true≢false (sym e)

-- `a`, and a comment line: it is the node's, or is after the document
abbrev pub word_then_comment : List ℕ
word_then_comment = codes "a\n# c\n"

pub word_then_comment_feed_1 : Break word_then_comment 1 2
unfolding code begins chars
word_then_comment_feed_1 = lone_lf refl (λ e. omega (arith, e))

pub word_then_comment_feed_5 : Break word_then_comment 5 6
unfolding code begins chars
word_then_comment_feed_5 = lone_lf refl (λ e. omega (arith, e))

word_then_comment_note : HasBlankNote word_then_comment 2 false
unfolding code begins chars is_gap is_white is_break_char unmarked
word_then_comment_note = later_comment word_then_comment 0 refl refl (λ i l. no_mark word_then_comment 1 i refl (omega arith))

pub word_then_comment_text : CommentText word_then_comment 2 5 (comment_at 2 ∷ [])
unfolding code begins chars next is_nb_char is_printable is_break_char is_between
word_then_comment_text = comment_text refl (step (one refl) (step (one refl) done)) word_then_comment_note

word_then_comment_comment : CommentLine word_then_comment 2 6 (comment_at 2 ∷ [])
word_then_comment_comment = comment_line (at_start (after_break word_then_comment_feed_1)) word_then_comment_text (by_break word_then_comment_feed_5)

word_then_comment_word : Derives word_then_comment 0 (FlowNode (pos 0) FlowOut) 0 1 (scalar Plain (codes "a") [] 0 1)
unfolding code begins chars next is_plain_first is_ns_char is_nb_char is_printable is_break_char is_between is_white is_indicator is_flow_indicator lib.Utf8.encode
word_then_comment_word = flow_node {json = false} (a_plain (as_lines refl (one_line refl done) done))

word_then_comment_clear : Clear word_then_comment 0 6
unfolding code begins chars is_marker is_three is_white_or_end is_white is_break_char
word_then_comment_clear = clear_join (clear_one word_then_comment 0 refl) (clear_join (clear_one word_then_comment 1 refl) (clear_join (clear_one word_then_comment 2 refl) (clear_join (clear_one word_then_comment 3 refl) (clear_join (clear_one word_then_comment 4 refl) (clear_one word_then_comment 5 refl)))))

word_then_comment_clear_short : Clear word_then_comment 0 2
unfolding code begins chars is_marker is_three is_white_or_end is_white is_break_char
word_then_comment_clear_short = clear_join (clear_one word_then_comment 0 refl) (clear_one word_then_comment 1 refl)

word_then_comment_content : ContentAt word_then_comment 0 0
unfolding code begins chars is_ns_char is_nb_char is_printable is_break_char is_between is_white
word_then_comment_content = content_at (at_start at_text) refl (λ e. omega (arith, e))

word_then_comment_end : LineEnd word_then_comment 1 2 []
word_then_comment_end = past_rest (nothing (by_break word_then_comment_feed_1)) done

word_then_comment_end_with : LineEnd word_then_comment 1 6 (comment_at 2 ∷ [])
word_then_comment_end_with = past_rest (nothing (by_break word_then_comment_feed_1)) (step word_then_comment_comment done)

word_then_comment_after : StreamRest word_then_comment 0 2 (only_comments (comment_at 2 ∷ []))
unfolding with_comments
word_then_comment_after = past_prefix (prefix_comment word_then_comment_comment) stream_ended

abbrev pub word_then_comment_meant : Documents
word_then_comment_meant = record { documents = word_document 0 ∷ []; comments = comment_at 2 ∷ [] }

pub word_then_comment_in_node : Stream word_then_comment 0 word_then_comment_meant
unfolding code begins chars next is_white noting meaning_after scalar plain_event from_to document_of with_document with_comments
word_then_comment_in_node =
    let node = flow_in_block {n = pos 0 -ℤ pos 1} refl (in_node refl (in_line (at_start at_text))) word_then_comment_word word_then_comment_end_with in
    begins_with_document done (bare_document (record { derived = node; clear = word_then_comment_clear }) word_then_comment_content) stream_ended

word_then_comment_after_node : Stream word_then_comment 0 word_then_comment_meant
unfolding code begins chars next is_white noting meaning_after scalar plain_event from_to document_of with_document with_comments
word_then_comment_after_node =
    let node = flow_in_block {n = pos 0 -ℤ pos 1} refl (in_node refl (in_line (at_start at_text))) word_then_comment_word word_then_comment_end in
    begins_with_document done (bare_document (record { derived = node; clear = word_then_comment_clear_short }) word_then_comment_content) word_then_comment_after

-- two documents: the comment line is taken with the `...`, or is before the second one
abbrev two_documents : List ℕ
two_documents = codes "a\n...\n# c\nb\n"

two_documents_feed_1 : Break two_documents 1 2
unfolding code begins chars
two_documents_feed_1 = lone_lf refl (λ e. omega (arith, e))

two_documents_feed_5 : Break two_documents 5 6
unfolding code begins chars
two_documents_feed_5 = lone_lf refl (λ e. omega (arith, e))

two_documents_feed_9 : Break two_documents 9 10
unfolding code begins chars
two_documents_feed_9 = lone_lf refl (λ e. omega (arith, e))

two_documents_feed_11 : Break two_documents 11 12
unfolding code begins chars
two_documents_feed_11 = lone_lf refl (λ e. omega (arith, e))

two_documents_note : HasBlankNote two_documents 6 false
unfolding code begins chars is_gap is_white is_break_char unmarked
two_documents_note = later_comment two_documents 4 refl refl (λ i l. no_mark two_documents 5 i refl (omega arith))

two_documents_comment : CommentLine two_documents 6 10 (comment_at 6 ∷ [])
unfolding code begins chars next is_nb_char is_printable is_break_char is_between
two_documents_comment = comment_line (at_start (after_break two_documents_feed_5)) (comment_text refl (step (one refl) (step (one refl) done)) two_documents_note) (by_break two_documents_feed_9)

two_documents_word : Derives two_documents 0 (FlowNode (pos 0) FlowOut) 0 1 (scalar Plain (codes "a") [] 0 1)
unfolding code begins chars next is_plain_first is_ns_char is_nb_char is_printable is_break_char is_between is_white is_indicator is_flow_indicator lib.Utf8.encode
two_documents_word = flow_node {json = false} (a_plain (as_lines refl (one_line refl done) done))

two_documents_word_b : Derives two_documents 0 (FlowNode (pos 0) FlowOut) 10 11 (scalar Plain (codes "b") [] 10 11)
unfolding code begins chars next is_plain_first is_ns_char is_nb_char is_printable is_break_char is_between is_white is_indicator is_flow_indicator lib.Utf8.encode
two_documents_word_b = flow_node {json = false} (a_plain (as_lines refl (one_line refl done) done))

two_documents_clear : Clear two_documents 0 2
unfolding code begins chars is_marker is_three is_white_or_end is_white is_break_char
two_documents_clear = clear_join (clear_one two_documents 0 refl) (clear_one two_documents 1 refl)

two_documents_clear_b : Clear two_documents 10 12
unfolding code begins chars is_marker is_three is_white_or_end is_white is_break_char
two_documents_clear_b = clear_join (clear_one two_documents 10 refl) (clear_one two_documents 11 refl)

two_documents_content : ContentAt two_documents 0 0
unfolding code begins chars is_ns_char is_nb_char is_printable is_break_char is_between is_white
two_documents_content = content_at (at_start at_text) refl (λ e. omega (arith, e))

two_documents_content_b : ContentAt two_documents 10 10
unfolding code begins chars is_ns_char is_nb_char is_printable is_break_char is_between is_white
two_documents_content_b = content_at (at_start (after_break two_documents_feed_9)) refl (λ e. omega (arith, e))

two_documents_end : LineEnd two_documents 5 6 []
two_documents_end = past_rest (nothing (by_break two_documents_feed_5)) done

two_documents_end_with : LineEnd two_documents 5 10 (comment_at 6 ∷ [])
two_documents_end_with = past_rest (nothing (by_break two_documents_feed_5)) (step two_documents_comment done)

abbrev two_documents_meant : Documents
two_documents_meant = record { documents = word_document 0 ∷ document_of 10 false [] (scalar Plain (codes "b") [] 10 11) ∷ []; comments = comment_at 6 ∷ [] }

two_documents_a : RootNode two_documents 0 0 2 (scalar Plain (codes "a") [] 0 1)
unfolding code begins chars noting meaning_after scalar
two_documents_a = record {
  derived = flow_in_block {n = pos 0 -ℤ pos 1} refl (in_node refl (in_line (at_start at_text))) two_documents_word (past_rest (nothing (by_break two_documents_feed_1)) done);
  clear = two_documents_clear;
}

two_documents_b : RootNode two_documents 0 10 12 (scalar Plain (codes "b") [] 10 11)
unfolding code begins chars noting meaning_after scalar
two_documents_b = record {
  derived = flow_in_block {n = pos 0 -ℤ pos 1} refl (in_node refl (in_line (at_start (after_break two_documents_feed_9)))) two_documents_word_b
      (past_rest (nothing (by_break two_documents_feed_11)) done);
  clear = two_documents_clear_b;
}

two_documents_with_marker : Stream two_documents 0 two_documents_meant
unfolding code begins chars next is_white noting meaning_after scalar plain_event from_to document_of with_document with_comments is_three
two_documents_with_marker =
    begins_with_document done (bare_document two_documents_a two_documents_content)
    (past_suffixes_and_document (last_suffix refl two_documents_end_with) done (bare_document two_documents_b two_documents_content_b) stream_ended)

two_documents_before_document : Stream two_documents 0 two_documents_meant
unfolding code begins chars next is_white noting meaning_after scalar plain_event from_to document_of with_document with_comments is_three
two_documents_before_document =
    begins_with_document done (bare_document two_documents_a two_documents_content)
    (past_suffixes_and_document (last_suffix refl two_documents_end) (step (prefix_comment two_documents_comment) done) (bare_document two_documents_b two_documents_content_b) stream_ended)
