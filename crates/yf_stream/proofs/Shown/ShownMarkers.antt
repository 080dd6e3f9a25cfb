-- Further small streams, derived in each way: a comment line after a block collection, after a node on the line of a
-- marker, and after a marker without a node.
use Rattle.std.proofs.Common.{ℕ, ◌-ℤ◌, pos, true, false, List, [], ◌∷◌, None, codes, refl, arith}
use Rattle.std.specs.Str.{chars}
use Rattle.yf_chars.specs.declared.context.Ctx.TheVariants.{FlowOut}
use Rattle.yf_chars.specs.Text.{begins, code, next}
use Rattle.yf_chars.specs.Class.{is_between, is_printable, is_break_char, is_nb_char, is_ns_char, is_white, is_indicator, is_flow_indicator, is_white_or_end}
use Rattle.yf_chars.specs.Chain.Chain.{done, step}
use Rattle.yf_chars.specs.Chain.One.{one}
use Rattle.yf_lines.specs.Basic.{Break, Clear, SeparateInLine, Spaces, is_marker, is_three}
use Rattle.yf_lines.specs.Basic.Break.{lone_lf}
use Rattle.yf_lines.specs.Basic.LineStart.{at_text, after_break}
use Rattle.yf_lines.specs.Basic.SeparateInLine.{at_start, by_whites}
use Rattle.yf_lines.proofs.BasicLemmas.{clear_join}
use Rattle.yf_comments.specs.Comments.{CommentLine, CommentText, LineEnd, HasBlankNote, is_gap}
use Rattle.yf_comments.specs.Comments.CommentText.{comment_text}
use Rattle.yf_comments.specs.Comments.BreakOrEnd.{by_break}
use Rattle.yf_comments.specs.Comments.LineRest.{nothing}
use Rattle.yf_comments.specs.Comments.CommentLine.{comment_line}
use Rattle.yf_comments.specs.Comments.LineEnd.{past_rest, from_start}
use Rattle.yf_comments.specs.Comments.SeparateLines.{in_line}
use Rattle.yf_comments.specs.Comments.Separate.{in_node}
use Rattle.yf_plain.specs.Plain.{is_plain_first}
use Rattle.yf_plain.specs.Plain.PlainLine.{one_line}
use Rattle.yf_plain.specs.Plain.PlainText.{as_lines}
use Rattle.yf_events.specs.declared.event.ScalarStyle.TheVariants.{Plain}
use Rattle.yf_grammar.specs.Productions.Grammar.{Derives, FlowNode}
use Rattle.yf_grammar.specs.Productions.Grammar.Derives.{flow_node, a_plain, flow_in_block, a_block_collection, a_last_entry, a_dash_entry, an_indented_node}
use Rattle.yf_grammar.specs.Productions.Meaning.{Meaning, scalar, meaning_after, noting, plain_event, from_to, empty_node, collection, entering}
use Rattle.yf_stream.specs.Stream.{ContentAt, Documents, Stream, StreamRest, document_of, with_document, with_comments, only_comments}
use Rattle.yf_stream.specs.Stream.ContentAt.{content_at}
use Rattle.yf_stream.specs.Stream.AnyDocument.{bare_document, explicit_document}
use Rattle.yf_stream.specs.Stream.ExplicitNode.{marked_node, marked_nothing}
use Rattle.yf_stream.specs.Stream.PrefixPart.{prefix_comment}
use Rattle.yf_stream.specs.Stream.StreamRest.{stream_ended, past_prefix, past_explicit}
use Rattle.yf_stream.specs.Stream.Stream.{begins_with_document, without_document}
use Rattle.yf_stream.proofs.Shown.ShownParts.{clear_one, later_comment, unmarked, no_mark}
use Rattle.yf_stream.proofs.Shown.ShownStreams.{comment_at}

-- a sequence, and a comment line: it is the last item's, or is after the document
abbrev pub item_then_comment : List ℕ
item_then_comment = codes "- a\n# c\n"

pub item_then_comment_feed_3 : Break item_then_comment 3 4
unfolding code begins chars
item_then_comment_feed_3 = lone_lf refl (λ e. omega (arith, e))

pub item_then_comment_feed_7 : Break item_then_comment 7 8
unfolding code begins chars
item_then_comment_feed_7 = lone_lf refl (λ e. omega (arith, e))

item_then_comment_note : HasBlankNote item_then_comment 4 false
unfolding code begins chars is_gap is_white is_break_char unmarked
item_then_comment_note = later_comment item_then_comment 2 refl refl (λ i l. no_mark item_then_comment 3 i refl (omega arith))

pub item_then_comment_text : CommentText item_then_comment 4 7 (comment_at 4 ∷ [])
unfolding code begins chars next is_nb_char is_printable is_break_char is_between
item_then_comment_text = comment_text refl (step (one refl) (step (one refl) done)) item_then_comment_note

item_then_comment_comment : CommentLine item_then_comment 4 8 (comment_at 4 ∷ [])
item_then_comment_comment = comment_line (at_start (after_break item_then_comment_feed_3)) item_then_comment_text (by_break item_then_comment_feed_7)

item_then_comment_word : Derives item_then_comment 0 (FlowNode (pos 1) FlowOut) 2 3 (scalar Plain (codes "a") [] 2 3)
unfolding code begins chars next is_plain_first is_ns_char is_nb_char is_printable is_break_char is_between is_white is_indicator is_flow_indicator lib.Utf8.encode
item_then_comment_word = flow_node {json = false} (a_plain (as_lines refl (one_line refl done) done))

item_then_comment_clear : Clear item_then_comment 0 8
unfolding code begins chars is_marker is_three is_white_or_end is_white is_break_char
item_then_comment_clear = clear_join (clear_one item_then_comment 0 refl) (clear_join (clear_one item_then_comment 1 refl) (clear_join (clear_one item_then_comment 2 refl) (clear_join (clear_one item_then_comment 3 refl) (clear_join (clear_one item_then_comment 4 refl) (clear_join (clear_one item_then_comment 5 refl) (clear_join (clear_one item_then_comment 6 refl) (clear_one item_then_comment 7 refl)))))))

item_then_comment_clear_short : Clear item_then_comment 0 4
unfolding code begins chars is_marker is_three is_white_or_end is_white is_break_char
item_then_comment_clear_short = clear_join (clear_one item_then_comment 0 refl) (clear_join (clear_one item_then_comment 1 refl) (clear_join (clear_one item_then_comment 2 refl) (clear_one item_then_comment 3 refl)))

item_then_comment_content : ContentAt item_then_comment 0 0
unfolding code begins chars is_ns_char is_nb_char is_printable is_break_char is_between is_white
item_then_comment_content = content_at (at_start at_text) refl (λ e. omega (arith, e))

item_then_comment_end : LineEnd item_then_comment 3 4 []
item_then_comment_end = past_rest (nothing (by_break item_then_comment_feed_3)) done

item_then_comment_end_with : LineEnd item_then_comment 3 8 (comment_at 4 ∷ [])
item_then_comment_end_with = past_rest (nothing (by_break item_then_comment_feed_3)) (step item_then_comment_comment done)

item_then_comment_after : StreamRest item_then_comment 0 4 (only_comments (comment_at 4 ∷ []))
unfolding with_comments
item_then_comment_after = past_prefix (prefix_comment item_then_comment_comment) stream_ended

item_then_comment_space : SeparateInLine item_then_comment 1 2
unfolding code begins chars next is_white
item_then_comment_space = by_whites (step (one refl) done) (omega arith)

no_spaces : Spaces item_then_comment 0 0
no_spaces = record { each = λ m l. omega arith }

abbrev pub item_then_comment_node : Meaning
item_then_comment_node = collection true false 0 3 (entering 0 None (scalar Plain (codes "a") [] 2 3))

abbrev pub item_then_comment_meant : Documents
item_then_comment_meant = record { documents = document_of 0 false [] item_then_comment_node ∷ []; comments = comment_at 4 ∷ [] }

pub item_then_comment_in_node : Stream item_then_comment 1 item_then_comment_meant
unfolding code begins chars next is_white noting meaning_after scalar plain_event from_to document_of with_document with_comments collection entering is_ns_char is_nb_char is_printable is_break_char is_between
item_then_comment_in_node =
    let entry = a_dash_entry refl refl (an_indented_node (flow_in_block {n = pos 0} refl (in_node refl (in_line item_then_comment_space)) item_then_comment_word item_then_comment_end_with)) in
    let node = a_block_collection {sequence = true} {n = pos 0 -ℤ pos 1} refl (from_start at_text done) no_spaces _ (a_last_entry entry) in
    begins_with_document done (bare_document (record { derived = node; clear = item_then_comment_clear }) item_then_comment_content) stream_ended

item_then_comment_after_node : Stream item_then_comment 1 item_then_comment_meant
unfolding code begins chars next is_white noting meaning_after scalar plain_event from_to document_of with_document with_comments collection entering is_ns_char is_nb_char is_printable is_break_char is_between
item_then_comment_after_node =
    let entry = a_dash_entry refl refl (an_indented_node (flow_in_block {n = pos 0} refl (in_node refl (in_line item_then_comment_space)) item_then_comment_word item_then_comment_end)) in
    let node = a_block_collection {sequence = true} {n = pos 0 -ℤ pos 1} refl (from_start at_text done) no_spaces _ (a_last_entry entry) in
    begins_with_document done (bare_document (record { derived = node; clear = item_then_comment_clear_short }) item_then_comment_content) item_then_comment_after

-- `a` on the line of the marker, and a comment line
abbrev pub marked_word_then_comment : List ℕ
marked_word_then_comment = codes "--- a\n# c\n"

pub marked_word_then_comment_feed_5 : Break marked_word_then_comment 5 6
unfolding code begins chars
marked_word_then_comment_feed_5 = lone_lf refl (λ e. omega (arith, e))

pub marked_word_then_comment_feed_9 : Break marked_word_then_comment 9 10
unfolding code begins chars
marked_word_then_comment_feed_9 = lone_lf refl (λ e. omega (arith, e))

marked_word_then_comment_note : HasBlankNote marked_word_then_comment 6 false
unfolding code begins chars is_gap is_white is_break_char unmarked
marked_word_then_comment_note = later_comment marked_word_then_comment 4 refl refl (λ i l. no_mark marked_word_then_comment 5 i refl (omega arith))

pub marked_word_then_comment_text : CommentText marked_word_then_comment 6 9 (comment_at 6 ∷ [])
unfolding code begins chars next is_nb_char is_printable is_break_char is_between
marked_word_then_comment_text = comment_text refl (step (one refl) (step (one refl) done)) marked_word_then_comment_note

marked_word_then_comment_comment : CommentLine marked_word_then_comment 6 10 (comment_at 6 ∷ [])
marked_word_then_comment_comment = comment_line (at_start (after_break marked_word_then_comment_feed_5)) marked_word_then_comment_text (by_break marked_word_then_comment_feed_9)

marked_word_then_comment_word : Derives marked_word_then_comment 0 (FlowNode (pos 0) FlowOut) 4 5 (scalar Plain (codes "a") [] 4 5)
unfolding code begins chars next is_plain_first is_ns_char is_nb_char is_printable is_break_char is_between is_white is_indicator is_flow_indicator lib.Utf8.encode
marked_word_then_comment_word = flow_node {json = false} (a_plain (as_lines refl (one_line refl done) done))

marked_word_then_comment_clear : Clear marked_word_then_comment 3 10
unfolding code begins chars is_marker is_three is_white_or_end is_white is_break_char
marked_word_then_comment_clear = clear_join (clear_one marked_word_then_comment 3 refl) (clear_join (clear_one marked_word_then_comment 4 refl) (clear_join (clear_one marked_word_then_comment 5 refl) (clear_join (clear_one marked_word_then_comment 6 refl) (clear_join (clear_one marked_word_then_comment 7 refl) (clear_join (clear_one marked_word_then_comment 8 refl) (clear_one marked_word_then_comment 9 refl))))))

marked_word_then_comment_clear_short : Clear marked_word_then_comment 3 6
unfolding code begins chars is_marker is_three is_white_or_end is_white is_break_char
marked_word_then_comment_clear_short = clear_join (clear_one marked_word_then_comment 3 refl) (clear_join (clear_one marked_word_then_comment 4 refl) (clear_one marked_word_then_comment 5 refl))

marked_word_then_comment_end : LineEnd marked_word_then_comment 5 6 []
marked_word_then_comment_end = past_rest (nothing (by_break marked_word_then_comment_feed_5)) done

marked_word_then_comment_end_with : LineEnd marked_word_then_comment 5 10 (comment_at 6 ∷ [])
marked_word_then_comment_end_with = past_rest (nothing (by_break marked_word_then_comment_feed_5)) (step marked_word_then_comment_comment done)

marked_word_then_comment_after : StreamRest marked_word_then_comment 0 6 (only_comments (comment_at 6 ∷ []))
unfolding with_comments
marked_word_then_comment_after = past_prefix (prefix_comment marked_word_then_comment_comment) stream_ended

marked_word_then_comment_space : SeparateInLine marked_word_then_comment 3 4
unfolding code begins chars next is_white
marked_word_then_comment_space = by_whites (step (one refl) done) (omega arith)

abbrev pub marked_word_then_comment_meant : Documents
marked_word_then_comment_meant = record { documents = document_of 0 true [] (scalar Plain (codes "a") [] 4 5) ∷ []; comments = comment_at 6 ∷ [] }

pub marked_word_then_comment_in_node : Stream marked_word_then_comment 0 marked_word_then_comment_meant
unfolding code begins chars next is_white noting meaning_after scalar plain_event from_to document_of with_document with_comments is_three
marked_word_then_comment_in_node =
    let node = flow_in_block {n = pos 0 -ℤ pos 1} refl (in_node refl (in_line marked_word_then_comment_space)) marked_word_then_comment_word marked_word_then_comment_end_with in
    begins_with_document done (explicit_document (marked_node refl (record { derived = node; clear = marked_word_then_comment_clear }))) stream_ended

marked_word_then_comment_after_node : Stream marked_word_then_comment 0 marked_word_then_comment_meant
unfolding code begins chars next is_white noting meaning_after scalar plain_event from_to document_of with_document with_comments is_three
marked_word_then_comment_after_node =
    let node = flow_in_block {n = pos 0 -ℤ pos 1} refl (in_node refl (in_line marked_word_then_comment_space)) marked_word_then_comment_word marked_word_then_comment_end in
    begins_with_document done (explicit_document (marked_node refl (record { derived = node; clear = marked_word_then_comment_clear_short }))) marked_word_then_comment_after

-- a marker with nothing after it, and a comment line; the document may also count as one that follows
abbrev pub marker_then_comment : List ℕ
marker_then_comment = codes "---\n# c\n"

pub marker_then_comment_feed_3 : Break marker_then_comment 3 4
unfolding code begins chars
marker_then_comment_feed_3 = lone_lf refl (λ e. omega (arith, e))

pub marker_then_comment_feed_7 : Break marker_then_comment 7 8
unfolding code begins chars
marker_then_comment_feed_7 = lone_lf refl (λ e. omega (arith, e))

marker_then_comment_note : HasBlankNote marker_then_comment 4 false
unfolding code begins chars is_gap is_white is_break_char unmarked
marker_then_comment_note = later_comment marker_then_comment 2 refl refl (λ i l. no_mark marker_then_comment 3 i refl (omega arith))

pub marker_then_comment_text : CommentText marker_then_comment 4 7 (comment_at 4 ∷ [])
unfolding code begins chars next is_nb_char is_printable is_break_char is_between
marker_then_comment_text = comment_text refl (step (one refl) (step (one refl) done)) marker_then_comment_note

marker_then_comment_comment : CommentLine marker_then_comment 4 8 (comment_at 4 ∷ [])
marker_then_comment_comment = comment_line (at_start (after_break marker_then_comment_feed_3)) marker_then_comment_text (by_break marker_then_comment_feed_7)

marker_then_comment_end : LineEnd marker_then_comment 3 4 []
marker_then_comment_end = past_rest (nothing (by_break marker_then_comment_feed_3)) done

marker_then_comment_end_with : LineEnd marker_then_comment 3 8 (comment_at 4 ∷ [])
marker_then_comment_end_with = past_rest (nothing (by_break marker_then_comment_feed_3)) (step marker_then_comment_comment done)

marker_then_comment_after : StreamRest marker_then_comment 0 4 (only_comments (comment_at 4 ∷ []))
unfolding with_comments
marker_then_comment_after = past_prefix (prefix_comment marker_then_comment_comment) stream_ended

abbrev pub marker_then_comment_meant : Documents
marker_then_comment_meant = record { documents = document_of 0 true [] (empty_node 3) ∷ []; comments = comment_at 4 ∷ [] }

pub marker_then_comment_with_marker : Stream marker_then_comment 0 marker_then_comment_meant
unfolding code begins chars next is_white noting meaning_after scalar plain_event from_to document_of with_document with_comments is_three empty_node
marker_then_comment_with_marker = begins_with_document done (explicit_document (marked_nothing refl marker_then_comment_end_with)) stream_ended

marker_then_comment_after_document : Stream marker_then_comment 0 marker_then_comment_meant
unfolding code begins chars next is_white noting meaning_after scalar plain_event from_to document_of with_document with_comments is_three empty_node
marker_then_comment_after_document = begins_with_document done (explicit_document (marked_nothing refl marker_then_comment_end)) marker_then_comment_after

marker_then_comment_as_further_document : Stream marker_then_comment 0 marker_then_comment_meant
unfolding code begins chars next is_white noting meaning_after scalar plain_event from_to document_of with_document with_comments is_three empty_node
marker_then_comment_as_further_document = without_document done (past_explicit (marked_nothing refl marker_then_comment_end) marker_then_comment_after)
