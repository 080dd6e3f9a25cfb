-- Small block nodes, each with the reader's outcome there, written out by hand: so it has one.
use Rattle.std.proofs.Common.{◌≡◌, ℕ, suc, zero, ◌+◌, ◌<◌, pos, negsuc, true, false, List, [], ◌∷◌, Some, None, codes, refl, arith}
use Rattle.std.proofs.lemmas.Int.{ints}
use Rattle.std.specs.Str.{IsUtf8, chars}
use lib.Utf8.{encode}
use Rattle.yf_chars.specs.declared.context.Ctx.TheVariants.{BlockOut, BlockIn}
use Rattle.yf_chars.specs.Text.{begins, code, next}
use Rattle.yf_chars.specs.Class.{is_ns_char, is_nb_char, is_printable, is_between, is_break_char, is_white, is_white_or_end}
use Rattle.yf_chars.specs.Chain.{Many, Stuck, Chosen}
use Rattle.yf_chars.specs.Chain.Chain.{done, step}
use Rattle.yf_chars.specs.Chain.One.{one}
use Rattle.yf_lines.specs.Basic.{Break, Spaces, is_marker, is_three}
use Rattle.yf_lines.specs.Basic.LineStart.{after_break}
use Rattle.yf_lines.specs.Basic.SeparateInLine.{at_start}
use Rattle.yf_comments.specs.Comment.{CommentValue}
use Rattle.yf_comments.specs.Comments.{LineEnd, HasBlankNote, not_noted, is_gap}
use Rattle.yf_comments.specs.Comments.BreakOrEnd.{by_break, by_end}
use Rattle.yf_comments.specs.Comments.CommentLine.{comment_line, whites_line}
use Rattle.yf_comments.specs.Comments.CommentText.{comment_text}
use Rattle.yf_comments.specs.Comments.LineEnd.{past_rest}
use Rattle.yf_comments.specs.Comments.LineRest.{nothing}
use Rattle.yf_comments.proofs.LineEndLemmas.{line_end_chosen, row_stuck_end}
use Rattle.yf_comments.proofs.NoteKnown.{none_after}
use Rattle.yf_grammar.specs.Productions.Meaning.{◌⊕◌, meaning_after, noting, empty_node, collection, entering}
use Rattle.yf_grammar.specs.Productions.Grammar.{BlockNode, Derives, a_block_collection, a_last_entry, a_dash_entry, nothing_indented, ColonLine}
use Rattle.yf_grammar.specs.FlowReader.Parser.{found}
use Rattle.yf_grammar.specs.BlockReader.BlockParser.{LinesEnd, text_ends, marker_is_at, LineText, DashAt, SignAt, line_first, line_dashed, LineColumns, column_there, column_not, compact_columns, NoNode, Nothing, past, outcome_after, alone, headed, Awaited, collected, item_found, lone_key, lone_value, pair_found, by_question, by_colon, Whole}
use Rattle.yf_grammar.specs.BlockReader.BlockParser.Whole.{awaited_below, awaited_inline, below_alone, below_node, sequence_read, mapping_read, items_last, item_read, question_alone, question_and_value, colon_read}
use Rattle.yf_grammar.proofs.Ends.BlankRuns.{after_byte}
use Rattle.yf_grammar.proofs.Shown.ShownParts.{seen, feed, line_at, no_spaces, text_start, line_ends, text_stops, no_node, no_deep_node, no_entry, goes_on}

-- at the first line of a document both kinds of collections may begin
pub root_columns : LineColumns (negsuc 0) BlockIn 0 0 0 (record { sequence = Some 0; mapping = Some 0 })
root_columns = record { sequence = column_there refl (omega (arith, ints)); mapping = column_there refl (omega (arith, ints)) }

-- a `-` and a blank line, which the node takes
abbrev dash_blank : List ℕ
dash_blank = codes "-\n\n"

dash_blank_dash : DashAt dash_blank 0
unfolding code begins chars is_ns_char is_nb_char is_printable is_between is_break_char is_white
dash_blank_dash = record { dash = refl; follows = refl }

dash_blank_line : LineText dash_blank 0 0 0
unfolding code begins chars is_ns_char is_nb_char is_printable is_between is_break_char is_white is_marker is_three is_white_or_end
dash_blank_line = line_at 0 0 (no_spaces 0) (seen 0 refl refl) refl

dash_blank_end : Chosen (LineEnd dash_blank 1) 3 []
unfolding code begins chars
dash_blank_end =
    let b = feed {t = dash_blank} 1 refl refl in
    line_end_chosen (past_rest (nothing (by_break b)) (step (whites_line (at_start (after_break b)) (by_break (feed 2 refl refl))) done)) (row_stuck_end refl)

dash_blank_read : Whole dash_blank 1 (Awaited false (negsuc 0) BlockIn Nothing 0) (found 3 1 false (collection true false 0 1 (entering 0 None (empty_node 1))))
unfolding past outcome_after alone headed collected item_found found meaning_after noting empty_node collection entering
dash_blank_read =
    awaited_below (text_start dash_blank_line)
    (below_node (text_start dash_blank_line) dash_blank_line (line_first refl) root_columns
    (sequence_read refl dash_blank_dash (items_last (item_read dash_blank_dash (awaited_below dash_blank_end (below_alone dash_blank_end (no_node (text_ends refl))))) (no_entry (text_ends refl)))))

-- the grammar may leave the blank line out as well
dash_blank_derived : {j : ℕ} → LineEnd dash_blank 1 j [] → Derives dash_blank 1 (BlockNode (negsuc 0) BlockIn) 0 j (collection true false 0 1 (entering 0 None (empty_node 1)))
unfolding code begins chars is_ns_char is_nb_char is_printable is_between is_break_char is_white meaning_after noting empty_node collection entering
dash_blank_derived e =
    a_block_collection refl (text_start dash_blank_line).derived (no_spaces 0) (omega (arith, ints)) (a_last_entry (a_dash_entry refl refl (nothing_indented refl e)))

dash_blank_short : Derives dash_blank 1 (BlockNode (negsuc 0) BlockIn) 0 2 (collection true false 0 1 (entering 0 None (empty_node 1)))
unfolding code begins chars
dash_blank_short = dash_blank_derived (past_rest (nothing (by_break (feed 1 refl refl))) done)

dash_blank_long : Derives dash_blank 1 (BlockNode (negsuc 0) BlockIn) 0 3 (collection true false 0 1 (entering 0 None (empty_node 1)))
dash_blank_long = dash_blank_derived dash_blank_end.derived

-- a `-` and a comment line, which the node takes with its comment
abbrev dash_comment : List ℕ
dash_comment = codes "-\n#"

dash_comment_utf8 : IsUtf8 dash_comment
unfolding encode
dash_comment_utf8 = (codes "-\n#", (refl, refl))

dash_comment_dash : DashAt dash_comment 0
unfolding code begins chars is_ns_char is_nb_char is_printable is_between is_break_char is_white
dash_comment_dash = record { dash = refl; follows = refl }

dash_comment_line : LineText dash_comment 0 0 0
unfolding code begins chars is_ns_char is_nb_char is_printable is_between is_break_char is_white is_marker is_three is_white_or_end
dash_comment_line = line_at 0 0 (no_spaces 0) (seen 0 refl refl) refl

dash_comment_feed : Break dash_comment 1 2
unfolding code begins chars
dash_comment_feed = feed 1 refl refl

dash_comment_note : HasBlankNote dash_comment 2 false
unfolding code begins chars next is_gap is_white is_break_char
dash_comment_note = not_noted (none_after 0 dash_comment_utf8 (omega arith) refl refl dash_comment_feed)

abbrev remark : CommentValue
remark = record { text = codes "#"; offset = 2; blank_before = false }

dash_comment_end : Chosen (LineEnd dash_comment 1) 3 (remark ∷ [])
unfolding code begins chars
dash_comment_end = line_end_chosen
    (past_rest (nothing (by_break dash_comment_feed)) (step (comment_line (at_start (after_break dash_comment_feed)) (comment_text refl done dash_comment_note) (by_end refl)) done))
    (row_stuck_end refl)

dash_comment_read : Whole dash_comment 1 (Awaited false (negsuc 0) BlockIn Nothing 0)
    (found 3 1 false (collection true false 0 1 (entering 0 None (noting (empty_node 1) (remark ∷ [])))))
unfolding past outcome_after alone headed collected item_found found meaning_after noting empty_node collection entering
dash_comment_read =
    awaited_below (text_start dash_comment_line)
    (below_node (text_start dash_comment_line) dash_comment_line (line_first refl) root_columns
    (sequence_read refl dash_comment_dash (items_last (item_read dash_comment_dash (awaited_below dash_comment_end (below_alone dash_comment_end (no_node (text_ends refl))))) (no_entry (text_ends refl)))))

-- only a `?`: its value is empty
abbrev question : List ℕ
question = codes "?"

question_sign : SignAt question 63 0
unfolding code begins chars is_white_or_end is_white is_break_char
question_sign = record { sign_is_at = refl; follows = refl }

question_line : LineText question 0 0 0
unfolding code begins chars is_ns_char is_nb_char is_printable is_between is_break_char is_white is_marker is_three is_white_or_end
question_line = line_at 0 0 (no_spaces 0) (seen 0 refl refl) refl

question_read : Whole question 1 (Awaited false (negsuc 0) BlockIn Nothing 0) (found 1 1 false (collection false false 0 1 (entering 0 None (empty_node 1) ⊕ empty_node 1)))
unfolding code begins chars past outcome_after alone headed collected lone_key found meaning_after noting empty_node collection entering ◌⊕◌
question_read =
    awaited_below (text_start question_line)
    (below_node (text_start question_line) question_line (line_first refl) root_columns
    (mapping_read (λ d. omega (arith, d.dash)) refl (by_question question_sign)
    (items_last (question_alone question_sign (awaited_below (text_stops refl) (below_alone (text_stops refl) (no_node (text_ends refl)))) (λ c. omega (arith, c.colon))) (no_entry (text_ends refl)))))

-- a `?`, and its `:` on the next line
abbrev question_colon : List ℕ
question_colon = codes "?\n:"

question_colon_sign : SignAt question_colon 63 0
unfolding code begins chars is_white_or_end is_white is_break_char
question_colon_sign = record { sign_is_at = refl; follows = refl }

question_colon_line : LineText question_colon 0 0 0
unfolding code begins chars is_ns_char is_nb_char is_printable is_between is_break_char is_white is_marker is_three is_white_or_end
question_colon_line = line_at 0 0 (no_spaces 0) (seen 0 refl refl) refl

question_colon_next : LineText question_colon 2 0 2
unfolding code begins chars is_ns_char is_nb_char is_printable is_between is_break_char is_white is_marker is_three is_white_or_end
question_colon_next = line_at 2 0 (no_spaces 2) (seen 2 refl refl) refl

question_colon_end : Chosen (LineEnd question_colon 1) 2 []
unfolding code begins chars is_ns_char is_nb_char is_printable is_between is_break_char is_white
question_colon_end = line_ends (feed 1 refl refl) (seen 2 refl refl)

question_colon_colon : ColonLine question_colon 0 2
unfolding code begins chars is_white_or_end is_white is_break_char
question_colon_colon = record { indent = no_spaces 2; colon = refl; follows = refl }

question_colon_no_node : NoNode question_colon (pos 0) BlockOut 1 2
unfolding code begins chars
question_colon_no_node = no_deep_node question_colon_next refl (λ e. omega arith)

question_colon_read : Whole question_colon 1 (Awaited false (negsuc 0) BlockIn Nothing 0)
    (found 3 1 false (collection false false 0 3 (entering 0 (Some 2) (empty_node 1) ⊕ empty_node 3)))
unfolding code begins chars past outcome_after alone headed collected pair_found found meaning_after noting empty_node collection entering ◌⊕◌
question_colon_read =
    awaited_below (text_start question_colon_line)
    (below_node (text_start question_colon_line) question_colon_line (line_first refl) root_columns
    (mapping_read (λ d. omega (arith, d.dash)) refl (by_question question_colon_sign)
    (items_last
    (question_and_value question_colon_sign (awaited_below question_colon_end (below_alone question_colon_end question_colon_no_node)) question_colon_colon
    (awaited_below (text_stops refl) (below_alone (text_stops refl) (no_node (text_ends refl)))))
    (no_entry (text_ends refl)))))

-- a `:` without a key, and a sequence at its column
abbrev colon_dash : List ℕ
colon_dash = codes ":\n-"

colon_dash_sign : SignAt colon_dash 58 0
unfolding code begins chars is_white_or_end is_white is_break_char
colon_dash_sign = record { sign_is_at = refl; follows = refl }

colon_dash_line : LineText colon_dash 0 0 0
unfolding code begins chars is_ns_char is_nb_char is_printable is_between is_break_char is_white is_marker is_three is_white_or_end
colon_dash_line = line_at 0 0 (no_spaces 0) (seen 0 refl refl) refl

colon_dash_next : LineText colon_dash 2 0 2
unfolding code begins chars is_ns_char is_nb_char is_printable is_between is_break_char is_white is_marker is_three is_white_or_end
colon_dash_next = line_at 2 0 (no_spaces 2) (seen 2 refl refl) refl

colon_dash_end : Chosen (LineEnd colon_dash 1) 2 []
unfolding code begins chars is_ns_char is_nb_char is_printable is_between is_break_char is_white
colon_dash_end = line_ends (feed 1 refl refl) (seen 2 refl refl)

colon_dash_dash : DashAt colon_dash 2
unfolding code begins chars is_ns_char is_nb_char is_printable is_between is_break_char is_white
colon_dash_dash = record { dash = refl; follows = refl }

colon_dash_read : Whole colon_dash 2 (Awaited false (negsuc 0) BlockIn Nothing 0)
    (found 3 2 false (collection false false 0 3 (entering 0 (Some 0) (empty_node 0) ⊕ collection true false 2 3 (entering 2 None (empty_node 3)))))
unfolding code begins chars past outcome_after alone headed collected item_found lone_value found meaning_after noting empty_node collection entering ◌⊕◌
colon_dash_read =
    awaited_below (text_start colon_dash_line)
    (below_node (text_start colon_dash_line) colon_dash_line (line_first refl) root_columns
    (mapping_read (λ d. omega (arith, d.dash)) refl (by_colon colon_dash_sign)
    (items_last
    (colon_read colon_dash_sign
    (awaited_below colon_dash_end
    (below_node colon_dash_end colon_dash_next (line_dashed colon_dash_dash refl (omega (arith, ints)))
    (record { sequence = column_there refl (omega (arith, ints)); mapping = column_not (λ e l. omega (arith, ints)) })
    (sequence_read refl colon_dash_dash
    (items_last (item_read colon_dash_dash (awaited_below (text_stops refl) (below_alone (text_stops refl) (no_node (text_ends refl))))) (no_entry (text_ends refl)))))))
    (no_entry (text_ends refl)))))

-- a `-` after spaces: the compact sequence is at its column
abbrev two_dashes : List ℕ
two_dashes = codes "-  -"

two_dashes_utf8 : IsUtf8 two_dashes
unfolding encode
two_dashes_utf8 = (codes "-  -", (refl, refl))

two_dashes_first : DashAt two_dashes 0
unfolding code begins chars is_ns_char is_nb_char is_printable is_between is_break_char is_white
two_dashes_first = record { dash = refl; follows = refl }

two_dashes_second : DashAt two_dashes 3
unfolding code begins chars is_ns_char is_nb_char is_printable is_between is_break_char is_white
two_dashes_second = record { dash = refl; follows = refl }

two_dashes_line : LineText two_dashes 0 0 0
unfolding code begins chars is_ns_char is_nb_char is_printable is_between is_break_char is_white is_marker is_three is_white_or_end
two_dashes_line = line_at 0 0 (no_spaces 0) (seen 0 refl refl) refl

two_dashes_whites : Many two_dashes is_white 1 3 (codes "  ")
unfolding code begins chars next is_white
two_dashes_whites = step (one refl) (step (one refl) done)

two_dashes_goes_on : Stuck (LineEnd two_dashes 1)
unfolding code begins chars is_ns_char is_nb_char is_printable is_between is_break_char is_white
two_dashes_goes_on = goes_on two_dashes_utf8 (after_byte 0 two_dashes_utf8 refl (omega arith) refl) two_dashes_whites (seen 3 refl refl)

two_dashes_spaces : Spaces two_dashes 1 2
unfolding code begins chars
two_dashes_spaces = record { each = space } where
  space : (m : ℕ) → m < 2 → code two_dashes (1 + m) ≡ 32
  space zero l = refl
  space (suc zero) l = refl
  space (suc (suc m)) l = absurd (omega arith)

two_dashes_read : Whole two_dashes 2 (Awaited false (negsuc 0) BlockIn Nothing 0)
    (found 4 2 false (collection true false 0 4 (entering 0 None (collection true false 3 4 (entering 3 None (empty_node 4))))))
unfolding code begins chars is_white past outcome_after alone headed collected item_found found meaning_after noting empty_node collection entering
two_dashes_read =
    awaited_below (text_start two_dashes_line)
    (below_node (text_start two_dashes_line) two_dashes_line (line_first refl) root_columns
    (sequence_read refl two_dashes_first
    (items_last
    (item_read two_dashes_first
    (awaited_inline two_dashes_goes_on two_dashes_whites (omega arith) refl (compact_columns two_dashes_spaces)
    (sequence_read refl two_dashes_second
    (items_last (item_read two_dashes_second (awaited_below (text_stops refl) (below_alone (text_stops refl) (no_node (text_ends refl))))) (no_entry (text_ends refl))))))
    (no_entry (text_ends refl)))))

-- a `-`, and a document marker, which ends the node
abbrev dash_marker : List ℕ
dash_marker = codes "-\n---"

dash_marker_dash : DashAt dash_marker 0
unfolding code begins chars is_ns_char is_nb_char is_printable is_between is_break_char is_white
dash_marker_dash = record { dash = refl; follows = refl }

dash_marker_line : LineText dash_marker 0 0 0
unfolding code begins chars is_ns_char is_nb_char is_printable is_between is_break_char is_white is_marker is_three is_white_or_end
dash_marker_line = line_at 0 0 (no_spaces 0) (seen 0 refl refl) refl

dash_marker_feed : Break dash_marker 1 2
unfolding code begins chars
dash_marker_feed = feed 1 refl refl

dash_marker_end : Chosen (LineEnd dash_marker 1) 2 []
unfolding code begins chars is_ns_char is_nb_char is_printable is_between is_break_char is_white
dash_marker_end = line_ends dash_marker_feed (seen 2 refl refl)

dash_marker_ends : LinesEnd dash_marker 2
unfolding code begins chars is_marker is_three is_white_or_end is_white is_break_char
dash_marker_ends = marker_is_at (record { start = after_break dash_marker_feed; marker = refl })

dash_marker_read : Whole dash_marker 1 (Awaited false (negsuc 0) BlockIn Nothing 0) (found 2 1 false (collection true false 0 1 (entering 0 None (empty_node 1))))
unfolding past outcome_after alone headed collected item_found found meaning_after noting empty_node collection entering
dash_marker_read =
    awaited_below (text_start dash_marker_line)
    (below_node (text_start dash_marker_line) dash_marker_line (line_first refl) root_columns
    (sequence_read refl dash_marker_dash (items_last (item_read dash_marker_dash (awaited_below dash_marker_end (below_alone dash_marker_end (no_node dash_marker_ends)))) (no_entry dash_marker_ends))))
