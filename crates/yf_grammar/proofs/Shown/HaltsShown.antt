-- A small block node that is broken, and no part of it is left: it might end only at an offset at which no end is
-- allowed.
use Rattle.std.proofs.Common.{◌≡◌, ℕ, suc, zero, ◌+◌, ◌<◌, ℤ, pos, negsuc, true, false, List, [], ◌∷◌, Some, None, codes, refl, sym, subst, length, arith}
use Rattle.std.specs.Str.{IsUtf8, chars}
use lib.Utf8.{encode}
use Rattle.yf_chars.specs.declared.context.Ctx.TheVariants.{BlockOut, BlockIn, FlowOut}
use Rattle.yf_chars.specs.Text.{begins, code, next}
use Rattle.yf_chars.specs.Class.{is_ns_char, is_nb_char, is_printable, is_between, is_break_char, is_white, is_white_or_end, is_indicator, is_flow_indicator, is_plain_safe}
use Rattle.yf_chars.specs.Chain.{Many, Stuck, Chosen}
use Rattle.yf_chars.specs.Chain.Chain.{done, step}
use Rattle.yf_chars.specs.Chain.One.{one}
use Rattle.yf_chars.proofs.ChainLemmas.{chain_forward}
use Rattle.yf_lines.specs.Basic.{LineStart, Spaces, is_marker, is_three}
use Rattle.yf_comments.specs.Comment.{CommentValue}
use Rattle.yf_comments.specs.Comments.{LineEnd}
use Rattle.yf_comments.specs.Comments.LineEnd.{past_rest, from_start}
use Rattle.yf_comments.proofs.LineEndLemmas.{lines_rows}
use Rattle.yf_comments.proofs.RowLemmas.{rest_moves, row_functional}
use Rattle.yf_plain.specs.Plain.{Plain, is_plain_first, is_sign}
use Rattle.yf_plain.proofs.LineLemmas.{no_plain}
use Rattle.yf_plain.proofs.PlainLemmas.{no_front}
use Rattle.yf_grammar.specs.Productions.Meaning.{noting, empty_node}
use Rattle.yf_grammar.specs.Productions.Grammar.{ColonLine}
use Rattle.yf_grammar.specs.FlowReader.Parser.{ParsedNode, found, begins_plain, begins_alias, begins_properties, begins_content}
use Rattle.yf_grammar.specs.FlowReader.Parser.Parses.{plain_missed}
use Rattle.yf_grammar.specs.BlockReader.BlockParser.{LineText, SignAt, Columns, compact_columns, NoNode, NoKeyAt, unfit_node, key_missed, line_first, Nothing, Indicator, past, alone, Awaited, Inline, Items, Item, First, by_question, Whole}
use Rattle.yf_grammar.specs.BlockReader.BlockParser.Whole.{awaited_below, awaited_inline, below_alone, leaf_there, leaf_missed, question_value_missed}
use Rattle.yf_grammar.specs.BlockReader.Halts.{NoColonAt, none_open, one_open, MayEnd, alone_to, alone_nowhere, not_found, then_found, Halts}
use Rattle.yf_grammar.specs.BlockReader.Halts.Halts.{halts_below, halts_inline, halts_alone, halts_before_node, halts_mapping, halts_leaf, halts_plain_missed, halts_item, halts_before_value}
use Rattle.yf_grammar.proofs.Ends.BlankRuns.{after_byte, no_start_past}
use Rattle.yf_grammar.proofs.BlockOutcomes.BlockHalts.{may_end_chosen}
use Rattle.yf_grammar.proofs.Shown.BlockShown.{root_columns}
use Rattle.yf_grammar.proofs.BlockContent.PlainCut.{no_plain_part}
use Rattle.yf_grammar.proofs.Shown.ShownParts.{seen, feed, line_at, no_spaces, text_start, line_ends, no_deep_node, no_signs, no_scalar, no_properties, goes_on}

-- a `?` whose `:` is followed by no node: nothing may end before that `:`, so nothing is left
abbrev broken_value : List ℕ
broken_value = codes "?\n: ]"

broken_value_utf8 : IsUtf8 broken_value
unfolding encode
broken_value_utf8 = (codes "?\n: ]", (refl, refl))

broken_value_sign : SignAt broken_value 63 0
unfolding code begins chars is_white_or_end is_white is_break_char
broken_value_sign = record { sign_is_at = refl; follows = refl }

broken_value_line : LineText broken_value 0 0 0
unfolding code begins chars is_ns_char is_nb_char is_printable is_between is_break_char is_white is_marker is_three is_white_or_end
broken_value_line = line_at 0 0 (no_spaces 0) (seen 0 refl refl) refl

broken_value_next : LineText broken_value 2 0 2
unfolding code begins chars is_ns_char is_nb_char is_printable is_between is_break_char is_white is_marker is_three is_white_or_end
broken_value_next = line_at 2 0 (no_spaces 2) (seen 2 refl refl) refl

broken_value_end : Chosen (LineEnd broken_value 1) 2 []
unfolding code begins chars is_ns_char is_nb_char is_printable is_between is_break_char is_white
broken_value_end = line_ends (feed 1 refl refl) (seen 2 refl refl)

broken_value_colon : ColonLine broken_value 0 2
unfolding code begins chars is_white_or_end is_white is_break_char
broken_value_colon = record { indent = no_spaces 2; colon = refl; follows = refl }

broken_value_no_node : NoNode broken_value (pos 0) BlockOut 1 2
unfolding code begins chars
broken_value_no_node = no_deep_node broken_value_next refl (λ e. omega arith)

broken_value_whites : Many broken_value is_white 3 4 (codes " ")
unfolding code begins chars next is_white
broken_value_whites = step (one refl) done

broken_value_goes_on : Stuck (LineEnd broken_value 3)
unfolding code begins chars is_ns_char is_nb_char is_printable is_between is_break_char is_white
broken_value_goes_on = goes_on broken_value_utf8 (after_byte 2 broken_value_utf8 refl (omega arith) refl) broken_value_whites (seen 4 refl refl)

broken_value_spaces : Spaces broken_value 3 1
unfolding code begins chars
broken_value_spaces = record { each = space } where
  space : (m : ℕ) → m < 1 → code broken_value (3 + m) ≡ 32
  space zero l = refl
  space (suc m) l = absurd (omega arith)

broken_value_no_plain : (n : ℤ) → Stuck (Plain broken_value n FlowOut 4)
unfolding code begins chars is_plain_first is_sign is_plain_safe is_ns_char is_nb_char is_printable is_between is_break_char is_white is_indicator is_flow_indicator
broken_value_no_plain n = no_plain (no_front refl)

broken_value_no_key : (cols : Columns) → NoKeyAt broken_value 0 (pos 0) cols 4
unfolding code begins chars begins_plain begins_alias begins_properties begins_content
broken_value_no_key cols = unfit_node (plain_missed refl (broken_value_no_plain (pos 1))) key_missed

-- after the `?` a line ends before that `:`, and nowhere else
no_line_here : LineStart broken_value 1 → ⊥
unfolding code begins chars is_ns_char is_nb_char is_printable is_between is_break_char is_white
no_line_here s = no_start_past broken_value_utf8 (after_byte 0 broken_value_utf8 refl (omega arith) refl) s

end_later : {j : ℕ} {ds : List CommentValue} → LineEnd broken_value 1 j ds → 1 < j
end_later (past_rest {h = h} r c) =
    let inside : 1 < length broken_value = omega arith in
    let m : 1 < h = rest_moves r inside in
    let f = chain_forward row_functional (lines_rows c) in
    omega arith
end_later (from_start s c) = absurd (no_line_here s)

held : {j : ℕ} → j ≡ 2 → NoColonAt broken_value j (0 ∷ []) → ⊥
held e (one_open f a) = f (subst (λ w. ColonLine broken_value 0 w) (sym e) broken_value_colon)

broken_value_nowhere : Stuck (MayEnd broken_value (0 ∷ []) 1)
broken_value_nowhere = record {
  none = λ j ds m.
      let far = broken_value_end.longest j ds m.line in
      let near = end_later m.line in
      held (omega arith) m.allowed;
}

abbrev key_found : ParsedNode
key_found = record { end = 2; height = 0; json = false; meaning = empty_node 1 }

abbrev first_columns : Columns
first_columns = record { sequence = Some 0; mapping = Some 0 }

abbrev value_columns : Columns
value_columns = record { sequence = Some 2; mapping = Some 2 }

-- the key is found whole, and no value is
broken_value_key : Whole broken_value 0 (Awaited true (pos 0) BlockOut (Indicator 1) 1) (Some key_found)
unfolding alone found noting empty_node
broken_value_key = awaited_below broken_value_end (below_alone broken_value_end broken_value_no_node)

broken_value_missed : Whole broken_value 0 (Awaited true (pos 0) BlockOut (Indicator 3) 3) None
unfolding code begins chars is_white begins_plain begins_alias begins_properties begins_content
broken_value_missed = awaited_inline broken_value_goes_on broken_value_whites (omega arith) refl (compact_columns broken_value_spaces)
    (leaf_there (no_signs refl refl refl) (broken_value_no_key value_columns) (no_properties refl)
    (leaf_missed (no_scalar refl refl) (record { no_props = refl; no_alias = λ e. refl }) (plain_missed refl (broken_value_no_plain (pos 1)))))

broken_value_value : Halts broken_value 0 [] (Awaited true (pos 0) BlockOut (Indicator 3) 3) None
unfolding code begins chars is_white begins_plain begins_alias begins_properties begins_content
broken_value_value = halts_inline broken_value_goes_on broken_value_whites (omega arith) refl (compact_columns broken_value_spaces)
    (halts_leaf (no_signs refl refl refl) (broken_value_no_key value_columns) (no_properties refl)
    (halts_plain_missed (no_scalar refl refl) (record { no_props = refl; no_alias = λ e. refl }) refl (no_plain_part broken_value_utf8 (broken_value_no_plain (pos 1)))))

broken_value_before : Halts broken_value 0 (0 ∷ []) (Awaited true (pos 0) BlockOut (Indicator 1) 1) None
broken_value_before = halts_below broken_value_end (halts_alone broken_value_end broken_value_no_node (alone_nowhere broken_value_nowhere))

broken_value_item : Halts broken_value 0 [] (Item false 0 (First (negsuc 0)) 0) None
unfolding then_found
broken_value_item = halts_before_value {f = key_found} {o = None} broken_value_sign broken_value_key broken_value_colon broken_value_value broken_value_before

broken_value_items : Halts broken_value 0 [] (Items false 0 (First (negsuc 0)) 0) None
broken_value_items = halts_item {r = None} (question_value_missed {f = key_found} broken_value_sign broken_value_key broken_value_colon broken_value_missed) not_found broken_value_item

broken_value_mapping : Halts broken_value 1 [] (Inline (negsuc 0) BlockIn first_columns Nothing 0) None
unfolding code begins chars then_found
broken_value_mapping = halts_mapping {m = 0} {o = None} (λ d. omega (arith, d.dash)) refl (by_question broken_value_sign) broken_value_items

broken_value_halts : Halts broken_value 1 [] (Awaited false (negsuc 0) BlockIn Nothing 0) None
unfolding past alone
broken_value_halts = halts_below (text_start broken_value_line)
    (halts_before_node {ds = []} {o = None} (text_start broken_value_line) broken_value_line (line_first refl) root_columns broken_value_mapping
    (alone_to {k = 0} {ds = []} (may_end_chosen (text_start broken_value_line) none_open)))
