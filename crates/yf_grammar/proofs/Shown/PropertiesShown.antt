-- Properties on a line of their own, before properties on the next line: a leaf there has both. If that line begins
-- with a key, its properties are the key's, and the others are the mapping's.
use Rattle.std.proofs.Common.{◌≡◌, ℕ, ◌+◌, ◌<◌, ◌≤◌, ℤ, pos, negsuc, false, ◌==◌, inl, List, [], Option, Some, None, codes, refl, ap, ◌∙◌, arith}
use Rattle.std.proofs.lemmas.Int.{ints}
use Rattle.std.specs.Str.{IsUtf8, chars}
use lib.Utf8.{encode}
use Rattle.yf_chars.specs.declared.context.Ctx.TheVariants.{BlockIn, FlowOut, FlowKey}
use Rattle.yf_chars.specs.Text.{begins, code, next}
use Rattle.yf_chars.specs.Class.{is_ns_char, is_nb_char, is_printable, is_between, is_break_char, is_white, is_white_or_end, is_indicator, is_flow_indicator, is_plain_safe, is_anchor_char, is_digit, is_word_char, is_tag_char, is_uri_char}
use Rattle.yf_chars.specs.Chain.{Many, Stuck, Chosen}
use Rattle.yf_chars.specs.Chain.Chain.{done, step}
use Rattle.yf_chars.specs.Chain.One.{one}
use Rattle.yf_chars.proofs.TextLemmas.{code-past}
use Rattle.yf_lines.specs.Basic.{Break, is_marker, is_three}
use Rattle.yf_lines.specs.Basic.SeparateInLine.{by_whites}
use Rattle.yf_comments.specs.Comments.{LineEnd}
use Rattle.yf_comments.proofs.SeparateLemmas.{alone_chosen, alone_stuck, in_line_farthest, in_line_nowhere}
use Rattle.yf_events.specs.declared.event.ScalarStyle.TheVariants.{Plain as PlainStyle}
use Rattle.yf_plain.specs.Plain.{Plain, is_plain_first, is_plain_char, is_sign}
use Rattle.yf_plain.proofs.LineLemmas.{no_plain}
use Rattle.yf_plain.proofs.PlainLemmas.{no_front}
use Rattle.yf_props.specs.Props.TagValue.{IsNonSpecific}
use Rattle.yf_props.specs.Names.{Anchor, Properties, TagChar, TagProperty, anchor_only, tag_only}
use Rattle.yf_props.specs.Names.Anchor.{ampersand_name}
use Rattle.yf_props.proofs.NameLemmas.{no_anchor_here, run_of}
use Rattle.yf_props.proofs.PropertiesLemmas.{anchor_alone, tag_alone, no_anchor_after}
use Rattle.yf_props.proofs.TagLemmas.{percent_tag, spelled_stuck, no_long_mark, no_shorthand, no_bracket, non_specific_chosen}
use Rattle.yf_grammar.specs.Productions.Meaning.{Meaning, ◌⊕◌, meaning_after, noting, scalar, empty_node, collection, with_props, entering}
use Rattle.yf_grammar.specs.Productions.Grammar.{characters_between}
use Rattle.yf_grammar.specs.FlowReader.Parser.{ParsedNode, found, plain_found, propertied, lone_properties, Parses, ANode, begins_plain, begins_alias, begins_properties, begins_content}
use Rattle.yf_grammar.specs.FlowReader.Parser.Parses.{plain_read}
use Rattle.yf_grammar.specs.BlockReader.BlockParser.{LineText, LineColumns, Columns, column_there, KeyBefore, key_unfit, NoKeyAt, unfit_node, line_first, line_indented, text_ends, PropertiesHeld, Nothing, Props, with_comments, past, outcome_after, alone, headed, both, one_of, first_held, more_held, anchors_clash, tags_clash, Clash, Awaited, Inline, collected, leaf_found, pair_found, by_key, Whole}
use Rattle.yf_grammar.specs.BlockReader.BlockParser.Whole.{awaited_below, below_alone, below_node, mapping_read, properties_below, properties_leaf, leaf_read, items_last, key_read}
use Rattle.yf_grammar.proofs.Ends.BlankRuns.{ContentBefore, after_byte, no_start_past}
use Rattle.yf_grammar.proofs.Shown.BlockShown.{root_columns}
use Rattle.yf_grammar.proofs.Ends.Forward.{whites_forward}
use Rattle.yf_grammar.proofs.Ends.GapLemmas.{Visible}
use Rattle.yf_grammar.proofs.BlockContent.LineNodes.{line_plain, line_other}
use Rattle.yf_grammar.proofs.Shown.ShownParts.{differs, seen, feed, line_at, no_spaces, text_start, line_ends, text_stops, no_node, no_entry, no_signs, no_scalar, goes_on, one_character, next_character, plain_character, no_fold, clear_place}

space_no_word : is_word_char 32 ≡ false
unfolding is_word_char is_digit is_between
space_no_word = refl

space_no_tag : is_tag_char 32 ≡ false
unfolding is_tag_char is_uri_char is_word_char is_digit is_between is_flow_indicator
space_no_tag = refl

abbrev first_columns : Columns
first_columns = record { sequence = Some 0; mapping = Some 0 }

abbrev anchored : PropertiesHeld
anchored = record { value = anchor_only (codes "a"); start = 0; end = 2 }

module _ {t : List ℕ} (u : IsUtf8 t) where
  -- an anchor before the end of its line
  anchor_line : {n : ℤ} {i j : ℕ} {a : List ℕ} → Anchor t i j a → ContentBefore t j → is_white (code t j) ≡ false → Chosen (Properties t n FlowKey i) j (anchor_only a)
  anchor_line d b w = anchor_alone d (λ l m y v s e. (alone_stuck (inl refl) (in_line_nowhere w (λ z. no_start_past u b z))).none l y s)

  -- a single `!` before a space
  mark_alone : {i : ℕ} → code t i ≡ 33 → code t (i + 1) ≡ 32 → Chosen (TagProperty t i) (i + 1) IsNonSpecific
  mark_alone {i} a b =
      let s : Stuck (TagChar t (i + 1)) = spelled_stuck t is_tag_char percent_tag (i + 1) (ap is_tag_char b ∙ space_no_tag) (λ e. omega arith) in
      non_specific_chosen a (no_bracket (λ e. omega arith)) (no_shorthand t i a (no_long_mark t i (i + 1) [] done (ap is_word_char b ∙ space_no_word) (λ e. omega arith)) s) s

  mark_line : {n : ℤ} {i k : ℕ} {w : List ℕ} → code t i ≡ 33 → code t (i + 1) ≡ 32 → Many t is_white (i + 1) k w → i + 1 < k → is_white (code t k) ≡ false → (code t k == 38) ≡ false
      → Chosen (Properties t n FlowKey i) (i + 1) (tag_only i IsNonSpecific)
  mark_line a b m l w h = tag_alone u (mark_alone a b) (no_anchor_after (alone_chosen (inl refl) (in_line_farthest (by_whites m l) w)) (no_anchor_here (differs h)))

  -- the anchor of the first line is held for the node of the next line
  anchor_waits : {e : ℕ} {o : Option ParsedNode} → LineText t 0 0 0 → (code t 0 == 45) ≡ false → (code t 0 == 63) ≡ false → (code t 0 == 58) ≡ false → Anchor t 0 2 (codes "a")
      → ContentBefore t 2 → is_white (code t 2) ≡ false → Break t 2 3 → LineText t 3 0 3 → Visible t 3 → Whole t e (Inline (negsuc 0) BlockIn first_columns (Props anchored) 3) o
      → Whole t e (Awaited false (negsuc 0) BlockIn Nothing 0) (outcome_after Nothing [] (outcome_after (Props anchored) [] o))
  unfolding past with_comments
  anchor_waits w a b c d h f z k v r =
      let end : Chosen (LineEnd t 2) 3 [] = line_ends z v in
      let next : LineColumns (negsuc 0) BlockIn 3 0 3 first_columns = record { sequence = column_there refl (omega (arith, ints)); mapping = column_there refl (omega (arith, ints)) } in
      awaited_below (text_start w)
      (below_node (text_start w) w (line_first refl) root_columns
      (properties_below (no_signs a b c) (anchor_line d h f) end (first_held (λ g e. cc)) (below_node end k (line_indented (omega (arith, ints))) next r)))

-- before a leaf
abbrev leaf_next : List ℕ
leaf_next = codes "&a\n! b"

leaf_next_utf8 : IsUtf8 leaf_next
unfolding encode
leaf_next_utf8 = (codes "&a\n! b", (refl, refl))

leaf_next_line : LineText leaf_next 0 0 0
unfolding code begins chars is_ns_char is_nb_char is_printable is_between is_break_char is_white is_marker is_three is_white_or_end
leaf_next_line = line_at 0 0 (no_spaces 0) (seen 0 refl refl) refl

leaf_next_second : LineText leaf_next 3 0 3
unfolding code begins chars is_ns_char is_nb_char is_printable is_between is_break_char is_white is_marker is_three is_white_or_end
leaf_next_second = line_at 3 0 (no_spaces 3) (seen 3 refl refl) refl

leaf_next_anchor : Anchor leaf_next 0 2 (codes "a")
unfolding code begins chars next is_anchor_char is_ns_char is_nb_char is_printable is_between is_break_char is_white is_flow_indicator
leaf_next_anchor = ampersand_name refl (run_of leaf_next is_anchor_char (step (one refl) done) (omega arith) refl)

leaf_next_whites : Many leaf_next is_white 4 5 (codes " ")
unfolding code begins chars next is_white
leaf_next_whites = step (one refl) done

leaf_next_tag : Chosen (Properties leaf_next (pos 0) FlowKey 3) 4 (tag_only 3 IsNonSpecific)
unfolding code begins chars is_white
leaf_next_tag = mark_line leaf_next_utf8 refl refl leaf_next_whites (omega arith) refl refl

leaf_next_goes_on : Stuck (LineEnd leaf_next 4)
unfolding code begins chars is_ns_char is_nb_char is_printable is_between is_break_char is_white
leaf_next_goes_on = goes_on leaf_next_utf8 (after_byte 3 leaf_next_utf8 refl (omega arith) refl) leaf_next_whites (seen 5 refl refl)

leaf_next_plain : Chosen (Plain leaf_next (pos 0) FlowOut 5) 6 (codes "b")
unfolding code begins chars next is_plain_first is_plain_char is_sign is_plain_safe is_ns_char is_nb_char is_printable is_between is_break_char is_white is_indicator is_flow_indicator is_marker is_three is_white_or_end
leaf_next_plain = plain_character refl (clear_place refl) refl refl (no_fold refl refl refl)

abbrev leaf_next_found : ParsedNode
leaf_next_found = record { end = 6; height = 0; json = false; meaning = scalar PlainStyle (codes "b") [] 5 6 }

leaf_next_leaf : Parses leaf_next 0 (ANode (pos 0) FlowOut 5) (Some leaf_next_found)
unfolding code begins chars begins_plain begins_alias begins_properties begins_content plain_found found encode
leaf_next_leaf = plain_read refl leaf_next_plain

leaf_next_unfit : (f : ParsedNode) → f.end ≡ 6 → (k : ℕ) → KeyBefore leaf_next 3 f k → ⊥
leaf_next_unfit f e k b =
    let l = whites_forward b.run in
    let c = b.colon.sign_is_at in
    let far : 6 ≤ k = omega arith in
    let p = code-past leaf_next k far in
    omega arith

leaf_next_no_key : NoKeyAt leaf_next 0 (negsuc 0) first_columns 3
unfolding code begins chars is_white begins_content propertied encode
leaf_next_no_key = unfit_node (line_plain leaf_next_utf8 leaf_next_tag leaf_next_goes_on leaf_next_whites (omega arith) refl refl leaf_next_plain)
    (key_unfit (λ k b. leaf_next_unfit _ refl k b))

no_clash : (i : ℕ) → Clash anchored (tag_only i IsNonSpecific) → ⊥
no_clash i (anchors_clash e f) = cc
no_clash i (tags_clash e f) = cc

leaf_next_whole : Whole leaf_next 0 (Awaited false (negsuc 0) BlockIn Nothing 0)
    (found 6 0 false (with_props (record { anchor = Some (codes "a"); tag = Some IsNonSpecific }) (Some 3) 0 4 (scalar PlainStyle (codes "b") [] 5 6)))
unfolding code begins chars is_ns_char is_nb_char is_printable is_between is_break_char is_white outcome_after headed both one_of leaf_found found meaning_after noting scalar with_props begins_properties begins_alias
leaf_next_whole =
    anchor_waits leaf_next_utf8 leaf_next_line refl refl refl leaf_next_anchor (after_byte 1 leaf_next_utf8 refl (omega arith) refl) refl (feed 2 refl refl) leaf_next_second (seen 3 refl refl)
    (properties_leaf (no_signs refl refl refl) leaf_next_no_key leaf_next_tag leaf_next_goes_on leaf_next_whites (omega arith) refl (more_held refl (no_clash 3))
    (leaf_read (no_scalar refl refl) (record { no_props = refl; no_alias = λ e. refl }) leaf_next_leaf (text_stops refl)))

-- before a key
abbrev key_next : List ℕ
key_next = codes "&a\n! :"

key_next_utf8 : IsUtf8 key_next
unfolding encode
key_next_utf8 = (codes "&a\n! :", (refl, refl))

key_next_line : LineText key_next 0 0 0
unfolding code begins chars is_ns_char is_nb_char is_printable is_between is_break_char is_white is_marker is_three is_white_or_end
key_next_line = line_at 0 0 (no_spaces 0) (seen 0 refl refl) refl

key_next_second : LineText key_next 3 0 3
unfolding code begins chars is_ns_char is_nb_char is_printable is_between is_break_char is_white is_marker is_three is_white_or_end
key_next_second = line_at 3 0 (no_spaces 3) (seen 3 refl refl) refl

key_next_anchor : Anchor key_next 0 2 (codes "a")
unfolding code begins chars next is_anchor_char is_ns_char is_nb_char is_printable is_between is_break_char is_white is_flow_indicator
key_next_anchor = ampersand_name refl (run_of key_next is_anchor_char (step (one refl) done) (omega arith) refl)

key_next_whites : Many key_next is_white 4 5 (codes " ")
unfolding code begins chars next is_white
key_next_whites = step (one refl) done

key_next_tag : Chosen (Properties key_next (pos 0) FlowKey 3) 4 (tag_only 3 IsNonSpecific)
unfolding code begins chars is_white
key_next_tag = mark_line key_next_utf8 refl refl key_next_whites (omega arith) refl refl

key_next_goes_on : Stuck (LineEnd key_next 4)
unfolding code begins chars is_ns_char is_nb_char is_printable is_between is_break_char is_white
key_next_goes_on = goes_on key_next_utf8 (after_byte 3 key_next_utf8 refl (omega arith) refl) key_next_whites (seen 5 refl refl)

abbrev key_next_meaning : Meaning
key_next_meaning = with_props (record { anchor = None; tag = Some IsNonSpecific }) (Some 3) 3 4 (empty_node 4)

abbrev key_next_found : ParsedNode
key_next_found = record { end = 4; height = 0; json = false; meaning = key_next_meaning }

key_next_key : (e : ℕ) → Parses key_next e (ANode (pos 0) FlowOut 3) (Some key_next_found)
unfolding code begins chars is_white begins_content is_plain_first is_sign is_plain_safe is_ns_char is_nb_char is_printable is_between is_break_char is_indicator is_flow_indicator lone_properties found meaning_after
key_next_key e = line_other key_next_utf8 key_next_tag key_next_goes_on key_next_whites (omega arith) refl refl (no_plain (no_front refl))

key_next_before : KeyBefore key_next 3 key_next_found 5
unfolding code begins chars is_break_char characters_between is_white_or_end is_white
key_next_before = record { whites = codes " "; run = key_next_whites; line = next_character (one_character refl) refl; short = omega arith; colon = record { sign_is_at = refl; follows = refl } }

key_next_whole : Whole key_next 1 (Awaited false (negsuc 0) BlockIn Nothing 0)
    (found 6 1 false
    (with_props (record { anchor = Some (codes "a"); tag = None }) None 0 2 (collection false false 3 6 (entering 3 (Some 5) key_next_meaning ⊕ empty_node 6))))
unfolding code begins chars is_ns_char is_nb_char is_printable is_between is_break_char is_white past outcome_after alone headed collected pair_found found meaning_after noting empty_node collection entering ◌⊕◌
key_next_whole =
    anchor_waits key_next_utf8 key_next_line refl refl refl key_next_anchor (after_byte 1 key_next_utf8 refl (omega arith) refl) refl (feed 2 refl refl) key_next_second (seen 3 refl refl)
    (mapping_read (λ d. omega (arith, d.dash)) refl (by_key (key_next_key 1) key_next_before)
    (items_last
    (key_read (λ s. omega (arith, s.sign_is_at)) (λ s. omega (arith, s.sign_is_at)) (key_next_key 1) (omega arith) key_next_before
    (awaited_below (text_stops refl) (below_alone (text_stops refl) (no_node (text_ends refl)))))
    (no_entry (text_ends refl))))
