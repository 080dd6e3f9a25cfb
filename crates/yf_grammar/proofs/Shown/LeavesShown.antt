-- Small block nodes with a key, a plain scalar and a block scalar, each with the reader's outcome there, written out by
-- hand.
use Rattle.std.proofs.Common.{◌≡◌, ℕ, ◌+◌, ◌<◌, ◌≤◌, pos, negsuc, true, false, List, [], ◌∷◌, Some, None, codes, refl, sym, ap, ◌∙◌, subst, arith, true≢false, ⊎_elim}
use Rattle.std.proofs.lemmas.Bool.{cases_lt}
use Rattle.std.specs.Str.{IsUtf8, chars}
use lib.Utf8.{encode}
use Rattle.yf_chars.specs.declared.context.Ctx.TheVariants.{BlockIn, FlowOut}
use Rattle.yf_chars.specs.Text.{begins, code, next, no_char}
use Rattle.yf_chars.specs.Class.{is_ns_char, is_nb_char, is_printable, is_between, is_break_char, is_white, is_white_or_end, is_indicator, is_flow_indicator, is_plain_safe}
use Rattle.yf_chars.specs.Chain.{Many, Stuck, Chosen}
use Rattle.yf_chars.specs.Chain.Chain.{done, step}
use Rattle.yf_chars.specs.Chain.One.{one}
use Rattle.yf_chars.proofs.TextLemmas.{code-past}
use Rattle.yf_lines.specs.Basic.{Break, Clear, is_marker, is_three}
use Rattle.yf_lines.specs.Basic.Indent.{exactly}
use Rattle.yf_lines.specs.Basic.FlowPrefix.{indented}
use Rattle.yf_lines.specs.Fold.{FoldsTo}
use Rattle.yf_lines.proofs.BasicLemmas.{break_char, break_forward, clear_front, clear_join, no_break_here}
use Rattle.yf_lines.proofs.FoldLemmas.{fold_found, lines_found}
use Rattle.yf_lines.specs.Lines.LineEnd.{at_end}
use Rattle.yf_lines.specs.Lines.OneLine.{one_line as one_text_line}
use Rattle.yf_comments.specs.Comments.{LineEnd}
use Rattle.yf_comments.specs.Comments.BreakOrEnd.{by_break}
use Rattle.yf_comments.specs.Comments.LineRest.{nothing}
use Rattle.yf_comments.proofs.RowLemmas.{none_nb}
use Rattle.yf_block_scalar.specs.declared.header.Chomp.TheVariants.{Clip}
use Rattle.yf_block_scalar.specs.Header.{BlockHeader, HeaderValue}
use Rattle.yf_block_scalar.specs.Header.BlockHeader.{block_header}
use Rattle.yf_block_scalar.specs.Header.Style.{literal_sign}
use Rattle.yf_block_scalar.specs.Header.Indicators.{neither}
use Rattle.yf_block_scalar.specs.Body.{Body, BodyValue, Line, empty_line, content_line, content, LinesTaken, up_to, by_text, MarkerLine, marker_here, past_mark, detected, no_comment}
use Rattle.yf_events.specs.Event.{scalar_node}
use Rattle.yf_props.specs.Props.{no_props}
use Rattle.yf_events.specs.declared.event.ScalarStyle.TheVariants.{Plain as PlainStyle, Literal}
use Rattle.yf_plain.specs.Plain.{Plain, PlainItem, NoNextLine, is_plain_first, is_plain_char, is_sign}
use Rattle.yf_plain.specs.Plain.PlainLine.{one_line}
use Rattle.yf_plain.specs.Plain.PlainNext.{next_line}
use Rattle.yf_plain.specs.Plain.PlainText.{as_lines}
use Rattle.yf_plain.proofs.LineLemmas.{no_plain, Onward, on_line, on_next, plain_onward, plain_unique}
use Rattle.yf_plain.proofs.PlainLemmas.{item_stuck, no_front}
use Rattle.yf_grammar.specs.Productions.BlockScalar.{BlockScalar, block_scalar, LinesBetween, counted}
use Rattle.yf_grammar.specs.Productions.Meaning.{Meaning, from_to, ◌⊕◌, meaning_after, noting, scalar, empty_node, collection, entering}
use Rattle.yf_grammar.specs.Productions.Grammar.{characters_between}
use Rattle.yf_grammar.specs.FlowReader.Parser.{ParsedNode, found, plain_found, Parses, ANode, begins_plain, begins_alias, begins_properties, begins_content}
use Rattle.yf_grammar.specs.FlowReader.Parser.Parses.{plain_read, plain_missed}
use Rattle.yf_grammar.specs.BlockReader.BlockParser.{LineText, KeyBefore, key_missed, key_unfit, NoKeyAt, unfit_node, line_first, text_ends, Nothing, past, outcome_after, alone, headed, Awaited, collected, leaf_found, pair_found, by_key, Whole}
use Rattle.yf_grammar.specs.BlockReader.BlockParser.Whole.{awaited_below, below_alone, below_node, mapping_read, leaf_there, scalar_read, leaf_unended, items_last, key_read}
use Rattle.yf_grammar.specs.BlockReader.Halts.{none_open, PlainPart, plain_part, with_plain, Halts}
use Rattle.yf_grammar.specs.BlockReader.Halts.Halts.{halts_below, halts_node, halts_leaf, halts_plain}
use Rattle.yf_grammar.proofs.Ends.BlankRuns.{after_byte}
use Rattle.yf_grammar.proofs.Shown.BlockShown.{root_columns}
use Rattle.yf_grammar.proofs.Ends.Forward.{whites_forward}
use Rattle.yf_grammar.proofs.BlockOutcomes.OneScalars.{scalar_chosen}
use Rattle.yf_grammar.proofs.BlockContent.PlainCut.{LastLine, plain_without_last}
use Rattle.yf_grammar.proofs.Shown.ShownParts.{seen, feed, line_at, no_spaces, text_start, line_ends, text_stops, no_node, no_entry, no_signs, no_scalar, no_properties, goes_on, one_character, plain_character, no_fold, clear_place}

-- a key on one line
abbrev key : List ℕ
key = codes "a:"

key_line : LineText key 0 0 0
unfolding code begins chars is_ns_char is_nb_char is_printable is_between is_break_char is_white is_marker is_three is_white_or_end
key_line = line_at 0 0 (no_spaces 0) (seen 0 refl refl) refl

key_plain : Chosen (Plain key (pos 0) FlowOut 0) 1 (codes "a")
unfolding code begins chars next is_plain_first is_plain_char is_sign is_plain_safe is_ns_char is_nb_char is_printable is_between is_break_char is_white is_indicator is_flow_indicator is_marker is_three is_white_or_end
key_plain = plain_character refl (clear_place refl) refl refl (no_fold refl refl refl)

abbrev key_found : ParsedNode
key_found = record { end = 1; height = 0; json = false; meaning = scalar PlainStyle (codes "a") [] 0 1 }

key_node : (e : ℕ) → Parses key e (ANode (pos 0) FlowOut 0) (Some key_found)
unfolding code begins chars begins_plain begins_alias begins_properties begins_content plain_found found encode
key_node e = plain_read refl key_plain

key_before : KeyBefore key 0 key_found 1
unfolding code begins chars is_break_char characters_between is_white_or_end is_white
key_before = record { whites = []; run = done; line = one_character refl; short = omega arith; colon = record { sign_is_at = refl; follows = refl } }

key_whole : Whole key 1 (Awaited false (negsuc 0) BlockIn Nothing 0)
    (found 2 1 false (collection false false 0 2 (entering 0 (Some 1) (scalar PlainStyle (codes "a") [] 0 1) ⊕ empty_node 2)))
unfolding code begins chars past outcome_after alone headed collected pair_found found meaning_after noting empty_node collection entering ◌⊕◌
key_whole =
    awaited_below (text_start key_line)
    (below_node (text_start key_line) key_line (line_first refl) root_columns
    (mapping_read (λ d. omega (arith, d.dash)) refl (by_key (key_node 1) key_before)
    (items_last
    (key_read (λ s. omega (arith, s.sign_is_at)) (λ s. omega (arith, s.sign_is_at)) (key_node 1) (omega arith) key_before
    (awaited_below (text_stops refl) (below_alone (text_stops refl) (no_node (text_ends refl)))))
    (no_entry (text_ends refl)))))

-- a plain scalar with a key on its last line: the node that begins at it is broken, and ends with the line before the
-- key
abbrev scalar_key : List ℕ
scalar_key = codes "a\nb:"

scalar_key_utf8 : IsUtf8 scalar_key
unfolding encode
scalar_key_utf8 = (codes "a\nb:", (refl, refl))

scalar_key_line : LineText scalar_key 0 0 0
unfolding code begins chars is_ns_char is_nb_char is_printable is_between is_break_char is_white is_marker is_three is_white_or_end
scalar_key_line = line_at 0 0 (no_spaces 0) (seen 0 refl refl) refl

scalar_key_feed : Break scalar_key 1 2
unfolding code begins chars
scalar_key_feed = feed 1 refl refl

scalar_key_fold : FoldsTo scalar_key (pos 0) 1 2 (codes " ")
unfolding code begins chars is_white
scalar_key_fold = fold_found ([], done) scalar_key_feed
    (lines_found done (record { prefix = indented (exactly 0 refl (no_spaces 2)); no_white = refl; no_break = no_break_here scalar_key 2 (λ e. omega (arith, e)) (λ e. omega (arith, e)) }))

scalar_key_clear : Clear scalar_key 0 3
unfolding code begins chars is_marker is_three is_white_or_end is_white is_break_char
scalar_key_clear = clear_join (clear_place refl) (clear_join (clear_place refl) (clear_place refl))

-- its first line, and both lines
scalar_key_first : Plain scalar_key (pos 0) FlowOut 0 1 (codes "a")
unfolding code begins chars next is_plain_first is_sign is_plain_safe is_ns_char is_nb_char is_printable is_between is_break_char is_white is_indicator is_flow_indicator
scalar_key_first = record { text = as_lines refl (one_line refl done) done; clear = clear_front (omega arith) scalar_key_clear }

scalar_key_both : Plain scalar_key (pos 0) FlowOut 0 3 (codes "a b")
unfolding code begins chars next is_plain_first is_plain_char is_sign is_plain_safe is_ns_char is_nb_char is_printable is_between is_break_char is_white is_indicator is_flow_indicator
scalar_key_both = record { text = as_lines refl (one_line refl done) (step (next_line scalar_key_fold.folded refl done) done); clear = scalar_key_clear }

scalar_key_plain : Chosen (Plain scalar_key (pos 0) FlowOut 0) 3 (codes "a b")
unfolding code begins chars next is_plain_char is_plain_safe is_ns_char is_nb_char is_printable is_between is_break_char is_white is_indicator is_flow_indicator
scalar_key_plain =
    let stops : NoNextLine scalar_key (pos 0) FlowOut 3 = no_fold refl refl refl in
    let stuck : Stuck (PlainItem scalar_key FlowOut 3) = item_stuck done refl refl in
    record {
      derived = scalar_key_both;
      longest = λ k y p. ⊎_elim (λ (l : 3 < k). absurd (further stuck stops (plain_onward refl scalar_key_both p l))) (λ (l : k ≤ 3). l) (cases_lt 3 k);
      only = λ y p. plain_unique refl scalar_key_both p;
    }
  where
    further : {l : ℕ} → Stuck (PlainItem scalar_key FlowOut 3) → NoNextLine scalar_key (pos 0) FlowOut 3 → Onward scalar_key (pos 0) FlowOut 3 l → ⊥
    further s n (on_line {j = j} {x = x} i) = s.none j x i
    further s n (on_next {h = h} {x = x} f e g l) = n.none h x f e g

abbrev scalar_key_found : ParsedNode
scalar_key_found = record { end = 3; height = 0; json = false; meaning = scalar PlainStyle (codes "a b") [] 0 3 }

scalar_key_node : (e : ℕ) → Parses scalar_key e (ANode (pos 0) FlowOut 0) (Some scalar_key_found)
unfolding code begins chars begins_plain begins_alias begins_properties begins_content plain_found found encode
scalar_key_node e = plain_read refl scalar_key_plain

scalar_key_goes_on : Stuck (LineEnd scalar_key 3)
unfolding code begins chars is_ns_char is_nb_char is_printable is_between is_break_char is_white
scalar_key_goes_on = goes_on scalar_key_utf8 (after_byte 2 scalar_key_utf8 refl (omega arith) refl) done (seen 3 refl refl)

-- it is no key, since it is on two lines
scalar_key_no_key : NoKeyAt scalar_key 0 (negsuc 0) (record { sequence = Some 0; mapping = Some 0 }) 0
unfolding code begins chars is_break_char
scalar_key_no_key = unfit_node (scalar_key_node 0) (key_unfit (λ k b. let l = whites_forward b.run in true≢false (b.line.each 1 (omega arith) (omega arith))))

scalar_key_whole : Whole scalar_key 0 (Awaited false (negsuc 0) BlockIn Nothing 0) None
unfolding code begins chars past outcome_after begins_properties begins_alias
scalar_key_whole =
    awaited_below (text_start scalar_key_line)
    (below_node (text_start scalar_key_line) scalar_key_line (line_first refl) root_columns
    (leaf_there (no_signs refl refl refl) scalar_key_no_key (no_properties refl)
    (leaf_unended (no_scalar refl refl) (record { no_props = refl; no_alias = λ e. refl }) (scalar_key_node 0) scalar_key_goes_on)))

scalar_key_last : LastLine scalar_key 0 3 2
scalar_key_last = record { from = 1; ends = scalar_key_feed; first = omega arith; inside = omega arith; last = λ g h l b. let f = break_forward b in omega arith }

scalar_key_part : Chosen (PlainPart scalar_key (pos 0) [] 0) 2 (scalar PlainStyle (codes "a") [] 0 1)
unfolding code begins chars is_ns_char is_nb_char is_printable is_between is_break_char is_white noting scalar encode
scalar_key_part =
    let end : LineEnd scalar_key 1 2 [] = (line_ends scalar_key_feed (seen 2 refl refl)).derived in
    let part : PlainPart scalar_key (pos 0) [] 0 2 (scalar PlainStyle (codes "a") [] 0 1) = plain_part scalar_key_first (record { line = end; allowed = none_open }) in
    let cut = plain_without_last scalar_key_utf8 scalar_key_plain (record { none = λ j x m. scalar_key_goes_on.none j x m.line }) scalar_key_last in
    subst (λ x. Chosen (PlainPart scalar_key (pos 0) [] 0) 2 x) (sym (cut.best.only (scalar PlainStyle (codes "a") [] 0 1) part)) cut.best

scalar_key_halts : Halts scalar_key 0 [] (Awaited false (negsuc 0) BlockIn Nothing 0) (found 2 0 false (scalar PlainStyle (codes "a") [] 0 1))
unfolding code begins chars past outcome_after headed with_plain found meaning_after begins_properties begins_alias begins_plain begins_content
scalar_key_halts =
    halts_below (text_start scalar_key_line)
    (halts_node (text_start scalar_key_line) scalar_key_line (line_first refl) root_columns
    (halts_leaf (no_signs refl refl refl) scalar_key_no_key (no_properties refl)
    (halts_plain (no_scalar refl refl) (record { no_props = refl; no_alias = λ e. refl }) refl scalar_key_part)))

-- a block scalar with no break after its last line
abbrev literal : List ℕ
literal = codes "|\na"

literal_utf8 : IsUtf8 literal
unfolding encode
literal_utf8 = (codes "|\na", (refl, refl))

literal_line : LineText literal 0 0 0
unfolding code begins chars is_ns_char is_nb_char is_printable is_between is_break_char is_white is_marker is_three is_white_or_end
literal_line = line_at 0 0 (no_spaces 0) (seen 0 refl refl) refl

abbrev literal_header : HeaderValue
literal_header = record { header = record { folded = false; digit = None; chomp = Clip }; comments = [] }

abbrev literal_body : BodyValue
literal_body = record { lines = codes "a" ∷ []; open_end = true; tail = 0; comments = [] }

literal_head : BlockHeader literal 0 2 literal_header
unfolding code begins chars
literal_head = block_header (literal_sign refl) neither (nothing (by_break (feed 1 refl refl)))

-- nothing is after its line
none_after : (i : ℕ) → 3 ≤ i → code literal i ≡ no_char
none_after i l = code-past literal i l

no_line_after : {j : ℕ} {x : List (List ℕ)} → Line literal 0 3 j x → ⊥
no_line_after (empty_line {m = m} s l) =
    let n = none_after (3 + m) (omega arith) in
    ⊎_elim (λ (e : code literal (3 + m) ≡ 13). omega arith) (λ (e : code literal (3 + m) ≡ 10). omega arith) (break_char s.ends)
no_line_after (content_line (content s c l e n)) = characters c l where
  characters : {h : ℕ} {x : List ℕ} → Many literal is_nb_char 3 h x → 3 < h → ⊥
  characters done l = omega arith
  characters (step (one e) r) l = true≢false (sym e ∙ none_nb (code literal 3) (none_after 3 (omega arith)))

literal_taken : LinesTaken literal 0 2 (codes "a" ∷ []) true 0 3
unfolding code begins chars next is_nb_char is_printable is_between is_break_char is_marker is_three is_white_or_end is_white
literal_taken = record {
  end = 3;
  lines = up_to done (content (no_spaces 2) (step (one refl) done) (omega arith) (by_text refl) refl);
  tail = record { widths = []; lines = done; within = omega arith; counts = refl };
  most = record { none = λ j x d. no_line_after d };
}

no_marker_line : {i : ℕ} → i ≡ 2 → MarkerLine literal i → ⊥
unfolding code begins chars is_marker is_three is_white_or_end is_white is_break_char
no_marker_line e (marker_here m) = true≢false (sym m ∙ ap (is_marker literal) e)
no_marker_line e (past_mark {i = i} m d) = let c = ap (code literal) e in omega (arith, m, c)

literal_lines : Body literal (negsuc 0) literal_header.header 2 3 literal_body
unfolding code begins chars
literal_lines = detected refl
    (record {
      at = 2;
      widths = [];
      before = done;
      within = omega arith;
      first = record {
        spaces = no_spaces 2;
        other = record { inside = λ e. omega (arith, e); no_space = λ e. omega (arith, e); no_break = no_break_here literal 2 (λ e. omega (arith, e)) (λ e. omega (arith, e)) };
        deep = omega arith;
        clear = no_marker_line refl;
      };
    })
    literal_taken (no_comment (λ m l. absurd (omega arith)))

literal_one : LinesBetween literal 1 2 3
unfolding code begins chars is_break_char
literal_one = counted
    (step
    (one_text_line {l = record { start = 2; end = 3; next = 3; indent = 0 }}
    (record {
      order = omega arith;
      unbroken = record { order = omega arith; none = λ h l m. let same : h ≡ 2 = omega arith in ap (λ k. is_break_char (code literal k)) same };
      ends = at_end refl;
      indented = record { spaces = no_spaces 2; stops = λ e. omega (arith, e) };
    }))
    done)
    refl

abbrev literal_meaning : Meaning
literal_meaning = record {
  events = record { event = scalar_node no_props Literal (codes "a"); span = Some (record { start = 0; end = 3 }); tag_offset = None; entry = None; folded = [] } ∷ [];
  comments = [];
  escapes = [];
  finish = 3;
}

literal_scalar : BlockScalar literal (negsuc 0) 0 3 literal_meaning
unfolding from_to
literal_scalar = block_scalar literal_head literal_lines literal_one

literal_no_key : NoKeyAt literal 0 (negsuc 0) (record { sequence = Some 0; mapping = Some 0 }) 0
unfolding code begins chars begins_plain begins_alias begins_properties begins_content is_plain_first is_sign is_plain_safe is_ns_char is_nb_char is_printable is_between is_break_char is_white is_indicator is_flow_indicator
literal_no_key = unfit_node (plain_missed refl (no_plain (no_front refl))) key_missed

literal_whole : Whole literal 0 (Awaited false (negsuc 0) BlockIn Nothing 0) (found 3 0 false literal_meaning)
unfolding code begins chars past outcome_after headed leaf_found found meaning_after noting begins_properties
literal_whole =
    awaited_below (text_start literal_line)
    (below_node (text_start literal_line) literal_line (line_first refl) root_columns
    (leaf_there (no_signs refl refl refl) literal_no_key (no_properties refl) (scalar_read (scalar_chosen literal_utf8 literal_scalar))))
