-- A small sequence of two entries, read with a stack, state by state: so the states have instances.
use Rattle.std.proofs.Common.{◌≡◌, ℕ, ◌+◌, pos, negsuc, true, false, List, [], ◌∷◌, Option, Some, None, codes, refl, sym, length, arith, true≢false}
use Rattle.std.proofs.lemmas.Int.{ints}
use Rattle.std.specs.Str.{chars}
use lib.Utf8.{encode}
use Rattle.yf_chars.specs.declared.context.Ctx.TheVariants.{BlockOut, BlockIn}
use Rattle.yf_chars.specs.Text.{begins, code, next}
use Rattle.yf_chars.specs.Class.{is_ns_char, is_nb_char, is_printable, is_between, is_break_char, is_white, is_white_or_end}
use Rattle.yf_chars.specs.Chain.{Chosen}
use Rattle.yf_lines.specs.Basic.{is_marker, is_three}
use Rattle.yf_comments.specs.Comments.{LineEnd}
use Rattle.yf_grammar.specs.Productions.Meaning.{◌⊕◌, meaning_after, noting, empty_node, collection, entering}
use Rattle.yf_grammar.specs.FlowReader.Parser.{ParsedNode, found, only}
use Rattle.yf_grammar.specs.BlockReader.BlockParser.{text_ends, LineText, DashAt, LineColumns, Begins, line_first, line_indented, line_dashed, NoNode, NextEntry, next_item, Nothing, Indicator, past, alone, headed, Origin, Later, First, BlockTask, Awaited, Below, Inline, Whole}
use Rattle.yf_grammar.specs.BlockReader.BlockParser.Whole.{awaited_below, below_alone}
use Rattle.yf_grammar.specs.BlockReader.Halts.{Alone, alone_to, none_open, Halts}
use Rattle.yf_grammar.specs.BlockReader.Halts.Halts.{halts_below, halts_alone}
use Rattle.yf_grammar.specs.BlockReader.BlockSteps.{made_or, as_item}
use Rattle.yf_grammar.specs.BlockReader.BlockStack.{Layer, AtItem, outermost, rounds}
use Rattle.yf_grammar.specs.BlockReader.BlockStates.{NodeAt, NodeRead, EntryRead, EntryAt, new_layer, with_entry, at_stage}
use Rattle.yf_grammar.proofs.BlockOutcomes.BlockClaims.{line_unique}
use Rattle.yf_grammar.proofs.BlockStack.BlockEntryBegins.{node_is_at, item_begins}
use Rattle.yf_grammar.proofs.BlockOutcomes.BlockHalts.{may_end_chosen}
use Rattle.yf_grammar.proofs.BlockStack.BlockNodeSteps.{node_through, node_on_line, sequence_begins, node_was_read}
use Rattle.yf_grammar.proofs.BlockStack.BlockResume.{entry_was_read, entry_follows, collection_ends, root_was_read, root_halts}
use Rattle.yf_grammar.proofs.Shown.BlockShown.{root_columns}
use Rattle.yf_grammar.proofs.BlockStack.BlockStepNodes.{below_awaits, below_halts}
use Rattle.yf_grammar.proofs.Shown.ShownParts.{seen, feed, line_at, no_spaces, text_start, line_ends, text_stops, no_node, no_entry}

abbrev dashes : List ℕ
dashes = codes "-\n-"

dashes_first : DashAt dashes 0
unfolding code begins chars is_ns_char is_nb_char is_printable is_between is_break_char is_white
dashes_first = record { dash = refl; follows = refl }

dashes_second : DashAt dashes 2
unfolding code begins chars is_ns_char is_nb_char is_printable is_between is_break_char is_white
dashes_second = record { dash = refl; follows = refl }

dashes_line : LineText dashes 0 0 0
unfolding code begins chars is_ns_char is_nb_char is_printable is_between is_break_char is_white is_marker is_three is_white_or_end
dashes_line = line_at 0 0 (no_spaces 0) (seen 0 refl refl) refl

dashes_next : LineText dashes 2 0 2
unfolding code begins chars is_ns_char is_nb_char is_printable is_between is_break_char is_white is_marker is_three is_white_or_end
dashes_next = line_at 2 0 (no_spaces 2) (seen 2 refl refl) refl

dashes_end : Chosen (LineEnd dashes 1) 2 []
unfolding code begins chars is_ns_char is_nb_char is_printable is_between is_break_char is_white
dashes_end = line_ends (feed 1 refl refl) (seen 2 refl refl)

abbrev root : BlockTask
root = Awaited false (negsuc 0) BlockIn Nothing 0

-- the outermost node is awaited on the first line; nothing may end before it
dashes_awaited : NodeAt dashes 1 root [] 1 [] root None
dashes_awaited = node_is_at outermost refl

dashes_nothing : Alone dashes [] Nothing 0 None
unfolding alone
dashes_nothing = alone_to (may_end_chosen (text_start dashes_line) none_open)

abbrev collection_layer : Layer
collection_layer = new_layer true 0 Nothing [] 0

dashes_on_line : NodeAt dashes 1 root [] 1 [] (Inline (negsuc 0) BlockIn (record { sequence = Some 0; mapping = Some 0 }) Nothing 0) None
unfolding made_or past
dashes_on_line = node_on_line
    (node_through dashes_awaited (below_awaits (text_start dashes_line)) (below_halts (text_start dashes_line))) (text_start dashes_line) dashes_line (line_first refl) root_columns dashes_nothing

dashes_begun : EntryAt dashes 1 root collection_layer [] 0 (First (negsuc 0)) 0 None
dashes_begun = sequence_begins dashes_on_line refl dashes_first

-- an empty item up to the second line, at which the node may end
abbrev empty_to : ℕ → ℕ → ParsedNode
empty_to j i = record { end = j; height = 0; json = false; meaning = empty_node i }

dashes_no_node : NoNode dashes (pos 0) BlockIn 1 2
dashes_no_node = record { none = λ m p w b. shallow (line_unique dashes_next w).0 b } where
  shallow : {m p : ℕ} → m ≡ 0 → Begins dashes (pos 0) BlockIn 1 2 m p → ⊥
  shallow e (line_indented l) = omega (arith, ints)
  shallow e (line_first s) = omega arith
  shallow e (line_dashed d q l) = omega (arith, ints)

first_item : NodeRead dashes 1 root (at_stage collection_layer (AtItem 0) ∷ []) 0 (empty_to 2 1) 2
    (found 2 1 false (collection true false 0 1 (entering 0 None (empty_node 1))))
unfolding meaning_after noting empty_node alone found made_or headed collection entering ◌⊕◌ only
first_item = node_was_read (item_begins dashes_begun refl dashes_first) (awaited_below dashes_end (below_alone dashes_end dashes_no_node))
    (halts_below dashes_end (halts_alone dashes_end dashes_no_node (alone_to (may_end_chosen dashes_end none_open))))

-- the second entry, up to the end of the text
dashes_between : NextEntry dashes true 0 2
dashes_between = next_item dashes_next dashes_second

second_begun : EntryAt dashes 1 root (with_entry (at_stage collection_layer (AtItem 0)) (as_item 0 (empty_to 2 1))) [] 0 Later 2
    (found 2 1 false (collection true false 0 1 (entering 0 None (empty_node 1))))
second_begun = entry_follows (entry_was_read first_item (λ e. absurd (true≢false (sym e)))) dashes_between

abbrev second_layer : Layer
second_layer = at_stage (with_entry (at_stage collection_layer (AtItem 0)) (as_item 0 (empty_to 2 1))) (AtItem 2)

abbrev both_items : Option ParsedNode
both_items = found 3 1 false (collection true false 0 3 (entering 0 None (empty_node 1) ⊕ entering 2 None (empty_node 3)))

second_item : NodeRead dashes 1 root (second_layer ∷ []) 0 (empty_to 3 3) 3 both_items
unfolding meaning_after noting empty_node alone found made_or headed collection entering ◌⊕◌ only
second_item = node_was_read (item_begins second_begun refl dashes_second) (awaited_below (text_stops refl) (below_alone (text_stops refl) (no_node (text_ends refl))))
    (halts_below (text_stops refl) (halts_alone (text_stops refl) (no_node (text_ends refl)) (alone_to (may_end_chosen (text_stops refl) none_open))))

-- the sequence ends with it, and is the outermost node; its last halt is the whole sequence
dashes_read : Whole dashes 1 root both_items
unfolding meaning_after found headed collection entering ◌⊕◌ only empty_node
dashes_read = root_was_read (collection_ends (entry_was_read second_item (λ e. absurd (true≢false (sym e)))) (no_entry (text_ends refl)))

dashes_halts : Halts dashes 1 [] root both_items
dashes_halts = root_halts (collection_ends (entry_was_read second_item (λ e. absurd (true≢false (sym e)))) (no_entry (text_ends refl)))
