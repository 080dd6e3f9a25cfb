-- The events, by the tie, of a sequence of two lines `-`, after each line and at its end.
use Rattle.std.proofs.Common.{◌≡◌, ℕ, true, false, [], ◌∷◌, Some, None, refl}
use Rattle.yf_props.specs.Props.{no_props}
use Rattle.yf_events.specs.Event.{EventInText, sequence_starts, sequence_ends, scalar_node}
use Rattle.yf_events.specs.declared.event.ScalarStyle.TheVariants.{Plain}
use Rattle.yf_grammar.specs.Productions.Meaning.{◌⊕◌, noting, entering, empty_node, plain_event, collection, from_to, meaning_after}
use Rattle.yf_grammar.specs.FlowReader.Parser.{ParsedNode, only}
use Rattle.yf_grammar.specs.BlockReader.BlockParser.{Nothing, headed}
use Rattle.yf_grammar.specs.BlockReader.BlockSteps.{as_item}
use Rattle.yf_grammar.specs.BlockReader.BlockStack.{Layer, AtItem, entry_made, collection_made}
use Rattle.yf_grammar.specs.BlockReader.BlockStates.{new_layer, at_stage, with_entry}
use Rattle.yf_block.specs.BlockTied.{begins, all_written}

-- an empty node after an indicator that ends at the offset, up to another offset
abbrev empty_to : ℕ → ℕ → ParsedNode
empty_to j i = record { end = j; height = 0; json = false; meaning = empty_node i }

abbrev first_layer : Layer
first_layer = at_stage (new_layer true 0 Nothing [] 0) (AtItem 0)

abbrev second_layer : Layer
second_layer = at_stage (with_entry first_layer (as_item 0 (empty_to 2 1))) (AtItem 2)

-- the events as the reader adds them, with no blank line before an entry; the sequence's end is set last
abbrev sequence_to : ℕ → EventInText
sequence_to j = record { event = sequence_starts false no_props; span = Some (record { start = 0; end = j }); tag_offset = None; entry = None; folded = [] }

abbrev item_at : ℕ → EventInText
item_at i = record { event = scalar_node no_props Plain []; span = None; tag_offset = None; entry = Some (record { start = i; colon = None; blank_before = false }); folded = [] }

pub first_written : (all_written (first_layer ∷ []) ⊕ begins (Some 0) (empty_node 1)).events ≡ sequence_to 0 ∷ item_at 0 ∷ []
unfolding ◌⊕◌ noting only entering empty_node plain_event
first_written = refl

pub second_written : (all_written (second_layer ∷ []) ⊕ begins (Some 2) (empty_node 3)).events ≡ sequence_to 0 ∷ item_at 0 ∷ item_at 2 ∷ []
unfolding ◌⊕◌ noting only entering empty_node plain_event
second_written = refl

pub end_written : (all_written [] ⊕ begins None (collection_made second_layer (entry_made (AtItem 2) (empty_to 3 3))).meaning).events
    ≡ sequence_to 3 ∷ item_at 0 ∷ item_at 2 ∷ record { event = sequence_ends; span = None; tag_offset = None; entry = None; folded = [] } ∷ []
unfolding ◌⊕◌ noting only entering empty_node plain_event collection from_to meaning_after headed
end_written = refl
