-- Plain scalars that YAML 1.1 and YAML 1.2 read as different types or values.
use Rattle.std.specs.Prelude.{◌≡◌, ℕ, Bool, true, false, ◌&&◌, List, [], ◌∷◌, ◌++◌, flat_map, is_none}
use Rattle.std.specs.List.{list_all}
use Rattle.yf_events.specs.Event.{EventValue, EventInText, stream_starts, stream_ends, document_starts, document_ends}
use Rattle.yf_events.specs.Event.{sequence_starts, sequence_ends, mapping_starts, mapping_ends, scalar_node, alias_node}
use Rattle.yf_events.specs.Tree.{Node, scalar, alias, sequence, mapping, Items, no_items, item, Pairs, no_pairs, pair}
use Rattle.yf_events.specs.Tree.{DocumentTree}
use Rattle.yf_events.specs.declared.event.ScalarStyle.{ScalarStyle}
use Rattle.yf_guard.specs.Guards.{is_plain}
use Rattle.yf_lint.specs.Anchors.{start_of}
use Rattle.yf_lint.specs.EmptyValues.{offset_if}
use Rattle.yf_props.specs.Props.{PropsValue}
use Rattle.yf_types.specs.Values.{is_ambiguous, newer, older, same}

abbrev pub is_untagged_plain : PropsValue → ScalarStyle → Bool
is_untagged_plain props style = is_plain style && is_none props.tag

-- a scalar is at fault, if scalars of its role count
abbrev pub is_at_fault : Bool → PropsValue → ScalarStyle → List ℕ → Bool
is_at_fault counts props style text = counts && (is_untagged_plain props style && is_ambiguous text)

-- the starts of the scalars at fault in a node: the flags are whether keys count, and whether this node does
abbrev mutual
  pub ambiguous_in : Bool → Bool → Node → List ℕ
  ambiguous_in keys counts (scalar at props style text lines) =
      offset_if (is_at_fault counts props style text) (start_of at.span)
  ambiguous_in keys counts (alias at name) = []
  ambiguous_in keys counts (sequence at flow props items) = ambiguous_items keys items
  ambiguous_in keys counts (mapping at flow props pairs) = ambiguous_pairs keys pairs

  pub ambiguous_items : Bool → Items → List ℕ
  ambiguous_items keys no_items = []
  ambiguous_items keys (item x xs) = ambiguous_in keys true x ++ ambiguous_items keys xs

  pub ambiguous_pairs : Bool → Pairs → List ℕ
  ambiguous_pairs keys no_pairs = []
  ambiguous_pairs keys (pair k v ps) = ambiguous_in keys keys k ++ (ambiguous_in keys true v ++ ambiguous_pairs keys ps)

abbrev pub ambiguous_plains_of : Bool → DocumentTree → List ℕ
ambiguous_plains_of keys d = ambiguous_in keys true d.root

-- the texts of the untagged plain scalars among these events

abbrev pub text_if : Bool → List ℕ → List (List ℕ)
text_if false text = []
text_if true text = text ∷ []

abbrev pub plain_text : EventValue → List (List ℕ)
plain_text stream_starts = []
plain_text stream_ends = []
plain_text (document_starts marked) = []
plain_text (document_ends marked) = []
plain_text (sequence_starts flow props) = []
plain_text sequence_ends = []
plain_text (mapping_starts flow props) = []
plain_text mapping_ends = []
plain_text (scalar_node props style text) = text_if (is_untagged_plain props style) text
plain_text (alias_node name) = []

abbrev pub plain_texts : List EventInText → List (List ℕ)
plain_texts es = flat_map (λ e. plain_text e.event) es

-- YAML 1.1 and YAML 1.2 give each untagged plain scalar one type and value
abbrev pub PlainsAgree : List EventInText → Type 0
PlainsAgree es = list_all (λ t. same (older t) (newer t)) (plain_texts es) ≡ true
