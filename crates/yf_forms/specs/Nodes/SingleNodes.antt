-- Results for single nodes of a reading: the text of one flow collection that may be kept on one line, and the implicit
-- keys, each by the index of an event.
use Rattle.std.specs.Prelude.{◌≡◌, ℕ, ◌+◌, Bool, true, false, ◌&&◌, if◌then◌else◌, List, [], ◌∷◌, ◌++◌, length, map, Option, Some, None}
use Rattle.yf_events.specs.Event.{EventInText}
use Rattle.yf_events.specs.declared.lists.Lists.{Lists}
use Rattle.yf_forms.specs.declared.style.Style.{Style}
use Rattle.yf_forms.specs.Nodes.OneLineFlows.{may_be_kept}
use Rattle.yf_forms.specs.NormalForms.Normal.{LayoutSetting, Margins, root_margins, inner_margins, key_margins, value_margins, is_implicit, styled, normal_document, setting_of}
use Rattle.yf_forms.specs.Nodes.OneLine.{bare}
use Rattle.yf_events.specs.Tree.{Node, scalar, alias, sequence, mapping, Items, no_items, item, Pairs, no_pairs, pair, DocumentTree, flat, flat_document, is_collection, is_filled_flow}

-- the node that the event at an index begins
pub record NodeAt (es : List EventInText) (i : ℕ) (x : Node) : Type 0 where
  pub before : List EventInText
  pub after : List EventInText
  pub is : es ≡ before ++ (flat x ++ after)
  pub index : length before ≡ i

-- the text on one line, from bracket to bracket, of a flow collection with entries that may be kept at any column; t
-- is the text that was read
abbrev pub kept_text_of : List ℕ → LayoutSetting → Node → Option (List ℕ)
kept_text_of t c x = if is_filled_flow x && may_be_kept t c.comments x then Some (bare c.style (styled t c x)) else None

-- The new text is the old one followed by the text on one line of the collection, empty or not, with the events from
-- the first index to the last, if it may be kept.
pub record AddsKept (es : List EventInText) (s : Style) (first last : ℕ) (old new : List ℕ) : Type 0 where
  pub adds : (t : List ℕ) (c : LayoutSetting) (x : Node) → c.style ≡ s → NodeAt es first x → last + 1 ≡ first + length (flat x)
      → is_collection x ≡ true → may_be_kept t c.comments x ≡ true → new ≡ old ++ bare c.style (styled t c x)

-- The keys of the block mappings of a normal form, in order: the index of the event that begins each, and whether it
-- is implicit. The event at index i begins the node.
abbrev mutual
  pub keys : LayoutSetting → ℕ → Margins → Node → List (ℕ × Bool)
  keys c i margins (scalar at props style text lines) = []
  keys c i margins (alias at name) = []
  keys c i margins (sequence at true props items) = []
  keys c i margins (sequence at false props items) = keys_of_items c (i + 1) margins.entries items
  keys c i margins (mapping at true props pairs) = []
  keys c i margins (mapping at false props pairs) = keys_of_pairs c (i + 1) margins.entries pairs

  -- the keys of entries at that column, from the event at index i on
  pub keys_of_items : LayoutSetting → ℕ → ℕ → Items → List (ℕ × Bool)
  keys_of_items c i column no_items = []
  keys_of_items c i column (item x xs) = keys c i (inner_margins c.style column) x ++ keys_of_items c (i + length (flat x)) column xs

  pub keys_of_pairs : LayoutSetting → ℕ → ℕ → Pairs → List (ℕ × Bool)
  keys_of_pairs c i column no_pairs = []
  keys_of_pairs c i column (pair k v ps) =
      (i, is_implicit c.style column k) ∷ (keys c i (key_margins c.style column k) k
      ++ (keys c (i + length (flat k)) (value_margins c column k v) v ++ keys_of_pairs c (i + length (flat k) + length (flat v)) column ps))

abbrev pub keys_of_documents : LayoutSetting → ℕ → List DocumentTree → List (ℕ × Bool)
keys_of_documents c i [] = []
keys_of_documents c i (d ∷ ds) = keys c (i + 1) (root_margins c.style) d.root ++ keys_of_documents c (i + length (flat_document d)) ds

-- the keys of a reading of the text t with these trees
abbrev pub block_keys : List ℕ → Lists → Style → List DocumentTree → List (ℕ × Bool)
block_keys t r s trees = keys_of_documents (setting_of r s) 1 (map (normal_document t (setting_of r s)) trees)
