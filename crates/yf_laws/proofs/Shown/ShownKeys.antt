-- The definitions of the layout, evaluated on single nodes.
use Rattle.std.proofs.Common.{◌≡◌, true, false, [], ◌∷◌, Some, None, codes, refl, replicate}
use Rattle.yf_props.specs.Props.{no_props}
use Rattle.yf_forms.specs.Nodes.SingleNodes.{kept_text_of, block_keys}
use Rattle.yf_forms.specs.NormalForms.Normal.{is_implicit, setting_of}
use Rattle.yf_events.specs.Tree.{sequence, no_items}
use Rattle.yf_laws.proofs.Shown.Examples.{house, at, entry, key, word, nothing, flow_items, flow_pairs, block_pairs, one_document, root, remark, lists_of, formatted}

kept_text_of_a_single_pair :
    kept_text_of (codes "[a: b, c]\n") (setting_of (lists_of [] []) house)
    (flow_items (at 0 9 None) no_props (
    (flow_pairs (at 1 5 (entry 1)) no_props (((word (at 1 2 (key 1 2)) (codes "a")), (word (at 4 5 None) (codes "b"))) ∷ [])) ∷
    (word (at 7 8 (entry 7)) (codes "c")) ∷ []))
    ≡ Some (codes "[{a: b}, c]")
unfolding formatted
kept_text_of_a_single_pair = refl

-- an empty collection is a leaf
no_kept_text_of_an_empty_collection :
    kept_text_of (codes "[ # c\n]\n") (setting_of (lists_of (remark 2 (codes "# c") false false ∷ []) []) house) (sequence (at 0 7 None) true no_props no_items)
    ≡ None
unfolding formatted
no_kept_text_of_an_empty_collection = refl

-- `? [a]` and `: v`: the key is the event at index 3
a_kept_key_is_implicit :
    block_keys (codes "? [a]\n: v\n") (lists_of [] (one_document 0)) house
    (root (block_pairs (at 0 9 None) no_props (
    ((flow_items (at 2 5 (key 0 6)) no_props ((word (at 3 4 (entry 3)) (codes "a")) ∷ [])), (word (at 8 9 None) (codes "v"))) ∷ [])))
    ≡ (3, true) ∷ []
unfolding formatted
a_kept_key_is_implicit = refl

-- a flow mapping with an empty value is not an implicit key, and the value's keys follow it
an_explicit_key_before_a_mapping :
    block_keys (codes "? {a: }\n: {b: }\n") (lists_of [] (one_document 0)) house
    (root (block_pairs (at 0 15 None) no_props ((
      (flow_pairs (at 2 7 (key 0 8)) no_props (((word (at 3 4 (key 3 4)) (codes "a")), (nothing None)) ∷ [])),
      (flow_pairs (at 10 15 None) no_props (((word (at 11 12 (key 11 12)) (codes "b")), (nothing None)) ∷ [])),
    ) ∷ [])))
    ≡ (3, false) ∷ (4, true) ∷ (8, true) ∷ []
unfolding formatted
an_explicit_key_before_a_mapping = refl

-- an implicit key may have at most that many characters
a_key_of_1023_characters : is_implicit house 0 (word (at 0 1023 (entry 0)) (replicate 1023 107)) ≡ true
unfolding formatted
a_key_of_1023_characters = refl

a_key_of_1024_characters : is_implicit house 0 (word (at 0 1024 (entry 0)) (replicate 1024 107)) ≡ false
unfolding formatted
a_key_of_1024_characters = refl
