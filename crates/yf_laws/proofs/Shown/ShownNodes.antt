-- How the definitions of the layout print nodes and documents.
use Rattle.std.proofs.Common.{◌≡◌, true, [], ◌∷◌, Some, None, codes, refl}
use Rattle.yf_props.specs.Props.{no_props}
use Rattle.yf_props.specs.Props.TagValue.{IsShort}
use Rattle.yf_events.specs.declared.event.ScalarStyle.TheVariants.{Plain, Single, Double, Literal, Folded}
use Rattle.yf_events.specs.Tree.{scalar, alias, sequence, mapping, no_items, no_pairs}
use Rattle.yf_laws.proofs.Shown.Examples.{house, four_columns, single_quotes, short_lines, sequences_at_keys, at, entry, entry_after_blank, key, word, nothing, block_items, flow_items, block_pairs, flow_pairs, anchor, tag, one_document, tree, root, formatted}

-- entries of the root collection are at column 0
a_sequence_of_plain_scalars :
    formatted house (codes "- a\n- b\n") [] (one_document 0)
    (root (block_items (at 0 7 None) no_props (
    (word (at 2 3 (entry 0)) (codes "a")) ∷
    (word (at 6 7 (entry 4)) (codes "b")) ∷ [])))
    ≡ codes "---\n- a\n- b\n"
unfolding formatted
a_sequence_of_plain_scalars = refl

-- nothing is printed for nothing
a_text_without_documents :
    formatted house (codes "") [] ([])
    ([])
    ≡ codes ""
unfolding formatted
a_text_without_documents = refl

-- a key that may be implicit is written as one
an_explicit_entry_becomes_implicit :
    formatted house (codes "? k\n: v\n") [] (one_document 0)
    (root (block_pairs (at 0 7 None) no_props (
    ((word (at 2 3 (key 0 4)) (codes "k")), (word (at 6 7 None) (codes "v"))) ∷ [])))
    ≡ codes "---\nk: v\n"
unfolding formatted
an_explicit_entry_becomes_implicit = refl

-- a flow mapping with an empty value becomes a block mapping; an alias as key has a space after it
an_empty_scalar_is_never_kept :
    formatted house (codes "foo: &a x\nbar: {*a : y, &b: z}\n") [] (one_document 0)
    (root (block_pairs (at 0 30 None) no_props (
    ((word (at 0 3 (key 0 3)) (codes "foo")), (scalar (at 5 9 None) (anchor (codes "a")) Plain (codes "x") [])) ∷ (
      (word (at 10 13 (key 10 13)) (codes "bar")),
      (flow_pairs (at 15 30 None) no_props (
          ((alias (at 16 18 (key 16 19)) (codes "a")), (word (at 21 22 None) (codes "y"))) ∷
          ((scalar (at 24 29 (entry 24)) (anchor (codes "b:")) Plain (codes "z") []), (nothing None)) ∷ [])),
    ) ∷ [])))
    ≡ codes "---\nfoo: &a x\nbar:\n  *a : y\n  &b: z:\n"
unfolding formatted
an_empty_scalar_is_never_kept = refl

-- the sign is `-`, and the content is one indentation to the right of the entry
a_literal_without_a_final_feed :
    formatted house (codes "- |\n x") [] (one_document 0)
    (root (block_items (at 0 6 None) no_props ((scalar (at 2 6 (entry 0)) no_props Literal (codes "x") []) ∷ [])))
    ≡ codes "---\n- |-\n  x\n"
unfolding formatted
a_literal_without_a_final_feed = refl

-- the sign is `+` if more than one line feed ends the text, and the empty lines are printed
a_kept_tail :
    formatted house (codes "--- |+\n a\n\n") [] (one_document 0)
    (root (scalar (at 4 11 None) no_props Literal (codes "a\n\n") []))
    ≡ codes "---\n|+\n  a\n\n"
unfolding formatted
a_kept_tail = refl

-- keys that could be read as something else are quoted
texts_that_are_not_steady :
    formatted house (codes "-: a\na:: b\nc: 12\n") [] (one_document 0)
    (root (block_pairs (at 0 16 None) no_props (
    ((word (at 0 1 (key 0 1)) (codes "-")), (word (at 3 4 None) (codes "a"))) ∷
    ((word (at 5 7 (key 5 7)) (codes "a:")), (word (at 9 10 None) (codes "b"))) ∷
    ((word (at 11 12 (key 11 12)) (codes "c")), (word (at 14 16 None) (codes "12"))) ∷ [])))
    ≡ codes "---\n\"-\": a\n\"a:\": b\nc: 12\n"
unfolding formatted
texts_that_are_not_steady = refl

-- a root scalar that would be a document marker is quoted
a_marker_as_text :
    formatted house (codes " ...\n") [] (one_document 1)
    (root (word (at 1 4 None) (codes "...")))
    ≡ codes "---\n\"...\"\n"
unfolding formatted
a_marker_as_text = refl

-- directives are before `---`, and a tag keeps its spelling
a_directive_and_a_tag :
    formatted house (codes "%TAG !e! tag:e.com,2000:\n---\n!e!t%21 v\n")
    []
    (record { start = 25; directives = record { offset = 0; words = (codes "TAG") ∷ (codes "!e!") ∷ (codes "tag:e.com,2000:") ∷ [] } ∷ [] } ∷ [])
    (tree (scalar (at 29 38 None) (tag (IsShort (codes "!e!") (codes "t%21"))) Plain (codes "v") []) ∷ [])
    ≡ codes "%TAG !e! tag:e.com,2000:\n---\n!e!t%21 v\n"
unfolding formatted
a_directive_and_a_tag = refl

-- a sign is followed by the spaces that fill the indentation
entries_four_columns_to_the_right :
    formatted four_columns (codes "a: [1, {b: }]\nc:\n- - x\n  - y\n") [] (one_document 0)
    (root (block_pairs (at 0 28 None) no_props ((
      (word (at 0 1 (key 0 1)) (codes "a")),
      (flow_items (at 3 13 None) no_props (
          (word (at 4 5 (entry 4)) (codes "1")) ∷
          (flow_pairs (at 7 12 (entry 7)) no_props (((word (at 8 9 (key 8 9)) (codes "b")), (nothing None)) ∷ [])) ∷ [])),
    ) ∷ (
      (word (at 14 15 (key 14 15)) (codes "c")),
      (block_items (at 17 28 None) no_props (
          (block_items (at 19 28 (entry 17)) no_props (
          (word (at 21 22 (entry 19)) (codes "x")) ∷
          (word (at 27 28 (entry 25)) (codes "y")) ∷ [])) ∷ [])),
    ) ∷ [])))
    ≡ codes "---\na:\n    -   1\n    -   b:\nc:\n    -   -   x\n        -   y\n"
unfolding formatted
entries_four_columns_to_the_right = refl

-- a flow collection that isn't kept and a block scalar are not implicit keys
keys_that_are_explicit :
    formatted house (codes "? [a, {b: }]\n: - c\n  - d\n? |\n  x\n: y\n") [] (one_document 0)
    (root (block_pairs (at 0 36 None) no_props ((
      (flow_items (at 2 12 (key 0 13)) no_props (
          (word (at 3 4 (entry 3)) (codes "a")) ∷
          (flow_pairs (at 6 11 (entry 6)) no_props (((word (at 7 8 (key 7 8)) (codes "b")), (nothing None)) ∷ [])) ∷ [])),
      (block_items (at 15 24 None) no_props (
          (word (at 17 18 (entry 15)) (codes "c")) ∷
          (word (at 23 24 (entry 21)) (codes "d")) ∷ [])),
    ) ∷
    ((scalar (at 27 33 (key 25 33)) no_props Literal (codes "x\n") []), (word (at 35 36 None) (codes "y"))) ∷ [])))
    ≡ codes "---\n? - a\n  - b:\n: - c\n  - d\n? |\n  x\n: y\n"
unfolding formatted
keys_that_are_explicit = refl

-- quoted scalars are written in the preferred quotes
double_quotes :
    formatted house (codes "- 'it''s'\n- \"\\r\"\n") [] (one_document 0)
    (root (block_items (at 0 16 None) no_props (
    (scalar (at 2 9 (entry 0)) no_props Single (codes "it's") []) ∷
    (scalar (at 12 16 (entry 10)) no_props Double (codes "\r") []) ∷ [])))
    ≡ codes "---\n- \"it's\"\n- \"\\r\"\n"
unfolding formatted
double_quotes = refl

-- a character that is not an nb-char needs double quotes
single_quotes_where_they_can_be :
    formatted single_quotes (codes "- 'it''s'\n- \"\\r\"\n") [] (one_document 0)
    (root (block_items (at 0 16 None) no_props (
    (scalar (at 2 9 (entry 0)) no_props Single (codes "it's") []) ∷
    (scalar (at 12 16 (entry 10)) no_props Double (codes "\r") []) ∷ [])))
    ≡ codes "---\n- 'it''s'\n- \"\\r\"\n"
unfolding formatted
single_quotes_where_they_can_be = refl

-- the digit, the lines of a folded scalar, and one without content, which is quoted
block_scalars :
    formatted house (codes "- |2\n    x\n\n- >\n a\n b\n\n   c\n- |\n\n") [] (one_document 0)
    (root (block_items (at 0 32 None) no_props (
    (scalar (at 2 11 (entry 0)) no_props Literal (codes "  x\n") []) ∷
    (scalar (at 14 28 (entry_after_blank 12)) no_props Folded (codes "a b\n\n  c\n") ((codes "a") ∷ (codes "b") ∷ [] ∷ (codes "  c") ∷ [])) ∷
    (scalar (at 30 32 (entry 28)) no_props Literal (codes "") []) ∷ [])))
    ≡ codes "---\n- |2\n    x\n\n- >\n  a\n  b\n\n    c\n- \"\"\n"
unfolding formatted
block_scalars = refl

-- a closing bracket at column 40, counted from 1, is within 40 columns
a_bracket_at_the_last_column :
    formatted short_lines (codes "k: [aaaaaaaaaaaaaaaaaaaaaaaaaaaaaaaaaaa]\n") [] (one_document 0)
    (root (block_pairs (at 0 40 None) no_props ((
      (word (at 0 1 (key 0 1)) (codes "k")),
      (flow_items (at 3 40 None) no_props (
          (word (at 4 39 (entry 4)) (codes "aaaaaaaaaaaaaaaaaaaaaaaaaaaaaaaaaaa")) ∷ [])),
    ) ∷ [])))
    ≡ codes "---\nk: [aaaaaaaaaaaaaaaaaaaaaaaaaaaaaaaaaaa]\n"
unfolding formatted
a_bracket_at_the_last_column = refl

-- one column more, and the collection becomes a block collection
a_bracket_after_the_last_column :
    formatted short_lines (codes "k: [aaaaaaaaaaaaaaaaaaaaaaaaaaaaaaaaaaaa]\n") [] (one_document 0)
    (root (block_pairs (at 0 41 None) no_props ((
      (word (at 0 1 (key 0 1)) (codes "k")),
      (flow_items (at 3 41 None) no_props (
          (word (at 4 40 (entry 4)) (codes "aaaaaaaaaaaaaaaaaaaaaaaaaaaaaaaaaaaa")) ∷ [])),
    ) ∷ [])))
    ≡ codes "---\nk:\n  - aaaaaaaaaaaaaaaaaaaaaaaaaaaaaaaaaaaa\n"
unfolding formatted
a_bracket_after_the_last_column = refl

-- at any column of the bracket in the source
the_column_of_the_output_decides :
    formatted short_lines (codes "k:\n [aaaaaaaaaaaaaaaaaaaaaaaaaaaaaaaaaaaa]\n") [] (one_document 0)
    (root (block_pairs (at 0 42 None) no_props ((
      (word (at 0 1 (key 0 1)) (codes "k")),
      (flow_items (at 4 42 None) no_props (
          (word (at 5 41 (entry 5)) (codes "aaaaaaaaaaaaaaaaaaaaaaaaaaaaaaaaaaaa")) ∷ [])),
    ) ∷ [])))
    ≡ codes "---\nk:\n  - aaaaaaaaaaaaaaaaaaaaaaaaaaaaaaaaaaaa\n"
unfolding formatted
the_column_of_the_output_decides = refl

-- kept text
a_single_pair_is_a_mapping :
    formatted house (codes "[a: b, c]\n") [] (one_document 0)
    (root (flow_items (at 0 9 None) no_props (
    (flow_pairs (at 1 5 (entry 1)) no_props (
    ((word (at 1 2 (key 1 2)) (codes "a")), (word (at 4 5 None) (codes "b"))) ∷ [])) ∷
    (word (at 7 8 (entry 7)) (codes "c")) ∷ [])))
    ≡ codes "---\n[{a: b}, c]\n"
unfolding formatted
a_single_pair_is_a_mapping = refl

-- the entries of a value are right of its key
sequences_to_the_right_of_their_keys :
    formatted house (codes "a:\n  - x\n  - b:\n      - y\n") [] (one_document 0)
    (root (block_pairs (at 0 25 None) no_props ((
      (word (at 0 1 (key 0 1)) (codes "a")),
      (block_items (at 5 25 None) no_props (
          (word (at 7 8 (entry 5)) (codes "x")) ∷
          (block_pairs (at 13 25 (entry 11)) no_props ((
            (word (at 13 14 (key 13 14)) (codes "b")),
            (block_items (at 22 25 None) no_props ((word (at 24 25 (entry 22)) (codes "y")) ∷ [])),
          ) ∷ [])) ∷ [])),
    ) ∷ [])))
    ≡ codes "---\na:\n  - x\n  - b:\n      - y\n"
unfolding formatted
sequences_to_the_right_of_their_keys = refl

-- or at the key, by the settings
sequences_at_the_column_of_their_keys :
    formatted sequences_at_keys (codes "a:\n  - x\n  - b:\n      - y\n") [] (one_document 0)
    (root (block_pairs (at 0 25 None) no_props ((
      (word (at 0 1 (key 0 1)) (codes "a")),
      (block_items (at 5 25 None) no_props (
          (word (at 7 8 (entry 5)) (codes "x")) ∷
          (block_pairs (at 13 25 (entry 11)) no_props ((
            (word (at 13 14 (key 13 14)) (codes "b")),
            (block_items (at 22 25 None) no_props ((word (at 24 25 (entry 22)) (codes "y")) ∷ [])),
          ) ∷ [])) ∷ [])),
    ) ∷ [])))
    ≡ codes "---\na:\n- x\n- b:\n  - y\n"
unfolding formatted
sequences_at_the_column_of_their_keys = refl

-- its properties are after the key
a_sequence_with_properties_at_its_key :
    formatted sequences_at_keys (codes "a: !!seq\n  - x\n") [] (one_document 0)
    (root (block_pairs (at 0 14 None) no_props ((
      (word (at 0 1 (key 0 1)) (codes "a")),
      (block_items (at 3 14 None) (tag (IsShort (codes "!!") (codes "seq"))) (
          (word (at 13 14 (entry 11)) (codes "x")) ∷ [])),
    ) ∷ [])))
    ≡ codes "---\na: !!seq\n- x\n"
unfolding formatted
a_sequence_with_properties_at_its_key = refl

-- sequences in sequences are right of their entry under both settings
sequences_in_sequences_stay :
    formatted sequences_at_keys (codes "- - x\n") [] (one_document 0)
    (root (block_items (at 0 5 None) no_props (
    (block_items (at 2 5 (entry 0)) no_props ((word (at 4 5 (entry 2)) (codes "x")) ∷ [])) ∷ [])))
    ≡ codes "---\n- - x\n"
unfolding formatted
sequences_in_sequences_stay = refl

-- the properties of the root are on a line of their own, the anchor first
properties_before_a_root_collection :
    formatted house (codes "&a\n!!map\nk: v\n") [] (one_document 0)
    (root (block_pairs (at 0 13 None) (record { anchor = Some (codes "a"); tag = Some (IsShort (codes "!!") (codes "map")) }) (
    ((word (at 9 10 (key 9 10)) (codes "k")), (word (at 12 13 None) (codes "v"))) ∷ [])))
    ≡ codes "---\n&a !!map\nk: v\n"
unfolding formatted
properties_before_a_root_collection = refl

-- an empty collection is a leaf, and an empty node as key is only the `:`
an_empty_node_as_key :
    formatted house (codes "? &a []\n: b\n? x\n?\n") [] (one_document 0)
    (root (block_pairs (at 0 17 None) no_props (
    ((sequence (at 2 7 (key 0 8)) true (anchor (codes "a")) no_items), (word (at 10 11 None) (codes "b"))) ∷
    ((word (at 14 15 (entry 12)) (codes "x")), (nothing None)) ∷
    ((nothing (entry 16)), (nothing None)) ∷ [])))
    ≡ codes "---\n&a []: b\nx:\n:\n"
unfolding formatted
an_empty_node_as_key = refl

-- a key that has only properties has a space before its `:`
a_tag_as_key :
    formatted house (codes "{!!str : x, [a]: [[], {}]}\n") [] (one_document 0)
    (root (flow_pairs (at 0 26 None) no_props ((
      (scalar (at 1 6 (key 1 7)) (tag (IsShort (codes "!!") (codes "str"))) Plain (codes "") []),
      (word (at 9 10 None) (codes "x")),
    ) ∷ (
      (flow_items (at 12 15 (key 12 15)) no_props ((word (at 13 14 (entry 13)) (codes "a")) ∷ [])),
      (flow_items (at 17 25 None) no_props (
          (sequence (at 18 20 (entry 18)) true no_props no_items) ∷
          (mapping (at 22 24 (entry 22)) true no_props no_pairs) ∷ [])),
    ) ∷ [])))
    ≡ codes "---\n!!str : x\n[a]: [[], {}]\n"
unfolding formatted
a_tag_as_key = refl
