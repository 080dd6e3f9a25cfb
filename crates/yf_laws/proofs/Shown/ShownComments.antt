-- How the definitions of the layout print comments and blank lines.
use Rattle.std.proofs.Common.{◌≡◌, true, false, [], ◌∷◌, None, codes, refl}
use Rattle.yf_props.specs.Props.{no_props}
use Rattle.yf_events.specs.declared.event.ScalarStyle.TheVariants.{Single, Double, Literal}
use Rattle.yf_events.specs.Tree.{scalar, sequence, no_items}
use Rattle.yf_laws.proofs.Shown.Examples.{house, sequences_at_keys, at, entry, entry_after_blank, key, key_after_blank, word, nothing, block_items, flow_items, block_pairs, flow_pairs, anchor, one_document, tree, root, remark, formatted}

-- a text without documents; blank lines are printed once
comments_alone :
    formatted house (codes "# c\n\n\n# d") (remark 0 (codes "# c") false false ∷ remark 6 (codes "# d") true false ∷ []) ([])
    ([])
    ≡ codes "# c\n\n# d\n"
unfolding formatted
comments_alone = refl

-- a comment with no item after it is at the end
a_document_of_a_comment :
    formatted house (codes "---\n# c\n") (remark 4 (codes "# c") false false ∷ []) (one_document 0)
    (root (nothing None))
    ≡ codes "---\n# c\n"
unfolding formatted
a_document_of_a_comment = refl

-- the collections around it become block collections, and it trails its leaf
a_comment_between_brackets :
    formatted house (codes "{\"a\":1,b: [x, # c\n y]}") (remark 14 (codes "# c") false true ∷ []) (one_document 0)
    (root (flow_pairs (at 0 22 None) no_props (
    ((scalar (at 1 4 (key 1 4)) no_props Double (codes "a") []), (word (at 5 6 None) (codes "1"))) ∷ (
      (word (at 7 8 (key 7 8)) (codes "b")),
      (flow_items (at 10 21 None) no_props (
          (word (at 11 12 (entry 11)) (codes "x")) ∷
          (word (at 19 20 (entry 19)) (codes "y")) ∷ [])),
    ) ∷ [])))
    ≡ codes "---\n\"a\": 1\nb:\n  - x  # c\n  - y\n"
unfolding formatted
a_comment_between_brackets = refl

-- the first trails the leaf, the second is after it; after a kept tail no blank line is printed
two_comments_within_a_leaf :
    formatted house (codes "- &x # c\n\n  # d\n  |+\n  a\n\n")
    (remark 5 (codes "# c") false false ∷ remark 12 (codes "# d") true false ∷ [])
    (one_document 0)
    (root (block_items (at 0 26 None) no_props (
    (scalar (at 2 26 (entry 0)) (anchor (codes "x")) Literal (codes "a\n\n") []) ∷ [])))
    ≡ codes "---\n- &x |+  # c\n  a\n\n# d\n"
unfolding formatted
two_comments_within_a_leaf = refl

-- a comment is written without them, a line of a block scalar keeps them
whites_after_a_comment :
    formatted house (codes "a: 'x'  # c \nb: |\n  y \n") (remark 8 (codes "# c ") false true ∷ []) (one_document 0)
    (root (block_pairs (at 0 23 None) no_props (
    ((word (at 0 1 (key 0 1)) (codes "a")), (scalar (at 3 6 None) no_props Single (codes "x") [])) ∷
    ((word (at 13 14 (key 13 14)) (codes "b")), (scalar (at 16 23 None) no_props Literal (codes "y \n") [])) ∷ [])))
    ≡ codes "---\na: \"x\"  # c\nb: |\n  y \n"
unfolding formatted
whites_after_a_comment = refl

-- it ends the line of its leaf, here the key
a_comment_after_an_explicit_key :
    formatted house (codes "? a # c\nb: 1\n") (remark 4 (codes "# c") false true ∷ []) (one_document 0)
    (root (block_pairs (at 0 12 None) no_props (
    ((word (at 2 3 (entry 0)) (codes "a")), (nothing None)) ∷
    ((word (at 8 9 (key 8 9)) (codes "b")), (word (at 11 12 None) (codes "1"))) ∷ [])))
    ≡ codes "---\na:  # c\nb: 1\n"
unfolding formatted
a_comment_after_an_explicit_key = refl

-- it trails the key, and the value begins on the next line; one before the first entry is before its line
a_comment_between_key_and_value :
    formatted house (codes "- &x\n  # c\n  k: # d\n    v\n")
    (remark 7 (codes "# c") false false ∷ remark 16 (codes "# d") false true ∷ [])
    (one_document 0)
    (root (block_items (at 0 25 None) no_props (
    (block_pairs (at 2 25 (entry 0)) (anchor (codes "x")) (
    ((word (at 13 14 (key 13 14)) (codes "k")), (word (at 24 25 None) (codes "v"))) ∷ [])) ∷ [])))
    ≡ codes "---\n- &x\n  # c\n  k:  # d\n    v\n"
unfolding formatted
a_comment_between_key_and_value = refl

-- one after a leaf on its line trails it, others are before the line of the next item
comments_among_entries :
    formatted house (codes "[a, # c\n # d\n b, {k: # e\n v}] # f\n")
    (remark 4 (codes "# c") false true ∷
    remark 9 (codes "# d") false false ∷
    remark 21 (codes "# e") false true ∷
    remark 30 (codes "# f") false true ∷ [])
    (one_document 0)
    (root (flow_items (at 0 29 None) no_props (
    (word (at 1 2 (entry 1)) (codes "a")) ∷
    (word (at 14 15 (entry 14)) (codes "b")) ∷
    (flow_pairs (at 17 28 (entry 17)) no_props (
    ((word (at 18 19 (key 18 19)) (codes "k")), (word (at 26 27 None) (codes "v"))) ∷ [])) ∷ [])))
    ≡ codes "---\n- a  # c\n# d\n- b\n- k:  # e\n    v  # f\n"
unfolding formatted
comments_among_entries = refl

-- the first comment between a key and its value trails the key, also if the key is after a `-`
a_comment_below_a_key_after_a_sign :
    formatted house (codes "- k:\n  # c\n  # d\n    v\n")
    (remark 7 (codes "# c") false false ∷ remark 13 (codes "# d") false false ∷ [])
    (one_document 0)
    (root (block_items (at 0 22 None) no_props (
    (block_pairs (at 2 22 (entry 0)) no_props (
    ((word (at 2 3 (key 2 3)) (codes "k")), (word (at 21 22 None) (codes "v"))) ∷ [])) ∷ [])))
    ≡ codes "---\n- k:  # c\n    # d\n    v\n"
unfolding formatted
a_comment_below_a_key_after_a_sign = refl

-- it is before the `...` of the document after it
a_comment_before_directives :
    formatted house (codes "a\n...\n# c\n%YAML 1.1\n--- b\n")
    (remark 6 (codes "# c") false false ∷ [])
    (record { start = 0; directives = [] } ∷
    record { start = 20; directives = record { offset = 10; words = (codes "YAML") ∷ (codes "1.1") ∷ [] } ∷ [] } ∷ [])
    (tree (word (at 0 1 None) (codes "a")) ∷
    tree (word (at 24 25 None) (codes "b")) ∷ [])
    ≡ codes "---\na\n# c\n...\n%YAML 1.1\n---\nb\n"
unfolding formatted
a_comment_before_directives = refl

-- a blank line is printed once, and neither after a `---` nor after the `:` of a key before its value
blank_lines :
    formatted house (codes "a:\n\n  b: 1\n\n\n  # c\n\n  d: 2\n\n---\n\ne\n")
    (remark 15 (codes "# c") true false ∷ [])
    (record { start = 0; directives = [] } ∷
    record { start = 28; directives = [] } ∷ [])
    (tree (block_pairs (at 0 26 None) no_props ((
      (word (at 0 1 (key 0 1)) (codes "a")),
      (block_pairs (at 6 26 None) no_props (
          ((word (at 6 7 (key_after_blank 6 7)) (codes "b")), (word (at 9 10 None) (codes "1"))) ∷
          ((word (at 22 23 (key_after_blank 22 23)) (codes "d")), (word (at 25 26 None) (codes "2"))) ∷ [])),
    ) ∷ [])) ∷
    tree (word (at 33 34 None) (codes "e")) ∷ [])
    ≡ codes "---\na:\n  b: 1\n\n  # c\n\n  d: 2\n---\ne\n"
unfolding formatted
blank_lines = refl

-- a blank line counts, since the tail isn't content
a_blank_line_after_a_clipped_tail :
    formatted house (codes "---\n- |\n  ---\n\n- b\n") [] (one_document 0)
    (root (block_items (at 4 18 None) no_props (
    (scalar (at 6 14 (entry 4)) no_props Literal (codes "---\n") []) ∷
    (word (at 17 18 (entry_after_blank 15)) (codes "b")) ∷ [])))
    ≡ codes "---\n- |\n  ---\n\n- b\n"
unfolding formatted
a_blank_line_after_a_clipped_tail = refl

-- it is before the directives
a_comment_in_a_directive :
    formatted house (codes "%FOO a # c\n---\nx\n")
    (remark 7 (codes "# c") false false ∷ [])
    (record { start = 11; directives = record { offset = 0; words = (codes "FOO") ∷ (codes "a") ∷ [] } ∷ [] } ∷ [])
    (tree (word (at 15 16 None) (codes "x")) ∷ [])
    ≡ codes "# c\n%FOO a\n---\nx\n"
unfolding formatted
a_comment_in_a_directive = refl

-- an empty collection is a leaf, which the comment trails
a_comment_in_an_empty_collection :
    formatted house (codes "[ # c\n]\n") (remark 2 (codes "# c") false false ∷ []) (one_document 0)
    (root (sequence (at 0 7 None) true no_props no_items))
    ≡ codes "---\n[]  # c\n"
unfolding formatted
a_comment_in_an_empty_collection = refl

-- it trails the key and not the leaf before it
a_comment_after_an_empty_key :
    formatted house (codes "{a: x, : # c\n v}\n") (remark 9 (codes "# c") false true ∷ []) (one_document 0)
    (root (flow_pairs (at 0 16 None) no_props (
    ((word (at 1 2 (key 1 2)) (codes "a")), (word (at 4 5 None) (codes "x"))) ∷
    ((nothing (key 7 7)), (word (at 14 15 None) (codes "v"))) ∷ [])))
    ≡ codes "---\na: x\n:  # c\n  v\n"
unfolding formatted
a_comment_after_an_empty_key = refl

-- a flow sequence that becomes a block sequence is at its key, too
a_comment_in_a_sequence_at_its_key :
    formatted sequences_at_keys (codes "a: [x, # c\n y]\n") (remark 7 (codes "# c") false true ∷ []) (one_document 0)
    (root (block_pairs (at 0 14 None) no_props ((
      (word (at 0 1 (key 0 1)) (codes "a")),
      (flow_items (at 3 14 None) no_props (
          (word (at 4 5 (entry 4)) (codes "x")) ∷
          (word (at 12 13 (entry 12)) (codes "y")) ∷ [])),
    ) ∷ [])))
    ≡ codes "---\na:\n- x  # c\n- y\n"
unfolding formatted
a_comment_in_a_sequence_at_its_key = refl

-- a comment between the properties and the bracket is not between the brackets; it trails the key
a_comment_before_a_bracket :
    formatted house (codes "k: &a # c\n  [x]\n") (remark 6 (codes "# c") false true ∷ []) (one_document 0)
    (root (block_pairs (at 0 15 None) no_props ((
      (word (at 0 1 (key 0 1)) (codes "k")),
      (flow_items (at 3 15 None) (anchor (codes "a")) ((word (at 13 14 (entry 13)) (codes "x")) ∷ [])),
    ) ∷ [])))
    ≡ codes "---\nk:  # c\n  &a [x]\n"
unfolding formatted
a_comment_before_a_bracket = refl

-- comments after a `---` are before the line of the first item
a_comment_after_a_marker :
    formatted house (codes "--- # c\n\n# d\na: # e\n  - b\n")
    (remark 4 (codes "# c") false false ∷
    remark 9 (codes "# d") true false ∷
    remark 16 (codes "# e") false true ∷ [])
    (one_document 0)
    (root (block_pairs (at 13 25 None) no_props ((
      (word (at 13 14 (key 13 14)) (codes "a")),
      (block_items (at 22 25 None) no_props ((word (at 24 25 (entry 22)) (codes "b")) ∷ [])),
    ) ∷ [])))
    ≡ codes "---\n# c\n\n# d\na:  # e\n  - b\n"
unfolding formatted
a_comment_after_a_marker = refl
