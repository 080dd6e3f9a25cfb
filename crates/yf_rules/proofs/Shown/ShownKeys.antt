-- A repeated key in a small reading.
use Rattle.std.proofs.Common.{ℕ, List, [], ◌∷◌, Option, Some, None, codes, false, arith, refl}
use Rattle.yf_props.specs.Props.{no_props}
use Rattle.yf_events.specs.Tree.{NodeOffsets, Node, scalar, mapping, no_pairs, pair, DocumentTree, TreesOf, flat_stream}
use Rattle.yf_events.specs.declared.event.Entry.{Entry}
use Rattle.yf_events.specs.declared.event.ScalarStyle.TheVariants.{Plain, Double}
use Rattle.yf_events.specs.declared.lists.Lists.{Lists}
use Rattle.yf_rule_sets.specs.RuleSets.Nodes.{RepeatedKey, repeats, is_root}

-- the reading of "a: 1\n\"a\": 2\n: 3\n: 4\n": the second key has the text of the first, and the last is as empty as
-- the one before it

abbrev entry : ℕ → ℕ → Option Entry
entry start colon = Some (record { start = start; colon = Some colon; blank_before = false })

abbrev at : ℕ → ℕ → Option Entry → NodeOffsets
at start end entry = record { span = Some (record { start = start; end = end }); tag_offset = None; entry = entry }

abbrev word : NodeOffsets → List ℕ → Node
word standing text = scalar standing no_props Plain text []

abbrev quoted : NodeOffsets → List ℕ → Node
quoted standing text = scalar standing no_props Double text []

abbrev nothing : Option Entry → Node
nothing entry = scalar (record { span = None; tag_offset = None; entry = entry }) no_props Plain [] []

abbrev root : Node
root = mapping (at 0 19 None) false no_props
    (pair (word (at 0 1 (entry 0 1)) (codes "a")) (word (at 3 4 None) (codes "1"))
    (pair (quoted (at 5 8 (entry 5 8)) (codes "a")) (word (at 10 11 None) (codes "2"))
    (pair (nothing (entry 12 12)) (word (at 14 15 None) (codes "3"))
    (pair (nothing (entry 16 16)) (word (at 18 19 None) (codes "4")) no_pairs))))

abbrev trees : List DocumentTree
trees = record { marked = false; closed = false; root = root } ∷ []

abbrev reading : Lists
reading = record {
  events = flat_stream trees;
  resolved = None ∷ None ∷ None ∷ None ∷ None ∷ None ∷ None ∷ None ∷ None ∷ None ∷ None ∷ None ∷ None ∷ None ∷ [];
  comments = [];
  on_leaf_line = [];
  documents = record { start = 0; directives = [] } ∷ [];
  escapes = [];
}

trees_of : TreesOf reading trees
trees_of = record { events = refl; documents = refl }

repeated_text : RepeatedKey reading trees 5 5
repeated_text =
    repeats {x = (2, root)} {k = (5, quoted (at 5 8 (entry 5 8)) (codes "a"))} {v = (6, word (at 10 11 None) (codes "2"))}
    {l = (3, word (at 0 1 (entry 0 1)) (codes "a"))} {w = (4, word (at 3 4 None) (codes "1"))} {text = codes "a"}
    (is_root (0, omega arith, refl)) (1, omega arith, refl) (0, omega arith, refl) (omega arith) refl refl refl refl

-- it is at its `:`
repeated_nothing : RepeatedKey reading trees 9 16
repeated_nothing =
    repeats {x = (2, root)} {k = (9, nothing (entry 16 16))} {v = (10, word (at 18 19 None) (codes "4"))}
    {l = (7, nothing (entry 12 12))} {w = (8, word (at 14 15 None) (codes "3"))} {text = []}
    (is_root (0, omega arith, refl)) (3, omega arith, refl) (2, omega arith, refl) (omega arith) refl refl refl refl
