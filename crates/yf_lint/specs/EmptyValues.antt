-- Keys and items without a value.
use Rattle.std.specs.Prelude.{ℕ, Bool, true, false, if◌then◌else◌, List, [], ◌∷◌, ◌++◌, flat_map, Option, Some, None}
use Rattle.yf_events.specs.Tree.{Node, scalar, alias, sequence, mapping, Items, no_items, item, Pairs, no_pairs, pair, DocumentTree, standing}
use Rattle.yf_events.specs.declared.event.Entry.{Entry}
use Rattle.yf_events.specs.declared.event.Span.{Span}
use Rattle.yf_guard.specs.Guards.{is_empty}

-- the start of a node, or of an empty node's entry: the `:` of a key, or else the `-` or the `?`
abbrev pub colon_or : ℕ → Option ℕ → ℕ
colon_or start None = start
colon_or start (Some colon) = colon

abbrev pub entry_start : Option Entry → ℕ
entry_start None = 0
entry_start (Some entry) = colon_or entry.start entry.colon

abbrev pub start_of : Option Span → Option Entry → ℕ
start_of (Some span) entry = span.start
start_of None entry = entry_start entry

abbrev pub node_start : Node → ℕ
node_start x = start_of (standing x).span (standing x).entry

abbrev pub offset_if : Bool → ℕ → List ℕ
offset_if true offset = offset ∷ []
offset_if false offset = []

-- the starts of keys without values, and of items that are empty, in a node
abbrev mutual
  pub empty_values : Node → List ℕ
  empty_values (scalar at props style text lines) = []
  empty_values (alias at name) = []
  empty_values (sequence at flow props items) = empty_items items
  empty_values (mapping at flow props pairs) = empty_pairs pairs

  pub empty_items : Items → List ℕ
  empty_items no_items = []
  empty_items (item x xs) = offset_if (is_empty x) (node_start x) ++ (empty_values x ++ empty_items xs)

  pub empty_pairs : Pairs → List ℕ
  empty_pairs no_pairs = []
  empty_pairs (pair k v ps) = empty_values k ++ (offset_if (is_empty v) (node_start k) ++ (empty_values v ++ empty_pairs ps))

abbrev pub empty_values_of : DocumentTree → List ℕ
empty_values_of d = empty_values d.root
