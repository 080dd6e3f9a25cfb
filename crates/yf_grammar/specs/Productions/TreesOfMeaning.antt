-- The meaning of a production as trees: trees that have its events, and that differ from given ones only in the offsets
-- of their nodes.
use Rattle.std.specs.Prelude.{◌≡◌, ℕ, suc, max, List, []}
use Rattle.yf_events.specs.Alike.{Alike, AlikeItems, AlikePairs}
use Rattle.yf_events.specs.Tree.{Node, scalar, alias, sequence, mapping, Items, no_items, item, Pairs, no_pairs, pair, flat, flat_items, flat_pairs}
use Rattle.yf_grammar.specs.Productions.Meaning.{Meaning}

-- any offsets are allowed for a key and its value
abbrev pub Anywhere : Node → Node → Node → Node → Type 0
Anywhere k v l w = Unit {0}

-- a node, without escapes that are no character
pub record MeansTrees (x : Node) (m : Meaning) : Type 0 where
  pub node : Node
  pub alike : Alike Anywhere x node
  pub events : m.events ≡ flat node
  pub escapes : m.escapes ≡ []

-- the items of a sequence, the pairs of a mapping
pub record ItemsMeant (xs : Items) (m : Meaning) : Type 0 where
  pub items : Items
  pub alike : AlikeItems Anywhere xs items
  pub events : m.events ≡ flat_items items
  pub escapes : m.escapes ≡ []

pub record PairsMeant (ps : Pairs) (m : Meaning) : Type 0 where
  pub pairs : Pairs
  pub alike : AlikePairs Anywhere ps pairs
  pub events : m.events ≡ flat_pairs pairs
  pub escapes : m.escapes ≡ []

-- the number of collections open at once in a node
abbrev mutual
  pub tall : Node → ℕ
  tall (scalar at props style text lines) = 0
  tall (alias at name) = 0
  tall (sequence at flow props xs) = suc (tall_items xs)
  tall (mapping at flow props ps) = suc (tall_pairs ps)

  pub tall_items : Items → ℕ
  tall_items no_items = 0
  tall_items (item x xs) = max (tall x) (tall_items xs)

  pub tall_pairs : Pairs → ℕ
  tall_pairs no_pairs = 0
  tall_pairs (pair k v ps) = max (max (tall k) (tall v)) (tall_pairs ps)
