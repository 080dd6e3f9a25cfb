-- Trees with only the key, and not the value, of a pair at an entry's start, as in those of texts.
use Rattle.std.specs.Prelude.{Bool, true, false, ◌&&◌, List, [], ◌∷◌, Option, Some, None}
use Rattle.yf_events.specs.Tree.{Node, scalar, alias, sequence, mapping, Items, no_items, item, Pairs, no_pairs, pair, DocumentTree, standing}
use Rattle.yf_events.specs.declared.event.Entry.{Entry}

abbrev pub no_entry : Option Entry → Bool
no_entry None = true
no_entry (Some entry) = false

abbrev mutual
  pub keys_begin : Node → Bool
  keys_begin (scalar at props style text lines) = true
  keys_begin (alias at name) = true
  keys_begin (sequence at flow props items) = keys_begin_in_items items
  keys_begin (mapping at flow props pairs) = keys_begin_in_pairs pairs

  pub keys_begin_in_items : Items → Bool
  keys_begin_in_items no_items = true
  keys_begin_in_items (item x xs) = keys_begin x && keys_begin_in_items xs

  pub keys_begin_in_pairs : Pairs → Bool
  keys_begin_in_pairs no_pairs = true
  keys_begin_in_pairs (pair k v ps) = keys_begin k && (no_entry (standing v).entry && (keys_begin v && keys_begin_in_pairs ps))

abbrev pub keys_begin_in_documents : List DocumentTree → Bool
keys_begin_in_documents [] = true
keys_begin_in_documents (d ∷ ds) = keys_begin d.root && keys_begin_in_documents ds
