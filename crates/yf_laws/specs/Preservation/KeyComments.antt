-- The comments that trail a key, defined by the trees, in the order of the entries. For each entry of a block mapping
-- with an implicit key: the first comment after the start of the key's last leaf (of the entry, if the key is empty)
-- and before the value's first leaf, if the value is a leaf with characters or a flow collection on one line
-- (`key_comment`).
use Rattle.std.specs.Prelude.{ℕ, true, false, if◌then◌else◌, List, [], ◌++◌, flat_map, option_to_list}
use Rattle.yf_comments.specs.Comment.{CommentValue}
use Rattle.yf_events.specs.Tree.{DocumentTree, Node, scalar, alias, sequence, mapping, Items, no_items, item, Pairs, no_pairs, pair}
use Rattle.yf_forms.specs.NormalForms.Normal.{LayoutSetting, Margins, inner_margins, is_implicit, key_comment, key_margins, root_margins, value_margins}

-- in a node with those margins; an implicit key has no entries of its own
abbrev mutual
  pub keyed_in : LayoutSetting → Margins → Node → List CommentValue
  keyed_in c margins (scalar at props style text lines) = []
  keyed_in c margins (alias at name) = []
  keyed_in c margins (sequence at true props items) = []
  keyed_in c margins (sequence at false props items) = keyed_in_items c margins.entries items
  keyed_in c margins (mapping at true props pairs) = []
  keyed_in c margins (mapping at false props pairs) = keyed_in_pairs c margins.entries pairs

  -- in entries at that column
  pub keyed_in_items : LayoutSetting → ℕ → Items → List CommentValue
  keyed_in_items c column no_items = []
  keyed_in_items c column (item x xs) = keyed_in c (inner_margins c.style column) x ++ keyed_in_items c column xs

  pub keyed_in_pairs : LayoutSetting → ℕ → Pairs → List CommentValue
  keyed_in_pairs c column no_pairs = []
  keyed_in_pairs c column (pair k v ps) =
      ((if is_implicit c.style column k then option_to_list (key_comment c.comments k v) else keyed_in c (key_margins c.style column k) k)
      ++ keyed_in c (value_margins c column k v) v) ++ keyed_in_pairs c column ps

abbrev pub keyed_in_documents : LayoutSetting → List DocumentTree → List CommentValue
keyed_in_documents c trees = flat_map (λ (d : DocumentTree). keyed_in c (root_margins c.style) d.root) trees
