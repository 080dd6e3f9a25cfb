-- The normal form of a reading: the style of each scalar, and the flow collections on one line. Columns count from 0,
-- in characters.
use Rattle.std.specs.Prelude.{◌≡◌, ℕ, ◌+◌, Bool, true, false, not, is_some, ◌&&◌, ◌||◌, nat_lt, nat_le, if◌then◌else◌, List, [], ◌∷◌, map, find, Option, Some, None}
use Rattle.yf_comments.specs.Comment.{CommentValue}
use Rattle.yf_events.specs.declared.event.Entry.{Entry}
use Rattle.yf_events.specs.declared.event.ScalarStyle.TheVariants.{Plain, Single, Double, Literal, Folded}
use Rattle.yf_events.specs.declared.event.Span.{Span}
use Rattle.yf_events.specs.declared.lists.Lists.{Lists}
use Rattle.yf_forms.specs.declared.style.Style.{Style}
use Rattle.yf_forms.specs.Nodes.OneLineFlows.{may_be_kept}
use Rattle.yf_forms.specs.Nodes.OneLine.{width, written, colon_after}
use Rattle.yf_events.specs.Tree.{Node, scalar, alias, sequence, mapping, Items, no_items, item, Pairs, no_pairs, pair, DocumentTree, TreesOf, flat_stream, standing, leaves, is_text, is_filled_flow, is_sequence}
use Rattle.yf_forms.specs.Nodes.ScalarStyles.{lines_in, wanted}

-- the input of the layout besides a reading's trees: the settings, and the comments
pub record LayoutSetting : Type 0 where
  pub style : Style
  pub comments : List CommentValue

-- Styles, and the flow collections that may be kept on one line at any column.

-- each scalar in the house style, with its lines if it is folded; a collection stays a flow collection if it is empty
-- or may be kept
abbrev mutual
  pub styled : List ℕ → LayoutSetting → Node → Node
  styled t c (scalar at props style text lines) =
      scalar at props (wanted style text c.style) text (lines_in (wanted style text c.style) lines)
  styled t c (alias at name) = alias at name
  styled t c (sequence at flow props items) =
      sequence at (may_be_kept t c.comments (sequence at flow props items)) props (styled_items t c items)
  styled t c (mapping at flow props pairs) =
      mapping at (may_be_kept t c.comments (mapping at flow props pairs)) props (styled_pairs t c pairs)

  pub styled_items : List ℕ → LayoutSetting → Items → Items
  styled_items t c no_items = no_items
  styled_items t c (item x xs) = item (styled t c x) (styled_items t c xs)

  pub styled_pairs : List ℕ → LayoutSetting → Pairs → Pairs
  styled_pairs t c no_pairs = no_pairs
  styled_pairs t c (pair k v ps) = pair (styled t c k) (styled t c v) (styled_pairs t c ps)

-- Columns. From here on the scalars of a node have their styles, and its flow collections with entries are those that
-- are kept on one line, or may be.

-- the margins of a node: the column at which it begins, with its properties; the column of its entries if it is a
-- block collection; the column of its lines if it is a block scalar
pub record Margins : Type 0 where
  pub column : ℕ
  pub entries : ℕ
  pub lines : ℕ

-- the margins of a document's root, and of a node after a `-`, a `?` or the `:` of an explicit value, in an entry at
-- that column
abbrev pub root_margins : Style → Margins
root_margins s = record { column = 0; entries = 0; lines = s.indent }

abbrev pub inner_margins : Style → ℕ → Margins
inner_margins s column = record { column = column + s.indent; entries = column + s.indent; lines = column + s.indent }

-- on one line from that column on, the node ends at or before the last column of a line
abbrev pub fits : Style → ℕ → Node → Bool
fits s column x = nat_le (column + width (written s x)) s.max_line

-- a key is implicit if it is written on one line in an entry at that column, with at most 1023 characters
abbrev pub is_one_line_key : Style → ℕ → Node → Bool
is_one_line_key s column (scalar at props Plain text lines) = true
is_one_line_key s column (scalar at props Single text lines) = true
is_one_line_key s column (scalar at props Double text lines) = true
is_one_line_key s column (scalar at props Literal text lines) = false
is_one_line_key s column (scalar at props Folded text lines) = false
is_one_line_key s column (alias at name) = true
is_one_line_key s column (sequence at flow props no_items) = true
is_one_line_key s column (sequence at flow props (item x xs)) = flow && fits s column (sequence at flow props (item x xs))
is_one_line_key s column (mapping at flow props no_pairs) = true
is_one_line_key s column (mapping at flow props (pair k v ps)) = flow && fits s column (mapping at flow props (pair k v ps))

abbrev pub is_implicit : Style → ℕ → Node → Bool
is_implicit s column k = is_one_line_key s column k && nat_le (width (written s k)) 1023

-- The comment that trails an implicit key: the first one after the start of the key's last leaf (or of its entry, if
-- the key is an empty node) and before the value's first leaf, if the value is a leaf with characters or is kept on
-- one line.

-- the start of the last of these leaves, or the other offset if there is none
abbrev pub last_start : ℕ → List Span → ℕ
last_start other [] = other
last_start other (s ∷ ss) = last_start s.start ss

abbrev pub entry_or : ℕ → Option Entry → ℕ
entry_or other None = other
entry_or other (Some entry) = entry.start

abbrev pub key_start : Node → ℕ
key_start k = last_start (entry_or 0 (standing k).entry) (leaves k)

-- the first comment after an offset and before the first of these leaves
abbrev pub first_between : List CommentValue → ℕ → List Span → Option CommentValue
first_between cs from [] = None
first_between cs from (s ∷ ss) = find (λ c. nat_lt from c.offset && nat_lt c.offset s.start) cs

abbrev pub key_comment : List CommentValue → Node → Node → Option CommentValue
key_comment cs k v = if is_text v || is_filled_flow v then first_between cs (key_start k) (leaves v) else None

-- the column of the value of an implicit key in an entry at that column: after the key, its `:` and a space, or on
-- the next line if a comment trails the key; a sequence's entries may be at the key's column
abbrev pub value_column : LayoutSetting → ℕ → Node → Node → ℕ
value_column c column k v =
    if is_some (key_comment c.comments k v) then column + c.style.indent else column + width (written c.style k) + width (colon_after k) + 1

abbrev pub value_entries : Style → ℕ → Node → ℕ
value_entries s column v = if is_sequence v && not s.seq_indent then column else column + s.indent

abbrev pub value_of_implicit : LayoutSetting → ℕ → Node → Node → Margins
value_of_implicit c column k v = record {
  column = value_column c column k v;
  entries = value_entries c.style column v;
  lines = column + c.style.indent;
}

-- the column of a key, and of its value, in an entry at that column
abbrev pub key_column : Style → ℕ → Node → ℕ
key_column s column k = if is_implicit s column k then column else column + s.indent

abbrev pub key_margins : Style → ℕ → Node → Margins
key_margins s column k = record (inner_margins s column) { column = key_column s column k }

abbrev pub value_margins : LayoutSetting → ℕ → Node → Node → Margins
value_margins c column k v = if is_implicit c.style column k then value_of_implicit c column k v else inner_margins c.style column

-- The kept flow collections: those that may be kept, and that fit at their column. Outer ones are decided before
-- inner ones, and each other one becomes a block collection.
abbrev mutual
  pub settled : LayoutSetting → Margins → Node → Node
  settled c margins (scalar at props style text lines) = scalar at props style text lines
  settled c margins (alias at name) = alias at name
  settled c margins (sequence at flow props no_items) = sequence at flow props no_items
  settled c margins (sequence at flow props (item x xs)) =
      if flow && fits c.style margins.column (sequence at flow props (item x xs)) then sequence at flow props (item x xs)
      else sequence at false props (item (settled c (inner_margins c.style margins.entries) x) (settled_items c margins.entries xs))
  settled c margins (mapping at flow props no_pairs) = mapping at flow props no_pairs
  settled c margins (mapping at flow props (pair k v ps)) =
      if flow && fits c.style margins.column (mapping at flow props (pair k v ps)) then mapping at flow props (pair k v ps)
      else mapping at false props (pair (settled c (key_margins c.style margins.entries k) k) (settled c (value_margins c margins.entries k v) v)
      (settled_pairs c margins.entries ps))

  -- in a block collection with entries at that column
  pub settled_items : LayoutSetting → ℕ → Items → Items
  settled_items c column no_items = no_items
  settled_items c column (item x xs) = item (settled c (inner_margins c.style column) x) (settled_items c column xs)

  pub settled_pairs : LayoutSetting → ℕ → Pairs → Pairs
  settled_pairs c column no_pairs = no_pairs
  settled_pairs c column (pair k v ps) =
      pair (settled c (key_margins c.style column k) k) (settled c (value_margins c column k v) v) (settled_pairs c column ps)

-- the normal form of a document's tree; t is the text
abbrev pub normal_document : List ℕ → LayoutSetting → DocumentTree → DocumentTree
normal_document t c d = record d { root = settled c (root_margins c.style) (styled t c d.root) }

abbrev pub setting_of : Lists → Style → LayoutSetting
setting_of r s = record { style = s; comments = r.comments }

-- m is the reading r of the text t with the styles of the house
pub record Normal (t : List ℕ) (r : Lists) (s : Style) (m : Lists) : Type 0 where
  pub trees : List DocumentTree
  pub of_reading : TreesOf r trees
  pub is : m ≡ record r { events = flat_stream (map (normal_document t (setting_of r s)) trees) }
