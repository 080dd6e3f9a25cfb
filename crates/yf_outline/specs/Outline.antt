-- The outline of a text: a part for each entry of a collection, except those in a key; and a part for the root of each
-- document, if there are several documents.
use Rattle.std.specs.Prelude.{ℕ, zero, suc, ◌+◌, ◌-◌, Bool, nat_lt, if◌then◌else◌, List, [], ◌∷◌, ◌++◌, flat_map, length, slice_index, Option, Some, None}
use Rattle.yf_events.specs.Tree.{Node, scalar, alias, sequence, mapping, Items, no_items, item, Pairs, no_pairs, pair, DocumentTree, standing}
use Rattle.yf_events.specs.declared.event.Entry.{Entry}
use Rattle.yf_events.specs.declared.event.Span.{Span}
use Rattle.yf_outline.specs.WhiteSpace.{is_break, last_content}
use Rattle.yf_outline.specs.declared.outline.Key.{Key}
use Rattle.yf_outline.specs.declared.outline.TheConstants.{DEEPEST}
use Rattle.yf_server.specs.declared.analysis.Part.{Part}
use Rattle.yf_server.specs.declared.analysis.PartKind.{PartKind}
use Rattle.yf_server.specs.declared.analysis.PartKind.TheVariants.{Document, Mapping, Sequence, Scalar, Alias, Empty}
use Rattle.yf_server.specs.declared.analysis.TextSpan.{TextSpan}

-- ---- spans

-- the offset after a byte, or the end of the text
abbrev pub past : List ℕ → ℕ → ℕ
past t i = if nat_lt i (length t) then i + 1 else length t

-- the end of a node without the white space and the line breaks at its end
abbrev pub content_end : List ℕ → ℕ → ℕ
content_end t end = past t (last_content t end)

-- the first offset from a line break on, within n bytes
abbrev pub line_from : List ℕ → ℕ → ℕ → ℕ
line_from t at zero = at
line_from t at (suc n) = if is_break (slice_index t at) then at else line_from t (suc at) n

-- the end of the first line from one offset to another
abbrev pub line_end : List ℕ → ℕ → ℕ → ℕ
line_end t start end = line_from t start (end - start)

abbrev pub span_of : ℕ → ℕ → TextSpan
span_of start end = record { start = start; end = end }

-- the span of a node; an empty node is at another offset
abbrev pub node_span : List ℕ → Option Span → ℕ → TextSpan
node_span t None other = span_of other other
node_span t (Some span) other = span_of span.start (content_end t span.end)

-- the first line of a key or an item; of an empty one, the sign at the start of its entry
abbrev pub name_span : List ℕ → Option Span → ℕ → TextSpan
name_span t None start = span_of start (past t start)
name_span t (Some span) start = span_of span.start (line_end t span.start (content_end t span.end))

-- ---- entries

abbrev pub node_start : Option Span → ℕ
node_start None = 0
node_start (Some span) = span.start

-- the start of an entry, by the node that begins it
abbrev pub entry_start : Option Span → Option Entry → ℕ
entry_start span None = node_start span
entry_start span (Some entry) = entry.start

-- the offset after an empty value's key, which is that after the `:`, if there is one
abbrev pub key_end : List ℕ → Option Span → ℕ → ℕ
key_end t None start = past t start
key_end t (Some span) start = content_end t span.end

abbrev pub after_colon : List ℕ → Option ℕ → ℕ → ℕ
after_colon t None end = end
after_colon t (Some colon) end = past t colon

abbrev pub after_entry : List ℕ → Option Entry → ℕ → ℕ
after_entry t None end = end
after_entry t (Some entry) end = after_colon t entry.colon end

-- the start of an entry, its name, and where its value is if it is empty, by the key or the item
abbrev pub key_of : List ℕ → Option Span → Option Entry → Key
key_of t span entry = record {
  start = entry_start span entry;
  name = name_span t span (entry_start span entry);
  after = after_entry t entry (key_end t span (entry_start span entry));
}

abbrev pub scalar_kind : Option Span → PartKind
scalar_kind None = Empty
scalar_kind (Some span) = Scalar

abbrev pub kind_of : Node → PartKind
kind_of (scalar at props style text lines) = scalar_kind at.span
kind_of (alias at name) = Alias
kind_of (sequence at flow props items) = Sequence
kind_of (mapping at flow props pairs) = Mapping

-- the part of an entry, by its value's or item's kind and span
abbrev pub entry_part : List ℕ → ℕ → PartKind → Option Span → Key → Part
entry_part t depth kind span key = record {
  depth = depth;
  kind = kind;
  whole = span_of key.start (node_span t span key.after).end;
  name = key.name;
  node = node_span t span key.after;
}

-- An outline has no part in more than `DEEPEST` parts.
abbrev pub shown : Part → List Part
shown p = if nat_lt p.depth DEEPEST then p ∷ [] else []

abbrev pub deeper : ℕ → ℕ
deeper depth = if nat_lt depth DEEPEST then depth + 1 else depth

-- ---- parts

-- the parts in a node, whose entries have a depth
abbrev mutual
  pub node_parts : List ℕ → ℕ → Node → List Part
  node_parts t d (scalar at props style text lines) = []
  node_parts t d (alias at name) = []
  node_parts t d (sequence at flow props items) = item_parts t d items
  node_parts t d (mapping at flow props pairs) = pair_parts t d pairs

  pub item_parts : List ℕ → ℕ → Items → List Part
  item_parts t d no_items = []
  item_parts t d (item x xs) =
      shown (entry_part t d (kind_of x) (standing x).span (key_of t (standing x).span (standing x).entry))
      ++ (node_parts t (deeper d) x ++ item_parts t d xs)

  pub pair_parts : List ℕ → ℕ → Pairs → List Part
  pair_parts t d no_pairs = []
  pair_parts t d (pair k v ps) =
      shown (entry_part t d (kind_of v) (standing v).span (key_of t (standing k).span (standing k).entry))
      ++ (node_parts t (deeper d) v ++ pair_parts t d ps)

-- the root of a document, if it is not empty
abbrev pub document_part : List ℕ → Option Span → List Part
document_part t None = []
document_part t (Some span) = record {
  depth = 0;
  kind = Document;
  whole = node_span t (Some span) 0;
  name = name_span t (Some span) 0;
  node = node_span t (Some span) 0;
} ∷ []

-- the depth of the entries in the root of a document (several: whether there are several documents)
abbrev pub root_depth : Bool → ℕ
root_depth several = if several then 1 else 0

abbrev pub root_part : List ℕ → Bool → Option Span → List Part
root_part t several span = if several then document_part t span else []

abbrev pub document_parts : List ℕ → Bool → DocumentTree → List Part
document_parts t several d = root_part t several (standing d.root).span ++ node_parts t (root_depth several) d.root

abbrev pub outline_of : List ℕ → List DocumentTree → List Part
outline_of t trees = flat_map (document_parts t (nat_lt 1 (length trees))) trees
