-- The parts of a text that may be folded: its collections, except block collections that are the root of a document;
-- its scalars that are not plain; and its comment lines.
use Rattle.std.specs.Prelude.{◌≡◌, ◌⊎◌, ◌<◌, ◌==◌, ◌||◌, ◌&&◌, ℕ, ◌-◌, Bool, true, false, not, if◌then◌else◌, List, [], ◌∷◌, ◌++◌, flat_map, length, slice_index, Option, Some, None}
use Rattle.yf_comments.specs.Comment.{CommentValue}
use Rattle.yf_events.specs.Tree.{Node, scalar, alias, sequence, mapping, Items, no_items, item, Pairs, no_pairs, pair, DocumentTree, TreesOf, standing}
use Rattle.yf_events.specs.declared.event.Entry.{Entry}
use Rattle.yf_events.specs.declared.event.ScalarStyle.{ScalarStyle}
use Rattle.yf_events.specs.declared.event.ScalarStyle.TheVariants.{Plain, Single, Double, Literal, Folded}
use Rattle.yf_events.specs.declared.event.Span.{Span}
use Rattle.yf_events.specs.declared.lists.Lists.{Lists}
use Rattle.yf_lines.specs.declared.fault.Fault.{Fault}
use Rattle.yf_lines.specs.declared.fault.Fault.TheVariants.{Memory}
use Rattle.yf_outline.specs.WhiteSpace.{is_break, last_content, white_start}
use Rattle.yf_rules.specs.declared.run.TheConstants.{INPUT_LIMIT}
use Rattle.yf_server.specs.declared.analysis.Foldable.{Foldable}
use Rattle.yf_stream.specs.StreamReader.{StreamFault, TheReading}

-- the start of a node's entry: a node may begin an entry; otherwise it is a value in the entry of its key, which is the
-- last entry before it
abbrev pub entry_start : Option ℕ → Option Entry → Option ℕ
entry_start before None = before
entry_start before (Some entry) = Some entry.start

-- the start of a node's entry, or of the node if it is the root of a document
abbrev pub start_or : Option ℕ → ℕ → ℕ
start_or None start = start
start_or (Some entry) start = entry

-- from the start of a node's entry to the node's last character; an empty node has no part
abbrev pub part_of : List ℕ → Option ℕ → Option Span → List Foldable
part_of t start None = []
part_of t start (Some span) =
    record { start = start_or start span.start; last = last_content t span.end; is_comment = false } ∷ []

abbrev pub is_plain : ScalarStyle → Bool
is_plain Plain = true
is_plain Single = false
is_plain Double = false
is_plain Literal = false
is_plain Folded = false

abbrev pub scalar_part : List ℕ → ScalarStyle → Option ℕ → Option Span → List Foldable
scalar_part t style start span = if is_plain style then [] else part_of t start span

-- the start of the last entry after a node
abbrev pub after_node : Option ℕ → Node → Option ℕ
after_node before x = entry_start before (standing x).entry

-- the parts of the collections and the scalars in a node (before: the start of the last entry before it in its
-- collection)
abbrev mutual
  pub node_parts : List ℕ → Option ℕ → Node → List Foldable
  node_parts t before (scalar at props style text lines) = scalar_part t style (entry_start before at.entry) at.span
  node_parts t before (alias at name) = []
  node_parts t before (sequence at flow props items) =
      part_of t (entry_start before at.entry) at.span ++ item_parts t None items
  node_parts t before (mapping at flow props pairs) =
      part_of t (entry_start before at.entry) at.span ++ pair_parts t None pairs

  pub item_parts : List ℕ → Option ℕ → Items → List Foldable
  item_parts t before no_items = []
  item_parts t before (item x xs) = node_parts t before x ++ item_parts t (after_node before x) xs

  pub pair_parts : List ℕ → Option ℕ → Pairs → List Foldable
  pair_parts t before no_pairs = []
  pair_parts t before (pair k v ps) = node_parts t before k
      ++ (node_parts t (after_node before k) v ++ pair_parts t (after_node (after_node before k) v) ps)

-- The part of a collection that is the root of a document. One in block style has none: it would begin on the line of
-- its first entry, and a client folds only one part that begins on a line.
abbrev pub root_part : List ℕ → Bool → Option ℕ → Option Span → List Foldable
root_part t flow start span = if flow then part_of t start span else []

-- the parts of the collections and the scalars in the root of a document
abbrev pub root_parts : List ℕ → Node → List Foldable
root_parts t (scalar at props style text lines) = scalar_part t style (entry_start None at.entry) at.span
root_parts t (alias at name) = []
root_parts t (sequence at flow props items) =
    root_part t flow (entry_start None at.entry) at.span ++ item_parts t None items
root_parts t (mapping at flow props pairs) =
    root_part t flow (entry_start None at.entry) at.span ++ pair_parts t None pairs

abbrev pub document_parts : List ℕ → DocumentTree → List Foldable
document_parts t d = root_parts t d.root

-- a line begins at the offset
abbrev pub begins_line : List ℕ → ℕ → Bool
begins_line t i = i == 0 || is_break (slice_index t (i - 1))

-- the comment is on a line of its own
abbrev pub is_own : List ℕ → CommentValue → Bool
is_own t c = begins_line t (white_start t c.offset)

-- the end of the line before the one that begins at an offset
abbrev pub line_end_before : List ℕ → ℕ → ℕ
line_end_before t i = if slice_index t (i - 1) == 10 && slice_index t (i - 2) == 13 then i - 2 else i - 1

-- the first comment ends at the end of the line before that of the second one, which is on a line of its own
abbrev pub follows : List ℕ → CommentValue → CommentValue → Bool
follows t c d = line_end_before t (white_start t d.offset) - length c.text == c.offset

-- the comment is a line after another comment line
abbrev pub continues : List ℕ → Option CommentValue → CommentValue → Bool
continues t None c = false
continues t (Some b) c = is_own t b && follows t b c

-- the start of the last comment of those that follow one another, from a comment on
abbrev pub row_last : List ℕ → CommentValue → List CommentValue → ℕ
row_last t c [] = c.offset
row_last t c (d ∷ ds) = if follows t c d then row_last t d ds else c.offset

-- the comment lines from a comment on, if it is the first of them (before: the comment before it)
abbrev pub row_at : List ℕ → Option CommentValue → CommentValue → List CommentValue → List Foldable
row_at t before c cs = if is_own t c && not (continues t before c)
    then record { start = c.offset; last = row_last t c cs; is_comment = true } ∷ [] else []

abbrev pub comment_parts : List ℕ → Option CommentValue → List CommentValue → List Foldable
comment_parts t before [] = []
comment_parts t before (c ∷ cs) = row_at t before c cs ++ comment_parts t (Some c) cs

-- the parts of a text, by its reading and the trees of it
abbrev pub parts_of : List ℕ → Lists → List DocumentTree → List Foldable
parts_of t reading trees = flat_map (document_parts t) trees ++ comment_parts t None reading.comments

-- the text is accepted, and these are the parts of its reading
pub record HasParts (text : List ℕ) (parts : List Foldable) : Type 0 where
  pub reading : Lists
  pub reads : TheReading text reading
  pub are : (trees : List DocumentTree) → TreesOf reading trees → parts ≡ parts_of text reading trees

-- the fault is that memory was refused
abbrev pub is_memory : Fault → Bool
is_memory Memory = true
is_memory _ = false

-- the text is refused
pub record IsRefusedText (text : List ℕ) : Type 0 where
  pub why : Fault
  pub refused : StreamFault text why
  pub cause : is_memory why ≡ false

-- The text is not read: it is too long, or refused.
abbrev pub IsUnread : List ℕ → Type 0
IsUnread text = (INPUT_LIMIT < length text) ⊎ IsRefusedText text

-- the parts of a text that may be folded, or none if the text is not read
abbrev pub FindsParts : List ℕ → Option (List Foldable) → Type 0
FindsParts text None = IsUnread text
FindsParts text (Some parts) = HasParts text parts
