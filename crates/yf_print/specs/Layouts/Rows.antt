-- The lines of a normal reading in the house style, without their comments: each with its column and text, its source
-- items, and its ending. Columns count from 0.
use Rattle.std.specs.Prelude.{ℕ, ◌-◌, Bool, true, false, ◌==◌, ◌&&◌, if◌then◌else◌, List, [], ◌∷◌, ◌++◌, codes, map, replicate, option_to_list, Option, Some, None}
use Rattle.yf_comments.specs.Comment.{CommentValue}
use Rattle.yf_props.specs.Props.{PropsValue}
use Rattle.yf_events.specs.declared.directive.Directive.{Directive}
use Rattle.yf_events.specs.declared.document.Doc.{Doc}
use Rattle.yf_events.specs.declared.event.Entry.{Entry}
use Rattle.yf_events.specs.declared.event.ScalarStyle.TheVariants.{Literal, Folded}
use Rattle.yf_events.specs.declared.event.ScalarStyle.{ScalarStyle}
use Rattle.yf_events.specs.declared.event.Span.{Span}
use Rattle.yf_forms.specs.declared.style.Style.{Style}
use Rattle.yf_forms.specs.Nodes.BlockLines.{header_text, block_lines, final_feeds, is_kept_tail}
use Rattle.yf_forms.specs.NormalForms.Normal.{LayoutSetting, Margins, root_margins, inner_margins, key_margins, value_margins, is_implicit, key_comment}
use Rattle.yf_forms.specs.Nodes.OneLine.{spaced, props_text, written, colon_after}
use Rattle.yf_events.specs.Tree.{Node, scalar, alias, sequence, mapping, Items, no_items, item, Pairs, no_pairs, pair, DocumentTree, standing, props_of, leaves, items_in, entry_start, is_block_collection}
use Rattle.yf_forms.specs.Nodes.Lines.{is_empty_text}

-- the ending of a line, which decides on a blank line after it
pub data Ending : Type 0 where
  -- nothing is printed yet
  at_text_start : Ending
  -- the `---` of a document
  at_document_start : Ending
  -- a block scalar with the sign `+`
  at_kept_tail : Ending
  -- the `:` of an implicit key, or the properties of a collection, with the node's text on the next line
  before_node : Ending
  anywhere : Ending

-- the start of an entry, or of the `:` of a key with `?`: its offset in the source, if it has one, and the offsets that
-- begin with it; the column of its collection's entries; and whether that is a sequence
pub record Start : Type 0 where
  pub offsets : List ℕ
  pub column : ℕ
  pub is_item : Bool

pub record Row : Type 0 where
  pub column : ℕ
  pub text : List ℕ
  -- the entries that begin on it
  pub starts : List Start
  -- the source offsets of its items: the starts of documents and entries, each `:` of a key with `?`, and the starts of
  -- leaves with characters
  pub items : List ℕ
  pub leaves : List Span
  -- the comment that trails its key
  pub key_comment : Option CommentValue
  -- it begins with an entry after a blank line
  pub blank_before : Bool
  -- a document without `---` begins on it
  pub begins : Bool
  pub ending : Ending
  -- the lines of a block scalar, and their column, or 0 if there are none
  pub body : List (List ℕ)
  pub lines : ℕ

-- a line with only that text
abbrev pub plain_row : ℕ → List ℕ → Row
plain_row column text =
    record { column = column; text = text; starts = []; items = []; leaves = []; key_comment = None; blank_before = false; begins = false; ending = anywhere; body = []; lines = 0 }

-- the first line of a node joins the line of a sign or key, after that number of spaces; an empty node has no line, and
-- no space before it
abbrev pub joined : Row → ℕ → List Row → List Row
joined head spaces [] = head ∷ []
joined head spaces (r ∷ rs) = record {
  column = head.column;
  text = head.text ++ (replicate spaces 32 ++ r.text);
  starts = head.starts ++ r.starts;
  items = head.items ++ r.items;
  leaves = head.leaves ++ r.leaves;
  key_comment = r.key_comment;
  blank_before = head.blank_before;
  begins = head.begins;
  ending = r.ending;
  body = r.body;
  lines = r.lines;
} ∷ rs

-- Nodes.

-- a leaf or a flow collection on one line; an empty node prints nothing
abbrev pub one_line_row : ℕ → Node → List ℕ → List Row
one_line_row column x [] = []
one_line_row column x (b ∷ text) = record (plain_row column (b ∷ text)) { items = items_in x; leaves = leaves x } ∷ []

abbrev pub one_line : Style → Margins → Node → List Row
one_line s margins x = one_line_row margins.column x (written s x)

-- a block scalar: its properties and its header, and its lines
abbrev pub tail_ending : Bool → Ending
tail_ending true = at_kept_tail
tail_ending false = anywhere

abbrev pub block_scalar : Style → Margins → Node → PropsValue → ScalarStyle → List ℕ → List (List ℕ) → List Row
block_scalar s margins x props style text lines = record (plain_row margins.column (spaced (props_text props) (header_text style s.indent text))) {
  items = items_in x;
  leaves = leaves x;
  ending = tail_ending (is_kept_tail (final_feeds text));
  body = block_lines style margins.lines text lines;
  lines = margins.lines;
} ∷ []

abbrev pub scalar_rows : Style → Margins → Node → PropsValue → ScalarStyle → List ℕ → List (List ℕ) → List Row
scalar_rows s margins x props Literal text lines = block_scalar s margins x props Literal text lines
scalar_rows s margins x props Folded text lines = block_scalar s margins x props Folded text lines
scalar_rows s margins x props style text lines = one_line s margins x

-- the properties of a block collection precede the line of its first entry
abbrev pub props_row : ℕ → List ℕ → List Row
props_row column [] = []
props_row column (b ∷ text) = record (plain_row column (b ∷ text)) { ending = before_node } ∷ []

-- Entries.

abbrev pub blank_before_entry : Option Entry → Bool
blank_before_entry None = false
blank_before_entry (Some entry) = entry.blank_before

abbrev pub start_of : ℕ → Bool → List ℕ → Start
start_of column is_item offsets = record { offsets = offsets; column = column; is_item = is_item }

abbrev pub is_dash : List ℕ → Bool
is_dash [] = false
is_dash (c ∷ []) = c == 45
is_dash (c ∷ d ∷ cs) = false

-- the line of an entry that begins with this text, at the column of the entries
abbrev pub entry_row : ℕ → List ℕ → Node → Row
entry_row column text x = record (plain_row column text) {
  starts = start_of column (is_dash text) (entry_start x) ∷ [];
  items = entry_start x;
  blank_before = blank_before_entry (standing x).entry;
}

-- the spaces after `-`, `?` and the `:` of an explicit value make up the indentation
abbrev pub after_sign : Style → Row → List Row → List Row
after_sign s head rows = joined head (s.indent - 1) rows

-- the line of the `:` of a key with `?`
abbrev pub colon_offset : Option Entry → List ℕ
colon_offset None = []
colon_offset (Some entry) = option_to_list entry.colon

abbrev pub colon_row : ℕ → Node → Row
colon_row column k = record (plain_row column (codes ":")) { starts = start_of column false (entry_start k) ∷ []; items = colon_offset (standing k).entry }

abbrev pub explicit_pair : Style → ℕ → Node → List Row → List Row → List Row
explicit_pair s column k key_rows value_rows =
    after_sign s (entry_row column (codes "?") k) key_rows ++ after_sign s (colon_row column k) value_rows

-- an implicit key with its `:`; an empty key is only the `:`
abbrev pub key_row : Style → ℕ → Node → Row
key_row s column k =
    let row = entry_row column (written s k ++ colon_after k) k in
    record row { starts = start_of column false row.items ∷ []; items = row.items ++ items_in k; leaves = leaves k }

-- whether a value begins on a line of its own: a block collection without properties
abbrev pub begins_below : Node → Bool
begins_below v = is_block_collection v && is_empty_text (props_text (props_of v))

-- the value after an implicit key: on the next line if a comment trails the key, otherwise after one space
abbrev pub after_key : Row → Option CommentValue → Bool → List Row → List Row
after_key head (Some c) below rows = record head { key_comment = Some c; ending = before_node } ∷ rows
after_key head None true rows = record head { ending = before_node } ∷ rows
after_key head None false rows = joined head 1 rows

abbrev pub implicit_pair : LayoutSetting → ℕ → Node → Node → List Row → List Row
implicit_pair c column k v rows = after_key (key_row c.style column k) (key_comment c.comments k v) (begins_below v) rows

abbrev pub pair_rows : LayoutSetting → ℕ → Node → Node → List Row → List Row → List Row
pair_rows c column k v key_rows value_rows =
    if is_implicit c.style column k then implicit_pair c column k v value_rows else explicit_pair c.style column k key_rows value_rows

-- the lines of a node
abbrev mutual
  pub rows : LayoutSetting → Margins → Node → List Row
  rows c margins (scalar at props style text lines) = scalar_rows c.style margins (scalar at props style text lines) props style text lines
  rows c margins (alias at name) = one_line c.style margins (alias at name)
  rows c margins (sequence at true props items) = one_line c.style margins (sequence at true props items)
  rows c margins (sequence at false props items) = props_row margins.column (props_text props) ++ rows_of_items c margins.entries items
  rows c margins (mapping at true props pairs) = one_line c.style margins (mapping at true props pairs)
  rows c margins (mapping at false props pairs) = props_row margins.column (props_text props) ++ rows_of_pairs c margins.entries pairs

  -- the lines of entries at that column
  pub rows_of_items : LayoutSetting → ℕ → Items → List Row
  rows_of_items c column no_items = []
  rows_of_items c column (item x xs) =
      after_sign c.style (entry_row column (codes "-") x) (rows c (inner_margins c.style column) x) ++ rows_of_items c column xs

  pub rows_of_pairs : LayoutSetting → ℕ → Pairs → List Row
  rows_of_pairs c column no_pairs = []
  rows_of_pairs c column (pair k v ps) =
      pair_rows c column k v (rows c (key_margins c.style column k) k) (rows c (value_margins c column k v) v) ++ rows_of_pairs c column ps

-- Documents.

-- one space joins the parts of a directive
abbrev pub joined_words : List (List ℕ) → List ℕ
joined_words [] = []
joined_words (w ∷ []) = w
joined_words (w ∷ w2 ∷ ws) = w ++ (32 ∷ joined_words (w2 ∷ ws))

abbrev pub directive_row : Directive → Row
directive_row d = plain_row 0 (37 ∷ joined_words d.words)

-- `...` only precedes a document with directives that is not the first
abbrev pub end_rows : Bool → List Directive → List Row
end_rows true ds = []
end_rows false [] = []
end_rows false (d ∷ ds) = plain_row 0 (codes "...") ∷ []

abbrev pub start_row : Row
start_row = record (plain_row 0 (codes "---")) { ending = at_document_start }

-- the start of a document is on the first of these lines
abbrev pub beginning_at : ℕ → List Row → List Row
beginning_at start [] = []
beginning_at start (r ∷ rs) = record r { items = start ∷ r.items } ∷ rs

abbrev pub document_rows : LayoutSetting → Bool → Doc → DocumentTree → List Row
document_rows c is_first d tree =
    beginning_at d.start (end_rows is_first d.directives ++ (map directive_row d.directives ++ (start_row ∷ [])))
    ++ rows c (root_margins c.style) tree.root

abbrev pub stream_rows : LayoutSetting → Bool → List Doc → List DocumentTree → List Row
stream_rows c is_first [] trees = []
stream_rows c is_first (d ∷ ds) [] = []
stream_rows c is_first (d ∷ ds) (tree ∷ trees) = document_rows c is_first d tree ++ stream_rows c false ds trees

-- a document without its `---` begins on the first line of its root
abbrev pub begun_at : ℕ → List Row → List Row
begun_at start [] = []
begun_at start (r ∷ rs) = record r { items = start ∷ r.items; begins = true } ∷ rs

abbrev pub bare_rows : LayoutSetting → Doc → DocumentTree → List Row
bare_rows c d tree = begun_at d.start (rows c (root_margins c.style) tree.root)

-- all lines; the flag leaves out the `---` of the first document
abbrev pub all_rows : LayoutSetting → Bool → List Doc → List DocumentTree → List Row
all_rows c false ds trees = stream_rows c true ds trees
all_rows c true [] trees = []
all_rows c true (d ∷ ds) [] = []
all_rows c true (d ∷ ds) (tree ∷ trees) = bare_rows c d tree ++ stream_rows c false ds trees
