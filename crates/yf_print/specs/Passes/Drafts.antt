-- The printed text and the current line, and how each part of a line changes them. Columns count from 0.
use Rattle.std.specs.Prelude.{ℕ, ◌+◌, ◌-◌, min, Bool, true, false, ◌&&◌, nat_lt, if◌then◌else◌, List, [], ◌∷◌, ◌++◌, length, replicate, take, drop, get_or, slice_get, Option, Some, None}
use Rattle.std.specs.String.{string_bytes}
use Rattle.yf_comments.specs.Comment.{CommentValue}
use Rattle.yf_print.specs.declared.output.Output.{Output}
use Rattle.yf_forms.specs.declared.style.Style.{Style}
use Rattle.yf_print.specs.Layouts.CommentColumns.{Beginning, OpenBlock, begins_document, begins_entry, begins_node, comment_column, open_after}
use Rattle.yf_print.specs.Layouts.KeptColumns.{columns_if, keeps_blocks}
use Rattle.yf_forms.specs.Nodes.Lines.{after_two_spaces, trimmed}
use Rattle.yf_print.specs.Layouts.Rows.{Start}
use Rattle.yf_print.specs.Layouts.SourceColumns.{own_column}
use Rattle.yf_print.specs.Passes.KnownLines.{column_if, known_after, text_start}
use Rattle.yf_print.specs.declared.source_columns.KnownLine.{KnownLine}
use Rattle.yf_forms.specs.Passes.Searches.{count_to}

-- all comments, and for each whether it trails a leaf or a key; the source, and the style
pub record Remarks : Type 0 where
  pub comments : List CommentValue
  pub trailing : List Bool
  pub text : List ℕ
  pub style : Style

abbrev pub remarks : List ℕ → Style → List CommentValue → List Bool → Remarks
remarks text style comments trailing = record { comments = comments; trailing = trailing; text = text; style = style }

-- if comments keep their blocks, the collections with an entry that begins on the line, and the known line of the last
-- of these entries; and whether a leaf is on the line
pub record LineMarks : Type 0 where
  pub starts : List OpenBlock
  pub known : KnownLine
  pub has_leaf : Bool

abbrev pub no_marks : LineMarks
no_marks = record { starts = []; known = text_start; has_leaf = false }

pub record Draft : Type 0 where
  -- the printed text
  pub text : List ℕ
  -- whether a line is open; its column, its text, the comments that trail its leaves, and the lines of a block scalar
  -- that begins on it
  pub is_open : Bool
  pub column : ℕ
  pub line : List ℕ
  pub trails : List ℕ
  pub body : List ℕ
  -- whether a blank line precedes its first entry, and whether one may follow it
  pub blank_before : Bool
  pub may_follow : Bool
  -- the number of comments before the cursor, and of those that are printed or trail
  pub met : ℕ
  pub passed : ℕ
  -- whether a blank line may follow the printed text
  pub blank_may_follow : Bool
  -- the offset of the first item that was passed since the last line was printed
  pub first : Option ℕ
  pub marks : LineMarks
  -- the open collections on the last printed line, the innermost first, and whether that line has no block scalar
  pub chain : List OpenBlock
  pub is_bodyless : Bool

abbrev pub draft : Output → Draft
draft o = record {
  text = string_bytes o.text;
  is_open = o.is_open;
  column = o.column;
  line = string_bytes o.line;
  trails = string_bytes o.trails;
  body = string_bytes o.body;
  blank_before = o.blank_before;
  may_follow = o.may_follow;
  met = o.met;
  passed = o.passed;
  blank_may_follow = o.blank_may_follow;
  first = o.first;
  marks = record { starts = o.starts.items; known = o.known; has_leaf = o.has_leaf };
  chain = o.chain;
  is_bodyless = o.is_bodyless;
}

-- nothing is printed
abbrev pub no_draft : Draft
no_draft = record {
  text = [];
  is_open = false;
  column = 0;
  line = [];
  trails = [];
  body = [];
  blank_before = false;
  may_follow = false;
  met = 0;
  passed = 0;
  blank_may_follow = false;
  first = None;
  marks = no_marks;
  chain = [];
  is_bodyless = true;
}

-- Parts of the line.

abbrev pub with_text : List ℕ → Draft → Draft
with_text text d = record d { line = d.line ++ text }

abbrev pub with_body : List ℕ → Draft → Draft
with_body lines d = record d { body = d.body ++ lines }

abbrev pub with_blank : Bool → Draft → Draft
with_blank blank d = record d { blank_before = blank }

abbrev pub without_blank : Draft → Draft
without_blank d = record d { may_follow = false }

-- the collection of an entry, from the known line of the one before it
abbrev pub block_since : List ℕ → KnownLine → Start → OpenBlock
block_since t k s = record { source = column_if (known_after t k s.offsets) s.offsets; printed = s.column; is_sequence = s.is_item }

-- an entry begins on the line
abbrev pub start_if : Bool → List ℕ → Start → KnownLine → List OpenBlock → List OpenBlock
start_if true t s k bs = bs ++ (block_since t k s ∷ [])
start_if false t s k bs = bs

abbrev pub known_if : Bool → List ℕ → Start → KnownLine → KnownLine
known_if true t s k = known_after t k s.offsets
known_if false t s k = k

abbrev pub start_marked : Remarks → Start → LineMarks → LineMarks
start_marked r s m = record m {
  starts = start_if (keeps_blocks r.style) r.text s m.known m.starts;
  known = known_if (keeps_blocks r.style) r.text s m.known;
}

abbrev pub with_block_start : List ℕ → Start → Draft → Draft
with_block_start t s d = record d {
  marks = record d.marks { starts = d.marks.starts ++ (block_since t d.marks.known s ∷ []); known = known_after t d.marks.known s.offsets };
}

abbrev pub with_start : Remarks → Start → Draft → Draft
with_start r s d = record d { marks = start_marked r s d.marks }

-- a leaf is on the line
abbrev pub leaf_marked : LineMarks → LineMarks
leaf_marked m = record m { has_leaf = true }

-- the comment at an index trails the line
abbrev pub trailing_at : Option CommentValue → List ℕ
trailing_at None = []
trailing_at (Some c) = after_two_spaces c

abbrev pub trailing_if : List CommentValue → Option ℕ → List ℕ
trailing_if cs None = []
trailing_if cs (Some k) = trailing_at (slice_get cs k)

-- the comment of a leaf
abbrev pub with_trail : List CommentValue → Option ℕ → Draft → Draft
with_trail cs k d = record d { trails = d.trails ++ trailing_if cs k; marks = leaf_marked d.marks }

abbrev pub with_key_trail : List CommentValue → Option ℕ → Draft → Draft
with_key_trail cs k d = record d { line = d.line ++ trailing_if cs k }

-- Comments.

abbrev pub or_first : Option ℕ → ℕ → Option ℕ
or_first None offset = Some offset
or_first (Some first) offset = Some first

abbrev pub past : List CommentValue → ℕ → Draft → Draft
past cs offset d = record d { met = d.met + count_to offset (drop d.met cs); first = or_first d.first offset }

abbrev pub blank_text : Bool → List ℕ
blank_text true = 10 ∷ []
blank_text false = []

-- a comment on a line of its own
abbrev pub own_line : ℕ → CommentValue → Draft → Draft
own_line column c d = record d {
  text = d.text ++ (blank_text (c.blank_before && d.blank_may_follow) ++ (replicate column 32 ++ (trimmed c.text ++ (10 ∷ []))));
  blank_may_follow = true;
}

abbrev pub own_line_if : Bool → ℕ → CommentValue → Draft → Draft
own_line_if true column c d = d
own_line_if false column c d = own_line column c d

-- these comments, from the one at index k on, each at its column
unfoldable pub own_lines : List Bool → (CommentValue → ℕ) → ℕ → List CommentValue → Draft → Draft
own_lines trailing columns k [] d = d
own_lines trailing columns k (c ∷ cs) d = own_lines trailing columns (k + 1) cs (own_line_if (get_or trailing k false) (columns c) c d)

-- The column of a comment that keeps its block, before a line at that column.

abbrev pub is_before : Option ℕ → ℕ → Bool
is_before None offset = true
is_before (Some first) offset = nat_lt offset first

abbrev pub begins_with : List OpenBlock → Bool → Beginning
begins_with [] false = begins_document
begins_with [] true = begins_node
begins_with (s ∷ ss) has_leaf = begins_entry s

abbrev pub column_kept : Remarks → ℕ → Draft → ℕ → ℕ
column_kept r column d offset =
    if is_before d.first offset then comment_column r.style.indent d.is_bodyless column (own_column r.text offset) (begins_with d.marks.starts d.marks.has_leaf) d.chain else column

abbrev pub kept_column : Remarks → ℕ → Draft → CommentValue → ℕ
kept_column r column d c = column_kept r column d c.offset

abbrev pub line_column : Remarks → ℕ → Draft → CommentValue → ℕ
line_column r column d c = columns_if (keeps_blocks r.style) (kept_column r column d c) column

-- the comments between two indices
abbrev pub between : ℕ → ℕ → List CommentValue → List CommentValue
between first end cs = take (end - first) (drop first cs)

abbrev pub all_passed : Draft → Draft
all_passed d = record d { passed = d.met }

-- the comments that were met
abbrev pub met_lines : Remarks → ℕ → Draft → Draft
met_lines r column d =
    all_passed (own_lines r.trailing (line_column r column d) d.passed (between d.passed (min d.met (length r.comments)) r.comments) d)

-- Lines.

-- the printed line
abbrev pub line_text : Draft → List ℕ
line_text d = replicate d.column 32 ++ (d.line ++ (d.trails ++ (10 ∷ d.body)))

-- the open collections after it
abbrev pub after_blocks : List OpenBlock → List OpenBlock → List OpenBlock
after_blocks [] bs = bs
after_blocks (y ∷ ys) bs = after_blocks ys (open_after y bs)

abbrev pub unless_begun : List OpenBlock → Bool → List OpenBlock → List OpenBlock
unless_begun [] false bs = []
unless_begun [] true bs = bs
unless_begun (y ∷ ys) has_leaf bs = bs

abbrev pub after_line : LineMarks → List OpenBlock → List OpenBlock
after_line m bs = after_blocks m.starts (unless_begun m.starts m.has_leaf bs)

abbrev pub with_open : Draft → Draft
with_open d = record d { marks = no_marks; chain = after_line d.marks d.chain }

abbrev pub has_no_lines : List ℕ → Bool
has_no_lines [] = true
has_no_lines (b ∷ bs) = false

abbrev pub with_line : Draft → Draft
with_line d = record d {
  text = d.text ++ (blank_text (d.blank_before && d.blank_may_follow) ++ line_text d);
  is_open = false;
  line = [];
  trails = [];
  body = [];
  blank_may_follow = d.may_follow;
  first = None;
  marks = no_marks;
  chain = after_line d.marks d.chain;
  is_bodyless = has_no_lines d.body;
}

abbrev pub closed_if : Remarks → Bool → Draft → Draft
closed_if r true d = with_line (met_lines r d.column d)
closed_if r false d = d

-- the line is printed, after the comments that were met
abbrev pub closed : Remarks → Draft → Draft
closed r d = closed_if r d.is_open d

abbrev pub fresh : ℕ → Draft → Draft
fresh column d = record d { is_open = true; column = column; blank_before = false; may_follow = true }

-- the next line begins at that column
abbrev pub opened : Remarks → ℕ → Draft → Draft
opened r column d = fresh column (closed r d)

-- the whole text, with the last line and the remaining comments
abbrev pub all_met : Remarks → Draft → Draft
all_met r d = record d { met = length r.comments }

abbrev pub finished : Remarks → Draft → List ℕ
finished r d = (met_lines r 0 (all_met r (closed r d))).text
