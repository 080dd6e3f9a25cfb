-- The printed column of each comment on a line of its own, from the rows of a layout and the source: that of the next
-- row, or the one that keeps the comment's block.
use Rattle.std.specs.Prelude.{ℕ, Bool, true, false, nat_lt, if◌then◌else◌, List, [], ◌∷◌}
use Rattle.std.specs.List.{list_any}
use Rattle.yf_comments.specs.Comment.{CommentValue}
use Rattle.yf_events.specs.declared.event.Span.{Span}
use Rattle.yf_forms.specs.declared.style.CommentColumns.{CommentColumns}
use Rattle.yf_forms.specs.declared.style.CommentColumns.TheVariants.{Block, Next}
use Rattle.yf_forms.specs.declared.style.Style.{Style}
use Rattle.yf_print.specs.Layouts.CommentColumns.{OpenBlock, Beginning, begins_node, begins_document, begins_entry, open_after, comment_column}
use Rattle.yf_print.specs.Layouts.Rows.{Row, Start}
use Rattle.yf_print.specs.Layouts.SourceColumns.{own_column, source_column}

-- the column of a comment before a line at that column
abbrev pub Columns : Type 0
Columns = CommentValue → ℕ → ℕ

-- each comment is at the column of the next line
abbrev pub next_columns : Columns
next_columns d column = column

-- whether comments keep their source blocks
abbrev pub is_block : CommentColumns → Bool
is_block Next = false
is_block Block = true

unfoldable pub keeps_blocks : Style → Bool
keeps_blocks s = is_block s.comments

-- an item on the row follows the comment in the source
abbrev pub precedes_item : Row → CommentValue → Bool
precedes_item row c = list_any (λ item. nat_lt c.offset item) row.items

abbrev pub is_before_first : List ℕ → ℕ → Bool
is_before_first [] offset = true
is_before_first (item ∷ items) offset = nat_lt offset item

-- The open collections: after some entries; and after a row, which begins a document if it has no entry and no leaf.

abbrev pub block_of : List ℕ → Start → OpenBlock
block_of t s = record { source = source_column t s.offsets; printed = s.column; is_sequence = s.is_item }

abbrev pub after_starts : List ℕ → List Start → List OpenBlock → List OpenBlock
after_starts t [] bs = bs
after_starts t (s ∷ ss) bs = after_starts t ss (open_after (block_of t s) bs)

abbrev pub unless_document : List Start → List Span → List OpenBlock → List OpenBlock
unless_document [] [] bs = []
unless_document [] (l ∷ ls) bs = bs
unless_document (s ∷ ss) ls bs = bs

abbrev pub after_row : List ℕ → Row → List OpenBlock → List OpenBlock
after_row t row bs = after_starts t row.starts (unless_document row.starts row.leaves bs)

abbrev pub beginning : List ℕ → List Start → List Span → Beginning
beginning t [] [] = begins_document
beginning t [] (l ∷ ls) = begins_node
beginning t (s ∷ ss) ls = begins_entry (block_of t s)

abbrev pub is_bodyless : List (List ℕ) → Bool
is_bodyless [] = true
is_bodyless (l ∷ ls) = false

-- the column of a comment directly before a row, after a row with those open collections; a comment after an item of
-- the row gets the row's column
abbrev pub column_above : List ℕ → Style → List OpenBlock → Bool → Row → CommentValue → ℕ
column_above t s bs may row d =
    if is_before_first row.items d.offset then comment_column s.indent may row.column (own_column t d.offset) (beginning t row.starts row.leaves) bs else row.column

-- the column of a comment among these rows, or after them
abbrev pub column_among_rows : List ℕ → Style → List OpenBlock → Bool → List Row → CommentValue → ℕ
column_among_rows t s bs may [] d = comment_column s.indent may 0 (own_column t d.offset) begins_document bs
column_among_rows t s bs may (row ∷ rows) d =
    if precedes_item row d then column_above t s bs may row d else column_among_rows t s (after_row t row bs) (is_bodyless row.body) rows d

abbrev pub columns_if : Bool → ℕ → ℕ → ℕ
columns_if true kept next = kept
columns_if false kept next = next

-- the columns of the comments of a layout with these rows, from the source t
abbrev pub columns_of : List ℕ → Style → List Row → Columns
columns_of t s rows d next = columns_if (keeps_blocks s) (column_among_rows t s [] true rows d) next
