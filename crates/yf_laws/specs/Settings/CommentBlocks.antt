-- The columns of comments on lines of their own in a formatted text under `comments = "block"`, in terms of the columns
-- in the text and in its formatting, and of the rows of both readings. Columns count from 0.
use Rattle.std.specs.Prelude.{◌≡◌, ◌<◌, ℕ, Bool, true, false, not, ◌||◌, ◌==◌, if◌then◌else◌, List, [], ◌∷◌, length, filter, Option, Some, None}
use Rattle.std.specs.Str.{IsUtf8}
use Rattle.yf_comments.specs.Comment.{CommentValue}
use Rattle.yf_events.specs.declared.lists.Lists.{Lists}
use Rattle.yf_stream.specs.ReadingOf.{ReadingOf}
use Rattle.yf_forms.specs.Nodes.Lines.{trimmed}
use Rattle.yf_forms.specs.declared.style.Style.{Style}
use Rattle.yf_print.specs.Layouts.CommentColumns.{Beginning, begins_document, begins_entry, begins_node, goes_on, is_source, not_ended}
use Rattle.yf_print.specs.Layouts.KeptColumns.{after_row, beginning, is_before_first, keeps_blocks, precedes_item}
use Rattle.yf_print.specs.Layouts.Rows.{Row}
use Rattle.yf_print.specs.Layouts.SourceColumns.{own_column}
use Rattle.yf_print.specs.declared.open_blocks.OpenBlock.{OpenBlock}
use Rattle.yf_laws.specs.Format.{IsFormatting}
use Rattle.yf_laws.specs.Layouts.Decorated.{comments_left, rows_of}
use Rattle.yf_laws.specs.Layouts.Layout.{own_line_comments, source_of}
use Rattle.yf_laws.specs.Preservation.CommentsPlaced.{rows_in, source_in}
use Rattle.yf_laws.specs.Preservation.ReadingKey.{Each}

-- the number of open collections around the innermost one whose first entry is at the column
abbrev pub block_at : ℕ → List OpenBlock → Option ℕ
block_at k [] = None
block_at k (b ∷ bs) = if is_source k b.source then Some (length bs) else block_at k bs

-- the column of the first entry of the collection that has that many around it
abbrev pub column_of_block : ℕ → List OpenBlock → Option ℕ
column_of_block n [] = None
column_of_block n (b ∷ bs) = if n == length bs then b.source else column_of_block n bs

-- A comment at the column k follows the open collections: the next line doesn't begin with a node's text, nor with the
-- first entry of a collection at k.
abbrev pub goes_by_open : ℕ → Beginning → List OpenBlock → Bool
goes_by_open k begins_node bs = false
goes_by_open k begins_document bs = true
goes_by_open k (begins_entry y) bs = goes_on y (not_ended y bs) || not (is_source k y.source)

-- the collections that are open on one row of the text and of its formatting, innermost first
pub record OpenIn : Type 0 where
  pub text : List OpenBlock
  pub formatting : List OpenBlock

-- the site of a comment: the collections that are open there, the column of the next row, and what that row begins with
pub record Site : Type 0 where
  pub blocks : OpenIn
  pub next : ℕ
  pub begin : Beginning

-- The comment e of the formatting u is the comment d of the text t, at that site; is_first: d is before everything on
-- the next row. e is on a line of its own.
pub record IsKeptAt (t u : List ℕ) (site : Site) (is_first : Bool) (d e : CommentValue) : Type 0 where
  pub text : trimmed e.text ≡ trimmed d.text
  pub column : ℕ
  pub alone : own_column u e.offset ≡ Some column
  -- if d is on a line of its own, before everything on the next row, at the column of an open collection, and follows
  -- the open collections, e is at the column of that collection
  pub aligned : (k n : ℕ) → is_first ≡ true → own_column t d.offset ≡ Some k → goes_by_open k site.begin site.blocks.text ≡ true → block_at k site.blocks.text ≡ Some n
      → column_of_block n site.blocks.formatting ≡ Some column
  -- if d is so at the margin, and collections are open but none is there, e is at the margin
  pub margin : is_first ≡ true → own_column t d.offset ≡ Some 0 → goes_by_open 0 site.begin site.blocks.text ≡ true → 0 < length site.blocks.text → block_at 0 site.blocks.text ≡ None → column ≡ 0
  -- if d isn't on a line of its own, or comes after something on the next row, or before a node's text, e is at the
  -- column of the next row
  pub not_alone : own_column t d.offset ≡ None → column ≡ site.next
  pub not_first : is_first ≡ false → column ≡ site.next
  pub before_text : site.begin ≡ begins_node → column ≡ site.next

abbrev pub before_end : OpenIn → Site
before_end blocks = record { blocks = blocks; next = 0; begin = begins_document }

abbrev pub before_row : List ℕ → OpenIn → Row → Site
before_row t blocks x = record { blocks = blocks; next = x.column; begin = beginning t x.starts x.leaves }

abbrev pub IsKeptBefore : List ℕ → List ℕ → OpenIn → Row → CommentValue → CommentValue → Type 0
IsKeptBefore t u blocks x d e = IsKeptAt t u (before_row t blocks x) (is_before_first x.items d.offset) d e

-- after a row x of the text, which is y in the formatting
abbrev pub open_past : List ℕ → List ℕ → Row → Row → OpenIn → OpenIn
open_past t u x y blocks = record { text = after_row t x blocks.text; formatting = after_row u y blocks.formatting }

-- Each row of the formatting has as many comments before it as the same row of the text, one for one.
pub data AreKeptIn (t u : List ℕ) : OpenIn → List Row → List Row → List CommentValue → List CommentValue → Type 0 where
  kept_at_end : {blocks : OpenIn} {ds es : List CommentValue} → Each (IsKeptAt t u (before_end blocks) true) ds es → AreKeptIn t u blocks [] [] ds es
  kept_before : {blocks : OpenIn} {x y : Row} {xs ys : List Row} {ds es : List CommentValue} → Each (IsKeptBefore t u blocks x) (filter (precedes_item x) ds) (filter (precedes_item y) es)
      → AreKeptIn t u (open_past t u x y blocks) xs ys (comments_left x ds) (comments_left y es) → AreKeptIn t u blocks (x ∷ xs) (y ∷ ys) ds es

abbrev pub none_open : OpenIn
none_open = record { text = []; formatting = [] }

-- Under `comments = "block"` each comment on a line of its own stays before the same row. One at the column of a
-- collection that is open there stays at the column of that collection, unless the next row decides its column
-- (`IsKeptAt`).
abbrev pub CommentsStayInBlocks : Type 0
CommentsStayInBlocks = (t u : List ℕ) (s : Style) (q : Lists) → IsUtf8 t → (f : IsFormatting t s u) → (a : ReadingOf u q) → keeps_blocks s ≡ true
    → AreKeptIn t u none_open (rows_in f) (rows_of q s a.trees) (own_line_comments (source_in f) (rows_in f)) (own_line_comments (source_of q (rows_of q s a.trees)) (rows_of q s a.trees))
