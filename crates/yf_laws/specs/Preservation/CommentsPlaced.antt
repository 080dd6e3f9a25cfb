-- Which comments end a line of a formatted text, and which are on a line of their own.
use Rattle.std.specs.Prelude.{◌≡◌, ℕ, Bool, true, false, slice_get, ◌||◌, nat_lt, if◌then◌else◌, List, [], ◌∷◌, Option, Some, None}
use Rattle.std.specs.List.{flat_map, list_any}
use Rattle.yf_comments.specs.Comment.{CommentValue}
use Rattle.yf_events.specs.Tree.{leaves}
use Rattle.yf_events.specs.declared.event.Span.{Span}
use Rattle.yf_events.specs.declared.lists.Lists.{Lists}
use Rattle.yf_stream.specs.ReadingOf.{ReadingOf}
use Rattle.yf_forms.specs.declared.style.Style.{Style}
use Rattle.yf_laws.specs.Layouts.Decorated.{decorated, first_gap, row_decos, rows_of}
use Rattle.yf_laws.specs.Format.{IsFormatting}
use Rattle.yf_laws.specs.FormatLaws.{TrailsFitIn}
use Rattle.yf_laws.specs.Preservation.KeyComments.{keyed_in_documents}
use Rattle.yf_laws.specs.Layouts.Layout.{Columns, Remark, Source, columns_of, first_comment, is_among, source_of, trailing}
use Rattle.yf_forms.specs.NormalForms.Normal.{setting_of}
use Rattle.yf_print.specs.Layouts.Rows.{Row}

-- the first comment after the start of a leaf and before the next leaf, if it is within the leaf or on the line on
-- which the leaf ends
abbrev pub at_leaf : Span → Option Remark → List CommentValue
at_leaf leaf None = []
at_leaf leaf (Some r) = if nat_lt r.0.offset leaf.end || r.1 then r.0 ∷ [] else []

-- whether the comment is the first one between an implicit key and a value that is a leaf or is kept on one line, or
-- the first one at a leaf
abbrev pub ends_line : Source → CommentValue → Bool
ends_line c d = is_among c.key_comments d || list_any (λ leaf. is_among (at_leaf leaf (first_comment c leaf)) d) c.leaves

-- the rows that are laid out for the text, and what places its comments
abbrev pub rows_in : {t u : List ℕ} {s : Style} → IsFormatting t s u → List Row
rows_in {s = s} f = rows_of f.normal s f.writes.trees

abbrev pub columns_in : {t u : List ℕ} {s : Style} → IsFormatting t s u → Columns
columns_in {t = t} {s = s} f = columns_of t s (rows_in f)

abbrev pub source_in : {t u : List ℕ} {s : Style} → IsFormatting t s u → Source
source_in f = source_of f.normal (rows_in f)

pub record CommentsPlaced (t : List ℕ) (s : Style) (u : List ℕ) : Type 0 where
  -- the leaves are those of the text, in its order
  pub leaves : (f : IsFormatting t s u) → (source_in f).leaves ≡ flat_map (λ d. leaves d.root) f.is_normal.trees
  -- and the comments that trail keys are those of the entries of block mappings, in its order
  pub keys : (f : IsFormatting t s u) → (source_in f).key_comments ≡ keyed_in_documents (setting_of f.normal s) f.writes.trees
  -- only those comments end a line of u, and all of them do
  pub exact : (f : IsFormatting t s u) (d : CommentValue) → is_among (flat_map (trailing (source_in f)) (rows_in f)) d ≡ ends_line (source_in f) d
  -- so the first comment after the start of a leaf ends a line if it is within the leaf or on the line on which the
  -- leaf ends
  pub stays_at_end : (f : IsFormatting t s u) (i : ℕ) (leaf : Span) (d : CommentValue) (on_line : Bool) → slice_get (source_in f).leaves i ≡ Some leaf
      → first_comment (source_in f) leaf ≡ Some (d, on_line) → (nat_lt d.offset leaf.end || on_line) ≡ true → is_among (flat_map (trailing (source_in f)) (rows_in f)) d ≡ true
  -- and a comment that isn't such a first one at any leaf, nor between a key and such a value, doesn't
  pub stays_alone : (f : IsFormatting t s u) (d : CommentValue) → is_among (source_in f).key_comments d ≡ false
      → ((i : ℕ) (leaf : Span) → slice_get (source_in f).leaves i ≡ Some leaf → is_among (at_leaf leaf (first_comment (source_in f) leaf)) d ≡ false)
      → is_among (flat_map (trailing (source_in f)) (rows_in f)) d ≡ false
  -- at most one ends each line, and its text is the comment's without the white space at its end
  pub once : (f : IsFormatting t s u) → TrailsFitIn f
  -- u consists of its rows, each with the comment that ends it and those on lines of their own after it
  pub printed : (f : IsFormatting t s u) → u ≡ decorated (columns_in f) f.normal (rows_in f)
  -- and its own reading finds them there: the lines between rows, and what ends each row, are equal
  pub before : (f : IsFormatting t s u) (q : Lists) (b : ReadingOf u q) → first_gap (columns_of u s (rows_of q s b.trees)) q (rows_of q s b.trees) ≡ first_gap (columns_in f) f.normal (rows_in f)
  pub follows : (f : IsFormatting t s u) (q : Lists) (b : ReadingOf u q) → row_decos (columns_of u s (rows_of q s b.trees)) q (rows_of q s b.trees) ≡ row_decos (columns_in f) f.normal (rows_in f)
