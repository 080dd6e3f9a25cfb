-- The blank lines of a formatted text, and those of its source.
use Rattle.std.specs.Prelude.{◌≡◌, ℕ, Bool, ◌&&◌, List, [], ◌∷◌, map}
use Rattle.yf_events.specs.Reading.{entries_of}
use Rattle.yf_events.specs.Tree.{DocumentTree}
use Rattle.yf_events.specs.declared.lists.Lists.{Lists}
use Rattle.yf_stream.specs.ReadingOf.{ReadingOf}
use Rattle.yf_forms.specs.declared.style.Style.{Style}
use Rattle.yf_laws.specs.Layouts.Decorated.{rows_of}
use Rattle.yf_laws.specs.Format.{IsFormatting}
use Rattle.yf_laws.specs.Layouts.Layout.{Line, bytes_after, columns_of, lines_with_comments, may_be_blank_after}
use Rattle.yf_print.specs.Layouts.Rows.{Ending, at_text_start}

-- the lines on which a normal reading of t is laid out, except for blank lines and those of block scalars: comments,
-- and lines that begin with an entry or are a part of one; each has a note whether a blank line is before it
abbrev pub laid_out : List ℕ → Lists → Style → List DocumentTree → List Line
laid_out t m s trees = lines_with_comments (columns_of t s (rows_of m s trees)) m (rows_of m s trees)

abbrev pub notes_of : List Line → List Bool
notes_of ls = map (λ l. l.blank_before) ls

-- which of these lines, after one with that ending, get a blank line before them: those that had one, if it is allowed
-- there
abbrev pub left_blank : Ending → List Line → List Bool
left_blank before [] = []
left_blank before (l ∷ ls) = (may_be_blank_after before && l.blank_before) ∷ left_blank l.ending ls

pub record SameBlanks (t : List ℕ) (s : Style) (u : List ℕ) : Type 0 where
  -- u is those lines, with one blank line before each that has the note, if it is allowed there, and no other blank
  -- line
  pub lines : (q : Lists) (b : ReadingOf u q) → u ≡ bytes_after at_text_start (laid_out u q s b.trees)
  -- line by line, a blank line is noted before it in u if and only if one is allowed there and is noted before it in t
  pub notes : (f : IsFormatting t s u) (q : Lists) (b : ReadingOf u q) → notes_of (laid_out u q s b.trees) ≡ left_blank at_text_start (laid_out t f.normal s f.writes.trees)
  -- with the notes of comments and entries in the reading of t
  pub comments : (f : IsFormatting t s u) → f.normal.comments ≡ f.reading.comments
  pub entries : (f : IsFormatting t s u) → entries_of f.normal ≡ entries_of f.reading
