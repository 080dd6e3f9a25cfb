-- What people see of the changes of lines that fix findings: which lines of the text `fmt` rewrites, removes or adds,
-- and what it writes there.
use Rattle.std.specs.Prelude.{ℕ, zero, suc, ◌+◌, ◌==◌, ◌&&◌, ◌||◌, Bool, false, not, nat_eq, nat_le, nat_lt, if◌then◌else◌}
use Rattle.std.specs.Prelude.{List, [], ◌∷◌, ◌++◌, codes, decimal, length, drop, take}
use Rattle.std.specs.List.{prefix_len}
use Rattle.std.specs.Str.{chars}
use Rattle.yf_explain.specs.Shown.{all_shown}
use Rattle.yf_findings.specs.Excerpt.{dots, fitting}
use Rattle.yf_findings.specs.Pieces.{as_shown, piece}
use Rattle.yf_findings.specs.Selection.{last_line}
use Rattle.yf_findings.specs.declared.changes.Change.{Change}
use Rattle.yf_findings.specs.declared.owned.OwnedProblem.{OwnedProblem}
use Rattle.yf_findings.specs.declared.full_changes.TheConstants.{LINES, WIDTH}
use Rattle.yf_findings.specs.declared.pieces.Look.TheVariants.{Green, Plain}
use Rattle.yf_findings.specs.declared.pieces.Piece.{Piece}
use Rattle.yf_report.specs.declared.problem.Range.{Range}

-- the lines of a range, by their numbers
abbrev pub lines_words : ℕ → ℕ → List ℕ
lines_words first last =
    if first == last then as_shown (codes "line ") ++ as_shown (decimal first)
    else as_shown (codes "lines ") ++ (as_shown (decimal first) ++ (as_shown (codes " to ") ++ as_shown (decimal last)))

-- whether a range is empty
abbrev pub is_empty : Range → Bool
is_empty r = (r.line == r.end_line) && (r.column == r.end_column)

-- what `fmt` does with the lines of a range: it removes them, adds others before the first one, or writes others there
abbrev pub verb : Range → List ℕ → List ℕ
verb r [] = codes "  = fmt removes "
verb r (c ∷ cs) = if is_empty r then codes "  = fmt adds before " else codes "  = fmt rewrites "

abbrev pub colon : List ℕ → List ℕ
colon [] = []
colon (c ∷ cs) = codes ":"

abbrev pub label : Change → List ℕ
label c =
    as_shown (verb c.range c.text)
    ++ (lines_words c.range.line (last_line c.range) ++ (as_shown (colon c.text) ++ 10 ∷ []))

-- the first line of these characters, without its line feed, and the characters after the line feed
abbrev pub is_no_feed : ℕ → Bool
is_no_feed c = not (nat_eq c 10)

abbrev pub first_line : List ℕ → List ℕ
first_line cs = take (prefix_len is_no_feed cs) cs

abbrev pub after_line : List ℕ → List ℕ
after_line cs = drop (prefix_len is_no_feed cs + 1) cs

-- a line that `fmt` writes: its longest front of at most WIDTH columns, and three dots if it goes on
abbrev pub row_text : List ℕ → List ℕ
row_text line =
    as_shown (codes "  + ")
    ++ (all_shown (take (fitting WIDTH line) line) ++ as_shown (dots (nat_lt (fitting WIDTH line) (length line))))

abbrev pub row : List ℕ → List Piece
row page = piece Green page ∷ piece Plain (10 ∷ []) ∷ []

-- a row with three dots if there are more characters
abbrev pub more_row : List ℕ → List Piece
more_row [] = []
more_row (c ∷ cs) = row (as_shown (codes "  + ..."))

-- a row for each of the first n lines of these characters, and three dots if there are more
unfoldable pub rows : ℕ → List ℕ → List Piece
rows zero cs = more_row cs
rows (suc n) [] = []
rows (suc n) (c ∷ cs) = row (row_text (first_line (c ∷ cs))) ++ rows n (after_line (c ∷ cs))

-- the pieces of a change
abbrev pub change_pieces : Change → List Piece
change_pieces c = piece Plain (label c) ∷ rows LINES (chars c.text)

-- ---- A change is shown after the last problem that begins on its lines, if `fmt` fixes one of the problems that do. A
-- walk over the problems has the changes that are left: their lines don't end before the last problem. `due` is whether
-- the first one of them is to be shown.

-- whether the lines of a change end before a line
abbrev pub ends_before : ℕ → Change → Bool
ends_before line c = nat_lt (last_line c.range) line

abbrev pub left_at : ℕ → List Change → List Change
left_at line cs = drop (prefix_len (ends_before line) cs) cs

-- whether the lines of the first change end before a line, and whether they begin there or before it
abbrev pub first_is_over : ℕ → List Change → Bool
first_is_over line [] = false
first_is_over line (c ∷ cs) = ends_before line c

abbrev pub first_has_begun : ℕ → List Change → Bool
first_has_begun line [] = false
first_has_begun line (c ∷ cs) = nat_le c.range.line line

-- the pieces of the first change if it is due
abbrev pub due_pieces : Bool → List Change → List Piece
due_pieces due [] = []
due_pieces due (c ∷ cs) = if due then change_pieces c else []

-- whether the first change is due and is shown before a problem
abbrev pub due_before : Bool → OwnedProblem → List Change → Bool
due_before due p cs = due && first_is_over p.range.line cs

-- whether the first change that is left at a problem is due after it
abbrev pub due_after : Bool → OwnedProblem → List Change → Bool
due_after due p cs =
    (due && not (first_is_over p.range.line cs))
    || (p.fixable && first_has_begun p.range.line (left_at p.range.line cs))
