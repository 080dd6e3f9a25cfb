-- The findings of several inputs for people: for each one its message, the line of the text, and marks under its range;
-- and the changes of lines that fix findings.
use Rattle.std.specs.Prelude.{◌≡◌, ℕ, Bool, false, nat_eq, List, [], ◌∷◌, ◌++◌, codes, decimal, length, replicate}
use Rattle.std.specs.Prelude.{if◌then◌else◌}
use Rattle.std.specs.List.{count_by, flat_map}
use Rattle.std.specs.Str.{IsUtf8, chars}
use Rattle.yf_explain.specs.Shown.{AreWritten, all_shown}
use Rattle.yf_findings.specs.Excerpt.{excerpt, window_of}
use Rattle.yf_findings.specs.FullChanges.{due_after, due_before, due_pieces, left_at}
use Rattle.yf_findings.specs.LineForm.{is_finding, name_of}
use Rattle.yf_findings.specs.Pieces.{all_painted, all_as_shown, piece, as_shown, without_escapes}
use Rattle.yf_findings.specs.Statistics.{kinds_in}
use Rattle.yf_findings.specs.declared.changes.Change.{Change}
use Rattle.yf_findings.specs.declared.excerpt.Window.{Window}
use Rattle.yf_findings.specs.declared.files.FileProblems.{FileProblems}
use Rattle.yf_findings.specs.declared.owned.OwnedProblem.{OwnedProblem}
use Rattle.yf_findings.specs.declared.pieces.Look.TheVariants.{Plain, Bold, Yellow}
use Rattle.yf_findings.specs.declared.pieces.Piece.{Piece}
use Rattle.yf_rules.specs.Runs.Run.{fixable_word}

-- the name of the input, the position, and the rule
abbrev pub head_pieces : List ℕ → OwnedProblem → List Piece
head_pieces name p =
    piece Plain (all_as_shown (name ∷ codes ":" ∷ []))
    ∷ piece Bold (all_as_shown (decimal p.range.line ∷ codes ":" ∷ decimal p.range.column ∷ []))
    ∷ piece Plain (all_as_shown (codes " " ∷ []))
    ∷ piece Yellow (all_as_shown (p.rule.now ∷ [])) ∷ []

-- the message, and whether `fmt` fixes the finding
abbrev pub message_text : OwnedProblem → List ℕ
message_text p = as_shown (codes ": ") ++ (as_shown p.message ++ (as_shown (fixable_word p.fixable) ++ 10 ∷ []))

-- the message, the line, and the blanks before the marks
abbrev pub body_of : OwnedProblem → List ℕ → Window → List ℕ
body_of p cs w = message_text p ++ (excerpt cs w ++ (as_shown (codes "  | ") ++ all_shown (replicate w.indent 32)))

-- the message, the line, and the marks under it
abbrev pub marked_pieces : OwnedProblem → List ℕ → Window → List Piece
marked_pieces p cs w =
    piece Plain (body_of p cs w) ∷ piece Yellow (all_shown (replicate w.marks 94)) ∷ piece Plain (10 ∷ []) ∷ []

abbrev pub line_pieces : OwnedProblem → List ℕ → List Piece
line_pieces p cs = marked_pieces p cs (window_of cs p.range)

-- the pieces of a finding; a refusal has none
abbrev pub problem_pieces : List ℕ → OwnedProblem → List Piece
problem_pieces name p = if is_finding p then head_pieces name p ++ line_pieces p (chars p.line_text) else []

-- the pieces of problems, and of the changes that fix them: each after the last problem that begins on its lines
abbrev pub walk : List ℕ → Bool → List OwnedProblem → List Change → List Piece
walk name due [] cs = due_pieces due cs
walk name due (p ∷ ps) cs =
    due_pieces (due_before due p cs) cs ++ (problem_pieces name p
    ++ walk name (due_after due p cs) ps (left_at p.range.line cs))

abbrev pub file_pieces : FileProblems → List Piece
file_pieces f = walk (name_of f.file) false f.problems.items f.changes.items

-- the last line, if there are findings: their number, and the number of those that `fmt` fixes
abbrev pub plural : ℕ → List ℕ
plural n = if nat_eq n 1 then codes " finding, " else codes " findings, "

abbrev pub summary_text : ℕ → ℕ → List ℕ
summary_text all fixable = all_as_shown (decimal all ∷ plural all ∷ decimal fixable ∷ codes " fixable by yamlfmt fmt" ∷ []) ++ 10 ∷ []

abbrev pub summary_of : ℕ → ℕ → List Piece
summary_of all fixable = if nat_eq all 0 then [] else piece Plain (summary_text all fixable) ∷ []

abbrev pub is_fixable : List ℕ × Bool → Bool
is_fixable kind = kind.1

abbrev pub summary : List (List ℕ × Bool) → List Piece
summary kinds = summary_of (length kinds) (count_by is_fixable kinds)

abbrev pub full_pieces : List FileProblems → List Piece
full_pieces files = flat_map file_pieces files ++ summary (kinds_in files)

-- The text for people. Without colors it has only line feeds and characters that are shown as they are, and with colors
-- it differs only by escapes.
pub record FullText (colored : Bool) (files : List FileProblems) (bytes : List ℕ) : Type 0 where
  pub utf8 : IsUtf8 bytes
  pub text : chars bytes ≡ all_painted colored (full_pieces files)
  pub written : AreWritten (all_painted false (full_pieces files))
  pub plain : without_escapes (chars bytes) ≡ all_painted false (full_pieces files)
