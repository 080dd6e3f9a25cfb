-- The problems on some lines of a text, and the first problems of several inputs.
use Rattle.std.specs.Prelude.{ℕ, ◌-◌, ◌≤◌, ◌==◌, ◌&&◌, Bool, nat_le, nat_lt, List, [], ◌∷◌, length, map, take, sum_by, Option, if◌then◌else◌}
use Rattle.std.specs.List.{filter, list_all, list_any}
use Rattle.yf_findings.specs.Files.{entry_with}
use Rattle.yf_findings.specs.LineForm.{is_finding}
use Rattle.yf_findings.specs.declared.changes.Change.{Change}
use Rattle.yf_findings.specs.declared.files.FileProblems.{FileProblems}
use Rattle.yf_findings.specs.declared.owned.OwnedProblem.{OwnedProblem}
use Rattle.yf_line_ranges.specs.declared.range.LineRange.{LineRange}
use Rattle.yf_report.specs.CodeQuality.{Entry}
use Rattle.yf_report.specs.declared.problem.Range.{Range}

-- The last line that a range has a part of. A range that ends at the start of a line has no part of that line. An empty
-- range is on its line.
abbrev pub last_line : Range → ℕ
last_line r =
    if nat_lt r.line r.end_line then (if nat_le r.end_column 1 then r.end_line - 1 else r.end_line)
    else r.line

-- whether some line is in both ranges
abbrev pub meets : Range → LineRange → Bool
meets r asked = nat_le asked.first asked.last && (nat_le asked.first (last_line r) && nat_le r.line asked.last)

-- a line is in both ranges
pub record SomeLine (r : Range) (asked : LineRange) : Type 0 where
  pub line : ℕ
  pub from : asked.first ≤ line
  pub to : line ≤ asked.last
  pub after : r.line ≤ line
  pub before : line ≤ last_line r

-- whether a range of lines meets a problem
abbrev pub is_on : List LineRange → OwnedProblem → Bool
is_on asked p = list_any (meets p.range) asked

-- The problems on the asked lines, in their order. If no lines are asked, these are all problems.
abbrev pub on_lines : List LineRange → List OwnedProblem → List OwnedProblem
on_lines asked ps = if length asked == 0 then ps else filter (is_on asked) ps

-- the problems of an input, with its name and its changes
abbrev pub Listed : Type 0
Listed = Option (List ℕ) × List OwnedProblem × List Change

abbrev pub listed_in : FileProblems → Listed
listed_in f = (f.file, f.problems.items, f.changes.items)

-- the findings of an input, which a limit counts: an input with a refusal has none
abbrev pub counted : List OwnedProblem → List OwnedProblem
counted ps = if list_all is_finding ps then ps else []

-- the problems of an input that a limit of n findings keeps: a refusal stays
abbrev pub at_most : ℕ → List OwnedProblem → List OwnedProblem
at_most n ps = if list_all is_finding ps then take n ps else ps

-- the number of findings of several inputs
abbrev pub count_findings : List FileProblems → ℕ
count_findings files = sum_by (λ (f : FileProblems). length (counted f.problems.items)) files

-- the inputs with only the first findings, n of all inputs together
abbrev pub first_problems : ℕ → List Listed → List Listed
first_problems n [] = []
first_problems n (f ∷ files) = (f.0, at_most n f.1, f.2) ∷ first_problems (n - length (counted f.1)) files

-- the entries of the findings of an input
abbrev pub counted_entries : Listed → List Entry
counted_entries f = map (entry_with f.0) (counted f.1)
