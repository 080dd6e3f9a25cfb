-- A line for each finding of several inputs, as a check writes them.
use Rattle.std.specs.Prelude.{ℕ, List, [], ◌∷◌, ◌++◌, Bool, true, false, Option, codes, decimal, if◌then◌else◌}
use Rattle.std.specs.List.{concat, flat_map}
use Rattle.std.specs.Option.{unwrap_or}
use Rattle.yf_lines.specs.Shown.{shown}
use Rattle.yf_findings.specs.declared.files.FileProblems.{FileProblems}
use Rattle.yf_findings.specs.declared.owned.OwnedProblem.{OwnedProblem}
use Rattle.yf_report.specs.declared.problem.Severity.{Severity}
use Rattle.yf_report.specs.declared.problem.Severity.TheVariants.{Error, Warning}
use Rattle.yf_rules.specs.Runs.Run.{fixable_word}

-- whether a problem is a finding and not a refusal
abbrev pub is_warning : Severity → Bool
is_warning Error = false
is_warning Warning = true

abbrev pub is_finding : OwnedProblem → Bool
is_finding p = is_warning p.severity

-- the name of an input: `-` is standard input without a name
abbrev pub name_of : Option (List ℕ) → List ℕ
name_of file = unwrap_or file (codes "-")

-- the line of a finding: the start of its range, the rule's id, and whether `fmt` fixes it
abbrev pub problem_line : OwnedProblem → List ℕ
problem_line p =
    concat (decimal p.range.line ∷ codes ":" ∷ decimal p.range.column ∷ codes " " ∷ p.rule.now ∷ fixable_word p.fixable
    ∷ codes "\n" ∷ [])

-- the text before each line of an input
abbrev pub name_before : Bool → Option (List ℕ) → List ℕ
name_before true file = shown (name_of file) ++ 58 ∷ []
name_before false file = []

-- the line of a problem after a text, or nothing for a refusal
abbrev pub line_after : List ℕ → OwnedProblem → List ℕ
line_after before p = if is_finding p then before ++ problem_line p else []

abbrev pub file_lines : Bool → FileProblems → List ℕ
file_lines named f = flat_map (line_after (name_before named f.file)) f.problems.items

-- the lines of all findings, in order
abbrev pub lines_text : Bool → List FileProblems → List ℕ
lines_text named files = flat_map (file_lines named) files
