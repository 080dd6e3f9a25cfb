-- The findings of several inputs as entries of a baseline, and the findings that a baseline doesn't list.
use Rattle.std.specs.Prelude.{ℕ, List, [], ◌∷◌, ◌++◌, ◌&&◌, Bool, map, Option, if◌then◌else◌}
use Rattle.std.specs.List.{flat_map}
use Rattle.yf_baseline.specs.Baselines.{entry_line}
use Rattle.yf_baseline.specs.Entries.{Kept, entries_of, kept, line_hash}
use Rattle.yf_baseline.specs.declared.entry.Entry.{Entry}
use Rattle.yf_findings.specs.LineForm.{is_finding}
use Rattle.yf_findings.specs.declared.files.FileProblems.{FileProblems}
use Rattle.yf_findings.specs.declared.owned.OwnedProblem.{OwnedProblem}
use Rattle.yf_report.specs.Checkstyle.{name_or_stdin}

-- the lists that f gives for the first items of two lists, for the second ones, and so on, one after another
abbrev pub flat_zip : {A B C : Type 0} → (A → B → List C) → List A → List B → List C
flat_zip f [] ys = []
flat_zip f (x ∷ xs) [] = []
flat_zip f (x ∷ xs) (y ∷ ys) = f x y ++ flat_zip f xs ys

-- the parts of a problem that its entry keeps: the rule, and the hash of the text of the line
abbrev pub kept_in : OwnedProblem → Kept
kept_in p = kept p.rule.now (line_hash p.line_text)

-- an entry for each problem of an input, in order
abbrev pub problem_entries : Option (List ℕ) → List OwnedProblem → List Entry
problem_entries file ps = entries_of (name_or_stdin file) (map kept_in ps)

-- ---- a baseline of all findings

-- the entry of a problem if that is a finding
abbrev pub if_finding : OwnedProblem → Entry → List Entry
if_finding p e = if is_finding p then e ∷ [] else []

-- the entries of the findings of an input
abbrev pub file_entries : FileProblems → List Entry
file_entries f = flat_zip if_finding f.problems.items (problem_entries f.file f.problems.items)

-- those of several inputs, in order
abbrev pub all_entries : List FileProblems → List Entry
all_entries files = flat_map file_entries files

-- ---- the findings that are new

-- a problem is a finding, and its entry is listed (listed: whether the baseline has a line)
abbrev pub is_listed : (List ℕ → Bool) → Entry → OwnedProblem → Bool
is_listed listed e p = is_finding p && listed (entry_line e)

abbrev pub unless_listed : (List ℕ → Bool) → Entry → OwnedProblem → List OwnedProblem
unless_listed listed e p = if is_listed listed e p then [] else p ∷ []

-- the problems of an input without the findings that are listed, in order
abbrev pub unlisted : (List ℕ → Bool) → Option (List ℕ) → List OwnedProblem → List OwnedProblem
unlisted listed file ps = flat_zip (unless_listed listed) (problem_entries file ps) ps
