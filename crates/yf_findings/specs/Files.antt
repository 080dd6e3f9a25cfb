-- One report of the problems of several inputs.
use Rattle.std.specs.Prelude.{◌≡◌, ℕ, Bool, true, false, not, List, [], ◌∷◌, map, Option, None}
use Rattle.std.specs.Global.{Vec}
use Rattle.std.specs.List.{flat_map}
use Rattle.yf_findings.specs.declared.changes.Change.{Change}
use Rattle.yf_findings.specs.declared.files.FileProblems.{FileProblems}
use Rattle.yf_findings.specs.declared.owned.OwnedProblem.{OwnedProblem}
use Rattle.yf_report.specs.CodeQuality.{Entry, entry_of}
use Rattle.yf_report.specs.Fixes.{Replaced, replaced}
use Rattle.yf_report.specs.declared.problem.Replacement.{Replacement}
use Rattle.yf_report.specs.Reports.{IsReport}
use Rattle.yf_report.specs.Sarif.{Described}
use Rattle.yf_report.specs.declared.problem.Problem.{Problem}
use Rattle.yf_report.specs.declared.reports.Format.{Format}
use Rattle.yf_rules.specs.AllRules.{rule_names}

-- a problem in a file as a report lists it, and the text of its line
abbrev pub entry_with : Option (List ℕ) → OwnedProblem → Entry
entry_with file p = record {
  finding = record {
    file = file;
    range = p.range;
    rule = p.rule.now;
    severity = p.severity;
    message = p.message;
    fixable = p.fixable;
    related = None;
  };
  line = p.line_text;
}

-- the entries of all problems of a file, in order
abbrev pub entries_of : FileProblems → List Entry
entries_of f = map (entry_with f.file) f.problems.items

-- the fix of a problem
abbrev pub fix_of : Problem → List Replaced
fix_of p = map replaced p.fix.now

-- the fix if it is wanted, and otherwise none
abbrev pub fix_for : Bool → List Replaced → List Replaced
fix_for true fix = fix
fix_for false fix = []

-- the fix of each problem: the first problem that `fmt` fixes has this fix, and the others have none
abbrev pub fixes_from : List Replaced → List OwnedProblem → List (List Replaced)
fixes_from fix [] = []
fixes_from fix (p ∷ ps) = fix_for p.fixable fix ∷ fixes_from (fix_for (not p.fixable) fix) ps

-- the changes of a file in the form for reports
abbrev pub replaced_by : Change → Replaced
replaced_by c = record { range = c.range; text = c.text }

abbrev pub fix_in : FileProblems → List Replaced
fix_in f = map replaced_by f.changes.items

-- the fixes of the problems of a file: its changes are the fix of the first problem that `fmt` fixes
abbrev pub fixes_of : FileProblems → List (List Replaced)
fixes_of f = fixes_from (fix_in f) f.problems.items

-- The bytes are a report, in this format, of exactly the problems of all files, in order, with their fixes. Its rules
-- are all rules of style.
pub record ReportOf (format : Format) (files : List FileProblems) (bytes : List ℕ) : Type 0 where
  pub rules : List Described
  pub problems : List Problem
  pub named : map (λ (r : Described). r.id) rules ≡ rule_names
  pub listed : map entry_of problems ≡ flat_map entries_of files
  pub fixed : map fix_of problems ≡ flat_map fixes_of files
  pub report : IsReport format rules problems bytes

-- ---- for private clauses

abbrev pub replaced_all : Vec Replacement → List Replaced
replaced_all v = map replaced v.items
