-- The number of findings of each rule.
use Rattle.std.specs.Prelude.{◌≡◌, ℕ, zero, suc, ◌-◌, List, [], ◌∷◌, ◌++◌, Bool, true, false, codes, decimal, map, length}
use Rattle.std.specs.Prelude.{bytes_eq, if◌then◌else◌}
use Rattle.std.specs.Cmp.Lexicographic.{slice_cmp}
use Rattle.std.specs.List.{All, concat, count_by, filter, flat_map, list_all, list_any}
use Rattle.std.specs.List.Sorted.{IsSortedBy}
use Rattle.std.specs.Ordering.{is_lt, nat_cmp, ordering_then}
use Rattle.std.specs.declared.cmp.Ordering.{Ordering}
use Rattle.yf_findings.specs.LineForm.{is_finding}
use Rattle.yf_findings.specs.declared.files.FileProblems.{FileProblems}
use Rattle.yf_findings.specs.declared.owned.OwnedProblem.{OwnedProblem}
use Rattle.yf_findings.specs.declared.statistics.FoundRule.{FoundRule}
use Rattle.yf_findings.specs.declared.statistics.RuleCount.{RuleCount}
use Rattle.yf_rules.specs.Runs.Run.{fixable_word}

-- the rule of a finding, and whether `fmt` fixes the finding
abbrev pub kind_of : OwnedProblem → List ℕ × Bool
kind_of p = (p.rule.now, p.fixable)

abbrev pub found_value : FoundRule → List ℕ × Bool
found_value f = (f.rule.now, f.fixable)

abbrev pub kinds_of : List OwnedProblem → List (List ℕ × Bool)
kinds_of ps = map kind_of (filter is_finding ps)

-- those of all findings of several inputs, in order
abbrev pub kinds_in : List FileProblems → List (List ℕ × Bool)
kinds_in files = flat_map (λ (f : FileProblems). kinds_of f.problems.items) files

-- whether a finding is one of a rule
abbrev pub is_of : List ℕ → FoundRule → Bool
is_of id f = bytes_eq f.rule.now id

-- the number of findings of a rule
abbrev pub count_of : List ℕ → List FoundRule → ℕ
count_of id found = count_by (is_of id) found

-- whether `fmt` fixes all findings of a rule
abbrev pub fixes : List ℕ → FoundRule → Bool
fixes id f = if is_of id f then f.fixable else true

abbrev pub fixes_all : List ℕ → List FoundRule → Bool
fixes_all id found = list_all (fixes id) found

-- whether a row is one of a rule, and the number of such rows
abbrev pub is_row : List ℕ → RuleCount → Bool
is_row id r = bytes_eq r.rule.now id

abbrev pub rows_of : List ℕ → List RuleCount → ℕ
rows_of id rows = count_by (is_row id) rows

-- a row has the number of findings of its rule
pub record IsRow (found : List FoundRule) (r : RuleCount) : Type 0 where
  pub count : r.count ≡ count_of r.rule.now found
  pub fixable : r.fixable ≡ fixes_all r.rule.now found

-- the row of a rule was added, or the rule has a row
pub data AddsRow (found : List FoundRule) (id : List ℕ) (old new : List RuleCount) : Type 0 where
  has_row : list_any (is_row id) old ≡ true → new ≡ old → AddsRow found id old new
  added : {r : RuleCount} → list_any (is_row id) old ≡ false → IsRow found r → r.rule.now ≡ id → new ≡ old ++ r ∷ []
      → AddsRow found id old new

-- the order of the rows: the highest number first, and then by the ids
abbrev pub row_cmp : RuleCount → RuleCount → Ordering
row_cmp a b = ordering_then (nat_cmp b.count a.count) (slice_cmp nat_cmp a.rule.now b.rule.now)

abbrev pub comes_before : RuleCount → RuleCount → Bool
comes_before a b = is_lt (row_cmp a b)

-- the number of rows of a rule: 1 if it has a finding, and 0 otherwise
abbrev pub occurs : List ℕ → List FoundRule → ℕ
occurs id found = if list_any (is_of id) found then 1 else 0

-- Each rule that has findings has one row, with their number, and no other rule has a row. The rows are in order.
pub record AreCounted (found : List FoundRule) (rows : List RuleCount) : Type 0 where
  pub each : All (IsRow found) rows
  pub once : (id : List ℕ) → rows_of id rows ≡ occurs id found
  pub order : IsSortedBy comes_before rows

unfoldable pub blanks : ℕ → List ℕ
blanks zero = []
blanks (suc n) = blanks n ++ 32 ∷ []

-- the width of the highest number, which is in the first row
abbrev pub width_of : List RuleCount → ℕ
width_of [] = 0
width_of (r ∷ rows) = length (decimal r.count)

-- a row: its number in a width, and the rule's id
abbrev pub row_text : ℕ → RuleCount → List ℕ
row_text width r =
    blanks (width - length (decimal r.count))
    ++ concat (decimal r.count ∷ codes "  " ∷ r.rule.now ∷ fixable_word r.fixable ∷ codes "\n" ∷ [])

abbrev pub rows_text : List RuleCount → List ℕ
rows_text rows = flat_map (row_text (width_of rows)) rows

-- the text of the rows for the findings of all inputs
pub record StatisticsText (files : List FileProblems) (bytes : List ℕ) : Type 0 where
  pub found : List FoundRule
  pub rows : List RuleCount
  pub listed : map found_value found ≡ kinds_in files
  pub counted : AreCounted found rows
  pub text : bytes ≡ rows_text rows
