-- The problem that a report lists for a text that is no data.
use Rattle.std.specs.Prelude.{◌≡◌, ◌∷◌, ℕ, List, codes, false, if◌then◌else◌}
use Rattle.std.specs.List.Sorted.{IsPermutation, IsSortedByKey, IsStableByKey}
use Rattle.std.specs.Ordering.{nat_cmp, ordering_then}
use Rattle.std.specs.Str.{IsUtf8, bytes_eq}
use Rattle.std.specs.declared.cmp.Ordering.{Ordering}
use Rattle.yf_findings.specs.Problems.{LineText}
use Rattle.yf_findings.specs.Refusals.{empty_at}
use Rattle.yf_findings.specs.declared.owned.OwnedProblem.{OwnedProblem}
use Rattle.yf_lines.specs.Lines.{AreLines}
use Rattle.yf_lines.specs.declared.line.Line.{Line}
use Rattle.yf_report.specs.declared.problem.Severity.TheVariants.{Warning}
use Rattle.yf_rules.specs.declared.finding.Finding.{Finding}

-- why a text is no data
abbrev pub guard_words : Finding → List ℕ
guard_words f =
    if bytes_eq f.id.now (codes "template") then codes "looks like a template, which is YAML only after it is rendered"
    else codes "plain text over several lines, which fmt would join into one"

-- the text of the line of a text that has this number, from 1, or the longest front of it
abbrev pub IsLineOf : List ℕ → ℕ → List ℕ → Type 0
IsLineOf t number s =
    IsUtf8 t → (lines : List Line) × AreLines t lines × LineText (record { text = t; lines = lines }) number s

-- the problem of a finding that says why a text is no data: a warning at its position, which `fmt` doesn't fix
pub record GuardProblem (t : List ℕ) (f : Finding) (p : OwnedProblem) : Type 0 where
  pub range : p.range ≡ empty_at f.place
  pub rule : p.rule.now ≡ f.id.now
  pub severity : p.severity ≡ Warning
  pub message : p.message ≡ guard_words f
  pub fixable : p.fixable ≡ false
  pub line : IsLineOf t f.place.line p.line_text

-- the position at which the range of a problem begins, and the order of such positions
abbrev pub start_key : OwnedProblem → ℕ × ℕ
start_key p = (p.range.line, p.range.column)

abbrev pub start_cmp : ℕ × ℕ → ℕ × ℕ → Ordering
start_cmp a b = ordering_then (nat_cmp a.0 b.0) (nat_cmp a.1 b.1)

-- the problems, sorted by the positions at which their ranges begin; those that begin at one position keep their order
pub record PlacedFrom (all sorted : List OwnedProblem) : Type 0 where
  pub same : IsPermutation all sorted
  pub order : IsSortedByKey start_key start_cmp sorted
  pub stable : IsStableByKey start_key start_cmp all sorted

-- The problems, and among them that of a finding that says why the text is no data. It comes before the others at its
-- position.
abbrev pub WithGuard : List ℕ → Finding → List OwnedProblem → List OwnedProblem → Type 0
WithGuard t f problems all = (p : OwnedProblem) × GuardProblem t f p × PlacedFrom (p ∷ problems) all
