-- The problem of a text that is not its own formatting, and the changes between both.
use Rattle.std.specs.Prelude.{◌≡◌, ◌∷◌, ℕ, List, [], codes, Bool, true, MatchBool, MatchOption, Option, Some, None}
use Rattle.yf_findings.specs.Changes.{AreChanges}
use Rattle.yf_findings.specs.Guards.{IsLineOf}
use Rattle.yf_findings.specs.Refusals.{empty_at}
use Rattle.yf_findings.specs.declared.changes.Change.{Change}
use Rattle.yf_findings.specs.declared.owned.OwnedProblem.{OwnedProblem}
use Rattle.yf_findings.specs.declared.texts.CheckedText.{CheckedText}
use Rattle.yf_forms.specs.declared.style.Style.{Style}
use Rattle.yf_lines.specs.declared.place.Position.{Position}
use Rattle.yf_report.specs.declared.problem.Severity.TheVariants.{Warning}
use Rattle.yf_rules.specs.Runs.Compare.{DiffersFirst}
use Rattle.yf_rules.specs.Runs.Run.{FormattingGiven}

-- the problem of the text t at a position: a warning, which `fmt` fixes
pub record DifferenceProblem (t : List ℕ) (place : Position) (p : OwnedProblem) : Type 0 where
  pub range : p.range ≡ empty_at place
  pub rule : p.rule.now ≡ codes "not-formatted"
  pub severity : p.severity ≡ Warning
  pub message : p.message ≡ codes "not formatted"
  pub fixable : p.fixable ≡ true
  pub line : IsLineOf t place.line p.line_text

-- the problems of the text t: one at the position, or none without a position
pub data DifferenceProblems (t : List ℕ) : Option Position → List OwnedProblem → Type 0 where
  no_difference : DifferenceProblems t None []
  one_difference : {place : Position} {p : OwnedProblem} → DifferenceProblem t place p
      → DifferenceProblems t (Some place) (p ∷ [])

-- the problems of the text t: one at the position at which it first differs from the text u, or none if they are equal
pub record DifferenceFrom (t u : List ℕ) (ps : List OwnedProblem) : Type 0 where
  pub place : Option Position
  pub first : MatchOption place (t ≡ u) (DiffersFirst t u)
  pub problems : DifferenceProblems t place ps

-- the changes between the texts t and u if they are asked for, and otherwise none
abbrev pub AskedChanges : Bool → List ℕ → List ℕ → List Change → Type 0
AskedChanges asked t u cs = MatchBool asked (AreChanges t u cs) (cs ≡ [])

-- A text was read, and these are its problems: one at the position at which it first differs from its formatting, or
-- none if it is its own formatting. The changes between both are listed if they are asked for.
pub record ReadDifference (asked : Bool) (style : Style) (known : Option (List ℕ)) (c : CheckedText) : Type 0 where
  pub formatted : List ℕ
  pub rendered : FormattingGiven style known formatted
  pub problems : DifferenceFrom rendered.text formatted c.problems.items
  pub changes : AskedChanges asked rendered.text formatted c.changes.items
