-- The problem that a report lists for a finding.
use Rattle.std.specs.Prelude.{◌≡◌, ℕ, ◌+◌, ◌≤◌, List, [], ◌∷◌, ◌++◌, length, slice_get, slice_range, Some}
use Rattle.std.specs.Str.{IsCharBoundary}
use Rattle.yf_events.specs.declared.lists.Lists.{Lists}
use Rattle.yf_findings.specs.Ranges.{IsLocated}
use Rattle.yf_findings.specs.declared.owned.OwnedProblem.{OwnedProblem}
use Rattle.yf_findings.specs.declared.owned.TheConstants.{FRONT}
use Rattle.yf_forms.specs.declared.style.Style.{Style}
use Rattle.yf_lines.specs.Lines.{Table}
use Rattle.yf_lines.specs.declared.line.Line.{Line}
use Rattle.yf_ranges.specs.Words.{message_words}
use Rattle.yf_ranges.specs.declared.detail.Detail.{Detail}
use Rattle.yf_report.specs.declared.problem.Severity.TheVariants.{Warning}
use Rattle.yf_rules.specs.declared.finding.Finding.{Finding}

-- the longest front of the text from one offset to another that ends between characters and has at most FRONT bytes
pub record FrontEnd (t : List ℕ) (start end stop : ℕ) : Type 0 where
  pub boundary : IsCharBoundary t stop
  pub from : start ≤ stop
  pub to : stop ≤ end
  pub room : stop ≤ start + FRONT
  pub longest : (b : ℕ) → IsCharBoundary t b → b ≤ end → b ≤ start + FRONT → b ≤ stop

-- the text of the line that has this number, from 1, without its break, or the longest front of it; nothing if no line
-- has the number
pub data LineText (src : Table) (number : ℕ) (s : List ℕ) : Type 0 where
  of_line : {l : Line} {stop : ℕ} (k : ℕ) → slice_get src.lines k ≡ Some l → number ≡ k + 1
      → FrontEnd src.text l.start l.end stop → s ≡ slice_range src.text l.start stop → LineText src number s
  of_none : ((k : ℕ) → number ≡ k + 1 → length src.lines ≤ k) → s ≡ [] → LineText src number s

-- the parts of a problem that a finding and its detail give, besides the range: it is a warning
pub record SaysProblem (src : Table) (f : Finding) (d : Detail) (p : OwnedProblem) : Type 0 where
  pub rule : p.rule.now ≡ f.id.now
  pub severity : p.severity ≡ Warning
  pub message : p.message ≡ message_words d.message
  pub fixable : p.fixable ≡ f.fixable
  pub line : LineText src f.place.line p.line_text

-- the problem of a finding
pub record FindingProblem (src : Table) (reading : Lists) (style : Style) (f : Finding) (p : OwnedProblem) : Type 0 where
  pub detail : Detail
  pub located : IsLocated src reading style f detail p.range
  pub says : SaysProblem src f detail p

-- a problem for each finding, in the order of the findings
pub data EachProblem (R : Finding → OwnedProblem → Type 0) : List Finding → List OwnedProblem → Type 0 where
  no_finding : EachProblem R [] []
  one_more : {fs : List Finding} {ps : List OwnedProblem} {f : Finding} {p : OwnedProblem} → EachProblem R fs ps → R f p
      → EachProblem R (fs ++ f ∷ []) (ps ++ p ∷ [])
