-- The problems of a text.
use Rattle.std.specs.Prelude.{ℕ, List}
use Rattle.yf_events.specs.Nested.{IsStream}
use Rattle.yf_events.specs.Reading.{events_of}
use Rattle.yf_events.specs.declared.lists.Lists.{Lists}
use Rattle.yf_events.specs.declared.reading.TheConstants.{DEPTH}
use Rattle.yf_findings.specs.Problems.{EachProblem, FindingProblem}
use Rattle.yf_findings.specs.declared.owned.OwnedProblem.{OwnedProblem}
use Rattle.yf_forms.specs.declared.style.Style.{Style}
use Rattle.yf_laws.specs.Mended.{IsFormatted}
use Rattle.yf_lines.specs.Lines.{Table}
use Rattle.yf_rules.specs.AllRules.{FoundWithout}
use Rattle.yf_rules.specs.Findings.{FoundIn}
use Rattle.yf_rules.specs.NothingToFix.{NoneFixable}
use Rattle.yf_rules.specs.declared.finding.Finding.{Finding}

-- a problem for each finding of a check of the text by all rules except those with these names, in the order of the
-- findings
pub record TextProblems (without : List (List ℕ)) (style : Style) (t : List ℕ) (ps : List OwnedProblem) : Type 0 where
  pub findings : List Finding
  pub found : FoundIn (FoundWithout without style) style t findings
  pub problems : EachProblem (FindingProblem found.src found.reading style) findings ps

-- ---- for private clauses: a text with its reading

-- a problem for each finding of a check of the text with this reading, whose events are a well nested stream
pub record ReadingProblems (without : List (List ℕ)) (style : Style) (src : Table) (reading : Lists)
    (ps : List OwnedProblem) : Type 0 where
  pub nested : IsStream DEPTH (events_of reading)
  pub findings : List Finding
  pub found : FoundWithout without style src reading findings
  pub mends : IsFormatted src reading style → NoneFixable findings
  pub problems : EachProblem (FindingProblem src reading style) findings ps
