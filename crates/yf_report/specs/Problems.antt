-- Problems, without the addresses of their texts.
use Rattle.std.specs.Prelude.{ℕ, ◌^◌, ◌<◌, List, [], ◌∷◌, codes, Bool, Option, None, Some, option_map, ⊤}
use Rattle.yf_report.specs.declared.problem.Range.{Range}
use Rattle.yf_report.specs.declared.problem.Severity.{Severity}
use Rattle.yf_report.specs.declared.problem.Severity.TheVariants.{Error, Warning}
use Rattle.yf_report.specs.declared.problem.Related.{Related}
use Rattle.yf_report.specs.declared.problem.Problem.{Problem}

-- a severity as JSON and most other formats write it
abbrev pub severity_name : Severity → List ℕ
severity_name Error = codes "error"
severity_name Warning = codes "warning"

-- another range, and what is there
pub record Note : Type 0 where
  pub range : Range
  pub message : List ℕ

-- a finding or a refusal; a file that is None is standard input
pub record Finding : Type 0 where
  pub file : Option (List ℕ)
  pub range : Range
  pub rule : List ℕ
  pub severity : Severity
  pub message : List ℕ
  pub fixable : Bool
  pub related : Option Note

abbrev pub note_of : Related → Note
note_of r = record { range = r.range; message = r.message.now }

abbrev pub finding_of : Problem → Finding
finding_of p = record {
  file = option_map (λ s. s.now) p.file;
  range = p.range;
  rule = p.rule.now;
  severity = p.severity;
  message = p.message.now;
  fixable = p.fixable;
  related = option_map note_of p.related;
}

-- each number fits 64 bits, as a `usize` does
pub record Fits (r : Range) : Type 0 where
  pub line : r.line < 2 ^ 64
  pub column : r.column < 2 ^ 64
  pub end_line : r.end_line < 2 ^ 64
  pub end_column : r.end_column < 2 ^ 64

abbrev pub NoteFits : Option Note → Type 0
NoteFits None = ⊤
NoteFits (Some n) = Fits n.range

pub record FindingFits (f : Finding) : Type 0 where
  pub own : Fits f.range
  pub other : NoteFits f.related

abbrev pub AllFit : List Finding → Type 0
AllFit [] = ⊤
AllFit (f ∷ fs) = FindingFits f × AllFit fs
