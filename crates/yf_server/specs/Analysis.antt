-- The claims of a server about documents.
use Rattle.std.specs.Prelude.{ℕ, List, Option, string_bytes}
use Rattle.yf_server.specs.declared.analysis.Foldable.{Foldable}
use Rattle.yf_server.specs.declared.analysis.Part.{Part}
use Rattle.yf_server.specs.declared.analysis.PartKind.{PartKind}
use Rattle.yf_server.specs.declared.analysis.PartKind.TheVariants.{Document, Mapping, Sequence, Scalar, Alias, Empty}
use Rattle.yf_server.specs.declared.analysis.Problem.{Problem}
use Rattle.yf_server.specs.declared.analysis.Severity.{Severity}
use Rattle.yf_server.specs.declared.analysis.Severity.TheVariants.{Error, Warning, Information, Hint}

-- a problem of a text: its span in bytes, its severity, its name and its message
pub record Found : Type 0 where
  pub start : ℕ
  pub end : ℕ
  pub severity : Severity
  pub code : List ℕ
  pub message : List ℕ

abbrev pub problem_read : Problem → Found
problem_read p = record {
  start = p.start;
  end = p.end;
  severity = p.severity;
  code = p.code.now;
  message = string_bytes p.message;
}

-- `DiagnosticSeverity`
abbrev pub severity_number : Severity → ℕ
severity_number Error = 1
severity_number Warning = 2
severity_number Information = 3
severity_number Hint = 4

-- `SymbolKind`: a module, an object, an array, a string, a variable, and null
abbrev pub kind_number : PartKind → ℕ
kind_number Document = 2
kind_number Mapping = 19
kind_number Sequence = 18
kind_number Scalar = 15
kind_number Alias = 13
kind_number Empty = 21

-- (a document is given by its URI and its text)
pub record TextClaim : Type 1 where
  -- the formatting of a document, or none if it gets none
  pub Formats : List ℕ → List ℕ → Option (List ℕ) → Type 0
  -- what the formatting of some lines of a document gives: the lines from that of one offset to that of another one
  pub FormatsLines : List ℕ → List ℕ → ℕ → ℕ → Option (List ℕ) → Type 0
  -- the problems of a document, in order
  pub Finds : List ℕ → List ℕ → List Found → Type 0
  -- the parts of a text that may be folded, or none if the text is not read
  pub Folds : List ℕ → Option (List Foldable) → Type 0
  -- the parts of a text, each one before the parts in it, or none if the text is not read
  pub Outlines : List ℕ → Option (List Part) → Type 0
