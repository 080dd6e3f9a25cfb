-- The problem that a report lists for a refusal.
use Rattle.std.specs.Prelude.{◌≡◌, ℕ, List, [], codes, take, length, false}
use Rattle.std.specs.Str.{IsUtf8}
use Rattle.yf_findings.specs.declared.owned.OwnedProblem.{OwnedProblem}
use Rattle.yf_lines.specs.Lines.{PlaceOf}
use Rattle.yf_lines.specs.declared.fault.Fault.{Fault}
use Rattle.yf_lines.specs.declared.fault.Fault.TheVariants.{NotUtf8, Syntax, TooDeep, UnknownHandle, UnknownAlias, RepeatedDirective, BadVersion, EscapeValue, Memory, ReadFailed, WriteFailed, Config}
use Rattle.yf_lines.specs.declared.place.Position.{Position}
use Rattle.yf_report.specs.declared.problem.Range.{Range}
use Rattle.yf_report.specs.declared.problem.Severity.TheVariants.{Error}

-- the kind of a refusal
abbrev pub kind_of : Fault → List ℕ
kind_of (NotUtf8 offset) = codes "not-utf8"
kind_of (Syntax place what) = codes "syntax"
kind_of (TooDeep place) = codes "too-deep"
kind_of (UnknownHandle place) = codes "unknown-handle"
kind_of (UnknownAlias place) = codes "unknown-alias"
kind_of (RepeatedDirective place) = codes "repeated-directive"
kind_of (BadVersion place) = codes "bad-version"
kind_of (EscapeValue place) = codes "escape-value"
kind_of Memory = codes "no-memory"
kind_of ReadFailed = codes "read-failed"
kind_of WriteFailed = codes "write-failed"
kind_of (Config key) = codes "config"

-- why it is refused
abbrev pub refusal_words : Fault → List ℕ
refusal_words (NotUtf8 offset) = codes "byte is no UTF-8"
refusal_words (Syntax place what) = what.now
refusal_words (TooDeep place) = codes "more than 1,024 collections would be open here"
refusal_words (UnknownHandle place) = codes "no %TAG directive of this document declares the tag's handle"
refusal_words (UnknownAlias place) = codes "no anchor with this name comes before it in this document"
refusal_words (RepeatedDirective place) = codes "a document has at most one %YAML, and one %TAG for each handle"
refusal_words (BadVersion place) = codes "unsupported YAML version: write 1.2"
refusal_words (EscapeValue place) = codes "this escape is not a Unicode character"
refusal_words Memory = codes "no memory"
refusal_words ReadFailed = codes "input can't be read"
refusal_words WriteFailed = codes "output can't be written"
refusal_words (Config key) = codes "a setting is wrong"

-- the position at which a front of bytes ends, if the front is a text
abbrev pub EndsFront : List ℕ → Position → Type 0
EndsFront front p = IsUtf8 front → PlaceOf front (length front) p.line p.column

-- the position of a refusal of these bytes: the position of the fault; or the end of the longest front that is UTF-8;
-- or else the first position
abbrev pub RefusedAt : List ℕ → Fault → Position → Type 0
RefusedAt bytes (NotUtf8 offset) p = EndsFront (take offset bytes) p
RefusedAt bytes (Syntax place what) p = p ≡ place
RefusedAt bytes (TooDeep place) p = p ≡ place
RefusedAt bytes (UnknownHandle place) p = p ≡ place
RefusedAt bytes (UnknownAlias place) p = p ≡ place
RefusedAt bytes (RepeatedDirective place) p = p ≡ place
RefusedAt bytes (BadVersion place) p = p ≡ place
RefusedAt bytes (EscapeValue place) p = p ≡ place
RefusedAt bytes _ p = p ≡ record { line = 1; column = 1 }

-- nothing, at a position
abbrev pub empty_at : Position → Range
empty_at p = record { line = p.line; column = p.column; end_line = p.line; end_column = p.column }

-- the problem of a refusal: an error at its position, which `fmt` doesn't fix
pub record RefusalProblem (bytes : List ℕ) (fault : Fault) (p : OwnedProblem) : Type 0 where
  pub place : Position
  pub at : RefusedAt bytes fault place
  pub range : p.range ≡ empty_at place
  pub rule : p.rule.now ≡ kind_of fault
  pub severity : p.severity ≡ Error
  pub message : p.message ≡ refusal_words fault
  pub fixable : p.fixable ≡ false
  pub line : p.line_text ≡ []
