-- The line that is printed for a fault, and the exit status for the fault.
use Rattle.std.specs.Prelude.{ℕ, Bool, true, false, List, [], ◌∷◌, codes, decimal, ◌++◌}
use Rattle.std.specs.List.{concat}
use Rattle.yf_lines.specs.Shown.{shown}
use Rattle.yf_lines.specs.declared.place.Position.{Position}
use Rattle.yf_lines.specs.declared.fault.Fault.{Fault}
use Rattle.yf_lines.specs.declared.fault.Fault.TheVariants.{NotUtf8, Syntax, TooDeep, UnknownHandle, UnknownAlias, RepeatedDirective, BadVersion, EscapeValue, Memory, ReadFailed, WriteFailed, Config}

-- the line and the column, and why the stream is refused there
abbrev pub refusal_line : Position → List ℕ → List ℕ
refusal_line place reason = concat (decimal place.line ∷ codes ":" ∷ decimal place.column ∷ codes " refused: " ∷ reason ∷ codes "\n" ∷ [])

-- the line, with its line feed
abbrev pub fault_line : Fault → List ℕ
fault_line (NotUtf8 offset) = concat (codes "byte " ∷ decimal offset ∷ codes " refused: not-utf8\n" ∷ [])
fault_line (Syntax place what) = refusal_line place (codes "syntax")
fault_line (TooDeep place) = refusal_line place (codes "too-deep")
fault_line (UnknownHandle place) = refusal_line place (codes "unknown-handle")
fault_line (UnknownAlias place) = refusal_line place (codes "unknown-alias")
fault_line (RepeatedDirective place) = refusal_line place (codes "repeated-directive")
fault_line (BadVersion place) = refusal_line place (codes "bad-version")
fault_line (EscapeValue place) = refusal_line place (codes "escape-value")
fault_line Memory = codes "no memory\n"
fault_line ReadFailed = codes "read failed\n"
fault_line WriteFailed = codes "write failed\n"
fault_line (Config key) = concat (codes "config: " ∷ shown key ∷ codes "\n" ∷ [])

-- 2 if the stream is refused, and 3 for memory, files and settings
abbrev pub fault_status : Fault → ℕ
fault_status Memory = 3
fault_status ReadFailed = 3
fault_status WriteFailed = 3
fault_status (Config key) = 3
fault_status _ = 2

-- The exit status of a check.
abbrev pub check_status : Bool → ℕ
check_status true = 1
check_status false = 0

-- The exit status of a run that compares a text with its formatting.
abbrev pub format_status : Bool → ℕ
format_status true = 0
format_status false = 1

-- The line of a fault after the name of a file.
abbrev pub named_fault : List ℕ → Fault → List ℕ
named_fault name f = shown name ++ (codes ": " ++ fault_line f)
