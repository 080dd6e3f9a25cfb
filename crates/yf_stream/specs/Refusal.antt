-- Why a text is refused: for want of memory, or for another cause, with a position in the text.
use Rattle.std.specs.Prelude.{ℕ, List}
use Rattle.yf_lines.specs.declared.fault.Fault.{Fault}
use Rattle.yf_lines.specs.declared.fault.Fault.TheVariants.{Syntax, TooDeep, UnknownHandle, UnknownAlias, RepeatedDirective, BadVersion, EscapeValue, Memory}
use Rattle.yf_lines.specs.FaultPlaces.{InText}

-- the faults of the reader of streams
abbrev pub IsStreamFault : List ℕ → Fault → Type 0
IsStreamFault t (Syntax place what) = InText t place
IsStreamFault t (TooDeep place) = InText t place
IsStreamFault t (UnknownHandle place) = InText t place
IsStreamFault t (UnknownAlias place) = InText t place
IsStreamFault t (RepeatedDirective place) = InText t place
IsStreamFault t (BadVersion place) = InText t place
IsStreamFault t (EscapeValue place) = InText t place
IsStreamFault t Memory = Unit {0}
IsStreamFault t _ = ⊥
