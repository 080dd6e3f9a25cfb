-- Pages that explain a fault. old and new are the page before and after a call.
use Rattle.std.specs.Prelude.{◌≡◌, ℕ, List, [], ◌∷◌, ◌++◌, take, codes}
use Rattle.yf_chars.specs.Chain.{Many}
use Rattle.yf_lines.specs.FaultPlaces.{IsPlaceOf}
use Rattle.yf_lines.specs.Lines.{is_char}
use Rattle.yf_lines.specs.declared.place.Position.{Position}
use Rattle.yf_lines.specs.declared.fault.Fault.{Fault}
use Rattle.yf_lines.specs.declared.fault.Fault.TheVariants.{NotUtf8, Syntax, TooDeep, UnknownHandle, UnknownAlias, RepeatedDirective, BadVersion, EscapeValue}
use Rattle.yf_explain.specs.Shown.{all_shown}
use Rattle.yf_explain.specs.Source.{AddsSource}

-- lines were added
pub record Extends (old new : List ℕ) : Type 0 where
  pub more : List ℕ
  pub added : new ≡ old ++ more

-- a line with the words was added, or with the first of them if they are long
pub record AddsWords (words old new : List ℕ) : Type 0 where
  pub end : ℕ
  pub characters : List ℕ
  pub run : Many words is_char 0 end characters
  pub added : new ≡ old ++ (codes "  " ++ (all_shown characters ++ 10 ∷ []))

-- the line of the text with the position was added, with a caret under the position
pub record ShowsPlace (t : List ℕ) (place : Position) (old new : List ℕ) : Type 0 where
  pub at : ℕ
  pub places : IsPlaceOf t at place
  pub source : AddsSource t at old new

-- words, the line of the position with its caret, and more lines
pub record Tells (t : List ℕ) (place : Position) (words page : List ℕ) : Type 0 where
  pub told : List ℕ
  pub shown : List ℕ
  pub said : AddsWords words [] told
  pub source : ShowsPlace t place told shown
  pub rest : Extends shown page

-- words, and the line of an offset with its caret
pub record TellsOffset (t : List ℕ) (offset : ℕ) (page : List ℕ) : Type 0 where
  pub place : Position
  pub told : List ℕ
  pub source : ShowsPlace t place told page
  pub there : IsPlaceOf t offset place

-- words, and the end of the longest front of the bytes that is UTF-8, with its line and caret
abbrev pub TellsByte : List ℕ → ℕ → List ℕ → Type 0
TellsByte bytes offset page = TellsOffset (take offset bytes) offset page

abbrev pub TellsAt : List ℕ → Position → List ℕ → Type 0
TellsAt t place page = (words : List ℕ) × Tells t place words page

-- the page that explains a fault of the bytes; it is empty for other faults
abbrev pub Explains : List ℕ → Fault → List ℕ → Type 0
Explains t (NotUtf8 offset) page = TellsByte t offset page
Explains t (Syntax place what) page = Tells t place what.now page
Explains t (TooDeep place) page = TellsAt t place page
Explains t (UnknownHandle place) page = TellsAt t place page
Explains t (UnknownAlias place) page = TellsAt t place page
Explains t (RepeatedDirective place) page = TellsAt t place page
Explains t (BadVersion place) page = TellsAt t place page
Explains t (EscapeValue place) page = TellsAt t place page
Explains t _ page = page ≡ []
