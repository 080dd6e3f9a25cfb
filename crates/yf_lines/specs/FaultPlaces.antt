-- The positions in faults.
use Rattle.std.specs.Prelude.{ℕ, List, [], ◌∷◌, Option, Some, None}
use Rattle.yf_lines.specs.Lines.{PlaceOf}
use Rattle.yf_lines.specs.declared.place.Position.{Position}

-- the position of an offset
abbrev pub IsPlaceOf : List ℕ → ℕ → Position → Type 0
IsPlaceOf t offset place = PlaceOf t offset place.line place.column

-- the position of a character of the text, or of its end
abbrev pub InText : List ℕ → Position → Type 0
InText t place = (offset : ℕ) × IsPlaceOf t offset place

-- the position of the first of some offsets, if there is one
abbrev pub IsFirstPlace : List ℕ → List ℕ → Option Position → Type 0
IsFirstPlace t [] None = Unit {0}
IsFirstPlace t (offset ∷ more) (Some place) = IsPlaceOf t offset place
IsFirstPlace t [] (Some place) = ⊥
IsFirstPlace t (offset ∷ more) None = ⊥
