-- Pieces of a report. Its text with colors and its text without them have the same pieces.
use Rattle.std.specs.Prelude.{ℕ, List, [], ◌∷◌, ◌++◌, Bool, true, false, codes, nat_eq, not, if◌then◌else◌}
use Rattle.std.specs.List.{flat_map}
use Rattle.std.specs.Str.{chars}
use Rattle.yf_explain.specs.Shown.{all_shown}
use Rattle.yf_findings.specs.declared.pieces.Look.{Look}
use Rattle.yf_findings.specs.declared.pieces.Look.TheVariants.{Plain, Bold, Yellow, Green}
use Rattle.yf_findings.specs.declared.pieces.Piece.{Piece}

-- texts as they are shown: the usual characters as they are, all others by their numbers
abbrev pub as_shown : List ℕ → List ℕ
as_shown text = all_shown (chars text)

abbrev pub all_as_shown : List (List ℕ) → List ℕ
all_as_shown parts = flat_map as_shown parts

abbrev pub piece : Look → List ℕ → Piece
piece look page = record { look = look; page = page }

-- the escape (SGR) before a piece, and the one after it
abbrev pub begin : Look → List ℕ
begin Plain = []
begin Bold = 27 ∷ codes "[1m"
begin Yellow = 27 ∷ codes "[33m"
begin Green = 27 ∷ codes "[32m"

abbrev pub end : Look → List ℕ
end Plain = []
end Bold = 27 ∷ codes "[0m"
end Yellow = 27 ∷ codes "[0m"
end Green = 27 ∷ codes "[0m"

-- a piece with its escapes, or without
abbrev pub painted : Bool → Piece → List ℕ
painted true p = begin p.look ++ (p.page ++ end p.look)
painted false p = p.page

abbrev pub all_painted : Bool → List Piece → List ℕ
all_painted colored pieces = flat_map (painted colored) pieces

-- a text without its escapes; an escape begins with the character 27 and ends with the next `m`
abbrev pub without_from : Bool → List ℕ → List ℕ
without_from inside [] = []
without_from true (c ∷ cs) = without_from (not (nat_eq c 109)) cs
without_from false (c ∷ cs) = if nat_eq c 27 then without_from true cs else c ∷ without_from false cs

abbrev pub without_escapes : List ℕ → List ℕ
without_escapes cs = without_from false cs
