-- The lines of a text: each ends after a line feed, or at the end of the text.
use Rattle.std.specs.Prelude.{ℕ, ◌==◌, List, [], ◌∷◌, if◌then◌else◌}

-- a byte before the first line
abbrev pub before_lines : ℕ → List (List ℕ) → List (List ℕ)
before_lines c [] = (c ∷ []) ∷ []
before_lines c (line ∷ rest) = (c ∷ line) ∷ rest

abbrev pub lines_of : List ℕ → List (List ℕ)
lines_of [] = []
lines_of (c ∷ t) = if c == 10 then (c ∷ []) ∷ lines_of t else before_lines c (lines_of t)
