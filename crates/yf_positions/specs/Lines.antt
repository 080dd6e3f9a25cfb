-- The lines of a text, which is the list of its bytes. A line ends with LF, with CR LF, or with CR.
use Rattle.std.specs.Prelude.{◌≡◌, ℕ, zero, suc, ◌<◌, ◌≤◌, Bool, true, false, not, ◌==◌, ◌||◌, ◌&&◌, List, [], ◌∷◌, length, min, slice_index, if◌then◌else◌}
use Rattle.yf_positions.specs.Units.{is_break}

-- a line ends after the byte c, which the bytes t follow: CR LF ends one line, after its LF
abbrev pub ends_line : ℕ → List ℕ → Bool
ends_line c t = c == 10 || (c == 13 && not (slice_index t 0 == 10))

-- the number of lines that end in the first i bytes
abbrev pub lines_before : List ℕ → ℕ → ℕ
lines_before [] i = 0
lines_before (c ∷ t) zero = 0
lines_before (c ∷ t) (suc i) = if ends_line c t then suc (lines_before t i) else lines_before t i

-- the offset at which line n begins, from 0; the end of the text if it has no such line
abbrev pub line_start : List ℕ → ℕ → ℕ
line_start [] n = 0
line_start (c ∷ t) zero = 0
line_start (c ∷ t) (suc n) = suc (if ends_line c t then line_start t n else line_start t (suc n))

-- the number of lines; the text after the last line break is one, even if it is empty
abbrev pub line_count : List ℕ → ℕ
line_count t = suc (lines_before t (length t))

-- the line of an offset, from 0; an offset after the end of the text has the line of the end
abbrev pub line_of : List ℕ → ℕ → ℕ
line_of t i = lines_before t (min i (length t))

-- the offset is between the CR and the LF of a CR LF
abbrev pub inside_break : List ℕ → ℕ → Bool
inside_break t zero = false
inside_break t (suc i) = slice_index t i == 13 && slice_index t (suc i) == 10

-- the offsets at which the lines of a text begin
pub record AreLineStarts (starts t : List ℕ) : Type 0 where
  pub count : length starts ≡ suc (lines_before t (length t))
  pub each : (k : ℕ) → k < length starts → slice_index starts k ≡ line_start t k

-- no line ends in the bytes from i to j: none of them is part of a line break
pub record IsUnbroken (t : List ℕ) (i j : ℕ) : Type 0 where
  pub order : i ≤ j
  pub bound : j ≤ length t
  pub none : (k : ℕ) → i ≤ k → k < j → is_break (slice_index t k) ≡ false

-- a line break is at i, and no byte of one is between start and i
pub record FirstBreak (t : List ℕ) (start i : ℕ) : Type 0 where
  pub before : IsUnbroken t start i
  pub within : i < length t
  pub here : is_break (slice_index t i) ≡ true

-- a line that holds offset i ends before j, and no other does
pub record LineEndsAt (t : List ℕ) (i j : ℕ) : Type 0 where
  pub later : i < j
  pub bound : j ≤ length t
  pub count : lines_before t j ≡ suc (lines_before t i)
  pub begins : line_start t (suc (lines_before t i)) ≡ j
