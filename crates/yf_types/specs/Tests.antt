-- A test of whether a text matches a pattern.
use Rattle.std.specs.Prelude.{ℕ, zero, suc, Bool, true, false, ◌&&◌, ◌||◌, ◌==◌, List, [], ◌∷◌, length}
use Rattle.yf_lines.specs.CoreSchema.{Pattern, byte_of, bytes, followed, either, optional, repeated}

abbrev pub is_end : List ℕ → Bool
is_end [] = true
is_end (b ∷ t) = false

-- the text begins with a byte of the class, and its rest passes
abbrev pub after_byte : (ℕ → Bool) → (List ℕ → Bool) → List ℕ → Bool
after_byte class k [] = false
after_byte class k (b ∷ t) = class b && k t

-- the text begins with these bytes, and its rest passes
abbrev pub after_bytes : List ℕ → (List ℕ → Bool) → List ℕ → Bool
after_bytes [] k t = k t
after_bytes (b ∷ w) k t = after_byte (λ c. c == b) (after_bytes w k) t

-- the text passes after at most n times the pattern that the first argument stands for
abbrev pub after_times : ((List ℕ → Bool) → List ℕ → Bool) → ℕ → (List ℕ → Bool) → List ℕ → Bool
after_times m zero k t = k t
after_times m (suc n) k t = k t || m (after_times m n k) t

-- the text begins with a match of the pattern, and its rest passes
abbrev pub after_match : Pattern → (List ℕ → Bool) → List ℕ → Bool
after_match (byte_of class) k t = after_byte class k t
after_match (bytes w) k t = after_bytes w k t
after_match (followed p q) k t = after_match p (after_match q k) t
after_match (either p q) k t = after_match p k t || after_match q k t
after_match (optional p) k t = after_match p k t || k t
after_match (repeated p) k t = after_times (after_match p) (length t) k t

-- the whole text is a match
abbrev pub is_match : Pattern → List ℕ → Bool
is_match p t = after_match p is_end t
