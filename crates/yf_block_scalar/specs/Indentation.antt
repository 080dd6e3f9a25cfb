-- The indentation of a scalar's content, as the reader finds it if the header doesn't give it.
use Rattle.std.specs.Prelude.{◌≡◌, ℕ, ◌<◌, ◌≤◌, ℤ, List, length}
use Rattle.std.specs.Str.{IsCharBoundary}
use Rattle.yf_chars.specs.Chain.{Chain}
use Rattle.yf_block_scalar.specs.Body.{EmptyLines, IndentedLine, DetectedIndent, Shallow}
use Rattle.yf_block_scalar.specs.declared.indent.Indentation.{Indentation}
use Rattle.yf_block_scalar.specs.declared.indent.Indentation.TheVariants.{Found, Missing, TooLong}

-- the indentation from one line, after `count` lines of only spaces, the longest with `longest` spaces
abbrev pub IndentOfLine : List ℕ → ℤ → ℕ → ℕ → ℕ → Indentation → Type 0
IndentOfLine t n i count longest (Found k) = IndentedLine t n i k × (longest ≤ k)
IndentOfLine t n i count longest (Missing c p) = Shallow t n i × (c ≡ count) × (p ≡ i)
IndentOfLine t n i count longest TooLong = (k : ℕ) × (IndentedLine t n i k × (k < longest))

-- the indentation from all lines after an offset
abbrev pub IndentOfLines : List ℕ → ℤ → ℕ → Indentation → Type 0
IndentOfLines t n i (Found k) = DetectedIndent t n i k
IndentOfLines t n i (Missing count p) = (ms : List ℕ) × (Chain (EmptyLines t) i p ms × Shallow t n p × (length ms ≡ count))
IndentOfLines t n i TooLong = ((k : ℕ) → DetectedIndent t n i k → ⊥) × ((p : ℕ) (ms : List ℕ) → Chain (EmptyLines t) i p ms → Shallow t n p → ⊥)

-- if there is no content, the lines of only spaces end at a boundary
abbrev pub EndsAtBoundary : List ℕ → Indentation → Type 0
EndsAtBoundary t (Found k) = Unit {0}
EndsAtBoundary t (Missing count p) = IsCharBoundary t p
EndsAtBoundary t TooLong = Unit {0}
