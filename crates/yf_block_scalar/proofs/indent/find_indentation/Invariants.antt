use Rattle.std.proofs.Common.{◌≡◌, ℕ, List, ◌-◌, ◌≤◌, length}
use Rattle.std.specs.Str.{IsCharBoundary}
use Rattle.yf_chars.specs.Chain.{Chain}
use Rattle.yf_block_scalar.specs.Body.{EmptyLines, largest}
use Rattle.yf_block_scalar.proofs.indent.find_indentation.Given as goal

abbrev pub invariant-lines : goal.invariant-lines
invariant-lines l = record { before : (ms : List ℕ) × (Chain (EmptyLines l.s) l.at l.place ms × (length ms ≡ l.count) × (largest ms ≡ l.longest)); boundary : IsCharBoundary l.s l.place; few : l.count ≤ l.place }

abbrev pub decreases-lines : goal.decreases-lines
decreases-lines l = length l.s - l.place
