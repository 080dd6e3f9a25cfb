use Rattle.std.proofs.Common.{◌≡◌, ◌++◌, ℕ, List, ◌-◌, length}
use Rattle.yf_chars.specs.Chain.{Chain}
use Rattle.yf_chars.specs.Boundary.{BoundaryFrom}
use Rattle.yf_lines.specs.Basic.{LineStart}
use Rattle.yf_stream.specs.Stream.{ReservedParameter}
use Rattle.yf_stream.proofs.directives.read_reserved.Given as goal

abbrev pub invariant-words : goal.invariant-words
invariant-words l = record {
  read : (x : List (List ℕ)) × Chain (ReservedParameter l.text) l.at l.end x × (l.words ≡ l.initial.words ++ x);
  within : LineStart l.text l.end → ⊥;
  place : BoundaryFrom l.text l.at l.end;
}

abbrev pub decreases-words : goal.decreases-words
decreases-words l = length l.text - l.end
