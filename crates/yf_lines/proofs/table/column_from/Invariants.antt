use Rattle.std.proofs.Common.{◌≡◌, ◌≤◌, ◌+◌, ◌-◌, List, ℕ, length}
use Rattle.std.specs.Str.{IsCharBoundary}
use Rattle.yf_chars.specs.Chain.{Many}
use Rattle.yf_lines.specs.Lines.{is_char}
use Rattle.yf_lines.proofs.table.column_from.Given as goal

abbrev pub invariant-loop-at : goal.invariant-loop-at
invariant-loop-at l = record {
  characters : (x : List ℕ) × Many l.text is_char l.from l.at x × (l.reached ≡ l.column + length x);
  boundary : IsCharBoundary l.text l.at;
  within : l.at ≤ l.offset;
  room : l.reached ≤ l.at + 1;
}

abbrev pub decreases-loop-at : goal.decreases-loop-at
decreases-loop-at l = l.offset - l.at
