use Rattle.std.proofs.Common.{◌≡◌, ◌≤◌, ◌+◌, ◌-◌, List, ℕ, length}
use Rattle.std.specs.Str.{IsCharBoundary}
use Rattle.yf_chars.specs.Chain.{Many}
use Rattle.yf_lines.specs.Lines.{is_char}
use Rattle.yf_findings.proofs.columns.walk.Given as goal

abbrev pub invariant-loop-reached : goal.invariant-loop-reached
invariant-loop-reached l = record {
  characters : (x : List ℕ) × Many l.text is_char l.from l.at x × (l.reached ≡ l.column + length x);
  boundary : IsCharBoundary l.text l.at;
  order : l.reached ≤ l.wanted;
  room : l.reached ≤ l.at + 1;
}

abbrev pub decreases-loop-reached : goal.decreases-loop-reached
decreases-loop-reached l = l.wanted - l.reached
