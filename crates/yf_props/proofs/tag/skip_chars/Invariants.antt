use Rattle.std.proofs.Common.{◌≤◌, ◌-◌, List, ℕ, length}
use Rattle.std.specs.Str.{IsCharBoundary}
use Rattle.yf_chars.specs.Chain.{Chain}
use Rattle.yf_props.specs.Chars.{class_of}
use Rattle.yf_props.specs.Names.{SpelledChar}
use Rattle.yf_props.proofs.tag.skip_chars.Given as goal

abbrev pub invariant-chars : goal.invariant-chars
invariant-chars l = record {
  run : (x : List ℕ) × Chain (SpelledChar l.s (class_of l.class)) l.at l.end x;
  boundary : IsCharBoundary l.s l.end;
  order : l.at ≤ l.end;
}

abbrev pub decreases-chars : goal.decreases-chars
decreases-chars l = length l.s - l.end
