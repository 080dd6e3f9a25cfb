use Rattle.std.proofs.Common.{◌-◌, ◌≤◌, length}
use Rattle.std.specs.List.{All}
use Rattle.std.specs.Str.{IsCharBoundary}
use Rattle.std.specs.String.{string_bytes}
use Rattle.yf_quoted.proofs.ReadLemmas.{SoFar}
use Rattle.yf_quoted.proofs.double.double_body.Given as goal

abbrev pub invariant-chars : goal.invariant-chars
invariant-chars l = record {
  read : SoFar l.s l.width l.at l.end (string_bytes l.text) l.bad;
  boundary : IsCharBoundary l.s l.end;
  order : l.fn.at ≤ l.end;
  place : All (IsCharBoundary l.s) l.bad;
}

abbrev pub decreases-chars : goal.decreases-chars
decreases-chars l = length l.s - l.end
