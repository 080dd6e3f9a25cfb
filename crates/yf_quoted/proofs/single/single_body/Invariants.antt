use Rattle.std.proofs.Common.{◌-◌, ◌≤◌, length, IfSome}
use Rattle.std.specs.Str.{IsCharBoundary}
use Rattle.std.specs.String.{string_bytes}
use Rattle.yf_quoted.proofs.MarkLemmas.{Marked}
use Rattle.yf_quoted.proofs.SingleReadLemmas.{SingleSoFar}
use Rattle.yf_quoted.proofs.single.single_body.Given as goal

abbrev pub invariant-chars : goal.invariant-chars
invariant-chars l = record {
  read : SingleSoFar l.s l.width l.at l.end (string_bytes l.text) l.mark;
  boundary : IsCharBoundary l.s l.end;
  order : l.fn.at ≤ l.end;
  mark : IfSome l.mark (Marked l.fn.at l.s (string_bytes l.text));
}

abbrev pub decreases-chars : goal.decreases-chars
decreases-chars l = length l.s - l.end
