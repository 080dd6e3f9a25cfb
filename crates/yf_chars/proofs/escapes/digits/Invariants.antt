use Rattle.std.proofs.Common.{◌<◌, ◌^◌, ◌+◌}
use Rattle.std.specs.Str.{IsCharBoundary}
use Rattle.yf_chars.specs.Escape.{Digits}
use Rattle.yf_chars.proofs.escapes.digits.Given as goal

abbrev pub invariant-loop-index : goal.invariant-loop-index
invariant-loop-index l = record {
  so_far : Digits l.s l.at l.index l.value;
  small : l.value < 16 ^ l.index;
  boundary : IsCharBoundary l.s (l.at + l.index);
}
