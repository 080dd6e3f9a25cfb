-- A character begins at the offset, or the text ends there.
use Rattle.std.specs.Str.{IsCharBoundary}
use Rattle.yf_problems.proofs.problems.after_characters.Given as goal

abbrev pub invariant-loop-done : goal.invariant-loop-done
invariant-loop-done l = IsCharBoundary l.text l.at
