use Rattle.std.proofs.Common.{ℕ, ◌-◌, ◌≤◌, ◌<◌, length}
use Rattle.yf_events.specs.NamelessEvents.{SilentAt}
use Rattle.yf_events.proofs.packed.naming_from.Given as goal

abbrev pub invariant-rows : goal.invariant-rows
invariant-rows l = record {
  later : l.start ≤ l.at;
  within : l.at ≤ length l.rows;
  silent : (k : ℕ) → l.start ≤ k → k < l.at → SilentAt l.table l.rows k;
}

abbrev pub decreases-rows : goal.decreases-rows
decreases-rows l = length l.rows - l.at
