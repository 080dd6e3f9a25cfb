use Rattle.std.proofs.Common.{◌-◌, ◌≤◌, List, ℕ}
use Rattle.yf_chars.specs.Chain.{Many}
use Rattle.yf_chars.specs.Class.{is_white}
use Rattle.yf_rule_sets.proofs.facts.whites.whites_before.Given as goal

abbrev pub invariant-loop-at : goal.invariant-loop-at
invariant-loop-at l = record {
  whites : (x : List ℕ) × Many l.text is_white l.at l.end x;
  from : l.start ≤ l.at;
  to : l.at ≤ l.end;
}

abbrev pub decreases-loop-at : goal.decreases-loop-at
decreases-loop-at l = l.at - l.start
