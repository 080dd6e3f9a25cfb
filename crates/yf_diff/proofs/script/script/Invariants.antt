-- The script so far and the rest of both texts.
use Rattle.std.proofs.Common.{◌≡◌, true, false, ◌++◌, ◌+◌, ◌-◌, ◌≤◌, length, drop}
use Rattle.yf_diff.specs.Script.{olds, news, in_order, came_last}
use Rattle.yf_diff.proofs.script.script.Given as goal

abbrev pub invariant-loop-i : goal.invariant-loop-i
invariant-loop-i l = record {
  in_old : l.i ≤ length l.old;
  in_new : l.j ≤ length l.new;
  from_j : l.from ≤ l.j;
  old_all : olds l.steps.items ++ drop l.i l.old ≡ l.old;
  new_all : news l.steps.items ++ drop l.from l.new ≡ l.new;
  order : in_order l.steps.items ≡ true;
  last : came_last false l.steps.items ≡ false;
}

abbrev pub decreases-loop-i : goal.decreases-loop-i
decreases-loop-i l = (length l.old - l.i) + (length l.new - l.j)
