-- The lines added so far and those still to be added.
use Rattle.std.proofs.Common.{◌≡◌, ◌++◌, ◌-◌, ◌≤◌, drop}
use Rattle.yf_diff.specs.Script.{olds, news, in_order}
use Rattle.yf_diff.proofs.script.push_added.Given as goal

abbrev pub invariant-loop-index : goal.invariant-loop-index
invariant-loop-index l = record {
  within : l.index ≤ l.to;
  old_all : olds l.steps.items ≡ olds l.initial.steps.items;
  new_all : news l.steps.items ++ drop l.index l.new ≡ news l.initial.steps.items ++ drop l.from l.new;
  order : in_order l.steps.items ≡ in_order l.initial.steps.items;
}

abbrev pub decreases-loop-index : goal.decreases-loop-index
decreases-loop-index l = l.to - l.index
