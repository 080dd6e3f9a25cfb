use Rattle.std.proofs.Common.{◌-◌, ◌≤◌}
use Rattle.yf_lines.specs.Basic.{Spaces}
use Rattle.yf_block.proofs.look.spaces_start.Given as goal

abbrev pub invariant-spaces : goal.invariant-spaces
invariant-spaces l = record {
  order : l.place ≤ l.at;
  spaces : Spaces l.text l.place (l.at - l.place);
}

abbrev pub decreases-spaces : goal.decreases-spaces
decreases-spaces l = l.place
