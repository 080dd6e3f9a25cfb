use Rattle.std.proofs.Common.{◌≤◌, length, reverse, take}
use Rattle.yf_block.specs.AwaitedColons.{AwaitsAlike}
use Rattle.yf_block.proofs.halt.awaits_colon_at.Given as goal

abbrev pub decreases-frames : goal.decreases-frames
decreases-frames l = l.index

abbrev pub invariant-frames : goal.invariant-frames
invariant-frames l = record {
  within : l.index ≤ length l.items;
  alike : AwaitsAlike l.column (reverse (take l.index l.items)) (reverse l.items);
}
