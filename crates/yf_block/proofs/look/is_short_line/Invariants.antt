use Rattle.std.proofs.Common.{◌-◌, ◌≤◌, length}
use Rattle.yf_grammar.specs.FlowReader.Parser.{OnOneLine}
use Rattle.yf_block.proofs.look.is_short_line.Given as goal

abbrev pub invariant-lanes : goal.invariant-lanes
invariant-lanes l = record {
  order : l.start ≤ l.at;
  within : l.at ≤ length l.text;
  line : OnOneLine l.text l.start l.at;
}

abbrev pub decreases-lanes : goal.decreases-lanes
decreases-lanes l = l.end - l.at
