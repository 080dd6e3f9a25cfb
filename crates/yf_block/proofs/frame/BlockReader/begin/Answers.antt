use Rattle.std.proofs.Common.{arith}
use Rattle.yf_block.proofs.Stack.TiedRoot.{begins_line, begins_node}
use Rattle.yf_block.proofs.Runs.MovedLemmas.{moved_later, node_moved}
use Rattle.yf_block.proofs.frame.BlockReader.begin.Goals as goal

pub returns-then-is_line_start : goal.returns-then-is_line_start
returns-then-is_line_start c = record {
  tied = λ d root before j r a. c.end_line.ensures.tied d root before j r (begins_line d a c.if-is_line_start.ensures);
  stepped = moved_later {at = c.args.at} {place = c.args.at} {more = 3} {less = 2} _ _ _ (omega arith) (omega arith) c.end_line.ensures.stepped;
  counted = c.end_line.ensures.counted;
}

pub returns : goal.returns
returns c = record {
  tied = λ d root before j r a. begins_node d a c.if-is_line_start.ensures;
  stepped = node_moved c.requires.progress c.requires.escapes (omega arith) (record { boundary = c.requires.boundary; order = omega arith });
  counted = λ u total q. q;
}

pub end_line-requires : goal.end_line-requires
end_line-requires c = c.requires
