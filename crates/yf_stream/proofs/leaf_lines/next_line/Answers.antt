use Rattle.std.proofs.Common.{refl}
use Rattle.yf_stream.specs.LeafPass.{after_break}
use Rattle.yf_stream.proofs.LeafPass.LeafLemmas.{next_line_at_end}
use Rattle.yf_stream.proofs.leaf_lines.next_line.Goals as goal

pub returns-in-Some : goal.returns-in-Some
returns-in-Some c = after_break c.chars.invariant.order c.chars.invariant.none c.in-Some.ensures.reads

pub returns : goal.returns
returns c = next_line_at_end c.chars.invariant.none refl c.chars-test.false refl
