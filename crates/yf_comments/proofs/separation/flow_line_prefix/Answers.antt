use Rattle.std.proofs.Common.{refl}
use Rattle.yf_comments.proofs.SeparateLemmas.{prefix_from, prefix_farthest}
use Rattle.yf_comments.proofs.separation.flow_line_prefix.Goals as goal

pub returns-then-is_indented-clause-reads : goal.returns-then-is_indented-clause-reads
returns-then-is_indented-clause-reads c =
    prefix_farthest (prefix_from c.args.width refl c.if-is_indented.ensures c.skip_whites.ensures.whites.1 c.skip_whites.ensures.all) c.skip_whites.ensures.all
