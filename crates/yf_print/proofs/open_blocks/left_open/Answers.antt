use Rattle.std.proofs.Common.{not, rules}
use Rattle.std.proofs.lemmas.List.Sorted.{IsPartitionPoint-from_clause}
use Rattle.yf_print.specs.Layouts.CommentColumns.{is_ended_by}
use Rattle.yf_print.proofs.Pass.HeldBlocks.{ended_last, turned}
use Rattle.yf_print.proofs.open_blocks.left_open.Goals as goal

pub returns-clause-parts : goal.returns-clause-parts
returns-clause-parts c =
    turned c.args.entry c.args.blocks.now c.partition_point.result
    (IsPartitionPoint-from_clause (λ b. not (is_ended_by c.args.entry b)) _ _ c.partition_point.ensures.partitioned (ended_last c.args.entry c.args.blocks.now c.requires) (λ a r q f. search rules))
