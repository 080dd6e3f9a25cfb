use Rattle.std.proofs.Common.{rules}
use Rattle.std.proofs.lemmas.List.Sorted.{IsPartitionPoint-from_clause}
use Rattle.yf_print.specs.Layouts.CommentColumns.{is_ended_by}
use Rattle.yf_print.proofs.Pass.HeldBlocks.{outer_first}
use Rattle.yf_print.proofs.open_blocks.left_outside.Goals as goal

pub returns-clause-parts : goal.returns-clause-parts
returns-clause-parts c = IsPartitionPoint-from_clause (λ b. is_ended_by b c.args.entry) _ _ c.partition_point.ensures.partitioned (outer_first c.args.entry c.args.blocks.now c.requires) (λ a r q f. search rules)
