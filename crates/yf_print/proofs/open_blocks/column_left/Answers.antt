use Rattle.std.proofs.Common.{ltb, arith, rules, sym}
use Rattle.std.proofs.lemmas.List.Sorted.{IsPartitionPoint-from_clause, IsPartitionedBy-ltb}
use Rattle.yf_print.specs.Passes.HeldBlocks.{source_of}
use Rattle.yf_print.proofs.Pass.HeldColumns.{left_last, left_nowhere, left_within}
use Rattle.yf_print.proofs.open_blocks.column_left.Goals as goal

pub returns-then-count-eq0 : goal.returns-then-count-eq0
returns-then-count-eq0 c =
    sym (left_nowhere c.args.indent c.args.may_be_further c.args.column c.args.blocks.now c.partition_point-count.result c.partition_point-count.ensures.bound c.requires
    (IsPartitionPoint-from_clause (λ b. ltb (source_of b) c.args.column) _ _ c.partition_point-count.ensures.partitioned
    (IsPartitionedBy-ltb source_of c.args.blocks.now c.args.column c.requires.rises) (λ a r q f. search rules))
    (omega arith))

pub returns-then-count-blocks : goal.returns-then-count-blocks
returns-then-count-blocks c =
    sym (left_within c.args.indent c.args.may_be_further c.args.column c.args.blocks.now c.partition_point-count.result c.partition_point-count.ensures.bound c.requires
    (IsPartitionPoint-from_clause (λ b. ltb (source_of b) c.args.column) _ _ c.partition_point-count.ensures.partitioned
    (IsPartitionedBy-ltb source_of c.args.blocks.now c.args.column c.requires.rises) (λ a r q f. search rules))
    _ (omega arith) (omega arith))

pub returns : goal.returns
returns c =
    sym (left_last c.args.indent c.args.may_be_further c.args.column c.args.blocks.now c.partition_point-count.result c.partition_point-count.ensures.bound c.requires
    (IsPartitionPoint-from_clause (λ b. ltb (source_of b) c.args.column) _ _ c.partition_point-count.ensures.partitioned
    (IsPartitionedBy-ltb source_of c.args.blocks.now c.args.column c.requires.rises) (λ a r q f. search rules))
    _ _ (omega arith) (omega arith) c.in_ok-further.ensures)
