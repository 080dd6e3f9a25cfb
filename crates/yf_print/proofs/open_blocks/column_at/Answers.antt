use Rattle.std.proofs.Common.{false, None, leb, arith, rules, sym, ◌∙◌}
use Rattle.std.proofs.lemmas.List.Sorted.{IsPartitionPoint-from_clause, IsPartitionedBy-leb}
use Rattle.yf_print.specs.Passes.HeldBlocks.{source_of}
use Rattle.yf_print.proofs.Pass.HeldColumns.{at_found, at_nowhere}
use Rattle.yf_print.proofs.open_blocks.column_at.Goals as goal

pub returns-then-count-eq0 : goal.returns-then-count-eq0
returns-then-count-eq0 c =
    sym (at_nowhere c.args.column c.args.blocks.now c.partition_point-count.result c.partition_point-count.ensures.bound c.requires
    (IsPartitionPoint-from_clause (λ b. leb (source_of b) c.args.column) _ _ c.partition_point-count.ensures.partitioned
    (IsPartitionedBy-leb source_of c.args.blocks.now c.args.column c.requires.rises) (λ a r q f. search rules))
    (record { source = None; printed = 0; is_sequence = false }) (λ o e. absurd (omega arith)))

pub returns-then-source_of-column : goal.returns-then-source_of-column
returns-then-source_of-column c =
    sym (at_found c.args.column c.args.blocks.now c.partition_point-count.result c.partition_point-count.ensures.bound c.requires
    (IsPartitionPoint-from_clause (λ b. leb (source_of b) c.args.column) _ _ c.partition_point-count.ensures.partitioned
    (IsPartitionedBy-leb source_of c.args.blocks.now c.args.column c.requires.rises) (λ a r q f. search rules))
    _ (omega arith) (sym c.source_of.ensures ∙ c.if-source_of-column.true))

pub returns : goal.returns
returns c =
    sym (at_nowhere c.args.column c.args.blocks.now c.partition_point-count.result c.partition_point-count.ensures.bound c.requires
    (IsPartitionPoint-from_clause (λ b. leb (source_of b) c.args.column) _ _ c.partition_point-count.ensures.partitioned
    (IsPartitionedBy-leb source_of c.args.blocks.now c.args.column c.requires.rises) (λ a r q f. search rules))
    _ (λ o e. c.if-source_of-column.false (c.source_of.ensures ∙ e)))
