use Rattle.std.proofs.Common.{Bool, leb, rules}
use Rattle.std.proofs.lemmas.List.Sorted.{IsPartitionPoint-from_clause, IsPartitionedBy-leb}
use Rattle.yf_lines.specs.declared.packed_lines.PackedLine.{PackedLine}
use Rattle.yf_lines.proofs.RowLemmas.{rows_from_point}
use Rattle.yf_lines.proofs.packed_lines.lines_begun.Goals as goal

pub returns-clause-begun : goal.returns-clause-begun
returns-clause-begun c =
    let rs = c.args.rows.now in
    let o = c.args.offset in
    let p : PackedLine → Bool = λ r. leb r.start o in
    rows_from_point rs o c.partition_point.result
    (IsPartitionPoint-from_clause p rs c.partition_point.result c.partition_point.ensures.partitioned
    (IsPartitionedBy-leb (λ r. r.start) rs o c.requires) (λ a r q k. search rules))
