use Rattle.std.proofs.Common.{ap, sym, ◌∙◌}
use Rattle.yf_block_scalar.specs.Body.{first_noted, is_gap_tail}
use Rattle.yf_block_scalar.proofs.ReaderLemmas.{same_taken}
use Rattle.yf_block_scalar.proofs.reader.read_indented.Goals as goal

pub returns-clause-reads : goal.returns-clause-reads
returns-clause-reads c =
    let e = c.in_ok-block.ensures in (
      c.in_ok-rows.rows.next,
      e.reads.0,
      (
        same_taken e.lines e.open_end e.tail c.in_ok-rows.ensures.reads,
        e.reads.1.0,
        e.reads.1.1 ∙ ap (λ m. first_noted (is_gap_tail c.args.header.chomp m) e.reads.0) (sym e.tail),
      ),
    )
