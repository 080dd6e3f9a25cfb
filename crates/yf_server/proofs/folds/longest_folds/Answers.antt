use Rattle.std.proofs.Common.{◌∙◌, ap, get_or, length, map, arith, rules}
use Rattle.std.proofs.lemmas.List.{length-set}
use Rattle.yf_positions.specs.Lines.{line_count}
use Rattle.yf_server.specs.Folds.{lines_of, longest_on, one_line, one_lines}
use Rattle.yf_server.proofs.FoldLemmas.{longest_done, longest_kept, one_lines_count, one_lines_each}
use Rattle.yf_server.proofs.folds.longest_folds.Goals as goal

pub loop-part-init : goal.loop-part-init
loop-part-init c =
    let d = c.args.document.now in
    let folds = map (lines_of d) c.args.parts.now in
    let made = c.in_ok-table.ensures ∙ ap one_lines c.line_count.ensures in
    record {
      count = ap length made ∙ one_lines_count (line_count d);
      longest = λ n l. ap (λ xs. longest_on n (get_or xs n (one_line n)) folds) made
          ∙ ap (λ x. longest_on n x folds) (one_lines_each (line_count d) n l);
    }

pub loop-part-preserved : goal.loop-part-preserved
loop-part-preserved c = record {
  count = ap length c.keep.ensures ∙ length-set c.loop-part.table.items _ _ ∙ c.loop-part.invariant.count;
  longest = λ n l. longest_kept c.args.document.now c.args.parts.now c.loop-part.table.items c.keep.new.table.items
      c.loop-part.part-index n _ c.lines_of-fold.result (search rules) c.lines_of-fold.ensures.lines (omega (arith, c.lines_of-fold.ensures.bound, c.loop-part.invariant.count))
      c.keep.ensures (c.loop-part.invariant.longest n l);
}

pub returns-clause-longest : goal.returns-clause-longest
returns-clause-longest c = λ n l. longest_done c.args.document.now c.args.parts.now c.loop-part.table.items
    c.loop-part.part-index n c.loop-part-test.false (c.loop-part.invariant.longest n l)
