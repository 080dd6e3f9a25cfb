use Rattle.std.proofs.Common.{◌≡◌, ◌-◌}
use Rattle.yf_print.specs.Layouts.SourceColumns.{counts}
use Rattle.yf_print.specs.Passes.KnownLines.{start_on}
use Rattle.yf_print.proofs.source_columns.line_start.Given as goal

abbrev pub decreases-back : goal.decreases-back
decreases-back l = l.end

abbrev pub invariant-back : goal.invariant-back
invariant-back l = start_on (counts l.with_signs) l.text l.known (l.end - l.known.offset) ≡ start_on (counts l.with_signs) l.text l.known (l.offset - l.known.offset)
