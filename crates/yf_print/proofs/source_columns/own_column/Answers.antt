use Rattle.std.proofs.Common.{◌∙◌}
use Rattle.yf_print.proofs.Pass.KnownLines.{own_is}
use Rattle.yf_print.proofs.source_columns.own_column.Goals as goal

pub returns : goal.returns
returns c = c.column_of.ensures ∙ own_is c.args.text.now c.args.offset c.line_start-start.result c.line_start-start.ensures
