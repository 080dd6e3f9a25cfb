use Rattle.yf_lines.proofs.FoldLemmas.{no_fold_break, no_fold_lines, fold_found}
use Rattle.yf_lines.proofs.fold.flow_folded.Goals as goal

pub returns-in-None-clause-reads : goal.returns-in-None-clause-reads
returns-in-None-clause-reads c = no_fold_break c.skip_whites-line_end.ensures.whites c.skip_whites-line_end.ensures.all c.in-None.ensures.reads

pub returns-in-None-fold_lines-clause-reads : goal.returns-in-None-fold_lines-clause-reads
returns-in-None-fold_lines-clause-reads c = no_fold_lines c.skip_whites-line_end.ensures.whites c.in-Some.ensures.reads c.in-None-fold_lines.ensures.reads

pub returns-in-Some-fold_lines-clause-reads : goal.returns-in-Some-fold_lines-clause-reads
returns-in-Some-fold_lines-clause-reads c = fold_found c.skip_whites-line_end.ensures.whites c.in-Some.ensures.reads c.in-Some-fold_lines.ensures.reads
