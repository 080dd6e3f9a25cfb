use Rattle.std.proofs.Common.{[], sym, append-nil}
use Rattle.yf_comments.proofs.RowLemmas.{stuck_at_solid}
use Rattle.yf_comments.proofs.SolidLemmas.{rest_bare}
use Rattle.yf_comments.proofs.lines.next_row.Goals as goal

pub returns-in-Some-clause-reads : goal.returns-in-Some-clause-reads
returns-in-Some-clause-reads c =
    ([], rest_bare c.requires.whites.1 c.in-Some.ensures.reads, sym (append-nil c.args.comments.now))

pub returns-in-None-clause-reads : goal.returns-in-None-clause-reads
returns-in-None-clause-reads c =
    stuck_at_solid c.requires.whites.1 c.requires.all c.if-is_char_at.ensures.cases c.in-None.ensures.reads
