use Rattle.yf_comments.specs.Comments.LineRest.{whites, comment}
use Rattle.yf_comments.proofs.RowLemmas.{stuck_after_comment, stuck_after_whites}
use Rattle.yf_comments.proofs.lines.past_whites.Goals as goal

pub returns-in-Some-break_or_end-clause-reads : goal.returns-in-Some-break_or_end-clause-reads
returns-in-Some-break_or_end-clause-reads c =
    comment c.requires.separate c.in-Some.ensures.reads c.in-Some-break_or_end.ensures.reads

pub returns-in-None-break_or_end-clause-reads : goal.returns-in-None-break_or_end-clause-reads
returns-in-None-break_or_end-clause-reads c =
    stuck_after_comment c.requires.separate c.in-Some.ensures.reads c.in-Some.ensures.all c.in-None-break_or_end.ensures.reads

pub returns-in-Some-break_or_end-2-clause-reads : goal.returns-in-Some-break_or_end-2-clause-reads
returns-in-Some-break_or_end-2-clause-reads c = whites c.requires.separate c.in-Some-break_or_end-2.ensures.reads

pub returns-in-None-break_or_end-2-clause-reads : goal.returns-in-None-break_or_end-2-clause-reads
returns-in-None-break_or_end-2-clause-reads c =
    stuck_after_whites c.requires.separate c.requires.all c.in-None.ensures.reads c.in-None-break_or_end-2.ensures.reads
