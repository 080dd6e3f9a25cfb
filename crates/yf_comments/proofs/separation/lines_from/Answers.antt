use Rattle.std.proofs.Common.{pos, sym, subst}
use Rattle.yf_chars.specs.Chain.{Chosen}
use Rattle.yf_comments.specs.Comments.{SeparateLines}
use Rattle.yf_comments.proofs.SeparateLemmas.{lines_chosen, lines_stuck}
use Rattle.yf_comments.proofs.separation.lines_from.Goals as goal

pub returns-in-Some-clause-reads : goal.returns-in-Some-clause-reads
returns-in-Some-clause-reads c =
    let f = rw c.in-Some.is at c.in_ok-reach.ensures.reads in
    subst (λ v. Chosen (SeparateLines c.args.s.now (pos c.args.width) c.args.at) c.in-Some.reach.end v) (sym c.truncate.ensures)
    (lines_chosen f.1 f.2 f.3)

pub returns-clause-reads : goal.returns-clause-reads
returns-clause-reads c =
    let f = rw c.in-None.is at c.in_ok-reach.ensures.reads in
    lines_stuck f.1 f.2 f.3
