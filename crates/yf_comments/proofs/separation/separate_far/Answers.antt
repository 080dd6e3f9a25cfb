use Rattle.std.proofs.Common.{sym, subst, w32}
use Rattle.std.proofs.lemmas.Int.{to_z-of_z}
use Rattle.yf_chars.specs.Chain.{Chosen, Stuck}
use Rattle.yf_comments.specs.Comments.{SeparateLines, Separate}
use Rattle.yf_comments.proofs.SeparateLemmas.{alone_chosen, alone_stuck, node_chosen, node_stuck}
use Rattle.yf_comments.proofs.LineOrder.{separate_forward}
use Rattle.yf_comments.proofs.separation.separate_far.Goals as goal

pub returns-in-Some-2-clause-reads : goal.returns-in-Some-2-clause-reads
returns-in-Some-2-clause-reads c =
    let f = rw c.in-Some-2.is at c.in_ok-separation-in-Some.ensures.reads in
    let width = rw (to_z-of_z w32 c.args.n c.ranges.n) at c.in-Some.ensures in
    node_chosen width.0
    (subst (λ n. Chosen (SeparateLines c.args.s.now n c.args.at) c.in-Some-2.separation.end c.in-Some-2.separation.comments)
    (sym width.1) f)

pub returns-in-None-2-clause-reads : goal.returns-in-None-2-clause-reads
returns-in-None-2-clause-reads c =
    let f = rw c.in-None-2.is at c.in_ok-separation-in-Some.ensures.reads in
    let width = rw (to_z-of_z w32 c.args.n c.ranges.n) at c.in-Some.ensures in
    node_stuck width.0 (subst (λ n. Stuck (SeparateLines c.args.s.now n c.args.at)) (sym width.1) f)

pub returns-in-Some-in_line_from-clause-reads : goal.returns-in-Some-in_line_from-clause-reads
returns-in-Some-in_line_from-clause-reads c =
    let none = rw (to_z-of_z w32 c.args.n c.ranges.n) at c.in-None.ensures in
    subst (λ v. Chosen (Separate c.args.s.now c.args.n c.args.ctx c.args.at) c.in-Some-in_line_from.end v) (sym c.new.ensures)
    (alone_chosen none c.in-Some-in_line_from.ensures.reads)

pub returns-in-None-in_line_from-clause-reads : goal.returns-in-None-in_line_from-clause-reads
returns-in-None-in_line_from-clause-reads c =
    let none = rw (to_z-of_z w32 c.args.n c.ranges.n) at c.in-None.ensures in
    alone_stuck none c.in-None-in_line_from.ensures.reads

pub returns-in-Some-2-clause-order : goal.returns-in-Some-2-clause-order
returns-in-Some-2-clause-order c = separate_forward (returns-in-Some-2-clause-reads c).derived

pub returns-in-Some-in_line_from-clause-order : goal.returns-in-Some-in_line_from-clause-order
returns-in-Some-in_line_from-clause-order c = separate_forward (returns-in-Some-in_line_from-clause-reads c).derived
