use Rattle.std.proofs.Common.{sym, subst, arith}
use Rattle.yf_comments.proofs.BlankLemmas.{Walked, walk_start, walk_white, walk_mark, walk_break, walk_met, walk_none, walk_end}
use Rattle.yf_comments.proofs.blank.walk_back.Goals as goal

pub back-init : goal.back-init
back-init c = walk_start c.args.s.now c.args.at c.requires

pub back-preserved-then-is_white_at : goal.back-preserved-then-is_white_at
back-preserved-then-is_white_at c =
    walk_white c.args.s.now c.utf8.s c.args.at c.back.place c.back.blank (omega arith)
    (sym c.if-is_white_at.ensures.value) c.back.invariant

pub back-preserved-then-mark_ends : goal.back-preserved-then-mark_ends
back-preserved-then-mark_ends c =
    walk_mark c.args.s.now c.utf8.s c.args.at c.back.place c.back.blank c.if-mark_ends.ensures.0 c.if-mark_ends.ensures.1 c.back.invariant

pub returns-then-blank : goal.returns-then-blank
returns-then-blank c =
    walk_met c.args.s.now c.utf8.s c.args.at c.back.place c.in-Some.start c.in-Some.ensures
    (subst (λ v. Walked c.args.s.now c.args.at c.back.place v) c.if-blank.true c.back.invariant)

pub back-preserved : goal.back-preserved
back-preserved c =
    walk_break c.args.s.now c.utf8.s c.args.at c.back.place c.in-Some.start c.in-Some.ensures
    (subst (λ v. Walked c.args.s.now c.args.at c.back.place v) c.if-blank.false c.back.invariant)

pub returns-in-None : goal.returns-in-None
returns-in-None c =
    walk_none c.args.s.now c.utf8.s c.args.at c.back.place c.back.blank (omega arith)
    (sym c.if-is_white_at.ensures.value) c.if-mark_ends.ensures c.in-None.ensures c.back.invariant

pub returns : goal.returns
returns c = walk_end c.args.s.now c.args.at c.back.place c.back.blank (omega arith) c.back.invariant
