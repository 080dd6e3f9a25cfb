use Rattle.std.proofs.Common.{false}
use Rattle.yf_comments.proofs.BlankLemmas.{walk_start, walk_end}
use Rattle.yf_comments.proofs.VisibleLemmas.{before_space, before_feed}
use Rattle.yf_comments.proofs.blank.is_blank_before.Goals as goal

pub returns-then-at-eq0 : goal.returns-then-at-eq0
returns-then-at-eq0 c =
    walk_end c.args.s.now c.args.at c.args.at false c.if-at-eq0.true (walk_start c.args.s.now c.args.at c.requires)

pub returns-then-is_char_at : goal.returns-then-is_char_at
returns-then-is_char_at c = λ d.
    c.if-visible_ends-2.ensures.before (before_space c.args.s.now c.args.at c.utf8.s c.if-at-eq0.false c.if-is_char_at.ensures.cases d)

pub returns-then-is_char_at-2 : goal.returns-then-is_char_at-2
returns-then-is_char_at-2 c =
    let follows = c.if-visible_ends-2.ensures in
    before_feed c.args.s.now c.args.at c.utf8.s c.if-at-eq0.false c.if-is_char_at-2.ensures.cases follows.sign follows.blank follows.before
