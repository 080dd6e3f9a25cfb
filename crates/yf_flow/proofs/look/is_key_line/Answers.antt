use Rattle.std.proofs.Common.{◌∙◌}
use Rattle.yf_flow.proofs.Ends.KeyLineLemmas.{key_more, key_ended, key_long, key_broken, line_feed_breaks, return_breaks}
use Rattle.yf_flow.proofs.look.is_key_line.Goals as goal

pub returns-then-room-eq0 : goal.returns-then-room-eq0
returns-then-room-eq0 c = key_long c.utf8.text c.characters.invariant c.if-room-eq0.true c.characters-test.true

pub returns-then-c-eq10 : goal.returns-then-c-eq10
returns-then-c-eq10 c = λ d. key_broken c.characters.invariant c.characters-test.true (c.in-Some.ensures.char ∙ c.if-c-eq10.true) line_feed_breaks

pub returns-then-c-eq13 : goal.returns-then-c-eq13
returns-then-c-eq13 c = λ d. key_broken c.characters.invariant c.characters-test.true (c.in-Some.ensures.char ∙ c.if-c-eq13.true) return_breaks

pub characters-preserved : goal.characters-preserved
characters-preserved c =
    key_more c.utf8.text c.characters.invariant c.in-Some.ensures c.if-c-eq10.false c.if-c-eq13.false c.characters-test.true c.if-room-eq0.false

pub returns : goal.returns
returns c = key_ended c.characters.invariant c.characters-test.false
