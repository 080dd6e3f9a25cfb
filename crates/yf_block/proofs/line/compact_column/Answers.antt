use Rattle.std.proofs.Common.{arith}
use Rattle.yf_block.proofs.Stack.TiedColumns.{compact_never, compact_yes, compact_not}
use Rattle.yf_block.proofs.line.compact_column.Goals as goal

pub returns-then-not-wanted : goal.returns-then-not-wanted
returns-then-not-wanted c = λ n e g w. compact_never c.if-not-wanted.true

pub returns-then-skip_spaces-place : goal.returns-then-skip_spaces-place
returns-then-skip_spaces-place c = λ n e g w.
    let b = c.if-not-wanted.false in
    let small = (g b).1 in
    let order = c.requires.order in
    compact_yes e order b g c.if-skip_spaces-place.true c.skip_spaces.ensures.spaces (omega (arith, small, order, c.ranges.place.fits, c.saturating_add.ensures))

pub returns : goal.returns
returns c = λ n e g w. compact_not e c.requires.order c.skip_spaces.ensures.order c.skip_spaces.ensures.spaces c.skip_spaces.ensures.all w c.if-skip_spaces-place.false
