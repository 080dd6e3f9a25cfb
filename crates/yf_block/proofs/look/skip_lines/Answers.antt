use Rattle.std.proofs.Common.{◌≡◌, ℕ, subst, arith}
use Rattle.yf_block.specs.ScalarTied.{LinesLeft}
use Rattle.yf_block.proofs.LineSteps.ScalarLines.{walk_begins, walk_over, walk_run, walk_line, walk_within, walk_past}
use Rattle.yf_block.proofs.look.skip_lines.Goals as goal

pub characters-init : goal.characters-init
characters-init c = record { place = c.requires; lines = λ e b. walk_begins b }

pub characters-preserved-in-Some : goal.characters-preserved-in-Some
characters-preserved-in-Some c = record { place = c.in-Some.ensures.boundary; lines = λ e b. walk_line (walk_run (c.characters.invariant.lines e b) c.characters-test.true c.next_break-end.ensures.unbroken.order c.next_break-end.ensures.unbroken.none) c.characters-test.true c.in-Some.ensures.reads }

pub characters-preserved : goal.characters-preserved
characters-preserved c = record { place = c.in-Some-peek.ensures.boundary; lines = λ e b. walk_within (walk_run (c.characters.invariant.lines e b) c.characters-test.true c.next_break-end.ensures.unbroken.order c.next_break-end.ensures.unbroken.none) c.characters-test.true c.utf8.text c.in-Some-peek.ensures c.in-None.ensures.reads }

pub returns-in-None-peek-clause-lines : goal.returns-in-None-peek-clause-lines
returns-in-None-peek-clause-lines c = λ e b. walk_past (walk_run (c.characters.invariant.lines e b) c.characters-test.true c.next_break-end.ensures.unbroken.order c.next_break-end.ensures.unbroken.none) c.characters-test.true c.in-None-peek.ensures.1

pub returns-clause-lines : goal.returns-clause-lines
returns-clause-lines c = λ e b.
    let none : c.characters.left ≡ 0 = omega (arith, c.characters-test.false) in
    walk_over (subst (λ (n : ℕ). LinesLeft c.args.text.now n c.characters.place e) none (c.characters.invariant.lines e b))
