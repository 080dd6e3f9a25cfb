use Rattle.std.proofs.Common.{◌-◌, [], arith}
use Rattle.yf_block_scalar.specs.Body.{Trail}
use Rattle.yf_block_scalar.proofs.TrailLemmas.{no_trail_deep, no_trail_here, trail_there, line_end_there}
use Rattle.yf_block_scalar.proofs.trail.read_trail.Goals as goal

pub returns-then-indent-first-clause-reads : goal.returns-then-indent-first-clause-reads
returns-then-indent-first-clause-reads c =
    let none : Trail c.args.s.now c.args.indent c.args.at c.args.at [] =
    no_trail_deep c.args.at (c.skip_spaces-first.result - c.args.at) c.args.indent c.skip_spaces-first.ensures.spaces c.if-indent-first.true in
    ([], (rw c.no_comments.ensures.end none, c.no_comments.ensures.comments))

pub returns-in-Some-clause-reads : goal.returns-in-Some-clause-reads
returns-in-Some-clause-reads c =
    let chosen = rw c.in-Some.is at c.in_ok-comments.ensures.reads in (
      c.in-Some.field-0.comments,
      (
        trail_there c.args.at c.skip_spaces-first.result c.args.indent c.skip_spaces-first.ensures.order c.skip_spaces-first.ensures.spaces c.if-indent-first.false c.if-is_char_at.ensures.cases.char chosen,
        c.in_ok-noted-in-Some.ensures,
      ),
    )

pub unreachable-requires : goal.unreachable-requires
unreachable-requires c =
    let stuck = rw c.in-None.is at c.in_ok-comments.ensures.reads in
    let within = c.if-is_char_at.ensures.cases.within in
    line_end_there (c.requires.starts (omega (arith, c.skip_spaces-first.ensures.order))) stuck

pub returns-clause-reads : goal.returns-clause-reads
returns-clause-reads c =
    let none : Trail c.args.s.now c.args.indent c.args.at c.args.at [] =
    no_trail_here c.args.at c.skip_spaces-first.result c.args.indent c.skip_spaces-first.ensures.order c.skip_spaces-first.ensures.spaces c.skip_spaces-first.ensures.all c.if-is_char_at.ensures.cases in
    ([], (rw c.no_comments-2.ensures.end none, c.no_comments-2.ensures.comments))
