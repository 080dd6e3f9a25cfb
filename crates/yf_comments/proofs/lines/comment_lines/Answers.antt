use Rattle.std.proofs.Common.{◌≡◌, length, arith}
use Rattle.yf_comments.proofs.RowLemmas.{rest_moves}
use Rattle.yf_comments.proofs.LineEndLemmas.{kept_none, kept_more, next_starts, row_stuck, row_stuck_end}
use Rattle.yf_comments.proofs.lines.comment_lines.Goals as goal

pub lines-init : goal.lines-init
lines-init c = record {
  rows = kept_none c.args.s.now c.args.at c.args.comments.now;
  boundary = c.requires.boundary;
  starts = c.requires.starts;
  place = c.requires.first;
  whites = c.requires.whites;
  all = c.requires.all;
}

pub lines-smaller : goal.lines-smaller
lines-smaller c =
    let f = rw c.in-Some.is at c.in_ok-next.ensures.reads in
    let b = rw c.in-Some.is at c.in_ok-next.ensures.boundary in
    let m = rest_moves f.1 c.lines-test.true in
    omega (arith, b.0)

pub lines-preserved : goal.lines-preserved
lines-preserved c =
    let f = rw c.in-Some.is at c.in_ok-next.ensures.reads in
    record {
      rows = kept_more c.lines.invariant.rows c.lines-test.true f;
      boundary = rw c.in-Some.is at c.in_ok-next.ensures.boundary;
      starts = next_starts f.1;
      place = c.skip_whites-place.ensures.boundary;
      whites = c.skip_whites-place.ensures.whites;
      all = c.skip_whites-place.ensures.all;
    }

pub returns-in-None-clause-all : goal.returns-in-None-clause-all
returns-in-None-clause-all c = row_stuck (rw c.in-None.is at c.in_ok-next.ensures.reads)

pub returns-clause-all : goal.returns-clause-all
returns-clause-all c =
    let e : c.lines.end ≡ length c.args.s.now = omega (arith, c.lines.invariant.boundary.0) in
    row_stuck_end e
