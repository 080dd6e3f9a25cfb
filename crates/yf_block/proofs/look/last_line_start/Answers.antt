use Rattle.std.proofs.Common.{arith}
use Rattle.yf_block.proofs.Ends.LastStartLemmas.{walk_break, walk_late, walk_char, walk_stops}
use Rattle.yf_block.proofs.look.last_line_start.Goals as goal

pub characters-preserved-then-next-end : goal.characters-preserved-then-next-end
characters-preserved-then-next-end c =
    let v = c.characters.invariant in
    let o = c.in-Some.ensures.order in
    let l = v.later in
    record {
      place = c.in-Some.ensures.boundary;
      found = c.in-Some.ensures.boundary;
      later = omega (arith, o, l);
      last = walk_break _ _ _ _ c.characters.found v.last l c.in-Some.ensures.reads c.if-next-end.true;
    }

pub characters-preserved-else-next-end : goal.characters-preserved-else-next-end
characters-preserved-else-next-end c =
    let v = c.characters.invariant in
    let o = c.in-Some.ensures.order in
    let l = v.later in
    record {
      place = c.in-Some.ensures.boundary;
      found = v.found;
      later = omega (arith, o, l);
      last = walk_late _ _ _ _ c.characters.found v.last c.in-Some.ensures.reads c.if-next-end.false;
    }

pub characters-preserved : goal.characters-preserved
characters-preserved c =
    let v = c.characters.invariant in
    let r = c.in-Some-peek.ensures in
    let o = r.later in
    let l = v.later in
    record {
      place = r.boundary;
      found = v.found;
      later = omega (arith, o, l);
      last = walk_char _ _ _ _ c.characters.found v.last c.utf8.text r c.in-None.ensures.reads;
    }

pub returns-in-None-peek-clause-last : goal.returns-in-None-peek-clause-last
returns-in-None-peek-clause-last c = walk_stops _ _ _ _ c.characters.found c.characters.invariant.last c.in-None-peek.ensures.1
