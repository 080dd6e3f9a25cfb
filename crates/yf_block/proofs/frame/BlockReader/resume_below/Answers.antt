use Rattle.std.proofs.Common.{length, arith}
use Rattle.yf_block.proofs.Stack.TiedEntries.{top_breaks, item_follows_top, no_item_awaits}
use Rattle.yf_block.proofs.Stack.TiedResumed.{fit_line}
use Rattle.yf_block.proofs.Runs.CountedSteps.{popped_counted, outer_counted}
use Rattle.yf_block.proofs.Runs.MovedLemmas.{done_moved, failed_moved, moved_later}
use Rattle.yf_block.proofs.frame.BlockReader.resume_below.Goals as goal

pub returns-in-None : goal.returns-in-None
returns-in-None c = record {
  tied = λ d root before j r a. rw c.in-None.is at (c.in_ok-end_collections.ensures.tied d root before a);
  stepped = done_moved c.in_ok-end_collections.ensures.standing.progress c.in_ok-end_collections.ensures.standing.escapes c.in_ok-end_collections.ensures.standing.boundary;
  counted = λ u total q. tt;
}

pub returns-in-Item : goal.returns-in-Item
returns-in-Item c = record {
  tied = λ d root before j r a.
      let f = rw c.in-Some.is at (c.in_ok-end_collections.ensures.tied d root before a) in
      let line = fit_line f c.in-Item.is in
      let e = no_item_awaits f.top line in
      c.take_item.ensures.tied d root before j r (record { sequence = line.kind; settled = e; entry = item_follows_top f.top line e });
  stepped = let p = rw c.in-Item.is at (rw c.in-Some.is at c.in_ok-end_collections.ensures.places) in moved_later {at = c.args.at} {place = c.in-Item.start} {more = 0} {less = 0} _ _ _ p.0.order (omega arith) c.take_item.ensures.stepped;
  counted = λ u total q.
      let few = rw c.in-Some.is at c.in_ok-end_collections.ensures.fewer in
      let p = rw c.in-Item.is at (rw c.in-Some.is at c.in_ok-end_collections.ensures.places) in
      c.take_item.ensures.counted u total (outer_counted _ total (length c.end_collections.new.self.frames.items) (length c.args.self.now.frames.items) c.args.at c.in-Item.start few p.0.order q);
}

pub returns-in-Entry : goal.returns-in-Entry
returns-in-Entry c = record {
  tied = λ d root before j r a.
      let f = rw c.in-Some.is at (c.in_ok-end_collections.ensures.tied d root before a) in
      c.next_entry.ensures.tied d root before j r (record { line = c.args.at; fits = fit_line f c.in-Entry.is; top = f.top });
  stepped = let p = rw c.in-Entry.is at (rw c.in-Some.is at c.in_ok-end_collections.ensures.places) in moved_later {at = c.args.at} {place = c.in-Entry.start} {more = 0} {less = 0} _ _ _ p.order (omega arith) c.next_entry.ensures.stepped;
  counted = λ u total q.
      let few = rw c.in-Some.is at c.in_ok-end_collections.ensures.fewer in
      let p = rw c.in-Entry.is at (rw c.in-Some.is at c.in_ok-end_collections.ensures.places) in
      c.next_entry.ensures.counted u total (popped_counted _ total (length c.end_collections.new.self.frames.items) (length c.args.self.now.frames.items) c.args.at c.in-Entry.start few (omega (arith, p.order)) q);
}

pub returns-in-Deeper : goal.returns-in-Deeper
returns-in-Deeper c = record {
  tied = λ d root before j r a.
      let f = rw c.in-Some.is at (c.in_ok-end_collections.ensures.tied d root before a) in
      top_breaks f.top (fit_line f c.in-Deeper.is);
  stepped = failed_moved c.in_ok-end_collections.ensures.standing.progress c.in_ok-end_collections.ensures.standing.escapes (rw c.in-Deeper.is at (rw c.in-Some.is at c.in_ok-end_collections.ensures.places));
  counted = λ u total q. tt;
}

pub returns-in-EndsBefore : goal.returns-in-EndsBefore
returns-in-EndsBefore c = record {
  tied = λ d root before j r a.
      let f = rw c.in-Some.is at (c.in_ok-end_collections.ensures.tied d root before a) in
      absurd (f.goes_on c.in-EndsBefore.is);
  stepped = failed_moved c.in_ok-end_collections.ensures.standing.progress c.in_ok-end_collections.ensures.standing.escapes c.in_ok-end_collections.ensures.standing.boundary;
  counted = λ u total q. tt;
}

pub take_item-requires-clause-after : goal.take_item-requires-clause-after
take_item-requires-clause-after c = (rw c.in-Item.is at (rw c.in-Some.is at c.in_ok-end_collections.ensures.places)).1

pub take_item-requires-clause-dash : goal.take_item-requires-clause-dash
take_item-requires-clause-dash c = (rw c.in-Item.is at (rw c.in-Some.is at c.in_ok-end_collections.ensures.places)).2

pub end_collections-requires : goal.end_collections-requires
end_collections-requires c = record { standing = c.requires.standing; place = c.requires.place; entry = c.requires.entry }

pub take_item-requires-clause-standing : goal.take_item-requires-clause-standing
take_item-requires-clause-standing c =
    let v = c.in_ok-end_collections.ensures.standing in
    let p = rw c.in-Item.is at (rw c.in-Some.is at c.in_ok-end_collections.ensures.places) in
    record { boundary = p.0.boundary; progress = v.progress; escapes = v.escapes }

pub next_entry-requires : goal.next_entry-requires
next_entry-requires c =
    let v = c.in_ok-end_collections.ensures.standing in
    let p = rw c.in-Entry.is at (rw c.in-Some.is at c.in_ok-end_collections.ensures.places) in
    record { boundary = p.boundary; progress = v.progress; escapes = v.escapes }
