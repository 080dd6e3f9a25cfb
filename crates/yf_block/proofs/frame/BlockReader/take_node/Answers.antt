use Rattle.std.proofs.Common.{refl, length, arith}
use Rattle.std.proofs.lemmas.Bool.{lt-ltb}
use Rattle.yf_block.specs.ColumnsTied.{same_columns}
use Rattle.yf_block.proofs.Stack.TiedInner.{line_ends_there, nothing_there, starts_inside, ends_anyway, later_than, no_end_after}
use Rattle.yf_block.proofs.Runs.CountedSteps.{later}
use Rattle.yf_block.proofs.Runs.MovedLemmas.{failed_moved, moved_later}
use Rattle.yf_block.proofs.frame.BlockReader.take_node.Goals as goal

pub returns-then-line_ends : goal.returns-then-line_ends
returns-then-line_ends c = record {
  tied = λ d root before j r a. let w = c.skip_whites-place.ensures in c.end_line.ensures.tied d root before j r (line_ends_there a w.whites.1 w.all w.order c.if-line_ends.ensures);
  stepped = c.end_line.ensures.stepped;
  counted = c.end_line.ensures.counted;
}

pub returns-then-place-at : goal.returns-then-place-at
returns-then-place-at c = record {
  tied = λ d root before j r a. let w = c.skip_whites-place.ensures in nothing_there a w.whites.1 w.all c.if-place-at.true (λ e. c.if-line_ends.ensures (ends_anyway e));
  stepped = failed_moved c.requires.progress c.requires.escapes c.skip_whites-place.ensures.boundary;
  counted = λ u total q. tt;
}

pub returns-in-Some : goal.returns-in-Some
returns-in-Some c = record {
  tied = λ d root before j r a.
      let w = c.skip_whites-place.ensures in
      let later = later_than w.order c.if-place-at.false in
      c.open_collection.ensures.tied d root before j r (record {
        cols = same_columns c.compact_column-column.result;
        column_is = c.in-Some.ensures.dash.0;
        start = starts_inside a w.whites.1 w.all later (no_end_after c.if-line_ends.ensures (lt-ltb _ _ later)) (c.compact_column-column.ensures a.indentation a.wanted.least a.shallow w.all);
      });
  stepped = moved_later {at = c.args.at} {place = c.skip_whites-place.result} {more = 2} {less = 0} _ _ _ c.skip_whites-place.ensures.order (omega arith) c.open_collection.ensures.stepped;
  counted = λ u total q. c.open_collection.ensures.counted u total (later _ (length c.args.self.now.frames.items) total c.args.at c.skip_whites-place.result c.skip_whites-place.ensures.order q);
}

pub returns-in-None : goal.returns-in-None
returns-in-None c = record {
  tied = λ d root before j r a.
      let w = c.skip_whites-place.ensures in
      let later = later_than w.order c.if-place-at.false in
      c.take_content.ensures.tied d root before j r (record {
        cols = same_columns c.compact_column-column.result;
        column_is = refl;
        undashed = c.in-None.ensures.dash;
        start = starts_inside a w.whites.1 w.all later (no_end_after c.if-line_ends.ensures (lt-ltb _ _ later)) (c.compact_column-column.ensures a.indentation a.wanted.least a.shallow w.all);
      });
  stepped = moved_later {at = c.args.at} {place = c.skip_whites-place.result} {more = 2} {less = 0} _ _ _ c.skip_whites-place.ensures.order (omega arith) c.take_content.ensures.stepped;
  counted = λ u total q. c.take_content.ensures.counted u total (later _ (length c.args.self.now.frames.items) total c.args.at c.skip_whites-place.result c.skip_whites-place.ensures.order q);
}

pub open_collection-requires-clause-sign : goal.open_collection-requires-clause-sign
open_collection-requires-clause-sign c = (c.in-Some.ensures.dash.1, c.in-Some.ensures.boundary)

pub skip_whites-place-requires : goal.skip_whites-place-requires
skip_whites-place-requires c = c.requires.boundary

pub end_line-requires : goal.end_line-requires
end_line-requires c = c.requires

pub compact_column-column-requires : goal.compact_column-column-requires
compact_column-column-requires c = record { boundary = c.requires.boundary; order = c.skip_whites-place.ensures.order }

pub open_collection-requires-clause-standing : goal.open_collection-requires-clause-standing
open_collection-requires-clause-standing c = record { boundary = c.skip_whites-place.ensures.boundary; progress = c.requires.progress; escapes = c.requires.escapes }

pub take_content-requires : goal.take_content-requires
take_content-requires c = record { boundary = c.skip_whites-place.ensures.boundary; progress = c.requires.progress; escapes = c.requires.escapes }
