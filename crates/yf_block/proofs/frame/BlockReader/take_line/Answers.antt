use Rattle.std.proofs.Common.{◌≤◌, reverse, refl, length, arith}
use Rattle.yf_block.specs.LineStepTied.{AtIndented}
use Rattle.yf_block.proofs.Stack.TiedAlone.{line_noted, wanting_line}
use Rattle.yf_block.proofs.Stack.TiedIndented.{dash_begins, less_deep, text_over, comment_there, line_starts, sequence_column, no_dash_there}
use Rattle.yf_block.proofs.Runs.CountedSteps.{later}
use Rattle.yf_block.proofs.Runs.MovedLemmas.{failed_moved, moved_later}
use Rattle.yf_block.proofs.frame.BlockReader.take_line.Goals as goal

pub returns-then-node_ends : goal.returns-then-node_ends
returns-then-node_ends c = record {
  tied = λ d root before j r a.
      let n = c.note_empty.ensures in
      let x = line_noted a n.others n.outermost n.noted in
      c.end_empty.ensures.tied d root before j r (record { at = x; none = record { none = λ m q y b. y.goes_on c.if-node_ends.ensures } });
  stepped = c.end_empty.ensures.stepped;
  counted = c.end_empty.ensures.counted;
}

pub returns-then-sequence_begins : goal.returns-then-sequence_begins
returns-then-sequence_begins c = record {
  tied = λ d root before j r a.
      let n = c.note_empty.ensures in
      let x = line_noted a n.others n.outermost n.noted in
      let y = rw c.if-sequence_begins.true at (c.sequence_begins.ensures.dash x.indentation x.context x.wanted.least x.wanted.out) in
      let w = c.skip_spaces-start.ensures in
      let z = dash_begins x c.if-node_ends.ensures w.order w.spaces y.0 y.1 in
      c.open_collection.ensures.tied d root before j r (record { cols = z.0; column_is = z.1; start = z.2 });
  stepped = moved_later {at = c.args.at} {place = c.skip_spaces-start.result} {more = 1} {less = 0} _ _ _ c.skip_spaces-start.ensures.order (omega arith) c.open_collection.ensures.stepped;
  counted = λ u total q. c.open_collection.ensures.counted u total (later _ (length c.args.self.now.frames.items) total c.args.at c.skip_spaces-start.result c.skip_spaces-start.ensures.order q);
}

pub returns-then-not-may_begin : goal.returns-then-not-may_begin
returns-then-not-may_begin c = record {
  tied = λ d root before j r a.
      let n = c.note_empty.ensures in
      let x = line_noted a n.others n.outermost n.noted in
      let v = c.skip_spaces-start.ensures in
      let i : AtIndented c.args.scope.text.now d root before (reverse c.args.self.now.frames.items) c.args.at c.skip_spaces-start.result c.note_empty.new.progress c.args.self.now.part = record {
        at = x;
        goes_on = c.if-node_ends.ensures;
        order = v.order;
        spaces = v.spaces;
        no_space = v.all;
        undashed = rw c.if-sequence_begins.false at (c.sequence_begins.ensures.dash x.indentation x.context x.wanted.least x.wanted.out);
      } in
      let m = c.if-not-may_begin.ensures in
      c.end_empty-then-not-may_begin.ensures.tied d root before j r (record { at = x; none = less_deep i m.0 m.1 });
  stepped = c.end_empty-then-not-may_begin.ensures.stepped;
  counted = c.end_empty-then-not-may_begin.ensures.counted;
}

pub returns-then-place-text : goal.returns-then-place-text
returns-then-place-text c = record {
  tied = λ d root before j r a.
      let n = c.note_empty.ensures in
      let x = line_noted a n.others n.outermost n.noted in
      let v = c.skip_spaces-start.ensures in
      let i : AtIndented c.args.scope.text.now d root before (reverse c.args.self.now.frames.items) c.args.at c.skip_spaces-start.result c.note_empty.new.progress c.args.self.now.part = record {
        at = x;
        goes_on = c.if-node_ends.ensures;
        order = v.order;
        spaces = v.spaces;
        no_space = v.all;
        undashed = rw c.if-sequence_begins.false at (c.sequence_begins.ensures.dash x.indentation x.context x.wanted.least x.wanted.out);
      } in
      let w = c.skip_whites-place.ensures in
      c.end_empty-then-place-text.ensures.tied d root before j r (record { at = x; none = record { none = λ m q y b. text_over i w.whites.1 w.all c.if-place-text.true m q y } });
  stepped = c.end_empty-then-place-text.ensures.stepped;
  counted = c.end_empty-then-place-text.ensures.counted;
}

pub returns-then-is_char_at : goal.returns-then-is_char_at
returns-then-is_char_at c = record {
  tied = λ d root before j r a.
      let n = c.note_empty.ensures in
      let x = line_noted a n.others n.outermost n.noted in
      let v = c.skip_spaces-start.ensures in
      let i : AtIndented c.args.scope.text.now d root before (reverse c.args.self.now.frames.items) c.args.at c.skip_spaces-start.result c.note_empty.new.progress c.args.self.now.part = record {
        at = x;
        goes_on = c.if-node_ends.ensures;
        order = v.order;
        spaces = v.spaces;
        no_space = v.all;
        undashed = rw c.if-sequence_begins.false at (c.sequence_begins.ensures.dash x.indentation x.context x.wanted.least x.wanted.out);
      } in
      let w = c.skip_whites-place.ensures in
      let h = comment_there i w.whites.1 w.all c.if-is_char_at.ensures.cases.char in
      wanting_line x (record { none = λ m q y b. h m q y }) i.goes_on h;
  stepped = failed_moved c.note_empty.ensures.progress c.requires.escapes c.skip_whites-place.ensures.boundary;
  counted = λ u total q. tt;
}

pub returns : goal.returns
returns c = record {
  tied = λ d root before j r a.
      let n = c.note_empty.ensures in
      let x = line_noted a n.others n.outermost n.noted in
      let v = c.skip_spaces-start.ensures in
      let i : AtIndented c.args.scope.text.now d root before (reverse c.args.self.now.frames.items) c.args.at c.skip_spaces-start.result c.note_empty.new.progress c.args.self.now.part = record {
        at = x;
        goes_on = c.if-node_ends.ensures;
        order = v.order;
        spaces = v.spaces;
        no_space = v.all;
        undashed = rw c.if-sequence_begins.false at (c.sequence_begins.ensures.dash x.indentation x.context x.wanted.least x.wanted.out);
      } in
      let w = c.skip_whites-place.ensures in
      c.take_content.ensures.tied d root before j r (record {
        cols = record { sequence = (sequence_column i w.whites.1 w.all).0; mapping = c.line_column-column.result };
        column_is = refl;
        undashed = no_dash_there i w.whites.1 w.all;
        start = line_starts i w.whites.1 w.all c.if-place-text.false c.if-is_char_at.ensures.cases c.if-not-may_begin.ensures c.line_column-column.result c.line_column-column.ensures;
      });
  stepped = let l : c.args.at ≤ c.skip_whites-place.result = omega (arith, c.skip_spaces-start.ensures.order, c.skip_whites-place.ensures.order) in moved_later {at = c.args.at} {place = c.skip_whites-place.result} {more = 1} {less = 0} _ _ _ l (omega arith) c.take_content.ensures.stepped;
  counted = λ u total q.
      let l : c.args.at ≤ c.skip_whites-place.result = omega (arith, c.skip_spaces-start.ensures.order, c.skip_whites-place.ensures.order) in
      c.take_content.ensures.counted u total (later _ (length c.args.self.now.frames.items) total c.args.at c.skip_whites-place.result l q);
}

pub open_collection-requires-clause-sign : goal.open_collection-requires-clause-sign
open_collection-requires-clause-sign c = (c.sequence_begins.ensures.is_there c.if-sequence_begins.true, c.sequence_begins.ensures.boundary c.if-sequence_begins.true)

pub note_empty-requires : goal.note_empty-requires
note_empty-requires c = record { place = c.requires.boundary; progress = c.requires.progress }

pub end_empty-requires : goal.end_empty-requires
end_empty-requires c = record { boundary = c.requires.boundary; progress = c.note_empty.ensures.progress; escapes = c.requires.escapes }

pub take_content-requires : goal.take_content-requires
take_content-requires c = record { boundary = c.skip_whites-place.ensures.boundary; progress = c.note_empty.ensures.progress; escapes = c.requires.escapes }

pub skip_spaces-start-requires : goal.skip_spaces-start-requires
skip_spaces-start-requires c = c.requires.boundary

pub skip_whites-place-requires : goal.skip_whites-place-requires
skip_whites-place-requires c = c.skip_spaces-start.ensures.boundary

pub open_collection-requires-clause-standing : goal.open_collection-requires-clause-standing
open_collection-requires-clause-standing c = record { boundary = c.skip_spaces-start.ensures.boundary; progress = c.note_empty.ensures.progress; escapes = c.requires.escapes }
