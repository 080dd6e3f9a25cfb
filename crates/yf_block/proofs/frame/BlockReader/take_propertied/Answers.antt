use Rattle.std.proofs.Common.{refl, length, arith}
use Rattle.std.proofs.lemmas.Bool.{lt-ltb}
use Rattle.yf_block.specs.ContentTied.{EndsAfter, text_held}
use Rattle.yf_block.proofs.Ends.BelongingLemmas.{line_tied}
use Rattle.yf_block.proofs.LineSteps.ContentLines.{ahead_held, apart_either, joined_below, joined_here, line_goes_on_after, nowhere_after_fails}
use Rattle.yf_block.proofs.Runs.CountedSteps.{later}
use Rattle.yf_block.proofs.Runs.MovedLemmas.{failed_moved, moved_past}
use Rattle.yf_block.proofs.frame.BlockReader.take_propertied.Goals as goal

pub returns-in-None : goal.returns-in-None
returns-in-None c = record {
  tied = λ d root before j r q.
      let a = q.content in
      let l = q.properties in
      let w = c.skip_whites-place.ensures in
      let e : EndsAfter c.args.scope.text.now c.args.inner.end c.skip_whites-place.result = record { whites = _; run = w.whites.1; no_white = w.all; comment = _; ends = c.if-line_ends.ensures } in
      let clash = rw c.in-None.is at (c.joined_after.ensures.reads a.start.ahead l.value (ahead_held a.start.wanted.outer) (line_tied l)) in
      apart_either a.start a.signless l e c.in_ok-_ended-in-None._ended (λ s. s.end) (λ s. s.comments) clash c.in_ok-_ended-in-None.ensures.reads;
  stepped = failed_moved c.requires.standing.progress c.requires.standing.escapes c.requires.standing.boundary;
  counted = λ u total q. tt;
}

pub returns-in-Some : goal.returns-in-Some
returns-in-Some c = record {
  tied = λ d root before j r q.
      let a = q.content in
      let l = q.properties in
      let w = c.skip_whites-place.ensures in
      let e : EndsAfter c.args.scope.text.now c.args.inner.end c.skip_whites-place.result = record { whites = _; run = w.whites.1; no_white = w.all; comment = _; ends = c.if-line_ends.ensures } in
      let joined = rw c.in-Some.is at (c.joined_after.ensures.reads a.start.ahead l.value (ahead_held a.start.wanted.outer) (line_tied l)) in
      c.end_line.ensures.tied d root before j r (joined_below a.start a.signless l e (joined_here a.start a.signless l joined) refl);
  stepped = let p = c.requires.inner in moved_past {at = c.args.node_start.at} {place = c.args.inner.end} {less = 2} _ _ 0 _ (omega (arith, p.order)) p.boundary.0 (omega arith) c.end_line.ensures.stepped;
  counted = λ u total q.
      let p = c.requires.inner.order in
      c.end_line.ensures.counted u total (later _ (length c.args.self.now.frames.items) total c.args.node_start.at c.args.inner.end (omega (arith, p)) q);
}

pub returns-in-None-place_after : goal.returns-in-None-place_after
returns-in-None-place_after c = record {
  tied = λ d root before j r q.
      let a = q.content in
      let w = c.skip_whites-place.ensures in
      let s = line_goes_on_after a.start a.signless q.properties w.whites.1 w.all (λ o. lt-ltb _ _ o) c.if-line_ends.ensures in
      nowhere_after_fails a.start a.signless q.properties s c.in-None-place_after.ensures.reads;
  stepped = failed_moved c.requires.standing.progress c.requires.standing.escapes c.skip_whites-place.ensures.boundary;
  counted = λ u total q. tt;
}

pub returns-in-Some-place_after : goal.returns-in-Some-place_after
returns-in-Some-place_after c = record {
  tied = λ d root before j r q.
      let a = q.content in
      let w = c.skip_whites-place.ensures in
      let s = line_goes_on_after a.start a.signless q.properties w.whites.1 w.all (λ o. lt-ltb _ _ o) c.if-line_ends.ensures in
      c.take_after_properties.ensures.tied d root before j r (record { content = a; text = text_held q.properties s c.in-Some-place_after.ensures.reads });
  stepped = c.take_after_properties.ensures.stepped;
  counted = c.take_after_properties.ensures.counted;
}

pub skip_whites-place-requires : goal.skip_whites-place-requires
skip_whites-place-requires c = c.requires.inner.boundary

pub read_line_end-requires : goal.read_line_end-requires
read_line_end-requires c = c.requires.inner.boundary

pub end_line-requires : goal.end_line-requires
end_line-requires c = let p = c.requires.standing.progress in record { boundary = c.requires.inner.boundary; progress = record { floor = p.floor; from = p.from; halt = p.halt }; escapes = c.requires.standing.escapes }

pub place_after-requires : goal.place_after-requires
place_after-requires c = c.requires.inner.boundary

pub take_after_properties-requires : goal.take_after_properties-requires
take_after_properties-requires c = let p = c.in-Some-place_after.ensures.place in record { standing = record { boundary = p.boundary; progress = c.requires.standing.progress; escapes = c.requires.standing.escapes }; start = c.requires.standing.boundary; properties = (c.requires.inner, p.order) }
