use Rattle.std.proofs.Common.{length, refl, arith, ◌≤◌}
use Rattle.std.proofs.lemmas.List.Elements.{All-same}
use Rattle.std.specs.Str.{IsCharBoundary}
use Rattle.yf_block.proofs.Ends.Forward.{header_forward, header_starts}
use Rattle.yf_block.proofs.LineSteps.TiedScalar.{scalar_missing, no_header, no_body}
use Rattle.yf_block.proofs.Runs.CountedSteps.{later}
use Rattle.yf_block.proofs.Runs.MovedLemmas.{failed_moved, moved_past}
use Rattle.yf_block.proofs.frame.BlockReader.take_block_scalar.Goals as goal

pub read_lines-requires : goal.read_lines-requires
read_lines-requires c = record { boundary = c.in-Some.ensures.boundary; starts = header_starts c.in-Some.ensures.reads.derived }

pub returns-in-None : goal.returns-in-None
returns-in-None c = record {
  tied = λ d root before j r a. scalar_missing a (no_header a c.in-None.ensures.reads) refl;
  stepped = failed_moved c.requires.progress c.requires.escapes c.requires.boundary;
  counted = λ u total q. tt;
}

pub returns-in-None-2 : goal.returns-in-None-2
returns-in-None-2 c = record {
  tied = λ d root before j r a.
      scalar_missing a (no_body a c.in-Some.ensures.reads (rw c.in-None-2.is at (c.in_ok-read_lines-in-Some.ensures.reads a.narrow a.indentation a.least_is))) refl;
  stepped = failed_moved c.requires.progress (All-same (IsCharBoundary c.args.scope.text.now) _ _ c.in_ok-push_comment-in-Some.ensures.escapes c.requires.escapes) c.in-Some.ensures.boundary;
  counted = λ u total q. tt;
}

pub returns-in-Some-2 : goal.returns-in-Some-2
returns-in-Some-2 c = record {
  tied = λ d root before j r a.
      let lines = rw c.in-Some-2.is at (c.in_ok-read_lines-in-Some.ensures.reads a.narrow a.indentation a.least_is) in
      c.take_body.ensures.tied d root before j r (record {
        least = c.args.self.now.progress.wanted.least;
        place = c.args.at;
        head = _;
        earlier = c.args.self.now.part;
        scalar = a;
        header = c.in-Some.ensures.reads;
        header_is = lines.0;
        lines = lines.1;
        events = c.in_ok-push_comment-in-Some.ensures.events;
        comments = c.in_ok-push_comment-in-Some.ensures.comments;
        escapes = c.in_ok-push_comment-in-Some.ensures.escapes;
      });
  stepped = let f = header_forward c.in-Some.ensures.reads.derived in moved_past {at = c.args.at} {place = c.in-Some.field-0.end} {less = 1} _ _ 0 _ f c.in-Some.ensures.boundary.0 (omega arith) c.take_body.ensures.stepped;
  counted = λ u total q.
      let f = header_forward c.in-Some.ensures.reads.derived in
      let l : c.args.at ≤ c.in-Some.field-0.end = omega (arith, f) in
      c.take_body.ensures.counted u total (later _ (length c.args.self.now.frames.items) total c.args.at c.in-Some.field-0.end l q);
}

pub take_body-requires-clause-standing : goal.take_body-requires-clause-standing
take_body-requires-clause-standing c = record {
  boundary = c.in-Some.ensures.boundary;
  progress = c.requires.progress;
  escapes = All-same (IsCharBoundary c.args.scope.text.now) _ _ c.in_ok-push_comment-in-Some.ensures.escapes c.requires.escapes;
}

pub take_body-requires-clause-next : goal.take_body-requires-clause-next
take_body-requires-clause-next c = rw c.in-Some-2.is at c.in_ok-read_lines-in-Some.ensures.place
