use Rattle.std.proofs.Common.{refl, ap, length, arith}
use Rattle.yf_block.specs.declared.frame.BlockCursor.{BlockCursor}
use Rattle.yf_block.proofs.LineSteps.LeafEnds.{leaf_finishes, leaf_stops}
use Rattle.yf_block.proofs.Runs.CountedSteps.{later}
use Rattle.yf_block.proofs.Runs.MovedLemmas.{failed_moved, resume_moved}
use Rattle.yf_block.proofs.frame.BlockReader.end_inline.Goals as goal

pub returns-in_ok-append-in-Some : goal.returns-in_ok-append-in-Some
returns-in_ok-append-in-Some c = record {
  tied = λ d root before j r l.
      leaf_finishes l (rw c.in-Some.is at c.in_ok-comments.ensures.reads) c.note_node.ensures.noted refl c.in_ok-append-in-Some.ensures refl
      (ap (λ (p : BlockCursor). p.last) c.note_node.ensures.others) (ap (λ (p : BlockCursor). p.floor) c.note_node.ensures.others) (ap (λ (p : BlockCursor). p.colons) c.note_node.ensures.others);
  stepped = resume_moved c.note_node.ensures.progress c.requires.standing.escapes (omega arith) (rw c.in-Some.is at c.in_ok-comments.ensures.place);
  counted = λ u total q.
      let p = rw c.in-Some.is at c.in_ok-comments.ensures.place in
      later _ (length c.args.self.now.frames.items) total c.args.at _ p.order q;
}

pub returns-in-None : goal.returns-in-None
returns-in-None c = record {
  tied = λ d root before j r l. leaf_stops l (rw c.in-None.is at c.in_ok-comments.ensures.reads) c.note_shorter.ensures.noted;
  stepped = failed_moved c.note_shorter.ensures.progress c.requires.standing.escapes c.skip_whites.ensures.boundary;
  counted = λ u total q. tt;
}

pub read_line_end-requires : goal.read_line_end-requires
read_line_end-requires c = c.requires.standing.boundary

pub note_node-requires : goal.note_node-requires
note_node-requires c = let p = rw c.in-Some.is at c.in_ok-comments.ensures.place in record { from = c.requires.standing.boundary; place = p.boundary; plain = c.requires.plain; progress = c.requires.standing.progress }

pub note_shorter-requires : goal.note_shorter-requires
note_shorter-requires c = record { plain = c.requires.plain; progress = c.requires.standing.progress }

pub skip_whites-requires : goal.skip_whites-requires
skip_whites-requires c = c.requires.standing.boundary
