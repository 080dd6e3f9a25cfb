use Rattle.std.proofs.Common.{refl, length, arith}
use Rattle.std.proofs.lemmas.Bool.{eqb-true, eqb-false}
use Rattle.yf_block.proofs.Stack.TiedLines.{line_ended}
use Rattle.yf_block.proofs.Runs.CountedSteps.{later}
use Rattle.yf_block.proofs.Runs.MovedLemmas.{failed_moved, line_moved}
use Rattle.yf_block.proofs.frame.BlockReader.end_line.Goals as goal

pub returns-in_ok-append-in-Some : goal.returns-in_ok-append-in-Some
returns-in_ok-append-in-Some c = record {
  tied = λ d root before j r a.
      line_ended _ (eqb-true c.in-Some.field-0.end c.args.at) (eqb-false c.in-Some.field-0.end c.args.at) a (rw c.in-Some.is at c.in_ok-comments.ensures.reads) refl c.in_ok-append-in-Some.ensures refl refl;
  stepped = line_moved (record { floor = c.requires.progress.floor; from = c.requires.boundary; halt = c.requires.progress.halt }) c.requires.escapes (omega arith) (rw c.in-Some.is at c.in_ok-comments.ensures.place);
  counted = λ u total q.
      let p = rw c.in-Some.is at c.in_ok-comments.ensures.place in
      later _ (length c.args.self.now.frames.items) total c.args.at _ p.order q;
}

pub returns-in-None : goal.returns-in-None
returns-in-None c = record {
  tied = λ d root before j r a. a.unended (rw c.in-None.is at c.in_ok-comments.ensures.reads);
  stepped = failed_moved c.requires.progress c.requires.escapes c.requires.boundary;
  counted = λ u total q. tt;
}
