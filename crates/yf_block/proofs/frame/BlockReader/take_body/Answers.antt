use Rattle.std.proofs.Common.{length, ℕ, ◌++◌, ap, sym, ◌∙◌, subst, arith}
use Rattle.std.proofs.lemmas.List.Elements.{All-same}
use Rattle.std.specs.Str.{IsCharBoundary}
use Rattle.yf_block.specs.declared.frame.BlockCursor.{BlockCursor}
use Rattle.yf_grammar.specs.Productions.BlockScalar.{LinesBetween}
use Rattle.yf_block.proofs.Ends.LineHalts.{colons_counted}
use Rattle.yf_block.proofs.LineSteps.TiedScalar.{to, few_lines, scalar_ends, scalar_outside, scalar_was_read}
use Rattle.yf_block.proofs.Runs.CountedSteps.{later}
use Rattle.yf_block.proofs.Runs.MovedLemmas.{resume_moved}
use Rattle.yf_block.proofs.frame.BlockReader.take_body.Goals as goal

pub returns-in-Ok : goal.returns-in-Ok
returns-in-Ok c =
    let pushed = c.push_block-pushed.ensures in
    let added = c.in-Ok.ensures in
    let escapes = added.escapes ∙ pushed.escapes in
    record {
      tied = λ d root before j r a.
          let inside = c.requires.standing.boundary.0 in
          let count = c.reach.ensures (few_lines a inside) in
          let e = c.skip_lines-finish.ensures.lines (to a inside).end (subst (λ (n : ℕ). LinesBetween c.args.scope.text.now n c.args.at (to a inside).end) (sym count) (scalar_ends a inside)) in
          scalar_was_read a inside e (c.note_node.ensures.noted (scalar_outside a inside) (colons_counted a.scalar.stack))
          (added.events ∙ rw added.pushed at pushed.events) (added.comments ∙ ap (λ z. z ++ c.args.block.comments) pushed.comments) escapes
          (ap (λ (p : BlockCursor). p.last) c.note_node.ensures.others) (ap (λ (p : BlockCursor). p.floor) c.note_node.ensures.others) (ap (λ (p : BlockCursor). p.colons) c.note_node.ensures.others);
      stepped = resume_moved c.note_node.ensures.progress (All-same (IsCharBoundary c.args.scope.text.now) _ _ escapes c.requires.standing.escapes) (omega arith) c.requires.next;
      counted = λ u total q. later _ (length c.args.self.now.frames.items) total c.args.at c.args.block.next c.requires.next.order q;
    }
