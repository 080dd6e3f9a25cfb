use Rattle.std.proofs.Common.{length, refl, arith, ◌≤◌}
use Rattle.std.proofs.lemmas.List.{length-reverse}
use Rattle.yf_block.proofs.LineSteps.ContentSteps.{key_too_many, leaf_apart, leaf_there, first_key_there}
use Rattle.yf_block.proofs.Runs.CountedSteps.{later, colon_passed, key_full}
use Rattle.yf_block.proofs.Runs.MovedLemmas.{deep_moved, failed_moved, moved_past}
use Rattle.yf_block.proofs.frame.BlockReader.finish_inline.Goals as goal

pub returns-then-max-scope : goal.returns-then-max-scope
returns-then-max-scope c = record {
  tied = λ d root before j r z.
      let a = z.inline in
      let k = c.in-Some.ensures.key in
      let n = length-reverse c.args.self.now.frames.items in
      let o = a.depth_is in
      key_too_many a k.0 c.skip_whites-colon.ensures.whites.1 k.1 (λ x y. omega (arith, r, n, o, x, y, c.len.ensures.value, c.max.ensures, c.if-max-scope.true));
  stepped = deep_moved c.requires.standing.standing.progress c.requires.standing.standing.escapes c.requires.standing.start;
  counted = λ u total q.
      let l : c.args.after.now.node_start.at ≤ c.skip_whites-colon.result = omega (arith, c.requires.node.order, c.skip_whites-colon.ensures.order) in
      key_full _ c.args.scope.limit total (length c.args.self.now.frames.items) c.args.node.deepest c.args.after.now.node_start.at c.args.node.end c.skip_whites-colon.result u c.in-Some.ensures.key.1.colon l c.skip_whites-colon.ensures.order
      q.deepest q.opened (omega (arith, c.if-max-scope.true, c.max.ensures, c.len.ensures.value));
}

pub returns-else-max-scope : goal.returns-else-max-scope
returns-else-max-scope c = record {
  tied = λ d root before j r z.
      let a = z.inline in
      let k = c.in-Some.ensures.key in
      let n = length-reverse c.args.self.now.frames.items in
      let o = a.depth_is in
      c.take_first_key.ensures.tied d root before j r (record {
        depth = z.depth;
        earlier = z.earlier;
        key = first_key_there a k.0 c.skip_whites-colon.ensures.whites.1 k.1
            (omega (arith, r, c.max.ensures, c.if-max-scope.false)) (omega (arith, r, n, o, c.len.ensures.value, c.max.ensures, c.if-max-scope.false));
      });
  stepped = c.take_first_key.ensures.stepped;
  counted = λ u total q.
      let l : c.args.after.now.node_start.at ≤ c.skip_whites-colon.result = omega (arith, c.requires.node.order, c.skip_whites-colon.ensures.order) in
      c.take_first_key.ensures.counted u total (colon_passed _ (length c.args.self.now.frames.items) total c.args.after.now.node_start.at c.skip_whites-colon.result u c.in-Some.ensures.key.1.colon l q.opened);
}

pub returns-then-is_apart : goal.returns-then-is_apart
returns-then-is_apart c = record {
  tied = λ d root before j r z. leaf_apart z.inline c.skip_whites-colon.ensures.whites.1 c.skip_whites-colon.ensures.all c.in-None.ensures.key c.if-is_apart.ensures;
  stepped = failed_moved c.requires.standing.standing.progress c.requires.standing.standing.escapes c.requires.standing.start;
  counted = λ u total q. tt;
}

pub returns-else-is_apart : goal.returns-else-is_apart
returns-else-is_apart c = record {
  tied = λ d root before j r z.
      c.end_inline.ensures.tied d root before j r
      (leaf_there z.inline c.skip_whites-colon.ensures.whites.1 c.skip_whites-colon.ensures.all c.in-None.ensures.key c.if-is_apart.ensures c.plain_place.ensures.other c.plain_place.ensures.plain refl refl refl refl);
  stepped = let p = c.requires.node in moved_past {at = c.args.after.now.node_start.at} {place = c.args.node.end} {less = 1} _ _ 0 _ (omega (arith, p.order)) p.boundary.0 (omega arith) c.end_inline.ensures.stepped;
  counted = λ u total q.
      let l : c.args.after.now.node_start.at ≤ c.args.node.end = omega (arith, c.requires.node.order) in
      c.end_inline.ensures.counted u total (later _ (length c.args.self.now.frames.items) total c.args.after.now.node_start.at c.args.node.end l q.opened);
}

pub skip_whites-colon-requires : goal.skip_whites-colon-requires
skip_whites-colon-requires c = c.requires.node.boundary

pub keyed_column-requires : goal.keyed_column-requires
keyed_column-requires c = c.requires.standing.start

pub take_first_key-requires-clause-standing : goal.take_first_key-requires-clause-standing
take_first_key-requires-clause-standing c = c.requires.standing

pub take_first_key-requires-clause-order : goal.take_first_key-requires-clause-order
take_first_key-requires-clause-order c = omega (arith, c.requires.node.order, c.skip_whites-colon.ensures.order)

pub take_first_key-requires-clause-next : goal.take_first_key-requires-clause-next
take_first_key-requires-clause-next c = c.in-Some.ensures.boundary

pub end_inline-requires-clause-standing : goal.end_inline-requires-clause-standing
end_inline-requires-clause-standing c = let s = c.requires.standing.standing in record { boundary = c.requires.node.boundary; progress = record { floor = s.progress.floor; from = s.progress.from; halt = s.progress.halt }; escapes = s.escapes }
