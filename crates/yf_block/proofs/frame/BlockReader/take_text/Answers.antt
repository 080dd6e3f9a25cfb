use Rattle.std.proofs.Common.{◌≡◌, ◌+◌, reverse, length, arith}
use Rattle.std.proofs.lemmas.List.{length-reverse}
use Rattle.yf_block.proofs.LineSteps.ContentSteps.{text_properties, scalar_apart, scalar_there, nothing_read}
use Rattle.yf_block.proofs.Ends.LookLemmas.{properties_before}
use Rattle.yf_block.proofs.Stack.TiedOpenings.{room_there}
use Rattle.yf_block.proofs.Runs.CountedSteps.{later, held_later, held_after}
use Rattle.yf_block.proofs.Runs.MovedLemmas.{deep_moved, failed_moved, moved_later}
use Rattle.yf_block.proofs.frame.BlockReader.take_text.Goals as goal

pub returns-then-is_apart : goal.returns-then-is_apart
returns-then-is_apart c = record {
  tied = λ d root before j r a.
      let s = a.content.start in
      let belonging = c.requires.belonging s.ahead s.wanted.outer (text_properties a.text) in
      scalar_apart a c.args.self.now.progress.wanted.entry c.args.facts.now.lead c.args.facts.now.belonging belonging c.if-is_apart.ensures c.if-is_block_scalar_at.ensures;
  stepped = failed_moved c.requires.standing.progress c.requires.standing.escapes c.requires.start;
  counted = λ u total q. tt;
}

pub returns-then-is_block_scalar_at : goal.returns-then-is_block_scalar_at
returns-then-is_block_scalar_at c = record {
  tied = λ d root before j r a.
      let s = a.content.start in
      let belonging = c.requires.belonging s.ahead s.wanted.outer (text_properties a.text) in
      c.take_block_scalar.ensures.tied d root before j r (scalar_there a c.args.facts.now.belonging belonging c.if-is_apart.ensures c.if-is_block_scalar_at.ensures);
  stepped = moved_later {at = c.args.after.now.node_start.at} {place = c.args.after.now.at} {more = 0} {less = 0} _ _ _ (held_after _ _ _ c.args.after.now.inner c.requires.properties) (omega arith) c.take_block_scalar.ensures.stepped;
  counted = λ u total q.
      c.take_block_scalar.ensures.counted u total (later _ (length c.args.self.now.frames.items) total c.args.after.now.node_start.at c.args.after.now.at (held_after _ _ _ c.args.after.now.inner c.requires.properties) q);
}

pub returns-in-End : goal.returns-in-End
returns-in-End c = record {
  tied = λ d root before j r a.
      let s = a.content.start in
      let belonging = c.requires.belonging s.ahead s.wanted.outer (text_properties a.text) in
      let n = length-reverse c.args.self.now.frames.items in
      let o = room_there s in
      let there : c.len.result + s.room ≡ c.args.scope.limit = omega (arith, n, o, r, c.len.ensures.value) in
      let depth : c.len.result ≡ length (reverse c.args.self.now.frames.items) = omega (arith, n, c.len.ensures.value) in
      c.finish_inline.ensures.tied d root before j r (record {
        depth = c.len.result;
        earlier = c.args.self.now.part;
        inline = record {
          there = a;
          belonging = belonging;
          counts = c.requires.counts;
          depth_is = depth;
          read = rw c.in-End.is at (c.in_ok-node.ensures.answers s.read.text.utf8 s.wanted.narrow s.room there);
          no_scalar = c.if-is_block_scalar_at.ensures;
        };
      });
  stepped = c.finish_inline.ensures.stepped;
  counted = λ u total q.
      c.finish_inline.ensures.counted u total (record {
        deepest = rw c.in-End.is at (c.in_ok-node.ensures.counted u total c.args.after.now.node_start.at (held_later _ _ _ c.args.after.now.inner c.requires.properties) (omega (arith, q, c.len.ensures.value)));
        opened = q;
      });
}

pub returns-in-Nothing : goal.returns-in-Nothing
returns-in-Nothing c = record {
  tied = λ d root before j r a.
      let s = a.content.start in
      let n = length-reverse c.args.self.now.frames.items in
      let o = room_there s in
      let there : c.len.result + s.room ≡ c.args.scope.limit = omega (arith, n, o, r, c.len.ensures.value) in
      nothing_read a (rw c.in-Nothing.is at (c.in_ok-node.ensures.answers s.read.text.utf8 s.wanted.narrow s.room there)) c.if-is_block_scalar_at.ensures;
  stepped = failed_moved c.requires.standing.progress c.in_ok-node.ensures.escapes c.requires.standing.boundary;
  counted = λ u total q. tt;
}

pub returns-in-TooDeep : goal.returns-in-TooDeep
returns-in-TooDeep c = record {
  tied = λ d root before j r a.
      let s = a.content.start in
      let n = length-reverse c.args.self.now.frames.items in
      let o = room_there s in
      let there : c.len.result + s.room ≡ c.args.scope.limit = omega (arith, n, o, r, c.len.ensures.value) in
      nothing_read a (rw c.in-TooDeep.is at (c.in_ok-node.ensures.answers s.read.text.utf8 s.wanted.narrow s.room there)) c.if-is_block_scalar_at.ensures;
  stepped = deep_moved c.requires.standing.progress c.in_ok-node.ensures.escapes (rw c.in-TooDeep.is at c.in_ok-node.ensures.found);
  counted = λ u total q.
      rw c.in-TooDeep.is at (c.in_ok-node.ensures.counted u total c.args.after.now.node_start.at (held_later _ _ _ c.args.after.now.inner c.requires.properties) (omega (arith, q, c.len.ensures.value)));
}

pub take_block_scalar-requires : goal.take_block_scalar-requires
take_block_scalar-requires c = c.requires.standing

pub read_inline-requires-clause-boundary : goal.read_inline-requires-clause-boundary
read_inline-requires-clause-boundary c = c.requires.standing.boundary

pub read_inline-requires-clause-escapes : goal.read_inline-requires-clause-escapes
read_inline-requires-clause-escapes c = c.requires.standing.escapes

pub finish_inline-requires-clause-standing : goal.finish_inline-requires-clause-standing
finish_inline-requires-clause-standing c = record { standing = record { boundary = c.requires.standing.boundary; progress = c.requires.standing.progress; escapes = c.in_ok-node.ensures.escapes }; start = c.requires.start; properties = c.requires.properties }

pub read_inline-requires-clause-properties : goal.read_inline-requires-clause-properties
read_inline-requires-clause-properties c = properties_before c.args.scope.text.now c.args.after.now.node_start.at c.args.after.now.at c.args.after.now.inner c.requires.properties

pub finish_inline-requires-clause-node : goal.finish_inline-requires-clause-node
finish_inline-requires-clause-node c = let f = rw c.in-End.is at c.in_ok-node.ensures.found in let l = held_later c.args.scope.text.now c.args.after.now.node_start.at c.args.after.now.at c.args.after.now.inner c.requires.properties in record { boundary = f.boundary; order = omega (arith, f.order, l) }
