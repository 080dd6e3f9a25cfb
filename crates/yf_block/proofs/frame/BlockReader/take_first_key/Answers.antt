use Rattle.std.proofs.Common.{◌≡◌, ℕ, ◌+◌, ◌∷◌, false, Some, reverse, ap, ◌∙◌, subst, arith}
use Rattle.std.proofs.lemmas.List.{length-reverse}
use Rattle.yf_flow.proofs.Stack.TiedClose.{popped}
use Rattle.yf_block.specs.declared.frame.Frame.{Frame}
use Rattle.yf_block.specs.declared.frame.CollectionKind.TheVariants.{Mapping}
use Rattle.yf_block.specs.ContentTied.{AtFirstKey}
use Rattle.yf_block.proofs.LineSteps.ContentMappings.{key_reads, key_no_feed, key_within, first_key_awaits}
use Rattle.yf_block.proofs.Stack.TiedNodes.{node_tied, entry_same}
use Rattle.yf_block.proofs.Ends.LookLemmas.{properties_before}
use Rattle.yf_block.proofs.Stack.TiedOpenings.{room_there}
use Rattle.yf_block.proofs.Runs.CountedSteps.{pushed_counted}
use Rattle.yf_block.proofs.Runs.MovedLemmas.{awaited_moved}
use Rattle.yf_block.proofs.frame.BlockReader.take_first_key.Goals as goal

pub returns : goal.returns
returns c = record {
  tied = λ d root before j r z.
      let depth = z.depth in
      let earlier = z.earlier in
      let a = z.key in
      let n = length-reverse c.args.self.now.frames.items in
      let there = a.inline.depth_is in
      let same : depth ≡ c.len.result = omega (arith, n, there, c.len.ensures.value) in
      let k = subst (λ (x : ℕ). AtFirstKey c.args.scope.text.now d root before (reverse c.args.self.now.frames.items) x c.args.after.now c.args.facts.now c.args.column c.args.colon c.args.self.now.progress earlier c.args.self.now.part) same a in
      let start = k.inline.there.content.start in
      let o = room_there start in
      let room : c.len.result + start.room ≡ c.args.scope.limit = omega (arith, n, o, r, c.len.ensures.value) in
      let e = c.entry_at-entry.ensures in
      let within = key_within k in
      let note = e.note (λ q. absurd (key_no_feed k q)) (λ l. start.read.floor_line (omega (arith, within, l))) in
      let key = c.in_ok-begin_mapping.ensures.key earlier start.room start.read.text.utf8 start.wanted.narrow room (key_reads k) in
      let v = c.await_value.ensures in
      let shallow = start.mapping.shallow c.args.column (k.inline.there.content.column_is ∙ k.column_is) in
      let order = c.requires.order in
      node_tied _ v.step (first_key_awaits k key (entry_same c.entry_at-entry.result c.args.after.now.node_start.at (Some c.args.colon) e.start e.colon) note
      (popped _ _ _ c.in_ok-push.ensures.ok ∙ ap (λ (f : Frame). f ∷ reverse c.args.self.now.frames.items) (c.new-frame.ensures
      ∙ ap (λ (x : ℕ). record { kind = Mapping; column = c.args.column; event = x; entry_event = x; awaits_colon = false }) k.inline.counts.events))
      (v.wanted (omega (arith, shallow, order))) v.last v.floor v.colons v.halt);
  stepped = awaited_moved c.await_value.ensures c.requires.standing.standing.progress c.in_ok-begin_mapping.ensures.escapes c.requires.order c.requires.next;
  counted = λ u total q. pushed_counted c.args.scope.text.now c.args.scope.limit total _ _ _ _ _ c.await_value.ensures.step c.in_ok-push.ensures.ok q;
}

pub begin_mapping-requires-clause-place : goal.begin_mapping-requires-clause-place
begin_mapping-requires-clause-place c = c.requires.standing.standing.boundary

pub begin_mapping-requires-clause-escapes : goal.begin_mapping-requires-clause-escapes
begin_mapping-requires-clause-escapes c = c.requires.standing.standing.escapes

pub begin_mapping-requires-clause-properties : goal.begin_mapping-requires-clause-properties
begin_mapping-requires-clause-properties c = properties_before c.args.scope.text.now c.args.after.now.node_start.at c.args.after.now.at c.args.after.now.inner c.requires.standing.properties

pub await_value-requires : goal.await_value-requires
await_value-requires c = omega (arith, c.requires.next.0)
