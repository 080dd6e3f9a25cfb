use Rattle.std.proofs.Common.{◌++◌, ◌∷◌, [], length, refl, ap, ◌∙◌, arith}
use Rattle.std.proofs.lemmas.List.{length-reverse}
use Rattle.yf_block.specs.declared.frame.Frame.{Frame}
use Rattle.yf_block.proofs.LineSteps.OpeningLemmas.{opening_full, kind_full}
use Rattle.yf_block.proofs.Stack.TiedOpenings.{sequence_opens, mapping_opened}
use Rattle.yf_block.proofs.Runs.CountedSteps.{first_counted}
use Rattle.yf_block.proofs.Runs.MovedLemmas.{deep_moved}
use Rattle.yf_block.proofs.frame.BlockReader.open_collection.Goals as goal

pub returns-then-len-scope : goal.returns-then-len-scope
returns-then-len-scope c = record {
  tied = λ d root before j r a.
      let n = length-reverse c.args.self.now.frames.items in
      opening_full c.args.kind a c.requires.sign (omega (arith, n, r, c.len.ensures.value, c.if-len-scope.true));
  stepped = deep_moved c.requires.standing.progress c.requires.standing.escapes c.requires.standing.boundary;
  counted = λ u total q. kind_full c.args.kind _ (length c.args.self.now.frames.items) total c.args.scope.limit c.args.at u c.requires.sign (omega (arith, c.len.ensures.value, c.if-len-scope.true)) q;
}

pub returns-in-Sequence : goal.returns-in-Sequence
returns-in-Sequence c = record {
  tied = λ d root before j r a.
      let n = length-reverse c.args.self.now.frames.items in
      let q = rw c.in-Sequence.is at a.column_is in
      let y = rw c.in-Sequence.is at c.requires.sign in
      let f = c.new-frame.ensures in
      let kind = ap (λ (z : Frame). z.kind) f ∙ c.in-Sequence.is in
      let event = ap (λ (z : Frame). z.event) f ∙ c.len-2.ensures in
      let settled = ap (λ (z : Frame). z.awaits_colon) f in
      c.take_item.ensures.tied d root before j r (record {
        sequence = kind;
        settled = settled;
        entry = sequence_opens a.start q y.0 (omega (arith, n, r, c.len.ensures.value, c.if-len-scope.false)) kind (ap (λ (z : Frame). z.column) f) event
            (c.in_ok-push.ensures ∙ ap (λ z. c.args.self.now.part.events ++ z ∷ []) (rw c.in-Sequence.is at c.collection_start-start.ensures)) refl refl;
      });
  stepped = c.take_item.ensures.stepped;
  counted = c.take_item.ensures.counted;
}

pub returns-in-Mapping : goal.returns-in-Mapping
returns-in-Mapping c = record {
  tied = λ d root before j r a.
      let n = length-reverse c.args.self.now.frames.items in
      let q = rw c.in-Mapping.is at a.column_is in
      let y = rw c.in-Mapping.is at c.requires.sign in
      let f = c.new-frame.ensures in
      let kind = ap (λ (z : Frame). z.kind) f ∙ c.in-Mapping.is in
      let event = ap (λ (z : Frame). z.event) f ∙ c.len-2.ensures in
      c.take_entry.ensures.tied d root before j r (record {
        mapping = kind;
        entry = mapping_opened a.start q y (omega (arith, n, r, c.len.ensures.value, c.if-len-scope.false)) kind (ap (λ (z : Frame). z.column) f) event
            (c.in_ok-push.ensures ∙ ap (λ z. c.args.self.now.part.events ++ z ∷ []) (rw c.in-Mapping.is at c.collection_start-start.ensures)) refl refl;
      });
  stepped = c.take_entry.ensures.stepped;
  counted = λ u total q. c.take_entry.ensures.counted u total (first_counted _ (length c.args.self.now.frames.items) total c.args.at (rw c.in-Mapping.is at c.requires.sign) q);
}

pub take_item-requires-clause-after : goal.take_item-requires-clause-after
take_item-requires-clause-after c = (rw c.in-Sequence.is at c.requires.sign).1

pub take_item-requires-clause-dash : goal.take_item-requires-clause-dash
take_item-requires-clause-dash c = (rw c.in-Sequence.is at c.requires.sign).0
