use Rattle.std.proofs.Common.{arith, refl, ap, ◌∙◌}
use Rattle.yf_events.specs.Event.{alias_node}
use Rattle.yf_flow.specs.NodeStarts.{lead_event}
use Rattle.yf_flow.proofs.Content.BegunLemmas.{begins_after}
use Rattle.yf_flow.proofs.Content.NodeBegunLemmas.{alias_leaf, bare_begun}
use Rattle.yf_flow.proofs.Ends.Frames.{pushed_longer}
use Rattle.yf_flow.proofs.Ends.Forward.{alias_forward}
use Rattle.yf_flow.proofs.node.begin_node.Goals as goal

pub returns-in-Some : goal.returns-in-Some
returns-in-Some c =
    let f = alias_forward c.in-Some.ensures.reads.derived in
    let l = pushed_longer _ _ _ c.in_ok-push-in-Some.ensures in
    record {
      exact = alias_leaf _ c.in-Some.ensures.reads c.in_ok-push-in-Some.ensures (c.placed.ensures ∙ ap (λ w. lead_event w (alias_node c.in-Some.name.now) c.in-Some.end) c.bare-lead.ensures) refl refl;
      begun = (record { boundary = c.in-Some.ensures.boundary; order = omega (arith, f) }, l);
      grows = omega (arith, l);
      escapes = c.requires.escapes;
    }

pub returns-in-None-2 : goal.returns-in-None-2
returns-in-None-2 c =
    let cursor = c.args.cursor in
    let old = c.args.part.now in
    begins_after _ _ cursor cursor.at old old _ c.begin_content.result c.begin_content.ensures (omega arith) refl
    (bare_begun cursor.depth cursor.scene.limit c.args.entry old _ _ c.bare.ensures c.in-None.ensures.reads (rw c.in-None-2.is at c.in_ok-properties.ensures.reads))

pub propertied_node-requires-clause-properties : goal.propertied_node-requires-clause-properties
propertied_node-requires-clause-properties c = record { place = rw c.in-Some-2.is at c.in_ok-properties.ensures.place; chosen = rw c.in-Some-2.is at c.in_ok-properties.ensures.reads }
