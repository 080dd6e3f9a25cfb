use Rattle.std.proofs.Common.{arith, sym, ap, ◌∙◌, ◌++◌, append-nil, map}
use Rattle.yf_events.specs.Content.{item_value}
use Rattle.yf_events.proofs.ContentRuns.{event_added, nodes_at_start, nodes_past}
use Rattle.yf_events.proofs.content.nodes.Goals as goal

pub loop-i-init : goal.loop-i-init
loop-i-init c = rw c.new-items.ensures.items (nodes_at_start c.args.reading.now)

pub loop-i-preserved : goal.loop-i-preserved
loop-i-preserved c =
    event_added c.args.reading.now c.loop-i.i _ _ _ (map item_value c.loop-i.items.items) _ _ c.event.ensures c.resolved_at_cursor-tag.ensures c.item.ensures c.in_ok-add_item.ensures c.loop-i.invariant

pub returns : goal.returns
returns c =
    let none = nodes_past c.args.reading.now c.loop-i.i (omega (arith, c.len-i-end.ensures, c.loop-i-test.false)) in
    sym (append-nil (map item_value c.loop-i.items.items)) ∙ ap (λ w. map item_value c.loop-i.items.items ++ w) (sym none) ∙ c.loop-i.invariant
