use Rattle.std.proofs.Common.{rules, to_z-of_z, SFits, w32}
use Rattle.yf_flow.proofs.Ends.Frames.{none_outside}
use Rattle.yf_flow.proofs.Stack.CountLemmas.{begun_counted}
use Rattle.yf_flow.proofs.Content.NodeEnds.{nothing_written, nothing_kept, begun_ends}
use Rattle.yf_flow.proofs.nodes.read_node.Goals as goal

pub begin_node-requires : goal.begin_node-requires
begin_node-requires c = record { boundary = c.requires.boundary; escapes = none_outside c.args.scene.text.now _ c.requires.escapes }

pub returns-in_ok-ending-in-Some-clause-answers : goal.returns-in_ok-ending-in-Some-clause-answers
returns-in_ok-ending-in-Some-clause-answers c = λ t b.
    let fits : SFits w32 c.args.scene.indentation = search rules in
    let w = nothing_kept (nothing_written c.requires.events c.requires.comments c.requires.escapes) in
    let begun = c.in_ok-begun-in-Some.ensures in
    let ending = c.in_ok-ending-in-Some.ensures in
    let node = begun_ends _ _ _ c.begin_node.new.part c.end_node.new.part t c.in-Some.ensures w c.in_ok-begun-in-Some.begun c.in_ok-ending-in-Some.ending begun.exact (rw (to_z-of_z fits) at ending.ends) in
    let count = begun_counted _ _ _ c.args.at _ _ _ _ _ _ c.in_ok-begun-in-Some.begun t begun.exact begun.begun in
    c.node_found.ensures.answers t b node (ending.counted t _ count)
