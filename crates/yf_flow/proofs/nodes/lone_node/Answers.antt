use Rattle.std.proofs.Common.{refl}
use Rattle.yf_flow.proofs.Content.NodeEnds.{lone_found}
use Rattle.yf_flow.proofs.nodes.lone_node.Goals as goal

pub returns-clause-answers : goal.returns-clause-answers
returns-clause-answers c = λ u b l.
    let n = c.empty.ensures in
    let e = c.in_ok-push_scalar.ensures in
    lone_found {fresh = c.empty.new.part} {mid = record { events = c.empty.new.part.events; comments = c.append.new.self; escapes = c.empty.new.part.escapes }} c.args.properties u b
    c.requires.chosen l n.events n.comments n.escapes refl c.in_ok-append.ensures refl e.pushed e.comments e.escapes
