use Rattle.yf_flow.proofs.Content.NodeEnds.{lost_none, read_found}
use Rattle.yf_flow.proofs.nodes.node_found.Goals as goal
use Rattle.yf_flow.proofs.nodes.node_found.Goals.{in-Nothing, in-TooDeep}

pub returns-in-End-clause-answers : goal.returns-in-End-clause-answers
returns-in-End-clause-answers c = λ u b n e. read_found c.in-End.node c.args.part.now (rw c.in-End.is at n)

pub lone_node-requires : goal.lone_node-requires
lone_node-requires c = record { place = rw c.in-Ok-Some.field-0-is at c.in-Ok-Some.ensures.place; chosen = rw c.in-Ok-Some.field-0-is at c.in-Ok-Some.ensures.reads }

pub returns-in-Ok-Some-clause-answers : goal.returns-in-Ok-Some-clause-answers
returns-in-Ok-Some-clause-answers c = λ u b n e.
    c.lone_node.ensures.answers u b (elim c.match-ending.branch [
      | in-Nothing w ↦ rw w.in-Nothing.is at n
      | in-TooDeep w ↦ rw w.in-TooDeep.is at n
    ])

pub returns-in-Ok-None-clause-answers : goal.returns-in-Ok-None-clause-answers
returns-in-Ok-None-clause-answers c = λ u b n e.
    let s = rw c.in-Ok-None.field-0-is at c.in-Ok-None.ensures.reads in
    elim c.match-ending.branch [
      | in-Nothing w ↦ rw w.otherwise-is (lost_none s (rw w.in-Nothing.is at n))
      | in-TooDeep w ↦ rw w.otherwise-is (lost_none s (rw w.in-TooDeep.is at n), rw w.in-TooDeep.is at e)
    ]
