use Rattle.std.proofs.lemmas.List.Elements.{All-nil}
use Rattle.yf_flow.specs.Depth.{DepthCounted}
use Rattle.yf_flow.proofs.nodes.end_node.Goals as goal

pub returns-in-Opened-clause-ends : goal.returns-in-Opened-clause-ends
returns-in-Opened-clause-ends c = λ base q. let p = rw c.in-Opened.is at q in rw c.in-Opened.is (c.read_entries.ensures.tied base p.0 p.1)

pub returns-in-Opened-clause-counted : goal.returns-in-Opened-clause-counted
returns-in-Opened-clause-counted c = λ u total b. c.read_entries.ensures.counted total (record { utf8 = u; innermost = rw c.in-Opened.is at b; others = All-nil (DepthCounted c.args.cursor.scene.text.now total c.in-Opened.frame.entry) })

pub returns-in-Leaf-clause-counted : goal.returns-in-Leaf-clause-counted
returns-in-Leaf-clause-counted c = λ u total b. rw c.in-Leaf.is at b

pub returns-in-Nothing-clause-counted : goal.returns-in-Nothing-clause-counted
returns-in-Nothing-clause-counted c = λ u total b. tt

pub returns-in-TooDeep-clause-counted : goal.returns-in-TooDeep-clause-counted
returns-in-TooDeep-clause-counted c = λ u total b. rw c.in-TooDeep.is at b
