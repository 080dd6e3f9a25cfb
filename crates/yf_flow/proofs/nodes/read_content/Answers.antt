use Rattle.std.proofs.Common.{rules, to_z-of_z, SFits, w32}
use Rattle.std.proofs.lemmas.Result.{IfOk-weaker}
use Rattle.yf_flow.proofs.Content.ContentEnds.{content_counted, content_ends, for_each_base}
use Rattle.yf_flow.specs.LeafEnds.{begun_of}
use Rattle.yf_flow.proofs.Content.EndsAlone.{alone_counted, alone_ends}
use Rattle.yf_flow.proofs.nodes.read_content.Goals as goal

pub returns-then-content_begins-clause-answers : goal.returns-then-content_begins-clause-answers
returns-then-content_begins-clause-answers c = λ u b room r.
    let fits : SFits w32 c.args.scene.now.indentation = search rules in
    IfOk-weaker _ _ _ (λ e f.
    content_ends _ c.args.at c.args.depth c.args.scene.now.limit c.args.lead.now c.args.part.now c.json_content.new.part c.end_node.new.part u c.in-Some.ensures room r c.in_ok-begun-in-Some.begun e
    c.in_ok-begun-in-Some.ensures.exact f) (for_each_base _ _ c.end_node.result (rw (to_z-of_z fits) at c.end_node.ensures.ends))

pub returns-then-content_begins-clause-counted : goal.returns-then-content_begins-clause-counted
returns-then-content_begins-clause-counted c = λ u total l.
    c.end_node.ensures.counted u total (content_counted _ _ _ c.args.at _ _ total _ _ _ _ _ c.in_ok-begun-in-Some.begun u l c.in_ok-begun-in-Some.ensures.exact c.in_ok-begun-in-Some.ensures.begun)

pub json_content-requires-clause-awaited : goal.json_content-requires-clause-awaited
json_content-requires-clause-awaited c = record { boundary = c.requires.boundary; escapes = c.requires.escapes }

pub returns-else-content_begins-clause-answers : goal.returns-else-content_begins-clause-answers
returns-else-content_begins-clause-answers c = λ u b room r.
    IfOk-weaker _ _ _ (λ e f.
    content_ends _ c.args.at c.args.depth c.args.scene.now.limit c.args.lead.now c.args.part.now c.plain_ending.new.part c.plain_ending.new.part u c.in-Some.ensures room r (begun_of e) e f.exact
    (λ base z. alone_ends _ _ base _ e)) c.plain_ending.ensures

pub returns-else-content_begins-clause-counted : goal.returns-else-content_begins-clause-counted
returns-else-content_begins-clause-counted c = λ u total l.
    IfOk-weaker _ _ _ (λ e f. alone_counted _ _ _ e (content_counted _ _ _ c.args.at _ _ total _ _ _ _ _ (begun_of e) u l f.exact f.begun)) c.plain_ending.ensures
