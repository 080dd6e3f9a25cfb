use Rattle.std.proofs.Common.{refl, sym, ◌∙◌, [], arith, rules, to_z-of_z, SFits, w32}
use Rattle.std.proofs.lemmas.Result.{IfOk-weaker}
use Rattle.yf_chars.proofs.Tests.{glue_more}
use Rattle.yf_grammar.specs.FlowReader.Parser.Parses.{properties_end, properties_before_other}
use Rattle.yf_props.proofs.SeparationEnds.{separate_forward}
use Rattle.yf_flow.proofs.Content.BegunLemmas.{begins_after, leaf_begins}
use Rattle.yf_flow.proofs.Content.NodeBegunLemmas.{with_begun, plain_leaf_with, lone_leaf}
use Rattle.yf_flow.proofs.node.propertied_node.Goals as goal
use Rattle.yf_flow.proofs.node.propertied_node.Goals.{in-Some+else-content_begins+in_ok-plain-in-Some+in-None-2, in-None}

pub json_content-requires-clause-awaited : goal.json_content-requires-clause-awaited
json_content-requires-clause-awaited c = record { boundary = rw c.in-Some.is at c.in_ok-comments.ensures.boundary; escapes = c.requires.awaited.escapes }

pub returns-then-content_begins : goal.returns-then-content_begins
returns-then-content_begins c =
    let fits : SFits w32 c.args.cursor.scene.indentation = search rules in
    let s = rw (to_z-of_z fits, c.in-Some.is) at c.in_ok-comments.ensures.reads in
    let o = separate_forward s.derived in
    let old = c.args.part.now in
    begins_after _ _ c.args.cursor c.in-Some.field-0.end old _ _ c.json_content.result c.json_content.ensures (omega (arith, o, c.requires.properties.place.order)) refl
    (with_begun c.requires.properties.chosen s (sym c.content_begins.ensures ∙ c.if-content_begins.true) c.args.cursor.depth c.args.cursor.scene.limit old
    (record { events = old.events; comments = _; escapes = old.escapes }) _ (record { start = refl; props = refl; tag = refl; first = refl }) refl
    (glue_more _ _ _ c.in_ok-append.ensures c.in_ok-append-in-Some.ensures) refl)

pub returns-in-Some-2 : goal.returns-in-Some-2
returns-in-Some-2 c =
    let fits : SFits w32 c.args.cursor.scene.indentation = search rules in
    let s = rw (to_z-of_z fits, c.in-Some.is) at c.in_ok-comments.ensures.reads in
    let o = separate_forward s.derived in
    let r = rw c.in-Some-2.is at c.in_ok-plain-in-Some.ensures.reads in
    let p = rw c.in-Some-2.is at c.in_ok-plain-in-Some.ensures.place in
    IfOk-weaker _ _ _
    (λ b e.
    leaf_begins b e (record { boundary = p.boundary; order = omega (arith, o, p.order, c.requires.properties.place.order) }) refl c.requires.awaited.escapes
    (plain_leaf_with c.requires.properties.chosen s (record { start = refl; props = refl; tag = refl; first = refl }) _ r.0 (sym c.content_begins.ensures ∙ c.if-content_begins.false) r.1 r.2
    (record { events = c.args.part.now.events; comments = _; escapes = c.args.part.now.escapes }) refl (glue_more _ _ _ c.in_ok-append.ensures c.in_ok-append-in-Some-2.ensures) refl
    e.events e.comments e.escapes))
    c.push_leaf.ensures

pub returns : goal.returns
returns c =
    let fits : SFits w32 c.args.cursor.scene.indentation = search rules in
    IfOk-weaker _ _ _
    (λ b e.
    leaf_begins b e c.requires.properties.place refl c.requires.awaited.escapes
    (elim c.match-branch-3.branch [
      | in-Some+else-content_begins+in_ok-plain-in-Some+in-None-2 w ↦
          (let s = rw (to_z-of_z fits, w.in-Some.is) at c.in_ok-comments.ensures.reads in
          lone_leaf {cs = []} c.requires.properties.chosen (record { start = refl; props = refl; tag = refl; first = refl })
          (λ l. properties_before_other c.requires.properties.chosen s (sym w.content_begins.ensures ∙ w.if-content_begins.false) (rw w.in-None-2.is at w.in_ok-plain-in-Some.ensures.reads))
          (record { events = c.args.part.now.events; comments = _; escapes = c.args.part.now.escapes }) refl c.in_ok-append.ensures refl e.events e.comments e.escapes)
      | in-None w ↦
          lone_leaf {cs = []} c.requires.properties.chosen (record { start = refl; props = refl; tag = refl; first = refl })
          (λ l. properties_end c.requires.properties.chosen (rw (to_z-of_z fits, w.in-None.is) at c.in_ok-comments.ensures.reads))
          (record { events = c.args.part.now.events; comments = _; escapes = c.args.part.now.escapes }) refl c.in_ok-append.ensures refl e.events e.comments e.escapes
    ]))
    c.push_leaf-2.ensures
