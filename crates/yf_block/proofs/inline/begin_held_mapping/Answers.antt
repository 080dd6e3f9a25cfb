use Rattle.std.proofs.Common.{false, take, ◌++◌, ◌∷◌, [], Some, ◌∙◌, ap}
use Rattle.std.proofs.lemmas.List.Elements.{All-same, All-take}
use Rattle.std.proofs.lemmas.Result.{IfOk-at_ok}
use Rattle.std.specs.Str.{IsCharBoundary}
use Rattle.yf_events.specs.Event.{placed_value}
use Rattle.yf_props.specs.Props.{props_value}
use Rattle.yf_grammar.specs.Productions.Meaning.{event_with, start_of}
use Rattle.yf_flow.specs.NodeStarts.{lead_event}
use Rattle.yf_flow.specs.declared.node.Lead.{Lead}
use Rattle.yf_block.proofs.LineSteps.ContentMappings.{put_again, read_again}
use Rattle.yf_block.proofs.Runs.WorkedLemmas.{where_worked}
use Rattle.yf_block.proofs.inline.begin_held_mapping.Goals as goal

pub returns-then-is_joined-clause-key : goal.returns-then-is_joined-clause-key
returns-then-is_joined-clause-key c = λ earlier room u l o r.
    read_again r c.args.entry c.in_ok-_again._again (c.in_ok-push.ensures ∙ ap (λ z. z ++ placed_value c.collection_start.result ∷ []) c.cut.ensures.events
    ∙ ap (λ z. take c.args.facts.now.before.events c.args.part.now.events ++ z ∷ []) c.collection_start.ensures) c.cut.ensures.comments c.cut.ensures.escapes
    (rw c.lead_of-lead.ensures at (c.in_ok-_again.ensures.answers u l room o))

pub returns-clause-key : goal.returns-clause-key
returns-clause-key c = λ earlier room u l o r.
    let p = c.put_before.ensures in
    where_worked c.put_before.result (λ done works. put_again r c.args.entry c.if-is_joined.ensures
    (λ before x xs e q. IfOk-at_ok _ works (p.events before x xs e q) ∙ ap (λ z. before ++ z ∷ record x { entry = Some c.args.entry } ∷ xs)
    (ap (λ (l : Lead). lead_event l (event_with (props_value l.props) (start_of false false)) c.args.after.now.node_start.at) c.lead_of-lead-2.ensures)) p.comments p.escapes)

pub read_inline-requires : goal.read_inline-requires
read_inline-requires c = record { boundary = c.requires.place; properties = c.requires.properties; escapes = All-same (IsCharBoundary c.args.scope.text.now) _ _ c.cut.ensures.escapes (All-take (IsCharBoundary c.args.scope.text.now) c.args.facts.now.before.escapes c.args.part.now.escapes c.requires.escapes) }

pub returns-then-is_joined-clause-escapes : goal.returns-then-is_joined-clause-escapes
returns-then-is_joined-clause-escapes c = c.in_ok-_again.ensures.escapes

pub returns-clause-escapes : goal.returns-clause-escapes
returns-clause-escapes c = where_worked c.put_before.result (λ _ _. All-same (IsCharBoundary c.args.scope.text.now) _ _ c.put_before.ensures.escapes c.requires.escapes)
