use Rattle.std.proofs.Common.{◌≡◌, ℕ, false, None, Some, ◌++◌, ◌∷◌, ◌∙◌, ap, sym}
use Rattle.std.proofs.lemmas.List.Elements.{All-same}
use Rattle.std.proofs.lemmas.Result.{IfOk-at_ok}
use Rattle.std.specs.Str.{IsCharBoundary}
use Rattle.yf_props.specs.Props.{props_value}
use Rattle.yf_grammar.specs.Productions.Meaning.{event_with, start_of}
use Rattle.yf_flow.specs.NodeStarts.{bare_lead, lead_event}
use Rattle.yf_flow.specs.declared.node.Lead.{Lead}
use Rattle.yf_block.specs.InlineTied.{started}
use Rattle.yf_block.specs.PropertiesAnswers.{lead_at}
use Rattle.yf_block.specs.declared.frame.CollectionKind.TheVariants.{Mapping}
use Rattle.yf_block.specs.declared.frame.AwaitedNode.{AwaitedNode}
use Rattle.yf_block.proofs.LineSteps.ContentMappings.{put_again}
use Rattle.yf_block.proofs.Runs.WorkedLemmas.{where_worked}
use Rattle.yf_block.proofs.inline.begin_mapping.Goals as goal

bare_started : (at : ℕ) (w : AwaitedNode) {lead : Lead} → w.outer ≡ None → lead ≡ bare_lead at w.entry
    → lead_event lead (event_with (props_value lead.props) (start_of false false)) at ≡ started Mapping at w
bare_started at w o e =
    ap (λ (l : Lead). lead_event l (event_with (props_value l.props) (start_of false false)) at) (e ∙ sym (ap (λ z. lead_at at z w.entry) o))

pub returns-in-None-clause-key : goal.returns-in-None-clause-key
returns-in-None-clause-key c = λ earlier room u l o r.
    let p = c.put_before.ensures in
    where_worked c.put_before.result (λ done works. put_again r c.args.entry c.if-is_joined.ensures
    (λ before x xs e q. IfOk-at_ok _ works (p.events before x xs e q) ∙ ap (λ z. before ++ z ∷ record x { entry = Some c.args.entry } ∷ xs)
    (bare_started c.args.after.now.node_start.at c.args.wanted.now c.in-None.is c.bare-lead.ensures)) p.comments p.escapes)

pub begin_held_mapping-requires : goal.begin_held_mapping-requires
begin_held_mapping-requires c = record { place = c.requires.place; properties = c.requires.properties; escapes = c.requires.escapes }

pub begin_held_mapping-requires-in-Some : goal.begin_held_mapping-requires-in-Some
begin_held_mapping-requires-in-Some c = record { place = c.requires.place; properties = c.requires.properties; escapes = c.requires.escapes }

pub returns-in-None-clause-escapes : goal.returns-in-None-clause-escapes
returns-in-None-clause-escapes c = where_worked c.put_before.result (λ _ _. All-same (IsCharBoundary c.args.scope.text.now) _ _ c.put_before.ensures.escapes c.requires.escapes)
