-- The results of the reader of content after properties, by the recursive reader: content written after the contents
-- of a part, with the lead of the node; or none within the limit of further collections.
use Rattle.std.specs.Prelude.{◌≡◌, ℕ, ◌+◌, ℤ, false, List, ◌∷◌, Option, Some, None}
use Rattle.yf_chars.specs.declared.context.Ctx.{Ctx}
use Rattle.yf_props.specs.Props.{PropsValue, no_props, props_value}
use Rattle.yf_events.specs.Event.{EventValue, EventInText}
use Rattle.yf_events.specs.declared.event.Span.{Span}
use Rattle.yf_events.specs.declared.part.Part.{Part}
use Rattle.yf_grammar.specs.Productions.Meaning.{Meaning, plain_event, from_to, event_with}
use Rattle.yf_grammar.specs.FlowReader.Parser.{ParsedNode}
use Rattle.yf_flow.specs.declared.frame.Node.{Node}
use Rattle.yf_flow.specs.declared.node.Lead.{Lead}
use Rattle.yf_flow.specs.declared.nodes.Ending.{Ending}
use Rattle.yf_flow.specs.declared.nodes.Ending.TheVariants.{End, Nothing as NoEnd, TooDeep as TooDeepThere}
use Rattle.yf_flow.specs.NodeStarts.{PartGrown, ContentAt, is_lined, lead_event}
use Rattle.yf_flow.specs.StackMeaning.{NotesFilled}

-- a meaning is written after the contents of a part: its first event, which ends there, has the properties, the start
-- and the entry of the lead; the others have their notes
pub record WrittenWith (t : List ℕ) (lead : Lead) (x : Meaning) (span : Option Span) (end : ℕ) (old new : Part) : Type 0 where
  pub event : EventValue
  pub others : List EventInText
  pub noted_others : List EventInText
  pub events : x.events ≡ plain_event event span ∷ others
  pub no_properties : event_with no_props event ≡ event
  pub no_lines : (props : PropsValue) → is_lined (event_with props event) ≡ false
  pub noted : NotesFilled t 0 others noted_others
  pub added : PartGrown old new (lead_event lead (event_with (props_value lead.props) event) end ∷ noted_others) x.comments x.escapes

pub record ContentRead (t : List ℕ) (room : ℕ) (n : ℤ) (c : Ctx) (i depth : ℕ) (lead : Lead) (old new : Part) (node : Node) : Type 0 where
  pub answer : ParsedNode
  pub read : ContentAt t room n c i (Some answer)
  pub end : node.end ≡ answer.end
  pub json : node.json ≡ answer.json
  pub deepest : node.deepest ≡ depth + answer.height
  pub finish : answer.meaning.finish ≡ answer.end
  pub written : WrittenWith t lead answer.meaning (from_to i node.end) node.end old new

abbrev pub ContentEnds : List ℕ → ℤ → Ctx → ℕ → ℕ → ℕ → Lead → Part → Part → Ending → Type 0
ContentEnds t n c room i depth lead old new (End node) = ContentRead t room n c i depth lead old new node
ContentEnds t n c room i depth lead old new NoEnd = ContentAt t room n c i None
ContentEnds t n c room i depth lead old new (TooDeepThere p) = ContentAt t room n c i None
