-- The findings of the rule indentation, event by event. An index counts events from 0.
use Rattle.std.specs.Prelude.{◌≡◌, ℕ, ◌++◌, ◌&&◌, if◌then◌else◌, true, false, List, [], drop, slice_get, Option, Some, None}
use Rattle.std.specs.List.{Contains}
use Rattle.std.specs.Option.{unwrap_or}
use Rattle.yf_forms.specs.Nodes.ContentStart.{content_start}
use Rattle.yf_forms.specs.declared.style.Style.{Style}
use Rattle.yf_events.specs.Event.{EventValue, sequence_starts, mapping_starts, scalar_node}
use Rattle.yf_events.specs.Reading.{events_of}
use Rattle.yf_events.specs.declared.event.ScalarStyle.{ScalarStyle}
use Rattle.yf_events.specs.declared.event.Span.{Span}
use Rattle.yf_events.specs.declared.lists.Lists.{Lists}
use Rattle.yf_lines.specs.Lines.{LinesBegunAt, Table}
use Rattle.yf_props.specs.Props.{PropsValue}
use Rattle.yf_rule_sets.specs.Passes.Entries.{column_at, entries_from, unmarked_at}
use Rattle.yf_rule_sets.specs.RuleSets.Exact.{IsTheOne}
use Rattle.yf_rule_sets.specs.Passes.ContextPass.{IsPass}
use Rattle.yf_rule_sets.specs.RuleSets.Scalars.{BlockContent, IsScalar, is_block_style}
use Rattle.yf_rule_sets.specs.Passes.NodeContexts.{Stood, run}
use Rattle.yf_rule_sets.specs.Passes.NodeColumns.{is_other, wanted_column, wanted_indent}
use Rattle.yf_rule_sets.specs.declared.facts.scalars.ContentStart.{ContentStart}
use Rattle.yf_rule_sets.specs.declared.facts.scalars.ScalarLines.{ScalarLines}
use Rattle.yf_rule_sets.specs.declared.facts.node_context.ContextFrame.{ContextFrame}
use Rattle.yf_rule_sets.specs.declared.facts.node_context.NodeContext.{NodeContext}

-- the event of index i is a block scalar with a content line: the offset of its header, and the indentation of its
-- content
pub data ContentAt (src : Table) (r : Lists) (i : ℕ) : ℕ × ℕ → Type 0 where
  content_at : {props : PropsValue} {style : ScalarStyle} {text : List ℕ} {s : Span} (follows first indent : ℕ) → IsScalar r i props style text s → is_block_style style ≡ true
      → LinesBegunAt src.lines (content_start src.text s props) follows → BlockContent src.lines text follows first indent
      → ContentAt src r i (content_start src.text s props, indent)

-- the offset of the header and the indentation of the content, as the code has them, if there is a content line
abbrev pub if_content : ℕ → Option ContentStart → Option (ℕ × ℕ)
if_content start None = None
if_content start (Some content) = Some (start, content.indent)

-- these two numbers from the lines of a scalar: a block scalar with a content line has them
abbrev pub content_in : Option ScalarLines → Option (ℕ × ℕ)
content_in None = None
content_in (Some lines) = if_content lines.start lines.content

-- the first entry, if it is at another column than wanted
abbrev pub entry_fault : ℕ → Option ℕ → Option ℕ → Option ℕ
entry_fault offset None wanted = None
entry_fault offset (Some column) wanted = if is_other column wanted then Some offset else None

-- the header, if the content has another indentation than wanted
abbrev pub content_fault : Option (ℕ × ℕ) → Option ℕ → Option ℕ
content_fault None wanted = None
content_fault (Some content) wanted = if is_other content.1 wanted then Some content.0 else None

-- the fault of one event
abbrev pub fault_of : Style → EventValue → NodeContext → Option (ℕ × ℕ) → Option ℕ
fault_of house (sequence_starts flow props) s content = entry_fault s.first s.column (wanted_column house (true && s.is_implicit_value) s.outer)
fault_of house (mapping_starts flow props) s content = entry_fault s.first s.column (wanted_column house (false && s.is_implicit_value) s.outer)
fault_of house (scalar_node props style text) s content = content_fault content (wanted_indent house s.outer)
fault_of house _ s content = None

-- the context of the node s
abbrev pub standing_at : List ℕ → Lists → List ℕ → Stood → NodeContext
standing_at t r columns s =
    record { outer = s.around; is_implicit_value = s.beside; column = column_at t r.events columns s.at; first = unwrap_or (entries_from t (drop s.at r.events)) 0 }

-- the offset of the fault of the node s, if it has one
pub data AtFault (src : Table) (r : Lists) (house : Style) (columns : List ℕ) (s : Stood) : ℕ → Type 0 where
  at_fault : {e : EventValue} {o : ℕ} (content : Option (ℕ × ℕ)) → slice_get (events_of r) s.at ≡ Some e → IsTheOne (ContentAt src r s.at) content
      → fault_of house e (standing_at src.text r columns s) content ≡ Some o → AtFault src r house columns s o

-- the offsets are those at fault of these nodes
pub record FoundBy (P : Stood → ℕ → Type 0) (nodes : List Stood) (offsets : List ℕ) : Type 0 where
  pub only : (o : ℕ) → Contains offsets o → (s : Stood) × Contains nodes s × P s o
  pub all : (s : Stood) (o : ℕ) → Contains nodes s → P s o → Contains offsets o

-- the state of the pass before the event of index i: the collections st are open, and these offsets have been found
pub record IndentPassAt (src : Table) (r : Lists) (house : Style) (columns : List ℕ) (begun i : ℕ) (st : List ContextFrame) (offsets : List ℕ) : Type 0 where
  pub nodes : List Stood
  pub pass : IsPass src.text r.events columns begun i
  pub left : nodes ++ run (column_at src.text r.events columns) (unmarked_at src.text r.events) i st (drop i r.events)
      ≡ run (column_at src.text r.events columns) (unmarked_at src.text r.events) 0 [] r.events
  pub found : FoundBy (AtFault src r house columns) nodes offsets
