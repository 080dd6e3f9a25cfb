-- The faults of two rules on the layout of nodes. An index counts events from 0.
use Rattle.std.specs.Prelude.{◌≡◌, ◌≢◌, ℕ, ◌-◌, ◌<◌, true, if◌then◌else◌, List, slice_range, Option, Some}
use Rattle.std.specs.List.{Contains}
use Rattle.yf_forms.specs.Nodes.ContentStart.{content_start}
use Rattle.yf_forms.specs.Nodes.SingleNodes.{NodeAt, block_keys, kept_text_of}
use Rattle.yf_forms.specs.NormalForms.Normal.{LayoutSetting, setting_of}
use Rattle.yf_forms.specs.Nodes.OneLine.{bare}
use Rattle.yf_events.specs.Tree.{Node, DocumentTree, is_filled_flow, props_of, standing}
use Rattle.yf_forms.specs.declared.style.Style.{Style}
use Rattle.yf_events.specs.declared.event.Span.{Span}
use Rattle.yf_events.specs.declared.lists.Lists.{Lists}
use Rattle.yf_lines.specs.Lines.{PlaceOf, Table}
use Rattle.yf_rule_sets.specs.Passes.OuterFlow.{IsOutsideFlow, bracketed, is_flow}
use Rattle.yf_rule_sets.specs.RuleSets.QuestionMarks.{IsMarked}

-- x is the flow collection that begins at the event i, and is in no other one
pub record OuterFlow (r : Lists) (i : ℕ) (x : Node) : Type 0 where
  pub node : NodeAt r.events i x
  pub flow : is_flow x ≡ true
  pub outer : IsOutsideFlow r.events i

-- the wanted text of a flow collection from bracket to bracket, or `None` if it may not be kept on one line
abbrev pub wanted_text : List ℕ → LayoutSetting → Node → Option (List ℕ)
wanted_text t c x = if is_filled_flow x then kept_text_of t c x else Some (bare c.style x)

-- the text before the offset ends after the last column that a line may have
pub data EndsPastLimit (src : Table) (max_line end : ℕ) : Type 0 where
  follows : {line column : ℕ} → PlaceOf src.text (end - 1) line column → max_line < column → EndsPastLimit src max_line end

-- a flow collection with this span from bracket to bracket has another text than wanted, or has entries and ends after
-- the last column
pub data IsDisplaced (src : Table) (c : LayoutSetting) (x : Node) (inside : Span) : Type 0 where
  other_text : wanted_text src.text c x ≢ Some (slice_range src.text inside.start inside.end) → IsDisplaced src c x inside
  too_wide : is_filled_flow x ≡ true → EndsPastLimit src c.style.max_line inside.end → IsDisplaced src c x inside

-- flow-layout: the opening bracket of a flow collection that is in no other one and is displaced (`IsDisplaced`)
pub data LayoutFault (src : Table) (r : Lists) (house : Style) (i : ℕ) : ℕ → Type 0 where
  displaced : {x : Node} {s : Span} → OuterFlow r i x → (standing x).span ≡ Some s
      → IsDisplaced src (setting_of r house) x (bracketed src.text (props_of x) s) → LayoutFault src r house i (content_start src.text s (props_of x))

-- key-mark: the `?` of an entry of a block mapping outside of flow collections, if the house style writes the key
-- without it
pub record NeedlessMark (src : Table) (r : Lists) (house : Style) (trees : List DocumentTree) (i offset : ℕ) : Type 0 where
  pub key : Contains (block_keys src.text r house trees) (i, true)
  pub outside : IsOutsideFlow r.events i
  pub marked : IsMarked src.text r i offset
