-- The details of the rule flow-layout: what is found, and what the house style wants. An index counts events from 0.
use Rattle.std.specs.Prelude.{◌≡◌, ◌≢◌, ℕ, ◌+◌, ◌-◌, ◌<◌, ◌≤◌, ◌==◌, true, false, if◌then◌else◌, List, length, slice_get, slice_range, Option, Some, None, IfSome}
use Rattle.yf_chars.specs.Class.{is_break_char}
use Rattle.yf_chars.specs.Text.{code}
use Rattle.yf_events.specs.Tree.{DocumentTree, Node, TreesOf, is_filled_flow, props_of, standing}
use Rattle.yf_events.specs.declared.event.Span.{Span}
use Rattle.yf_events.specs.declared.lists.Lists.{Lists}
use Rattle.yf_forms.specs.Nodes.OneLine.{bare, width}
use Rattle.yf_forms.specs.Nodes.SingleNodes.{kept_text_of}
use Rattle.yf_forms.specs.NormalForms.Normal.{LayoutSetting, setting_of}
use Rattle.yf_forms.specs.NormalForms.Textual.{CommentsAscend}
use Rattle.yf_forms.specs.declared.style.Style.{Style}
use Rattle.yf_lines.specs.Lines.{PlaceOf, Table}
use Rattle.yf_ranges.specs.NodeDetails.{IsKnown, NodeDetail, NodeDetails}
use Rattle.yf_ranges.specs.declared.detail.Detail.{Detail}
use Rattle.yf_ranges.specs.declared.detail.Message.{Message}
use Rattle.yf_ranges.specs.declared.detail.Message.TheVariants as Says
use Rattle.yf_rule_sets.specs.Passes.OuterFlow.{bracketed}
use Rattle.yf_rule_sets.specs.RuleSets.Layouts.{LayoutFault, OuterFlow}

-- a line break begins or goes on at an offset of the text from one offset to another
pub record HasBreak (t : List ℕ) (start end : ℕ) : Type 0 where
  pub at : ℕ
  pub from : start ≤ at
  pub to : at < end
  pub within : at < length t
  pub breaks : is_break_char (code t at) ≡ true

-- two texts have the same bytes before an index, and at the index they differ or one of them ends
pub record DifferAt (a b : List ℕ) (k : ℕ) : Type 0 where
  pub first : k ≤ length a
  pub second : k ≤ length b
  pub same : (j : ℕ) → j < k → slice_get a j ≡ slice_get b j
  pub other : k < length a → k < length b → slice_get a k ≢ slice_get b k

abbrev pub byte_before : List ℕ → ℕ → Option ℕ
byte_before bytes k = if k == 0 then None else slice_get bytes (k - 1)

-- the message with the bytes where two texts first differ
pub record IsDifference (written wanted : List ℕ) (m : Message) : Type 0 where
  pub k : ℕ
  pub differ : DifferAt written wanted k
  pub says : m ≡ Says.FlowText (byte_before wanted k) (slice_get written k) (slice_get wanted k)

-- the message of a part of the text that has the wanted text on one line: the part has a line break, or, if it has
-- none, the bytes where it first differs
pub data TextMessage (t : List ℕ) (inside : Span) (wanted : List ℕ) : Message → Type 0 where
  broken : HasBreak t inside.start inside.end → TextMessage t inside wanted Says.BrokenFlow
  differs : {m : Message} → (HasBreak t inside.start inside.end → ⊥) → IsDifference (slice_range t inside.start inside.end) wanted m
      → TextMessage t inside wanted m

-- the message of a part of the text that may have the wanted text on one line: from the part's start on, that text is
-- too long for a line or not
pub data KeptMessage (src : Table) (max_line : ℕ) (inside : Span) (wanted : List ℕ) : Message → Type 0 where
  too_long : {line column : ℕ} → PlaceOf src.text inside.start line column → max_line + 1 < column + width wanted
      → KeptMessage src max_line inside wanted (Says.LongFlow max_line)
  fits : {line column : ℕ} {m : Message} → PlaceOf src.text inside.start line column → column + width wanted ≤ max_line + 1
      → TextMessage src.text inside wanted m → KeptMessage src max_line inside wanted m

-- the message of a flow collection with this span from bracket to bracket
pub data FlowMessage (src : Table) (c : LayoutSetting) (x : Node) (inside : Span) : Message → Type 0 where
  no_entries : {m : Message} → is_filled_flow x ≡ false → TextMessage src.text inside (bare c.style x) m → FlowMessage src c x inside m
  on_one_line : {wanted : List ℕ} {m : Message} → is_filled_flow x ≡ true → kept_text_of src.text c x ≡ Some wanted
      → KeptMessage src c.style.max_line inside wanted m → FlowMessage src c x inside m
  in_a_block : is_filled_flow x ≡ true → kept_text_of src.text c x ≡ None → FlowMessage src c x inside Says.FlowStyle

-- the detail of that collection: its span, and its message
pub record FlowDetail (src : Table) (c : LayoutSetting) (x : Node) (inside : Span) (d : Detail) : Type 0 where
  pub says : FlowMessage src c x inside d.message
  pub spans : NodeDetail src.text inside.start inside.end d.message d

-- flow-layout: the detail of the flow collection that begins at the event i and is in no other one
pub data LayoutDetail (src : Table) (r : Lists) (house : Style) (i : ℕ) (d : Detail) : Type 0 where
  of_flow : {x : Node} {s : Span} → OuterFlow r i x → (standing x).span ≡ Some s
      → FlowDetail src (setting_of r house) x (bracketed src.text (props_of x) s) d → LayoutDetail src r house i d

-- the details of all flow collections at fault, if the reading has trees and its comments are in the order of the
-- text; otherwise any details
abbrev pub LayoutDetails : Table → Lists → Style → List Detail → Type 0
LayoutDetails src r house ds = (trees : List DocumentTree) → TreesOf r trees → CommentsAscend r
    → NodeDetails (LayoutFault src r house) (LayoutDetail src r house) src.text ds

-- the detail at an offset, under these conditions
pub record LayoutKnown (src : Table) (r : Lists) (house : Style) (offset : ℕ) (result : Option Detail) : Type 0 where
  pub start : IfSome result (λ d. d.span.start ≡ offset)
  pub known : (trees : List DocumentTree) → TreesOf r trees → CommentsAscend r
      → IsKnown (LayoutFault src r house) (LayoutDetail src r house) src.text offset result
