-- Laws of the details of the rule flow-layout.
use Rattle.std.proofs.Common.{◌≡◌, ℕ, ◌∙◌, List, [], Option, Some, None, MatchOption, true, false, sym, subst}
use Rattle.std.specs.Str.{IsCharBoundary}
use Rattle.yf_events.specs.declared.lists.Lists.{Lists}
use Rattle.yf_events.specs.Tree.{Node, is_filled_flow}
use Rattle.yf_events.specs.declared.event.Span.{Span}
use Rattle.yf_forms.proofs.Decide.ValueLemmas.{event_of}
use Rattle.yf_forms.specs.Nodes.OneLine.{bare}
use Rattle.yf_forms.specs.NormalForms.Normal.{LayoutSetting, setting_of}
use Rattle.yf_forms.specs.declared.style.Style.{Style}
use Rattle.yf_lines.specs.Lines.{Table}
use Rattle.yf_ranges.proofs.NodeLemmas.{all_nodes, no_nodes}
use Rattle.yf_ranges.specs.FlowDetails.{FlowDetail, FlowMessage, LayoutDetail, TextMessage}
use Rattle.yf_ranges.specs.FlowDetails.FlowMessage.{no_entries}
use Rattle.yf_ranges.specs.FlowDetails.LayoutDetail.{of_flow}
use Rattle.yf_ranges.specs.NodeDetails.{IsDetailAt, NodeDetail, NodeDetails}
use Rattle.yf_ranges.specs.declared.detail.Detail.{Detail}
use Rattle.yf_ranges.specs.declared.detail.Message.{Message}
use Rattle.yf_rule_sets.proofs.RuleSets.DisplacedLemmas.{Bracketed, empty_bare}
use Rattle.yf_rule_sets.specs.Passes.OuterFlow.{IsOutsideFlow, empty_text, is_flow}
use Rattle.yf_rule_sets.specs.RuleSets.Exact.{Sole}
use Rattle.yf_rule_sets.specs.RuleSets.Layouts.{LayoutFault}

-- no fault, and no detail
pub no_details : (P : ℕ → ℕ → Type 0) (Exact : ℕ → Detail → Type 0) (t : List ℕ) (ds : List Detail) → ds ≡ [] → ((i o : ℕ) → P i o → ⊥)
    → NodeDetails P Exact t ds
no_details P Exact t ds e n = all_nodes P Exact t 0 ds (λ i o p. absurd (n i o p)) (no_nodes P Exact t ds e)

-- the detail of a collection at fault
module _ (src : Table) (r : Lists) (house : Style) (i : ℕ) (inside : Span) (b : Bracketed src r i inside) (outer : IsOutsideFlow r.events i)
    (sole : Sole (LayoutFault src r house i) inside.start) where
  pub fault_told : (answer : Option Detail)
      → MatchOption answer (IsCharBoundary src.text inside.start → ⊥) (λ d. FlowDetail src (setting_of r house) b.x inside d)
      → IsDetailAt (LayoutFault src r house i) (LayoutDetail src r house i) src.text answer
  fault_told None m = λ o p q. m (subst (IsCharBoundary src.text) (sole.only o p) q)
  fault_told (Some d) m = (
    subst (LayoutFault src r house i) (sym m.spans.begin) sole.holds,
    λ o p. sole.only o p ∙ sym m.spans.begin,
    of_flow (record { node = b.node; flow = b.flow; outer = outer }) b.span
        (subst (λ (z : Span). FlowDetail src (setting_of r house) b.x z d) b.is m),
    m.spans.inside,
  )

-- the detail with a message
module _ (src : Table) (c : LayoutSetting) (x : Node) (inside : Span) (message : Message) (says : FlowMessage src c x inside message) where
  pub message_told : (t : List ℕ) (answer : Option Detail) → t ≡ src.text
      → MatchOption answer (IsCharBoundary t inside.start → ⊥) (λ d. NodeDetail t inside.start inside.end message d)
      → MatchOption answer (IsCharBoundary src.text inside.start → ⊥) (λ d. FlowDetail src c x inside d)
  message_told t None e m = λ q. m (subst (λ u. IsCharBoundary u inside.start) (sym e) q)
  message_told t (Some d) e m = record {
    says = subst (λ (v : Message). FlowMessage src c x inside v) (sym m.says) says;
    spans = subst (λ (v : Message). NodeDetail src.text inside.start inside.end v d) (sym m.says)
        (subst (λ u. NodeDetail u inside.start inside.end message d) e m);
  }

-- the message of a collection without entries
pub empty_told : (src : Table) (c : LayoutSetting) (x : Node) (inside : Span) (t written : List ℕ) (m : Message) → is_flow x ≡ true → is_filled_flow x ≡ false
    → t ≡ src.text → written ≡ empty_text (event_of x) → TextMessage t inside written m → FlowMessage src c x inside m
empty_told src c x inside t written m f e same is said =
    no_entries e (subst (λ u. TextMessage u inside (bare c.style x) m) same
    (subst (λ w. TextMessage t inside w m) (is ∙ empty_bare c.style x f e) said))
