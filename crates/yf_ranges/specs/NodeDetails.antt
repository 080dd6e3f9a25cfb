-- The details of findings at nodes, by the event that begins the node. An index counts events from 0.
use Rattle.std.specs.Prelude.{◌≡◌, ℕ, ◌<◌, ◌≤◌, List, Option, length, MatchOption}
use Rattle.std.specs.List.{Contains}
use Rattle.std.specs.Str.{IsCharBoundary}
use Rattle.yf_events.specs.Event.{scalar_node}
use Rattle.yf_events.specs.declared.event.ScalarStyle.{ScalarStyle}
use Rattle.yf_events.specs.declared.event.Span.{Span}
use Rattle.yf_events.specs.declared.lists.Lists.{Lists}
use Rattle.yf_forms.specs.Nodes.ContentStart.{content_start}
use Rattle.yf_forms.specs.Nodes.ScalarStyles.{wanted_of_event}
use Rattle.yf_forms.specs.declared.style.Style.{Style}
use Rattle.yf_props.specs.Props.{PropsValue}
use Rattle.yf_ranges.specs.Details.{IsInside}
use Rattle.yf_ranges.specs.declared.detail.Detail.{Detail}
use Rattle.yf_ranges.specs.declared.detail.Message.{Message}
use Rattle.yf_ranges.specs.declared.detail.Message.TheVariants as Says
use Rattle.yf_rule_sets.specs.RuleSets.Scalars.{IsScalar}

-- the end of a part of the text, or the end of the text if the text doesn't contain the part; a reading's parts are in
-- its text
pub data PartEnd (t : List ℕ) (start end : ℕ) : ℕ → Type 0 where
  held : start < end → end ≤ length t → PartEnd t start end end
  not_held : (start < end → end ≤ length t → ⊥) → PartEnd t start end (length t)

-- the detail of a part of the text, with a message
pub record NodeDetail (t : List ℕ) (start end : ℕ) (message : Message) (d : Detail) : Type 0 where
  pub boundary : IsCharBoundary t start
  pub begin : d.span.start ≡ start
  pub part : PartEnd t start end d.span.end
  pub says : d.message ≡ message
  pub inside : IsInside t d

-- quoting: the scalar, from its content on, with its style and the one wanted
pub data QuotingDetail (t : List ℕ) (r : Lists) (house : Style) (i : ℕ) (d : Detail) : Type 0 where
  other_style : {props : PropsValue} {style : ScalarStyle} {text : List ℕ} {s : Span} → IsScalar r i props style text s
      → NodeDetail t (content_start t s props) s.end (Says.Quotes style (wanted_of_event (scalar_node props style text) house)) d
      → QuotingDetail t r house i d

-- the detail of an event with an offset at fault that has a position; P says which offset that is
abbrev pub IsDetailAt : (ℕ → Type 0) → (Detail → Type 0) → List ℕ → Option Detail → Type 0
IsDetailAt P Exact t result =
    MatchOption result ((o : ℕ) → P o → IsCharBoundary t o → ⊥)
    (λ d. P d.span.start × ((o : ℕ) → P o → o ≡ d.span.start) × Exact d × IsInside t d)

-- the details of all nodes x: one for each offset at fault that has a position, and no other; P x says which offset is
-- at fault by the node
pub record NodeDetails {A : Type 0} (P : A → ℕ → Type 0) (Exact : A → Detail → Type 0) (t : List ℕ) (ds : List Detail) : Type 0 where
  pub only : (d : Detail) → Contains ds d → (x : A) × P x d.span.start × Exact x d × IsInside t d
  pub all : (x : A) (o : ℕ) → P x o → IsCharBoundary t o → (d : Detail) × Contains ds d × (d.span.start ≡ o) × Exact x d

-- the detail at an offset, which has a position, or `None` if no node is at fault there
abbrev pub IsKnown : {A : Type 0} → (A → ℕ → Type 0) → (A → Detail → Type 0) → List ℕ → ℕ → Option Detail → Type 0
IsKnown {A} P Exact t o result =
    MatchOption result ((x : A) → P x o → ⊥) (λ d. (d.span.start ≡ o) × IsInside t d × ((x : A) × P x o × Exact x d))
