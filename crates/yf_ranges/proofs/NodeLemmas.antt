-- Laws of the list of details at nodes, as a pass over the events gathers it.
use Rattle.std.proofs.Common.{◌≡◌, ℕ, ◌+◌, ◌<◌, ◌≤◌, List, [], ◌∷◌, ◌++◌, Option, Some, None, sym, subst, ◌∙◌, ⊎_elim, arith}
use Rattle.std.specs.List.{Contains}
use Rattle.std.specs.Option.{option_to_list}
use Rattle.std.specs.Str.{IsCharBoundary}
use Rattle.std.proofs.lemmas.Bool.{cases_lt}
use Rattle.std.proofs.lemmas.List.{append-nil}
use Rattle.std.proofs.lemmas.List.Elements.{Contains-push, Contains-push_cases, Contains-append_left}
use Rattle.std.specs.Prelude.{slice_get, MatchOption}
use Rattle.yf_events.specs.Event.{scalar_node}
use Rattle.yf_events.specs.Reading.{events_of, spans_of}
use Rattle.yf_events.specs.declared.event.ScalarStyle.{ScalarStyle}
use Rattle.yf_events.specs.declared.event.Span.{Span}
use Rattle.yf_events.specs.declared.lists.Lists.{Lists}
use Rattle.yf_forms.specs.Nodes.ContentStart.{content_start}
use Rattle.yf_forms.specs.Nodes.ScalarStyles.{wanted}
use Rattle.yf_forms.specs.declared.style.Style.{Style}
use Rattle.yf_props.specs.Props.{PropsValue}
use Rattle.yf_ranges.specs.Details.{IsInside}
use Rattle.yf_ranges.specs.NodeDetails.{IsDetailAt, NodeDetail, NodeDetails, QuotingDetail}
use Rattle.yf_ranges.specs.NodeDetails.QuotingDetail.{other_style}
use Rattle.yf_ranges.specs.declared.detail.Detail.{Detail}
use Rattle.yf_ranges.specs.declared.detail.Message.TheVariants as Says
use Rattle.yf_rule_sets.specs.RuleSets.Styles.{QuotingFault}
use Rattle.yf_rule_sets.proofs.RuleSets.StyleLemmas.{misquoted_found}

-- the details of the first events
pub record NodesTo (P : ℕ → ℕ → Type 0) (Exact : ℕ → Detail → Type 0) (t : List ℕ) (n : ℕ) (ds : List Detail) : Type 0 where
  pub only : (d : Detail) → Contains ds d → (i : ℕ) × P i d.span.start × Exact i d × IsInside t d
  pub all : (i o : ℕ) → i < n → P i o → IsCharBoundary t o → (d : Detail) × Contains ds d × (d.span.start ≡ o) × Exact i d

no_element : {A : Type 0} (x : A) → Contains {X = A} [] x → ⊥
no_element x c = omega (arith, c.1)

module _ (P : ℕ → ℕ → Type 0) (Exact : ℕ → Detail → Type 0) (t : List ℕ) where
  pub no_nodes : (ds : List Detail) → ds ≡ [] → NodesTo P Exact t 0 ds
  no_nodes ds e = subst (NodesTo P Exact t 0) (sym e) (record {
    only = λ d c. absurd (no_element d c);
    all = λ i o l p b. absurd (omega (arith, l));
  })

  one_node : (n : ℕ) (ds : List Detail) (d : Detail) → NodesTo P Exact t n ds
      → P n d.span.start × ((o : ℕ) → P n o → o ≡ d.span.start) × Exact n d × IsInside t d → NodesTo P Exact t (n + 1) (ds ++ d ∷ [])
  one_node n ds d g x = record {
    only = λ e c. ⊎_elim (λ (h : Contains ds e). g.only e h)
        (λ (h : d ≡ e). subst (λ (f : Detail). (i : ℕ) × P i f.span.start × Exact i f × IsInside t f) h (n, x.0, x.2, x.3))
        (Contains-push_cases ds d e c);
    all = λ i o l p b. ⊎_elim
        (λ (h : i < n). let w = g.all i o h p b in (w.0, Contains-append_left ds (d ∷ []) w.0 w.1, w.2, w.3))
        (λ (h : n ≤ i).
        let q : i ≡ n = omega (arith, h, l) in
        (d, Contains-push ds d, sym (x.1 o (subst (λ k. P k o) q p)), subst (λ k. Exact k d) (sym q) x.2))
        (cases_lt i n);
  }

  no_node : (n : ℕ) (ds : List Detail) → NodesTo P Exact t n ds → ((o : ℕ) → P n o → IsCharBoundary t o → ⊥) → NodesTo P Exact t (n + 1) ds
  no_node n ds g f = record {
    only = g.only;
    all = λ i o l p b. ⊎_elim (λ (h : i < n). g.all i o h p b)
        (λ (h : n ≤ i). absurd (f o (subst (λ k. P k o) (omega (arith, h, l)) p) b))
        (cases_lt i n);
  }

  pub step_node : (n : ℕ) (ds es : List Detail) (result : Option Detail) → NodesTo P Exact t n ds → IsDetailAt (P n) (Exact n) t result
      → es ≡ ds ++ option_to_list result → NodesTo P Exact t (n + 1) es
  step_node n ds es None g f e = subst (NodesTo P Exact t (n + 1)) (sym (e ∙ append-nil ds)) (no_node n ds g f)
  step_node n ds es (Some d) g x e = subst (NodesTo P Exact t (n + 1)) (sym e) (one_node n ds d g x)

  pub all_nodes : (n : ℕ) (ds : List Detail) → ((i o : ℕ) → P i o → i < n) → NodesTo P Exact t n ds → NodeDetails P Exact t ds
  all_nodes n ds f g = record { only = g.only; all = λ i o p b. g.all i o (f i o p) p b }

-- the detail of a scalar in another style than the one wanted
module _ (t : List ℕ) (r : Lists) (house : Style) (i : ℕ) (props : PropsValue) (style : ScalarStyle) (text : List ℕ) (s : Span)
    (e : slice_get (events_of r) i ≡ Some (scalar_node props style text)) (p : slice_get (spans_of r) i ≡ Some (Some s))
    (n : wanted style text house ≡ style → ⊥) where
  abbrev IsPart : ℕ → ScalarStyle → Option Detail → Type 0
  IsPart start expected result = MatchOption result (IsCharBoundary t start → ⊥) (λ d. NodeDetail t start s.end (Says.Quotes style expected) d)

  style_told : (result : Option Detail) → IsPart (content_start t s props) (wanted style text house) result
      → IsDetailAt (QuotingFault t r house i) (QuotingDetail t r house i) t result
  style_told None m = λ o q b. m (subst (IsCharBoundary t) ((misquoted_found t r house i props style text e s p n).only o q) b)
  style_told (Some d) m =
      let sole = misquoted_found t r house i props style text e s p n in (
        subst (QuotingFault t r house i) (sym m.begin) sole.holds,
        λ o q. sole.only o q ∙ sym m.begin,
        other_style (record { event = e; part = p }) m,
        m.inside,
      )

  pub misquoted_detail : (start : ℕ) (expected : ScalarStyle) (result : Option Detail) → start ≡ content_start t s props → expected ≡ wanted style text house
      → IsPart start expected result → IsDetailAt (QuotingFault t r house i) (QuotingDetail t r house i) t result
  misquoted_detail start expected result f w m =
      style_told result (subst (λ v. IsPart (content_start t s props) v result) w (subst (λ k. IsPart k expected result) f m))
