-- Laws of scalars in another style than wanted.
use Rattle.std.proofs.Common.{◌≡◌, ◌≢◌, ℕ, ◌<◌, List, Option, Some, None, length, sym, subst, ap, ◌∙◌, arith}
use Rattle.std.specs.Prelude.{slice_get}
use Rattle.std.proofs.lemmas.List.{length-map}
use Rattle.std.proofs.lemmas.Option.{slice_get_within, same_Some}
use Rattle.yf_forms.specs.Nodes.ContentStart.{content_start}
use Rattle.yf_forms.specs.Nodes.ScalarStyles.{wanted}
use Rattle.yf_forms.specs.declared.style.Style.{Style}
use Rattle.yf_events.specs.Event.{scalar_node}
use Rattle.yf_events.specs.Reading.{events_of, spans_of}
use Rattle.yf_events.specs.declared.event.ScalarStyle.{ScalarStyle}
use Rattle.yf_events.specs.declared.event.Span.{Span}
use Rattle.yf_events.specs.declared.lists.Lists.{Lists}
use Rattle.yf_lines.specs.Lines.{Table}
use Rattle.yf_props.specs.Props.{PropsValue}
use Rattle.yf_rule_sets.specs.RuleSets.Exact.{IsTheOne, Sole}
use Rattle.yf_rule_sets.specs.RuleSets.Scalars.{IsScalar}
use Rattle.yf_rule_sets.specs.Passes.ScalarLines.{LinesOfScalar}
use Rattle.yf_rule_sets.specs.Passes.ScalarLines.LinesOfScalar.{has_none}
use Rattle.yf_rule_sets.specs.Passes.ScalarStarts.{StartOf}
use Rattle.yf_rule_sets.specs.Passes.ScalarStarts.StartOf.{no_part, of_part}
use Rattle.yf_rule_sets.specs.RuleSets.Styles.{QuotingFault}
use Rattle.yf_rule_sets.specs.RuleSets.Styles.QuotingFault.{other_style}
use Rattle.yf_rule_sets.proofs.Texts.BlockLemmas.{scalar_same, style_same, text_same}

module _ (t : List ℕ) (r : Lists) (house : Style) (i : ℕ) (props : PropsValue) (style : ScalarStyle) (text : List ℕ)
    (e : slice_get (events_of r) i ≡ Some (scalar_node props style text)) where
  pub as_wanted : wanted style text house ≡ style → (o : ℕ) → QuotingFault t r house i o → ⊥
  as_wanted w o (other_style {style = v} {text = x} h n) =
      let q = same_Some _ _ (sym h.event ∙ e) in
      n (subst (λ y. wanted v y house ≡ v) (sym (text_same q)) (subst (λ y. wanted y text house ≡ y) (sym (style_same q)) w))

  pub without_part : slice_get (spans_of r) i ≡ Some None → (o : ℕ) → QuotingFault t r house i o → ⊥
  without_part p o (other_style {s = s} h n) = nothing (same_Some _ _ (sym h.part ∙ p)) where
    nothing : {x : Span} → Some x ≡ None → ⊥
    nothing e = cc

  pub misquoted_found : (s : Span) → slice_get (spans_of r) i ≡ Some (Some s) → wanted style text house ≢ style → Sole (QuotingFault t r house i) (content_start t s props)
  misquoted_found s p n =
      let is : IsScalar r i props style text s = record { event = e; part = p } in
      record { holds = other_style is n; only = λ o h. there is h }
    where
      there : {s : Span} {o : ℕ} → IsScalar r i props style text s → QuotingFault t r house i o → o ≡ content_start t s props
      there {s} is (other_style {props = q} {s = z} h n) =
          let w = scalar_same h is in ap (λ y. content_start t z y) w.props ∙ ap (λ y. content_start t y props) w.span

pub misquoted_event : {t : List ℕ} {r : Lists} {house : Style} {i o : ℕ} → QuotingFault t r house i o → i < length r.events
misquoted_event {r = r} {i = i} (other_style {props} {style} {text} h n) =
    let m = slice_get_within (events_of r) i (scalar_node props style text) h.event in omega (arith, m, length-map r.events (λ e. e.event))

-- the start of the content in the code
pub start_told : (t u : List ℕ) (r : Lists) (i : ℕ) (props : PropsValue) (style : ScalarStyle) (text : List ℕ) (s : Span) (start : ℕ) → IsScalar r i props style text s → u ≡ t
    → start ≡ content_start u s props → StartOf t r i (Some start)
start_told t u r i props style text s start is e q = subst (λ o. StartOf t r i (Some o)) (sym (q ∙ ap (λ v. content_start v s props) e)) (of_part is)

pub no_start : {src : Table} {r : Lists} {i : ℕ} → LinesOfScalar src r i None → StartOf src.text r i None
no_start (has_none f) = no_part f

misquoted_scalar : {t : List ℕ} {r : Lists} {house : Style} {i o : ℕ} → ((props : PropsValue) (style : ScalarStyle) (text : List ℕ) (s : Span) → IsScalar r i props style text s → ⊥)
    → QuotingFault t r house i o → ⊥
misquoted_scalar f (other_style {props} {style} {text} {s} h n) = f props style text s h

pub misquoted_told : (t : List ℕ) (r : Lists) (house : Style) (i : ℕ) (props : PropsValue) (style result : ScalarStyle) (text : List ℕ) (answer : Option ℕ)
    → slice_get (events_of r) i ≡ Some (scalar_node props style text) → result ≡ wanted style text house → (result ≡ style → ⊥) → StartOf t r i answer
    → IsTheOne (QuotingFault t r house i) answer
misquoted_told t r house i props style result text None e w n (no_part f) = λ o h. misquoted_scalar f h
misquoted_told t r house i props style result text (Some o) e w n (of_part {props = p} {style = v} {text = x} {s = s} is) =
    let q = scalar_same (record { event = e; part = is.part }) is in
    subst (λ y. Sole (QuotingFault t r house i) (content_start t s y)) q.props (misquoted_found t r house i props style text e s is.part (λ h. n (w ∙ h)))
