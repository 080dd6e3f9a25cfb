-- hidden-character: its pass finds the hidden characters outside of quoted scalars.
use Rattle.std.proofs.Common.{◌≡◌, ℕ, ◌<◌, ◌≤◌, true, false, List, [], Option, Some, length, sym, subst, ap, ◌∙◌, ⊎_elim, arith}
use Rattle.std.specs.Str.{IsCharBoundary}
use Rattle.std.proofs.lemmas.Bool.{cases_Bool}
use Rattle.yf_chars.specs.Text.{begins, code, no_char}
use Rattle.yf_chars.proofs.TextLemmas.{boundary_from_begins, code-nowhere, within_from_code}
use Rattle.yf_forms.specs.Nodes.ContentStart.{content_start}
use Rattle.yf_forms.specs.declared.style.Style.{Style}
use Rattle.yf_events.specs.Event.{scalar_node}
use Rattle.yf_events.specs.declared.event.ScalarStyle.{ScalarStyle}
use Rattle.yf_events.specs.declared.event.Span.{Span}
use Rattle.yf_events.specs.declared.lists.Lists.{Lists}
use Rattle.yf_lines.specs.declared.invisible.Invisible.TheVariants.{Plain, Escaped}
use Rattle.yf_props.specs.Props.{PropsValue}
use Rattle.yf_rule_sets.specs.Passes.FarthestEnds.{AllBegin, Covers, IsBeyond, IsHiddenSign, NoneBegins}
use Rattle.yf_rule_sets.specs.Passes.FarthestEnds.IsBeyond.{is_beyond}
use Rattle.yf_rule_sets.specs.RuleSets.Exact.{Exactly, IsTheOne, Sole}
use Rattle.yf_rule_sets.specs.RuleSets.HiddenCharacters.{HiddenCharacter, QuotedPart, is_quoted}
use Rattle.yf_rule_sets.specs.RuleSets.HiddenCharacters.HiddenCharacter.{in_no_quotes}
use Rattle.yf_rule_sets.specs.RuleSets.HiddenCharacters.QuotedPart.{of_quoted}
use Rattle.yf_rule_sets.specs.RuleSets.Scalars.{IsScalar}
use Rattle.yf_rule_sets.specs.RuleSets.Scalars.ScalarSpan.{of_scalar}
use Rattle.yf_rule_sets.proofs.RuleSets.MarkPassLemmas.{in_cover, out_of_cover, sole_kind, span_event, span_sole}
use Rattle.yf_rule_sets.proofs.Texts.ExactLemmas.{none_yet, same_answer}

-- the span of a quoted scalar is unique
pub part_event : {t : List ℕ} {r : Lists} {i : ℕ} {s : Span} → QuotedPart t r i s → i < length r.events
part_event (of_quoted h q) = span_event (of_scalar h)

same_node : {p q : PropsValue} {a b : ScalarStyle} {x y : List ℕ} → Some (scalar_node p a x) ≡ Some (scalar_node q b y) → (p ≡ q) × (a ≡ b)
same_node e = (cc, cc)

pub part_sole : {t : List ℕ} {r : Lists} {i : ℕ} {props : PropsValue} {style : ScalarStyle} {text : List ℕ} {s : Span} → IsScalar r i props style text s
    → is_quoted style ≡ true → Sole (QuotedPart t r i) (record { start = content_start t s props; end = s.end })
part_sole {t} {r} {i} {props} {style} {text} {s} h q = record { holds = of_quoted h q; only = λ x g. there g } where
  there : {x : Span} → QuotedPart t r i x → x ≡ record { start = content_start t s props; end = s.end }
  there (of_quoted {props = p} {s = v} g k) =
      let spans : v ≡ s = span_sole h.part (of_scalar g) in
      let events = same_node (sym g.event ∙ h.event) in
      ap (λ (w : Span). record { start = content_start t w p; end = w.end }) spans ∙ ap (λ w. record { start = content_start t s w; end = s.end }) events.0

no_sign : {t : List ℕ} {reach k : ℕ} → code t k ≡ no_char → (o : ℕ) → IsBeyond IsHiddenSign t reach k o → ⊥
no_sign e _ (is_beyond s l) = let c = s.is_char in omega (arith, c, e)

-- none begins within a character or at the end
pub no_sign_inside : (t : List ℕ) (reach k : ℕ) → (IsCharBoundary t k → ⊥) → (o : ℕ) → IsBeyond IsHiddenSign t reach k o → ⊥
no_sign_inside t reach k n = ⊎_elim (λ (b : begins t k ≡ true). absurd (n (boundary_from_begins t k b))) (λ (b : begins t k ≡ false). no_sign (code-nowhere t k b)) (cases_Bool (begins t k))

pub sign_there : (t : List ℕ) (reach k c : ℕ) → code t k ≡ c → IsHiddenSign c → reach ≤ k → Sole (IsBeyond IsHiddenSign t reach k) k
sign_there t reach k c e s l = sole_kind t reach k (subst (λ v. IsHiddenSign v) (sym e) s) l

-- if the style doesn't escape hidden characters, none is at fault
apart : Plain ≡ Escaped → ⊥
apart e = cc

pub none_asked : (t : List ℕ) (r : Lists) (house : Style) (xs : List ℕ) → xs ≡ [] → house.invisible ≡ Plain → Exactly (HiddenCharacter t r house) xs
none_asked t r house xs e plain =
    let empty = none_yet (HiddenCharacter t r house) xs e in
    record {
      only = λ x c. let found = empty.only x c in (found.0, found.2);
      all = λ k x p. absurd (never k x p);
    } where
      never : (k x : ℕ) → HiddenCharacter t r house k x → ⊥
      never k _ (in_no_quotes escaped c h n f) = apart (sym plain ∙ escaped)

-- a hidden character that no span reaches is in no quoted scalar
module _ (t : List ℕ) (r : Lists) (house : Style) (escaped : house.invisible ≡ Escaped) (spans : List Span) (count reach k : ℕ) (s : Exactly (QuotedPart t r) spans)
    (c : Covers spans count reach) (b : AllBegin spans count k) (n : NoneBegins spans count k) where
  hidden : (o : ℕ) → IsBeyond IsHiddenSign t reach k o → HiddenCharacter t r house k o
  hidden _ (is_beyond e l) = in_no_quotes escaped e.is_char e.hidden e.no_mark (λ i x h w. let q = in_cover s c b n i x h w in omega (arith, q, l))

  beyond_all : (o : ℕ) → HiddenCharacter t r house k o → IsBeyond IsHiddenSign t reach k o
  beyond_all _ (in_no_quotes w a h m f) = is_beyond (record { is_char = a; hidden = h; no_mark = m }) (out_of_cover s c b n f)

  pub hidden_answered : (answer : Option ℕ) → IsTheOne (IsBeyond IsHiddenSign t reach k) answer → IsTheOne (HiddenCharacter t r house k) answer
  hidden_answered answer a = same_answer hidden beyond_all answer a

-- a character begins at each offset at fault
pub hidden_within : {t : List ℕ} {r : Lists} {house : Style} {k o : ℕ} → HiddenCharacter t r house k o → k < length t
hidden_within {t} {k = k} (in_no_quotes w c h n f) = within_from_code t k c
