-- If a rule finds nothing that the house style fixes, none of its findings is fixable.
use Rattle.std.proofs.Common.{◌≡◌, ℕ, Bool, true, false, List, [], ◌∷◌, ◌++◌, map, Ok, Err, Result, refl, sym, ap, ◌∙◌, subst, ⊎_elim}
use Rattle.std.specs.Prelude.{IfOk}
use Rattle.std.specs.Borrow.{Bor}
use Rattle.std.specs.List.{Contains}
use Rattle.std.proofs.lemmas.Bool.{cases_Bool}
use Rattle.std.proofs.lemmas.List.Elements.{Contains-append_cases}
use Rattle.std.proofs.lemmas.List.Sorted.{Contains-permutation, IsPermutation-sym}
use Rattle.yf_lines.specs.Lines.{Table}
use Rattle.yf_lines.specs.declared.place.Position.{Position}
use Rattle.yf_events.specs.declared.lists.Lists.{Lists}
use Rattle.yf_forms.specs.declared.style.Style.{Style}
use Rattle.yf_laws.specs.Mended.{FormatsAreMended, IsFormatted}
use Rattle.yf_rule_sets.specs.Definition.{RuleDefinition}
use Rattle.yf_rules.specs.declared.finding.Finding.{Finding}
use Rattle.yf_rules.specs.Check.{SortedFrom, finding_at}
use Rattle.yf_rules.specs.NothingToFix.{NoneFixable}
use Rattle.yf_rule_sets.specs.RuleSets.Places.{PlacesOf}
use Rattle.yf_rule_sets.proofs.RuleSets.KeySetLemmas.{head_or_later, is_head, nothing_in}

-- Offsets.

-- the condition on the offsets that a rule finds
pub none_at_fault : {V E : Type 0} (rule : RuleDefinition) (src : Table) (r : Lists) (s : Style) (items : V → List ℕ) (o : Result V E) → FormatsAreMended rule → IfOk o (λ v. rule.faults src r s (items v))
    → IfOk o (λ v. rule.fixable ≡ true → IsFormatted src r s → items v ≡ [])
none_at_fault rule src r s items (Ok v) mended a = λ fixable w. mended fixable src r s w (items v) a
none_at_fault rule src r s items (Err x) mended a = tt

-- Places.

-- no offsets have no positions
pub places_none : (t : List ℕ) (ps : List Position) → PlacesOf t [] ps → ps ≡ []
places_none t [] a = refl
places_none t (p ∷ ps) a = let w = a.only p (is_head p ps) in absurd (nothing_in w.offset w.among)

pub none_found : {V E A B : Type 0} (t os xs : List ℕ) (items : V → List Position) (r : Result V E) → (A → B → os ≡ []) → xs ≡ os → IfOk r (λ v. PlacesOf t xs (items v))
    → IfOk r (λ v. A → B → items v ≡ [])
none_found t os xs items (Ok v) f e p = λ a b. places_none t (items v) (subst (λ w. PlacesOf t w (items v)) (e ∙ f a b) p)
none_found t os xs items (Err x) f e p = tt

-- Findings.

none_fixed : (findings : List Finding) → findings ≡ [] → NoneFixable findings
none_fixed findings e = subst (λ z. NoneFixable z) (sym e) (record { none = λ f c. absurd (nothing_in f c) })

left_alone : (number : ℕ) (id : Bor (List ℕ)) (fixable : Bool) (ps : List Position) → fixable ≡ false → NoneFixable (map (finding_at number id fixable) ps)
left_alone number id fixable [] e = none_fixed [] refl
left_alone number id fixable (p ∷ ps) e = record {
  none = λ f c.
      ⊎_elim (λ (h : finding_at number id fixable p ≡ f). ap (λ (g : Finding). g.fixable) (sym h) ∙ e)
      (λ (h : Contains (map (finding_at number id fixable) ps) f). (left_alone number id fixable ps e).none f h)
      (head_or_later (finding_at number id fixable p) (map (finding_at number id fixable) ps) f c);
}

-- the findings of one rule, if W holds
pub rule_silent : {W : Type 0} (number : ℕ) (id : Bor (List ℕ)) (fixable is_fixable : Bool) (xs places : List Position) (findings : List Finding) → fixable ≡ is_fixable → xs ≡ places
    → (is_fixable ≡ true → W → places ≡ []) → findings ≡ map (finding_at number id fixable) xs → W → NoneFixable findings
rule_silent number id fixable is_fixable xs places findings same are f e w =
    subst (λ z. NoneFixable z) (sym e)
    (⊎_elim
    (λ (h : fixable ≡ true). subst (λ z. NoneFixable (map (finding_at number id fixable) z)) (sym (are ∙ f (sym same ∙ h) w)) (none_fixed [] refl))
    (λ (h : fixable ≡ false). left_alone number id fixable xs h)
    (cases_Bool fixable))

-- the findings of no rule, and with one more rule
pub none_silent : {W : Type 0} (findings : List Finding) → findings ≡ [] → W → NoneFixable findings
none_silent findings e w = none_fixed findings e

pub both_silent : {W : Type 0} (xs ys zs : List Finding) → (W → NoneFixable xs) → (W → NoneFixable ys) → zs ≡ xs ++ ys → W → NoneFixable zs
both_silent xs ys zs a b e w = subst (λ z. NoneFixable z) (sym e) (record {
  none = λ f c. ⊎_elim (λ (h : Contains xs f). (a w).none f h) (λ (h : Contains ys f). (b w).none f h) (Contains-append_cases xs ys f c);
})

pub sorted_silent : {W : Type 0} (all findings : List Finding) → (W → NoneFixable all) → SortedFrom all findings → W → NoneFixable findings
sorted_silent all findings a s w = record { none = λ f c. (a w).none f (Contains-permutation findings all f (IsPermutation-sym all findings s.same) c) }
