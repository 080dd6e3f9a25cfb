-- The folders decide the result.
use Rattle.std.proofs.Common.{◌≡◌, ◌⊎◌, ℕ, suc, ◌<◌, ◌≤◌, List, Option, Some, None, inl, inr, refl, sym, subst, ap, ◌∙◌, arith}
use Rattle.std.proofs.lemmas.Bool.{cases_order}
use Rattle.std.proofs.lemmas.Option.{same_Some}
use Rattle.yf_discovery.specs.declared.folders.There.{There}
use Rattle.yf_discovery.specs.declared.folders.There.TheVariants.{Nothing, File, Folder, Unknown}
use Rattle.yf_discovery.specs.declared.nearest.Discovery.{Discovery}
use Rattle.yf_discovery.specs.declared.nearest.Discovery.TheVariants as discovery
use Rattle.yf_discovery.specs.Nearest.{Looks, Passes, EndsIn, has_settings, is_folder, is_unknown, is_top, may_be_top, PassesFirst, IsNearest, ends, passes_all, folder, settings_in, repository_in}

-- the result of the search in a folder, by its two names, if the search ends there
abbrev ending : There → There → List ℕ → Option Discovery
ending File r at = Some (discovery.Settings (settings_in at))
ending Folder r at = Some (discovery.Fault (settings_in at))
ending Unknown r at = Some (discovery.Fault (settings_in at))
ending Nothing File at = Some discovery.Nothing
ending Nothing Folder at = Some discovery.Nothing
ending Nothing Unknown at = Some (discovery.Fault (repository_in at))
ending Nothing Nothing at = None

none_found : {d : Discovery} → None ≡ Some d → ⊥
none_found e = cc

module _ (here : List ℕ → There) where
  abbrev Shown : Looks
  Shown = λ name t. t ≡ here name

  abbrev found_in : List ℕ → Option Discovery
  found_in at = ending (here (settings_in at)) (here (repository_in at)) at

  by_both : (at : List ℕ) (s r : There) (o : Option Discovery) → s ≡ here (settings_in at) → r ≡ here (repository_in at)
      → ending s r at ≡ o → found_in at ≡ o
  by_both at s r o settings repository e =
      subst (λ x. ending x (here (repository_in at)) at ≡ o) settings (subst (λ y. ending s y at ≡ o) repository e)

  passed : (at : List ℕ) → Passes Shown at → found_in at ≡ None
  passed at p = by_both at Nothing Nothing None p.settings p.repository refl

  ended : (at : List ℕ) (d : Discovery) → EndsIn Shown at d → found_in at ≡ Some d
  ended at d (has_settings s e) = by_both at File (here (repository_in at)) (Some d) s refl (ap (λ x. Some x) (sym e))
  ended at d (is_folder s e) = by_both at Folder (here (repository_in at)) (Some d) s refl (ap (λ x. Some x) (sym e))
  ended at d (is_unknown s e) = by_both at Unknown (here (repository_in at)) (Some d) s refl (ap (λ x. Some x) (sym e))
  ended at d (is_top s (inl r) e) = by_both at Nothing Folder (Some d) s r (ap (λ x. Some x) (sym e))
  ended at d (is_top s (inr r) e) = by_both at Nothing File (Some d) s r (ap (λ x. Some x) (sym e))
  ended at d (may_be_top s r e) = by_both at Nothing Unknown (Some d) s r (ap (λ x. Some x) (sym e))

  not_both : (at : List ℕ) (d : Discovery) → Passes Shown at → EndsIn Shown at d → ⊥
  not_both at d p e = none_found (sym (passed at p) ∙ ended at d e)

  same_end : (at : List ℕ) (d e : Discovery) → EndsIn Shown at d → EndsIn Shown at e → d ≡ e
  same_end at d e x y = same_Some _ _ (sym (ended at d x) ∙ ended at e y)

  pub one_discovery : (above : ℕ) (d e : Discovery) → IsNearest Shown above d → IsNearest Shown above e → d ≡ e
  one_discovery above d e (ends k within first x) (ends l within' first' y) = elim (cases_order k l) [
    | inl same ↦ same_end (folder l) d e (subst (λ i. EndsIn Shown (folder i) d) same x) y
    | inr (inl less) ↦ absurd (not_both (folder k) d (first' k less) x)
    | inr (inr more) ↦ absurd (not_both (folder l) e (first l more) y)
  ]
  one_discovery above d e (ends k within first x) (passes_all all q) =
      absurd (not_both (folder k) d (all k (omega (arith, within))) x)
  one_discovery above d e (passes_all all p) (ends k within first y) =
      absurd (not_both (folder k) e (all k (omega (arith, within))) y)
  one_discovery above d e (passes_all all p) (passes_all all' q) = p ∙ sym q
