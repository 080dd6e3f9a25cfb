-- What the rules find, rule by rule.
use Rattle.std.proofs.Common.{◌≡◌, ◌∙◌, ◌∷◌, ◌++◌, ◌+◌, ◌<◌, ◌≤◌, [], ℕ, List, add-one, ap, sym, subst, take, get_or, length}
use Rattle.std.specs.Prelude.{map}
use Rattle.std.proofs.Math.Seq.{take-suc}
use Rattle.std.proofs.lemmas.List.{take_all}
use Rattle.yf_events.specs.declared.lists.Lists.{Lists}
use Rattle.yf_forms.specs.declared.style.Style.{Style}
use Rattle.yf_lines.specs.Lines.{Table}
use Rattle.yf_ranges.specs.Details.{RuleDetails}
use Rattle.yf_ranges.specs.declared.detail.Detail.{Detail}
use Rattle.yf_rule_sets.specs.RuleOf.{definition_of}
use Rattle.yf_rule_sets.specs.declared.rules.StyleRule.{StyleRule}
use Rattle.yf_server.specs.Analysis.{Found}
use Rattle.yf_problems.specs.Problems.{AreShown, FoundBy, ShownFor, problem_named}
use Rattle.yf_problems.specs.Problems.AreShown.{none_shown, one_shown}
use Rattle.yf_problems.specs.Problems.FoundBy.{no_rule, one_rule}

module _ (src : Table) (reading : Lists) (style : Style) where
  -- no rule finds nothing
  pub none_found : (rules : List StyleRule) (found : List Found) → found ≡ []
      → FoundBy src reading style (take 0 rules) found
  none_found rules found none = subst (λ (f : List Found). FoundBy src reading style [] f) (sym none) no_rule

  -- one more rule, after its name was read
  pub found_more : (rule : StyleRule) (details shown : List Detail) (id : List ℕ) (before after : List Found)
      → id ≡ (definition_of rule).id → RuleDetails rule src reading style details → AreShown rule src reading style details shown
      → after ≡ before ++ map (problem_named id) shown
      → (rules : List StyleRule) → FoundBy src reading style rules before
      → FoundBy src reading style (rules ++ rule ∷ []) after
  found_more rule details shown id before after same is are more rules found =
      let named = more ∙ ap (λ n. before ++ map (problem_named n) shown) same in
      subst (λ (f : List Found). FoundBy src reading style (rules ++ rule ∷ []) f) (sym named)
      (one_rule rule details shown found is are)

  -- the rule after those up to the index
  pub next_found : (rules : List StyleRule) (k : ℕ) (rule d : StyleRule) (found : List Found) → k < length rules
      → rule ≡ get_or rules k d → FoundBy src reading style (take k rules ++ rule ∷ []) found
      → FoundBy src reading style (take (k + 1) rules) found
  next_found rules k rule d found within is by =
      let longer : take (k + 1) rules ≡ take k rules ++ get_or rules k d ∷ [] =
      rw add-one (take-suc rules k d within) in
      subst (λ (rs : List StyleRule). FoundBy src reading style rs found)
      (ap (λ r. take k rules ++ r ∷ []) is ∙ sym longer) by

  -- the index is past all rules
  pub all_found : (rules : List StyleRule) (k : ℕ) (found : List Found) → length rules ≤ k
      → FoundBy src reading style (take k rules) found → FoundBy src reading style rules found
  all_found rules k found all by =
      subst (λ (rs : List StyleRule). FoundBy src reading style rs found) (take_all k rules all) by

-- one more detail with its values
module _ (rule : StyleRule) (src : Table) (reading : Lists) (style : Style) where
  pub none_are_shown : (ds ss : List Detail) → ss ≡ [] → AreShown rule src reading style (take 0 ds) ss
  none_are_shown ds ss none = subst (AreShown rule src reading style []) (sym none) none_shown

  pub shown_more : (ds ss after : List Detail) (k : ℕ) (d s : Detail) → k < length ds → d ≡ get_or ds k d
      → ShownFor rule src reading style d s → after ≡ ss ++ s ∷ [] → AreShown rule src reading style (take k ds) ss
      → AreShown rule src reading style (take (k + 1) ds) after
  shown_more ds ss after k d s within is value more shown =
      let longer : take (k + 1) ds ≡ take k ds ++ get_or ds k d ∷ [] = rw add-one (take-suc ds k d within) in
      subst (λ (xs : List Detail). AreShown rule src reading style xs after)
      (ap (λ x. take k ds ++ x ∷ []) is ∙ sym longer)
      (subst (AreShown rule src reading style (take k ds ++ d ∷ [])) (sym more) (one_shown shown value))

  pub all_shown : (ds ss : List Detail) (k : ℕ) → length ds ≤ k → AreShown rule src reading style (take k ds) ss
      → AreShown rule src reading style ds ss
  all_shown ds ss k past shown =
      subst (λ (xs : List Detail). AreShown rule src reading style xs ss) (take_all k ds past) shown
