-- The findings of a rule, from its offsets and their positions.
use Rattle.std.proofs.Common.{◌≡◌, ℕ, List, Result, Ok, Err, subst}
use Rattle.std.specs.Prelude.{IfOk}
use Rattle.yf_lines.specs.declared.place.Position.{Position}
use Rattle.yf_rule_sets.specs.RuleSets.Places.{PlacesOf, FoundAt}
use Rattle.yf_rule_sets.specs.RuleSets.Places.FoundAt.{found_at}

pub all_found : {V E : Type 0} (t : List ℕ) (F : List ℕ → Type 0) (os xs : List ℕ) (items : V → List Position) (r : Result V E) → F os → xs ≡ os
    → IfOk r (λ v. PlacesOf t xs (items v)) → IfOk r (λ v. FoundAt t F (items v))
all_found t F os xs items (Ok v) f e p = found_at f (subst (λ w. PlacesOf t w (items v)) e p)
all_found t F os xs items (Err x) f e p = tt
