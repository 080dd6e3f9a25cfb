-- The rules that are asked: the given ones, except those that are left out by name.
use Rattle.std.specs.Prelude.{ℕ, Bool, not, List, filter}
use Rattle.std.specs.List.{list_any}
use Rattle.std.specs.Str.{bytes_eq}
use Rattle.yf_rule_sets.specs.Definition.{RuleDefinition}

-- whether the name is one of these
abbrev pub is_among : List (List ℕ) → List ℕ → Bool
is_among names id = list_any (λ name. bytes_eq name id) names

-- the values, with their definitions, that have none of these names, in order
abbrev pub asked : {B : Type 0} → (B → RuleDefinition) → List (List ℕ) → List B → List B
asked definition without bs = filter (λ b. not (is_among without (definition b).id)) bs
