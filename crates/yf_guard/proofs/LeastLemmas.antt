-- Laws of the least offset.
use Rattle.std.proofs.Common.{◌≡◌, List, [], ◌∷◌, ◌++◌, Option, refl}
use Rattle.yf_guard.specs.Guards.{least_from, lower}
use Rattle.yf_guard.specs.declared.guarded.Guarded.{Guarded}

pub least_append : (xs ys : List Guarded) (found : Option Guarded) → least_from found (xs ++ ys) ≡ least_from (least_from found xs) ys
least_append [] ys found = refl
least_append (x ∷ xs) ys found = least_append xs ys (lower found x)
