-- The names of a path, as far as its parts are taken.
use Rattle.std.proofs.Common.{◌≡◌, ℕ, ◌+◌, Bool, true, false, List, [], ◌∷◌, take, drop, position, Option, Some, None, MatchBool, refl, sym, subst, ◌∙◌}
use Rattle.yf_excludes.specs.Paths.{Lent}
use Rattle.yf_excludes.specs.Segments.{is_slash}
use Rattle.yf_excludes.specs.Names.{Leads, last_part, more_parts, out, after_part, texts}

-- from these names, the rest leads to the names of the path
abbrev pub LeadsAs : List Lent → List ℕ → List ℕ → Type 0
LeadsAs names rest path = (o : Option (List (List ℕ))) → Leads (texts names) rest o → Leads [] path o

-- the result of `take_part`
abbrev pub Takes : Bool → List Lent → List ℕ → List Lent → Type 0
Takes inside names part new = MatchBool inside (after_part (texts names) part ≡ Some (texts new))
    (after_part (texts names) part ≡ None)

pub taken_on : (names new : List Lent) (rest part next path : List ℕ) (k : ℕ) (inside : Bool) → LeadsAs names rest path
    → Some k ≡ position is_slash rest → part ≡ take k rest → next ≡ drop (k + 1) rest → inside ≡ true
    → Takes inside names part new
    → LeadsAs new next path
taken_on names new rest part next path k inside so found here behind yes_inside took =
    let step : after_part (texts names) part ≡ Some (texts new) = subst (λ z. Takes z names part new) yes_inside took in
    λ o leads. so o (more_parts (sym found) (subst (λ z. after_part (texts names) z ≡ Some (texts new)) here step)
    (subst (λ z. Leads (texts new) z o) behind leads))

pub taken_out : (names new : List Lent) (rest part path : List ℕ) (k : ℕ) (inside : Bool) → LeadsAs names rest path
    → Some k ≡ position is_slash rest → part ≡ take k rest → inside ≡ false → Takes inside names part new
    → Leads [] path None
taken_out names new rest part path k inside so found here outside took =
    let step : after_part (texts names) part ≡ None = subst (λ z. Takes z names part new) outside took in
    so None (out (sym found) (subst (λ z. after_part (texts names) z ≡ None) here step) refl)

pub last_in : (names new : List Lent) (rest path : List ℕ) (inside : Bool) → LeadsAs names rest path
    → None ≡ position is_slash rest → inside ≡ true → Takes inside names rest new → Leads [] path (Some (texts new))
last_in names new rest path inside so found yes_inside took =
    let step : after_part (texts names) rest ≡ Some (texts new) = subst (λ z. Takes z names rest new) yes_inside took in
    so (Some (texts new)) (last_part (sym found) (sym step))

pub last_out : (names new : List Lent) (rest path : List ℕ) (inside : Bool) → LeadsAs names rest path
    → None ≡ position is_slash rest → inside ≡ false → Takes inside names rest new → Leads [] path None
last_out names new rest path inside so found outside took =
    let step : after_part (texts names) rest ≡ None = subst (λ z. Takes z names rest new) outside took in
    so None (last_part (sym found) (sym step))
