-- The progress of the search for a settings file.
use Rattle.std.proofs.Common.{ap, drop, take, take-append-drop, ◌≡◌, ◌⊎◌, ℕ, suc, ◌+◌, ◌<◌, ◌≤◌, List, ◌++◌, inl, inr, refl, sym, subst, ◌∙◌, add-one, arith}
use Rattle.std.proofs.lemmas.Bool.{cases_lt}
use Rattle.std.proofs.lemmas.Str.{encode_ascii}
use Rattle.std.specs.Prelude.{codes, Option, MatchOption}
use Rattle.std.specs.Str.Pattern.{RFindsChar, SplitsAroundMatch}
use Rattle.yf_discovery.specs.declared.folders.There.{There}
use Rattle.yf_discovery.specs.declared.nearest.Discovery.{Discovery}
use Rattle.yf_discovery.specs.declared.nearest.Discovery.TheVariants as discovery
use Rattle.yf_discovery.specs.Nearest.{Looks, Passes, EndsIn, PassesFirst, IsNearest, IsFolderOf, folder}
use Rattle.yf_discovery.specs.Nearest.IsNearest.{ends, passes_all}

-- the kind of thing with a name, by the text of the name
pub shown_at : (Shows : Looks) (said own name : List ℕ) (t : There) → said ≡ own → own ≡ name → Shows said t
    → Shows name t
shown_at Shows said own name t is same shown = subst (λ n. Shows n t) (is ∙ same) shown

-- the folder above
pub folder_more : (k : ℕ) (at more : List ℕ) → at ≡ folder k → more ≡ at ++ codes "../" → more ≡ folder (k + 1)
folder_more k at more here is =
    let next : folder (suc k) ≡ folder (k + 1) = subst (λ n. folder n ≡ folder (k + 1)) (add-one k) refl in
    let same : at ++ codes "../" ≡ folder k ++ codes "../" = subst (λ x. at ++ codes "../"
    ≡ x ++ codes "../") here refl in
    is ∙ same ∙ next

-- no folder is before the first one
pub passes_none : (Shows : Looks) → PassesFirst Shows 0
passes_none Shows j below = absurd (let none : ⊥ = omega (arith, below) in none)

-- one more folder is passed
pub passes_more : (Shows : Looks) (k : ℕ) (said at : List ℕ) → said ≡ at → at ≡ folder k → PassesFirst Shows k
    → Passes Shows said → PassesFirst Shows (k + 1)
passes_more Shows k said at is here first p j below = elim (cases_lt j k) [
  | inl less ↦ first j less
  | inr more ↦
      let same : k ≡ j = omega (arith, more, below) in
      subst (λ i. Passes Shows (folder i)) same (subst (λ a. Passes Shows a) (is ∙ here) p)
]

-- the search ends in a folder
pub ends_at : (Shows : Looks) (above k : ℕ) (said at : List ℕ) (d : Discovery) → said ≡ at → at ≡ folder k → k ≤ above
    → PassesFirst Shows k → EndsIn Shows said d → IsNearest Shows above d
ends_at Shows above k said at d is here within first e =
    ends k within first (subst (λ a. EndsIn Shows a d) (is ∙ here) e)

-- the search passes the last folder too
pub passes_last : (Shows : Looks) (above k : ℕ) (said at : List ℕ) → said ≡ at → at ≡ folder k → above ≤ k
    → PassesFirst Shows k → Passes Shows said → IsNearest Shows above discovery.Nothing
passes_last Shows above k said at is here most first p = passes_all (λ j below.
    passes_more Shows k said at is here first p j (omega (arith, most, below))) refl

-- the part of a path before its last slash, by the split there
pub folder_split : (path front back : List ℕ) → SplitsAroundMatch (RFindsChar 47) path front back
    → IsFolderOf path front
folder_split path front back d =
    let rest : drop d.0 path ≡ codes "/" ++ drop d.1 path =
    d.2.1.split ∙ ap (λ slash. slash ++ drop d.1 path) (encode_ascii 47 (omega arith)) in
    let whole : path ≡ take d.0 path ++ (codes "/" ++ drop d.1 path) =
    sym (take-append-drop d.0 path) ∙ ap (λ l. take d.0 path ++ l) rest in
    record {
      own = drop d.1 path;
      is = subst (λ f. path ≡ f ++ (codes "/" ++ drop d.1 path)) (sym d.3) whole;
      last = d.2.0;
    }

-- a look into a folder, by the text of its name
pub looked_at : (Shows : Looks) (said at : List ℕ) → said ≡ at → (o : Option Discovery)
    → MatchOption o (Passes Shows said) (EndsIn Shows said) → MatchOption o (Passes Shows at) (EndsIn Shows at)
looked_at Shows said at is o d = subst (λ a. MatchOption o (Passes Shows a) (EndsIn Shows a)) is d
