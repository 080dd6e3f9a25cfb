-- Sets of names, as tests.
use Rattle.std.proofs.Common.{◌≡◌, ℕ, Bool, true, false, List, [], ◌∷◌, cond, refl, sym, ap, ◌∙◌}
use Rattle.std.specs.Prelude.{not, Some}
use Rattle.std.specs.Borrow.{Bor}
use Rattle.std.specs.BTreeSet.{BTreeSet, contains, Updates, UpdatesBy}
use Rattle.std.specs.Cmp.Lexicographic.{slice_cmp}
use Rattle.std.specs.List.{list_any}
use Rattle.std.specs.BTreeMap.{is_at}
use Rattle.std.specs.Ordering.{nat_cmp}
use Rattle.std.specs.Str.{bytes_eq}
use Rattle.std.proofs.lemmas.Map.Text.{is_eq-slice_cmp}
use Rattle.yf_lint.specs.Anchors.{no_names, or_named, unless_defined}
use Rattle.yf_lint.specs.NameSets.{IsNameSet, name_cmp}

not_not : (b : Bool) → not (not b) ≡ b
not_not true = refl
not_not false = refl

-- a set after a name came or went
changed : (test : List ℕ → Bool) (old new : BTreeSet (Bor (List ℕ))) (name : Bor (List ℕ)) (b : Bool) → IsNameSet test old
    → Updates name_cmp old new name b → (q : Bor (List ℕ)) → contains name_cmp new q ≡ cond (bytes_eq name.now q.now) b (test q.now)
changed test old new name b i u q =
    u.0 q ∙ ap (λ x. cond x b (contains name_cmp old q)) (is_eq-slice_cmp name.now q.now) ∙ ap (λ x. cond (bytes_eq name.now q.now) b x) (i.same q)

pub name_added : (test : List ℕ → Bool) (old new : BTreeSet (Bor (List ℕ))) (name : Bor (List ℕ)) (is_new : Bool) → IsNameSet test old
    → is_new ≡ not (contains name_cmp old name) → Updates name_cmp old new name true → IsNameSet (or_named name.now test) new × (not is_new ≡ test name.now)
name_added test old new name is_new i e u =
    (record { same = changed test old new name true i u }, ap not e ∙ not_not (contains name_cmp old name) ∙ i.same name)

pub name_taken : (test : List ℕ → Bool) (old new : BTreeSet (Bor (List ℕ))) (name : Bor (List ℕ)) (was : Bool) → IsNameSet test old
    → was ≡ contains name_cmp old name → Updates name_cmp old new name false → IsNameSet (unless_defined (Some name.now) test) new × (was ≡ test name.now)
name_taken test old new name was i e u = (record { same = changed test old new name false i u }, e ∙ i.same name)

-- a set without names
pub none_named : (names : BTreeSet (Bor (List ℕ))) → names.keys ≡ [] → IsNameSet no_names names
none_named names e = record { same = λ q. ap (list_any (is_at (name_cmp q))) e }
