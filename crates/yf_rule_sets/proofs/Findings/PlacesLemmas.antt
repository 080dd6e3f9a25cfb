-- Laws of the positions of a list of offsets.
use Rattle.std.proofs.Common.{◌≡◌, ℕ, ◌+◌, ◌<◌, ◌&&◌, ◌==◌, Bool, true, List, [], ◌∷◌, ◌++◌, length, take, get_or, sym, subst, ap, ◌∙◌, ⊎_elim, arith}
use Rattle.std.specs.Cmp.{IsEquivalence, IsTotalOrder, both_tied, unsigned_ties}
use Rattle.std.specs.List.{Contains}
use Rattle.std.specs.Ordering.{eq_by_cmp, nat_cmp}
use Rattle.std.specs.Str.{IsCharBoundary}
use Rattle.std.proofs.lemmas.Cmp.{and_equiv, nat_cmp_total, nat_eq_equiv, on_equiv, on_total, then_total}
use Rattle.std.proofs.lemmas.Bool.{and_parts, eqb-true}
use Rattle.std.proofs.lemmas.List.{take_more}
use Rattle.std.proofs.lemmas.List.Elements.{Contains-push, Contains-push_cases, Contains-append_left}
use Rattle.yf_lines.specs.declared.place.Position.{Position}
use Rattle.yf_lines.specs.Lines.{PlaceOf}
use Rattle.yf_lines.proofs.PlaceLemmas.{place_unique}
use Rattle.yf_rule_sets.specs.RuleSets.Places.{IsPlaceIn, PlacesOf, place_cmp}

abbrev place_by : ℕ → ℕ → Position
place_by line column = record { line = line; column = column }

same_place : (p q : Position) → (p.line ≡ q.line) × (p.column ≡ q.column) → p ≡ q
same_place p q e = ap (λ l. place_by l p.column) e.0 ∙ ap (place_by q.line) e.1

no_element : {A : Type 0} (x : A) → Contains {X = A} [] x → ⊥
no_element x c = omega (arith, c.1)

pub no_places : (t : List ℕ) (ps : List Position) → ps ≡ [] → PlacesOf t [] ps
no_places t ps e = subst (PlacesOf t []) (sym e) (record {
  only = λ p c. absurd (no_element p c);
  all = λ p w. absurd (no_element w.offset w.among);
})

wider : (t os : List ℕ) (o : ℕ) (p : Position) → IsPlaceIn t os p → IsPlaceIn t (os ++ o ∷ []) p
wider t os o p w = record { offset = w.offset; among = Contains-append_left os (o ∷ []) w.offset w.among; boundary = w.boundary; place = w.place }

-- one more offset, with its position or without one
place_added : (t os : List ℕ) (o : ℕ) (ps : List Position) (p : Position) → PlacesOf t os ps → IsCharBoundary t o → PlaceOf t o p.line p.column
    → PlacesOf t (os ++ o ∷ []) (ps ++ p ∷ [])
place_added t os o ps p s b h = record {
  only = λ q c. ⊎_elim (λ (x : Contains ps q). wider t os o q (s.only q x))
      (λ (e : p ≡ q). subst (IsPlaceIn t (os ++ o ∷ [])) e (record { offset = o; among = Contains-push os o; boundary = b; place = h }))
      (Contains-push_cases ps p q c);
  all = λ q w. ⊎_elim (λ (x : Contains os w.offset). Contains-append_left ps (p ∷ []) q (s.all q (record { offset = w.offset; among = x; boundary = w.boundary; place = w.place })))
      (λ (e : o ≡ w.offset).
      let there : PlaceOf t w.offset p.line p.column = subst (λ k. PlaceOf t k p.line p.column) e h in
      subst (Contains (ps ++ p ∷ [])) (same_place p q (place_unique there w.place)) (Contains-push ps p))
      (Contains-push_cases os o w.offset w.among);
}

place_left : (t os : List ℕ) (o : ℕ) (ps : List Position) → PlacesOf t os ps → (IsCharBoundary t o → ⊥) → PlacesOf t (os ++ o ∷ []) ps
place_left t os o ps s n = record {
  only = λ q c. wider t os o q (s.only q c);
  all = λ q w. ⊎_elim (λ (x : Contains os w.offset). s.all q (record { offset = w.offset; among = x; boundary = w.boundary; place = w.place }))
      (λ (e : o ≡ w.offset). absurd (n (subst (IsCharBoundary t) (sym e) w.boundary)))
      (Contains-push_cases os o w.offset w.among);
}

pub places_more : (t : List ℕ) (os : List ℕ) (i : ℕ) (ps qs : List Position) (p : Position) → i < length os → PlacesOf t (take i os) ps
    → IsCharBoundary t (get_or os i 0) → PlaceOf t (get_or os i 0) p.line p.column → qs ≡ ps ++ p ∷ [] → PlacesOf t (take (i + 1) os) qs
places_more t os i ps qs p h s b q e =
    subst (λ xs. PlacesOf t xs qs) (sym (take_more os i 0 h))
    (subst (λ xs. PlacesOf t (take i os ++ get_or os i 0 ∷ []) xs) (sym e) (place_added t (take i os) (get_or os i 0) ps p s b q))

pub places_passed : (t : List ℕ) (os : List ℕ) (i : ℕ) (ps : List Position) → i < length os → PlacesOf t (take i os) ps
    → (IsCharBoundary t (get_or os i 0) → ⊥) → PlacesOf t (take (i + 1) os) ps
places_passed t os i ps h s n = subst (λ xs. PlacesOf t xs ps) (sym (take_more os i 0 h)) (place_left t (take i os) (get_or os i 0) ps s n)

-- the order of positions is total, and positions that compare equal are equal
pub place_total : IsTotalOrder place_cmp
place_total = then_total (on_total (λ p. p.line) nat_cmp_total) (on_total (λ p. p.column) nat_cmp_total)

pub place_ties : (p q : Position) → ((p.line == q.line) && (p.column == q.column)) ≡ eq_by_cmp place_cmp p q
place_ties p q = both_tied _ _ (nat_cmp p.line q.line) (nat_cmp p.column q.column) (unsigned_ties p.line q.line) (unsigned_ties p.column q.column)

abbrev pub is_same : Position → Position → Bool
is_same p q = (p.line == q.line) && (p.column == q.column)

pub same_equivalence : IsEquivalence is_same
same_equivalence = and_equiv (on_equiv (λ p. p.line) nat_eq_equiv) (on_equiv (λ p. p.column) nat_eq_equiv)

pub same_is : (p q : Position) → is_same p q ≡ true → p ≡ q
same_is p q e =
    let w = and_parts (p.line == q.line) (p.column == q.column) e in
    same_place p q (eqb-true p.line q.line w.0, eqb-true p.column q.column w.1)
