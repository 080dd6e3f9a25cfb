-- The remaining parts of a text are the next one and the parts after it.
use Rattle.std.proofs.Common.{◌≡◌, ◌∙◌, ◌++◌, ◌+◌, ◌<◌, ℕ, Bool, true, false, List, [], ◌∷◌, sym, subst, ap, refl}
use Rattle.std.proofs.Common.{length, drop, get_or, map, add-one, drop-cons}
use Rattle.std.proofs.Math.ListN.{get_or-map}
use Rattle.std.proofs.lemmas.List.{append_assoc, length-map}
use Rattle.std.specs.Borrow.{Bor}
use Rattle.std.specs.List.{list_all}

-- The bytes of some texts.
abbrev pub bytes_of : List (Bor (List ℕ)) → List (List ℕ)
bytes_of texts = map (λ t. t.now) texts

pub next_text : (texts : List (Bor (List ℕ))) (k : ℕ) (d : Bor (List ℕ)) → k < length texts
    → drop k (bytes_of texts) ≡ (get_or texts k d).now ∷ drop (k + 1) (bytes_of texts)
next_text texts k d within =
    let inside : k < length (bytes_of texts) =
    subst (λ n. k < n) (sym (length-map texts (λ (t : Bor (List ℕ)). t.now))) within in
    let at : get_or (bytes_of texts) k d.now ≡ (get_or texts k d).now =
    get_or-map (λ (t : Bor (List ℕ)). t.now) texts k d in
    let cut : drop k (bytes_of texts) ≡ get_or (bytes_of texts) k d.now ∷ drop (k + 1) (bytes_of texts) =
    rw add-one (drop-cons (bytes_of texts) k d.now inside) in
    cut ∙ ap (λ t. t ∷ drop (k + 1) (bytes_of texts)) at

-- The next text decides a test of all texts, if it fails, and leaves it to the texts after it, if it passes.
module _ (test : List ℕ → Bool) (texts : List (Bor (List ℕ))) (k : ℕ) (d : Bor (List ℕ)) (whole : Bool)
    (within : k < length texts) (left : list_all test (drop k (bytes_of texts)) ≡ whole) where
  pub one_fails : test (get_or texts k d).now ≡ false → false ≡ whole
  one_fails fails =
      let now : list_all test (drop k (bytes_of texts)) ≡ false =
      rw (next_text texts k d within, fails) refl in
      sym now ∙ left

  pub one_passes : test (get_or texts k d).now ≡ true → list_all test (drop (k + 1) (bytes_of texts)) ≡ whole
  one_passes passes =
      let now : list_all test (drop k (bytes_of texts)) ≡ list_all test (drop (k + 1) (bytes_of texts)) =
      rw (next_text texts k d within, passes) refl in
      sym now ∙ left

-- The result of one more text is added.
pub one_more : {X : Type 0} (f : List ℕ → X) (texts : List (Bor (List ℕ))) (k : ℕ) (d : Bor (List ℕ))
    (given more whole : List X) (x : X) → k < length texts → more ≡ given ++ x ∷ [] → x ≡ f (get_or texts k d).now
    → given ++ map f (drop k (bytes_of texts)) ≡ whole → more ++ map f (drop (k + 1) (bytes_of texts)) ≡ whole
one_more {X = X} f texts k d given more whole x within pushed same left =
    let rest : List X = map f (drop (k + 1) (bytes_of texts)) in
    let next : map f (drop k (bytes_of texts)) ≡ x ∷ rest =
    ap (λ l. map f l) (next_text texts k d within) ∙ ap (λ y. y ∷ rest) (sym same) in
    ap (λ l. l ++ rest) pushed ∙ (append_assoc given (x ∷ []) rest ∙ (ap (λ l. given ++ l) (sym next) ∙ left))
