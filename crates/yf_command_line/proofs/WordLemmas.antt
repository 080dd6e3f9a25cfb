-- The rest of some words consists of the next one and the words after it.
use Rattle.std.proofs.Common.{◌≡◌, ◌∙◌, ◌++◌, ◌+◌, ◌<◌, ℕ, Bool, true, List, [], ◌∷◌, sym, subst, ap}
use Rattle.std.proofs.Common.{length, drop, get_or, map, add-one, drop-cons}
use Rattle.std.proofs.Math.ListN.{get_or-map}
use Rattle.std.proofs.lemmas.List.{append_assoc, length-map}
use Rattle.std.proofs.lemmas.List.Folds.{list_any_at}
use Rattle.std.specs.Borrow.{Bor}
use Rattle.std.specs.List.{flat_map, list_any}

-- The texts of some words.
abbrev pub texts : List (Bor (List ℕ)) → List (List ℕ)
texts words = map (λ w. w.now) words

next_word : (words : List (Bor (List ℕ))) (k : ℕ) (d : Bor (List ℕ)) (word : List ℕ) → k < length words
    → word ≡ (get_or words k d).now → drop k (texts words) ≡ word ∷ drop (k + 1) (texts words)
next_word words k d word within same =
    let inside : k < length (texts words) =
    subst (λ n. k < n) (sym (length-map words (λ (w : Bor (List ℕ)). w.now))) within in
    let at : get_or (texts words) k d.now ≡ word = get_or-map (λ (w : Bor (List ℕ)). w.now) words k d ∙ sym same in
    let cut : drop k (texts words) ≡ get_or (texts words) k d.now ∷ drop (k + 1) (texts words) =
    rw add-one (drop-cons (texts words) k d.now inside) in
    cut ∙ ap (λ x. x ∷ drop (k + 1) (texts words)) at

-- One of the words passes a test.
pub some_word : (test : List ℕ → Bool) (words : List (Bor (List ℕ))) (k : ℕ) (d : Bor (List ℕ)) → k < length words
    → test (get_or words k d).now ≡ true → true ≡ list_any test (texts words)
some_word test words k d within passed =
    let inside : k < length (texts words) =
    subst (λ n. k < n) (sym (length-map words (λ (w : Bor (List ℕ)). w.now))) within in
    let at : get_or (texts words) k d.now ≡ (get_or words k d).now =
    get_or-map (λ (w : Bor (List ℕ)). w.now) words k d in
    sym (list_any_at test (texts words) k d.now inside (ap test at ∙ passed))

-- One more of the words is copied.
pub one_more_text : (words : List (Bor (List ℕ))) (k : ℕ) (d : Bor (List ℕ)) (copied more whole : List (List ℕ))
    (text : List ℕ) → k < length words → more ≡ copied ++ text ∷ [] → text ≡ (get_or words k d).now
    → copied ++ drop k (texts words) ≡ whole → more ++ drop (k + 1) (texts words) ≡ whole
one_more_text words k d copied more whole text within pushed same left =
    let rest : List (List ℕ) = drop (k + 1) (texts words) in
    ap (λ x. x ++ rest) pushed ∙ (append_assoc copied (text ∷ []) rest
    ∙ (ap (λ x. copied ++ x) (sym (next_word words k d text within same)) ∙ left))

-- The items of one more word are added.
pub one_more_word : {X : Type 0} (f : List ℕ → List X) (words : List (Bor (List ℕ))) (k : ℕ) (d : Bor (List ℕ))
    (given more whole : List X) (word : List ℕ) → k < length words → more ≡ given ++ f word
    → word ≡ (get_or words k d).now → given ++ flat_map f (drop k (texts words)) ≡ whole
    → more ++ flat_map f (drop (k + 1) (texts words)) ≡ whole
one_more_word {X = X} f words k d given more whole word within added same left =
    let rest : List X = flat_map f (drop (k + 1) (texts words)) in
    ap (λ x. x ++ rest) added ∙ (append_assoc given (f word) rest
    ∙ (ap (λ x. given ++ flat_map f x) (sym (next_word words k d word within same)) ∙ left))
