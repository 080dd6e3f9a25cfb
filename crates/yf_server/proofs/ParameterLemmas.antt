-- The changes of an array, one more at a time.
use Rattle.std.proofs.Common.{◌≡◌, ℕ, ◌+◌, ◌<◌, ◌≤◌, List, [], ◌∷◌, ◌++◌, length, drop, get_or, map, option_map, Option, None, Some, refl, sym, ap, ◌∙◌, append_assoc, append-nil}
use Rattle.std.proofs.lemmas.List.{drop_all, drop_more}
use Rattle.serde_json.specs.declared.value.Value.{Value}
use Rattle.serde_json.specs.View.{items_of, view}
use Rattle.yf_positions.specs.Changes.{TextChange}
use Rattle.yf_server.specs.Parameters.{change_of, changes_by, changes_of}

abbrev pub left : ℕ → List Value → Option (List TextChange)
left i vs = changes_of (items_of (map view (drop i vs)))

left_first : (vs : List Value) (i : ℕ) (x : Value) → i < length vs → x ≡ get_or vs i x
    → left i vs ≡ changes_by (change_of (view x)) (left (i + 1) vs)
left_first vs i x l is =
    ap (λ ws. changes_of (items_of (map view ws))) (drop_more vs i x l ∙ ap (λ y. y ∷ drop (i + 1) vs) (sym is))

one_more : (done : List TextChange) (c : TextChange) (rest : Option (List TextChange))
    → option_map (λ r. (done ++ c ∷ []) ++ r) rest ≡ option_map (λ r. done ++ r) (changes_by (Some c) rest)
one_more done c None = refl
one_more done c (Some r) = ap Some (append_assoc done (c ∷ []) r)

pub changes_more : (vs : List Value) (i : ℕ) (x : Value) (c : TextChange) (done after : List TextChange)
    (all : Option (List TextChange)) → i < length vs → x ≡ get_or vs i x → Some c ≡ change_of (view x)
    → after ≡ done ++ c ∷ [] → option_map (λ r. done ++ r) (left i vs) ≡ all
    → option_map (λ r. after ++ r) (left (i + 1) vs) ≡ all
changes_more vs i x c done after all l is e made h =
    ap (λ z. option_map (λ r. z ++ r) (left (i + 1) vs)) made
    ∙ one_more done c (left (i + 1) vs)
    ∙ ap (λ z. option_map (λ r. done ++ r) (changes_by z (left (i + 1) vs))) e
    ∙ ap (option_map (λ r. done ++ r)) (sym (left_first vs i x l is))
    ∙ h

pub changes_none : (vs : List Value) (i : ℕ) (x : Value) (done : List TextChange) (all : Option (List TextChange))
    → i < length vs → x ≡ get_or vs i x → None ≡ change_of (view x) → option_map (λ r. done ++ r) (left i vs) ≡ all
    → None ≡ all
changes_none vs i x done all l is e h =
    ap (λ z. option_map (λ r. done ++ r) (changes_by z (left (i + 1) vs))) e
    ∙ ap (option_map (λ r. done ++ r)) (sym (left_first vs i x l is))
    ∙ h

pub changes_end : (vs : List Value) (i : ℕ) (done : List TextChange) (all : Option (List TextChange)) → length vs ≤ i
    → option_map (λ r. done ++ r) (left i vs) ≡ all → Some done ≡ all
changes_end vs i done all l h =
    ap Some (sym (append-nil done))
    ∙ ap (λ ws. option_map (λ r. done ++ r) (changes_of (items_of (map view ws)))) (sym (drop_all i vs l))
    ∙ h

none_yet : (rest : Option (List TextChange)) → option_map (λ r. [] ++ r) rest ≡ rest
none_yet None = refl
none_yet (Some r) = refl

pub changes_begin : (vs : List Value) (done : List TextChange) → done ≡ []
    → option_map (λ r. done ++ r) (changes_of (items_of (map view vs))) ≡ changes_of (items_of (map view vs))
changes_begin vs done e =
    ap (λ z. option_map (λ r. z ++ r) (changes_of (items_of (map view vs)))) e
    ∙ none_yet (changes_of (items_of (map view vs)))
