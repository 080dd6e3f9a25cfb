-- Line breaks between two offsets.
use Rattle.std.proofs.Common.{◌≡◌, ℕ, ◌≤◌, ◌-◌, ◌<◌, Bool, false, List, [], ◌∷◌, length, take, drop, min, refl, sym, ap, ◌∙◌, arith, length-drop, ⊎_elim}
use Rattle.std.specs.Prelude.{slice_range}
use Rattle.std.specs.List.{list_any}
use Rattle.std.proofs.lemmas.Bool.{cases_lt}
use Rattle.std.proofs.lemmas.List.{drop_all, take_all, take-take, take_min}

-- a range that ends at the latest with the text
same_range : (t : List ℕ) (start end stop : ℕ) → stop ≡ min end (length t) → start < stop → slice_range t start stop ≡ slice_range t start end
same_range t start end stop e h =
    let ys = drop start t in
    let l : length ys ≡ length t - start = length-drop start t in
    let n : stop - start ≡ min (end - start) (length ys) = omega (arith, e, l, h) in
    ap (λ k. take k ys) n ∙ take_min (end - start) ys

take_none : (n : ℕ) (xs : List ℕ) → length xs ≤ 0 → take n xs ≡ []
take_none n [] h = take_all n [] (omega arith)
take_none n (x ∷ xs) h = absurd (omega (arith, h))

nothing_left : (t : List ℕ) (start end stop : ℕ) → stop ≡ min end (length t) → stop ≤ start → slice_range t start end ≡ []
nothing_left t start end stop e h = ⊎_elim
    (λ (l : length t < end). take_none (end - start) (drop start t) (let n = length-drop start t in omega (arith, e, h, l, n)))
    (λ (l : end ≤ length t). let z : end - start ≡ 0 = omega (arith, e, h, l) in ap (λ k. take k (drop start t)) z)
    (cases_lt (length t) end)

pub break_range : (test : ℕ → Bool) (t : List ℕ) (start end stop : ℕ) (b : Bool) → stop ≡ min end (length t) → start < stop
    → b ≡ list_any test (slice_range t start stop) → b ≡ list_any test (slice_range t start end)
break_range test t start end stop b e h f = f ∙ ap (list_any test) (same_range t start end stop e h)

pub no_range : (test : ℕ → Bool) (t : List ℕ) (start end stop : ℕ) → stop ≡ min end (length t) → stop ≤ start
    → false ≡ list_any test (slice_range t start end)
no_range test t start end stop e h = sym (ap (list_any test) (nothing_left t start end stop e h))
