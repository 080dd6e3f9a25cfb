-- Pieces from some item on, and the result of the pieces before a run.
use Rattle.std.proofs.Common.{◌≡◌, ℕ, zero, suc, ◌+◌, ◌<◌, ◌≤◌, Bool, true, false, List, [], ◌∷◌, length, drop, get_or, refl, sym, subst, ap, ◌∙◌, arith, add-one}
use Rattle.std.proofs.Math.Seq.{drop-cons}
use Rattle.std.proofs.lemmas.List.{drop_all, length-drop}
use Rattle.yf_excludes.specs.Spans.{Spans, no_piece, piece_takes_item, run_ends, run_takes_item, Within, from_here, from_further, NoRuns, no_more, one_more, Reaches, ReachesRun}

apart : {b : Bool} → b ≡ true → b ≡ false → ⊥
apart t f = cc

-- the element at an index, and the elements after it
pub drop_next : {A : Type 0} (ps : List A) (n : ℕ) (a : A) → n < length ps → a ≡ get_or ps n a
    → drop n ps ≡ a ∷ drop (n + 1) ps
drop_next ps n a below is =
    rw add-one (drop-cons ps n a below ∙ ap (λ z. z ∷ drop (suc n) ps) (sym is))

-- n items after the first n pieces, which are not runs
pub after_fixed : {A B : Type 0} {is_run : A → Bool} {Takes : A → B → Type 0} {n : ℕ} {ps : List A} {xs : List B}
    → NoRuns is_run n ps → Spans is_run Takes ps xs → Spans is_run Takes (drop n ps) (drop n xs)
after_fixed no_more s = s
after_fixed (one_more e r) (piece_takes_item _ _ s) = after_fixed r s
after_fixed (one_more e r) (run_ends t _) = absurd (apart t e)
after_fixed (one_more e r) (run_takes_item t _) = absurd (apart t e)

pub more_fixed : {A : Type 0} {is_run : A → Bool} {n : ℕ} {ps qs : List A} {a : A}
    → NoRuns is_run n ps → drop n ps ≡ a ∷ qs → is_run a ≡ false → NoRuns is_run (suc n) ps
more_fixed {is_run = is_run} no_more e f = subst (λ z. NoRuns is_run 1 z) (sym e) (one_more f no_more)
more_fixed (one_more g r) e f = one_more g (more_fixed r e f)

-- a run and the pieces after it
pub after_run : {A B : Type 0} {is_run : A → Bool} {Takes : A → B → Type 0} {a : A} {ps : List A} {xs : List B}
    → is_run a ≡ true → Spans is_run Takes (a ∷ ps) xs → Within is_run Takes ps xs
after_run t (piece_takes_item f _ _) = absurd (apart t f)
after_run t (run_ends _ s) = from_here s
after_run t (run_takes_item _ s) = from_further (after_run t s)

pub with_run : {A B : Type 0} {is_run : A → Bool} {Takes : A → B → Type 0} {a : A} {ps : List A} {xs : List B}
    → is_run a ≡ true → Within is_run Takes ps xs → Spans is_run Takes (a ∷ ps) xs
with_run t (from_here s) = run_ends t s
with_run t (from_further w) = run_takes_item t (with_run t w)

-- one item more in front
one_back : {A B : Type 0} {is_run : A → Bool} {Takes : A → B → Type 0} {ps : List A} (n : ℕ) (b : B) (xs : List B)
    → Within is_run Takes ps (drop n xs) → Within is_run Takes ps (drop n (b ∷ xs))
one_back zero b xs w = from_further w
one_back (suc zero) b [] w = w
one_back (suc (suc n)) b [] w = w
one_back (suc n) b (c ∷ xs) w = one_back n c xs w

-- from some item on, the pieces after the run take the rest too
pub past_run : {A B : Type 0} {is_run : A → Bool} {Takes : A → B → Type 0} {n : ℕ} {a : A} {ps : List A} {xs : List B}
    → NoRuns is_run n ps → drop n ps ≡ a ∷ drop (n + 1) ps → is_run a ≡ true → Within is_run Takes ps xs
    → Within is_run Takes (drop (n + 1) ps) (drop n xs)
past_run {is_run = is_run} {Takes = Takes} {n = n} {xs = xs} fixed next t (from_here s) =
    after_run t (subst (λ z. Spans is_run Takes z (drop n xs)) next (after_fixed fixed s))
past_run {n = n} fixed next t (from_further {b} {xs} w) = one_back n b xs (past_run fixed next t w)

-- the pieces take the items if and only if those after the run take the items from some item on
pub run_spans : {A B : Type 0} {is_run : A → Bool} {Takes : A → B → Type 0} {n : ℕ} {ps : List A} {xs : List B}
    → ReachesRun is_run Takes ps xs n → Within is_run Takes (drop (n + 1) ps) (drop n xs) → Spans is_run Takes ps xs
run_spans {is_run = is_run} {Takes = Takes} {n = n} {xs = xs} r w =
    r.reached.back (subst (λ z. Spans is_run Takes z (drop n xs)) (sym r.next) (with_run r.runs w))

pub spans_run : {A B : Type 0} {is_run : A → Bool} {Takes : A → B → Type 0} {n : ℕ} {ps : List A} {xs : List B}
    → ReachesRun is_run Takes ps xs n → Within is_run Takes ps xs → Within is_run Takes (drop (n + 1) ps) (drop n xs)
spans_run r w = past_run r.reached.fixed r.next r.runs w

-- pieces that don't take the items take those after the first, or none
pub not_here : {A B : Type 0} {is_run : A → Bool} {Takes : A → B → Type 0} {ps : List A} {xs : List B}
    → (Spans is_run Takes ps xs → ⊥) → Within is_run Takes ps xs → Within is_run Takes ps (drop 1 xs)
not_here never (from_here s) = absurd (never s)
not_here never (from_further w) = w

pub further : {A B : Type 0} {is_run : A → Bool} {Takes : A → B → Type 0} {ps : List A} (xs : List B)
    → 0 < length xs → Within is_run Takes ps (drop 1 xs) → Within is_run Takes ps xs
further [] above w = absurd (omega arith)
further (b ∷ xs) above w = from_further w

pub nowhere : {A B : Type 0} {is_run : A → Bool} {Takes : A → B → Type 0} {ps : List A} {xs : List B}
    → length xs ≡ 0 → (Spans is_run Takes ps xs → ⊥) → Within is_run Takes ps xs → ⊥
nowhere none never (from_here s) = never s
nowhere none never (from_further {b} {xs} w) = absurd (omega arith)

-- the loop over the pieces before a run
pub reaches_none : {A B : Type 0} {is_run : A → Bool} {Takes : A → B → Type 0} (ps : List A) (xs : List B)
    → Reaches is_run Takes ps xs 0
reaches_none ps xs = record { pieces = omega arith; items = omega arith; fixed = no_more; back = λ s. s }

pub reaches_more : {A B : Type 0} {is_run : A → Bool} {Takes : A → B → Type 0} {n : ℕ} {a : A} {b : B} {ps : List A}
    {xs : List B}
    → Reaches is_run Takes ps xs n → n < length ps → a ≡ get_or ps n a → is_run a ≡ false
    → n < length xs → b ≡ get_or xs n b → Takes a b → Reaches is_run Takes ps xs (n + 1)
reaches_more {is_run = is_run} {Takes = Takes} {n = n} {a = a} {b = b} {ps = ps} {xs = xs} r below is f under at takes =
    let piece = drop_next ps n a below is in
    let item = drop_next xs n b under at in
    record {
      pieces = omega arith;
      items = omega arith;
      fixed = rw add-one (more_fixed r.fixed piece f);
      back = λ s. r.back (subst (λ z. Spans is_run Takes z (drop n xs)) (sym piece)
          (subst (λ z. Spans is_run Takes (a ∷ drop (n + 1) ps) z) (sym item) (piece_takes_item f takes s)));
    }

pub reaches_run : {A B : Type 0} {is_run : A → Bool} {Takes : A → B → Type 0} {n : ℕ} {a : A} {ps : List A}
    {xs : List B}
    → Reaches is_run Takes ps xs n → n < length ps → a ≡ get_or ps n a → is_run a ≡ true
    → ReachesRun is_run Takes ps xs n
reaches_run {n = n} {a = a} {ps = ps} r below is t =
    record { reached = r; below = below; run = a; next = drop_next ps n a below is; runs = t }

-- a piece that is not a run takes an item, and no item is left without a piece
left_none : {A B : Type 0} {is_run : A → Bool} {Takes : A → B → Type 0} {a : A} {ps : List A}
    → is_run a ≡ false → Spans is_run Takes (a ∷ ps) [] → ⊥
left_none f (run_ends t _) = apart t f

left_one : {A B : Type 0} {is_run : A → Bool} {Takes : A → B → Type 0} {b : B} {xs : List B}
    → Spans is_run Takes [] (b ∷ xs) → ⊥
left_one s = elim s [ ]

head_takes : {A B : Type 0} {is_run : A → Bool} {Takes : A → B → Type 0} {a : A} {b : B} {ps : List A} {xs : List B}
    → is_run a ≡ false → Spans is_run Takes (a ∷ ps) (b ∷ xs) → Takes a b
head_takes f (piece_takes_item _ takes _) = takes
head_takes f (run_ends t _) = absurd (apart t f)
head_takes f (run_takes_item t _) = absurd (apart t f)

pub short_items : {A B : Type 0} {is_run : A → Bool} {Takes : A → B → Type 0} {n : ℕ} {a : A} {ps : List A}
    {xs : List B}
    → Reaches is_run Takes ps xs n → n < length ps → a ≡ get_or ps n a → is_run a ≡ false → n ≡ length xs
    → Spans is_run Takes ps xs → ⊥
short_items {is_run = is_run} {Takes = Takes} {n = n} {a = a} {ps = ps} {xs = xs} r below is f end s =
    let piece = drop_next ps n a below is in
    let none : drop n xs ≡ [] = drop_all n xs (omega arith) in
    left_none f (subst (λ z. Spans is_run Takes (a ∷ drop (n + 1) ps) z) none
    (subst (λ z. Spans is_run Takes z (drop n xs)) piece (after_fixed r.fixed s)))

pub refused : {A B : Type 0} {is_run : A → Bool} {Takes : A → B → Type 0} {n : ℕ} {a : A} {b : B} {ps : List A}
    {xs : List B}
    → Reaches is_run Takes ps xs n → n < length ps → a ≡ get_or ps n a → is_run a ≡ false
    → n < length xs → b ≡ get_or xs n b → (Takes a b → ⊥) → Spans is_run Takes ps xs → ⊥
refused {is_run = is_run} {Takes = Takes} {n = n} {a = a} {b = b} {ps = ps} {xs = xs} r below is f under at never s =
    never (head_takes f (subst (λ z. Spans is_run Takes (a ∷ drop (n + 1) ps) z) (drop_next xs n b under at)
    (subst (λ z. Spans is_run Takes z (drop n xs)) (drop_next ps n a below is) (after_fixed r.fixed s))))

pub whole : {A B : Type 0} {is_run : A → Bool} {Takes : A → B → Type 0} {n : ℕ} {ps : List A} {xs : List B}
    → Reaches is_run Takes ps xs n → n ≡ length ps → n ≡ length xs → Spans is_run Takes ps xs
whole {is_run = is_run} {Takes = Takes} {n = n} {ps = ps} {xs = xs} r last end =
    let no_ps : drop n ps ≡ [] = drop_all n ps (omega arith) in
    let no_xs : drop n xs ≡ [] = drop_all n xs (omega arith) in
    r.back (subst (λ z. Spans is_run Takes z (drop n xs)) (sym no_ps)
    (subst (λ z. Spans is_run Takes [] z) (sym no_xs) no_piece))

no_items : {A B : Type 0} {is_run : A → Bool} {Takes : A → B → Type 0} (xs : List B) → Spans is_run Takes [] xs
    → length xs ≡ 0
no_items [] s = refl
no_items (b ∷ xs) s = absurd (left_one s)

pub too_many : {A B : Type 0} {is_run : A → Bool} {Takes : A → B → Type 0} {n : ℕ} {ps : List A} {xs : List B}
    → Reaches is_run Takes ps xs n → n ≡ length ps → (n ≡ length xs → ⊥) → Spans is_run Takes ps xs → ⊥
too_many {is_run = is_run} {Takes = Takes} {n = n} {ps = ps} {xs = xs} r last other s =
    let no_ps : drop n ps ≡ [] = drop_all n ps (omega arith) in
    let none : length (drop n xs) ≡ 0 = no_items (drop n xs)
    (subst (λ z. Spans is_run Takes z (drop n xs)) no_ps (after_fixed r.fixed s)) in
    let short : n ≤ length xs = r.items in
    other (omega (arith, length-drop n xs))

-- the pieces after a run, as other lists equal to the rest
pub run_forth : {A B : Type 0} {is_run : A → Bool} {Takes : A → B → Type 0} {n : ℕ} {ps qs : List A} {xs ys : List B}
    → ReachesRun is_run Takes ps xs n → qs ≡ drop (n + 1) ps → ys ≡ drop n xs → Within is_run Takes ps xs
    → Within is_run Takes qs ys
run_forth {is_run = is_run} {Takes = Takes} {n = n} {ps = ps} {ys = ys} r e f w =
    subst (λ z. Within is_run Takes z ys) (sym e)
    (subst (λ z. Within is_run Takes (drop (n + 1) ps) z) (sym f) (spans_run r w))

pub run_back : {A B : Type 0} {is_run : A → Bool} {Takes : A → B → Type 0} {n : ℕ} {ps qs : List A} {xs ys : List B}
    → ReachesRun is_run Takes ps xs n → qs ≡ drop (n + 1) ps → ys ≡ drop n xs → Within is_run Takes qs ys
    → Spans is_run Takes ps xs
run_back {is_run = is_run} {Takes = Takes} {n = n} {ps = ps} {ys = ys} r e f w =
    run_spans r (subst (λ z. Within is_run Takes (drop (n + 1) ps) z) f (subst (λ z. Within is_run Takes z ys) e w))

pub rest_forth : {A B : Type 0} {is_run : A → Bool} {Takes : A → B → Type 0} {ps : List A} {xs ys : List B}
    → (Spans is_run Takes ps xs → ⊥) → ys ≡ drop 1 xs → Within is_run Takes ps xs → Within is_run Takes ps ys
rest_forth {is_run = is_run} {Takes = Takes} {ps = ps} never e w = subst (λ z. Within is_run Takes ps z) (sym e)
    (not_here never w)

pub rest_back : {A B : Type 0} {is_run : A → Bool} {Takes : A → B → Type 0} {ps : List A} {xs ys : List B}
    → 0 < length xs → ys ≡ drop 1 xs → Within is_run Takes ps ys → Within is_run Takes ps xs
rest_back {is_run = is_run} {Takes = Takes} {ps = ps} {xs = xs} above e w = further xs above
    (subst (λ z. Within is_run Takes ps z) e w)
