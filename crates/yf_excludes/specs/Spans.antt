-- A list of pieces takes a list of items, all of them, in order. A run takes any number of items, and each other piece
-- takes one.
use Rattle.std.specs.Prelude.{◌≡◌, ℕ, zero, suc, ◌+◌, ◌<◌, ◌≤◌, Bool, true, false, List, [], ◌∷◌, length, drop}
use Rattle.yf_excludes.specs.declared.spans.Front.{Front}
use Rattle.yf_excludes.specs.declared.spans.Front.TheVariants.{Run, Whole, Neither}

pub data Spans {A B : Type 0} (is_run : A → Bool) (Takes : A → B → Type 0) : List A → List B → Type 0 where
  no_piece : Spans is_run Takes [] []
  piece_takes_item : {a : A} {b : B} {ps : List A} {xs : List B}
      → is_run a ≡ false → Takes a b → Spans is_run Takes ps xs → Spans is_run Takes (a ∷ ps) (b ∷ xs)
  run_ends : {a : A} {ps : List A} {xs : List B}
      → is_run a ≡ true → Spans is_run Takes ps xs → Spans is_run Takes (a ∷ ps) xs
  run_takes_item : {a : A} {b : B} {ps : List A} {xs : List B}
      → is_run a ≡ true → Spans is_run Takes (a ∷ ps) xs → Spans is_run Takes (a ∷ ps) (b ∷ xs)

-- the pieces take the items from some item on, to the end
pub data Within {A B : Type 0} (is_run : A → Bool) (Takes : A → B → Type 0) (ps : List A) : List B → Type 0 where
  from_here : {xs : List B} → Spans is_run Takes ps xs → Within is_run Takes ps xs
  from_further : {b : B} {xs : List B} → Within is_run Takes ps xs → Within is_run Takes ps (b ∷ xs)

-- the first n pieces are not runs
pub data NoRuns {A : Type 0} (is_run : A → Bool) : ℕ → List A → Type 0 where
  no_more : {ps : List A} → NoRuns is_run zero ps
  one_more : {n : ℕ} {a : A} {ps : List A} → is_run a ≡ false → NoRuns is_run n ps → NoRuns is_run (suc n) (a ∷ ps)

-- the first n pieces are not runs and take the first n items
pub record Reaches {A B : Type 0} (is_run : A → Bool) (Takes : A → B → Type 0) (ps : List A) (xs : List B) (n : ℕ)
    : Type 0 where
  pub pieces : n ≤ length ps
  pub items : n ≤ length xs
  pub fixed : NoRuns is_run n ps
  pub back : Spans is_run Takes (drop n ps) (drop n xs) → Spans is_run Takes ps xs

-- and the next piece is a run
pub record ReachesRun {A B : Type 0} (is_run : A → Bool) (Takes : A → B → Type 0) (ps : List A) (xs : List B) (n : ℕ)
    : Type 0 where
  pub reached : Reaches is_run Takes ps xs n
  pub below : n < length ps
  pub run : A
  pub next : drop n ps ≡ run ∷ drop (n + 1) ps
  pub runs : is_run run ≡ true

-- the result of the pieces before the first run
abbrev pub FrontIs : {A B : Type 0} → (A → Bool) → (A → B → Type 0) → List A → List B → Front → Type 0
FrontIs is_run Takes ps xs (Run n) = ReachesRun is_run Takes ps xs n
FrontIs is_run Takes ps xs Whole = Spans is_run Takes ps xs
FrontIs is_run Takes ps xs Neither = ¬ (Spans is_run Takes ps xs)
