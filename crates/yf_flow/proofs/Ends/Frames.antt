-- The open collections: their invariant stays when events are added, and when one is opened or closed.
use Rattle.std.proofs.Common.{◌≡◌, ℕ, zero, suc, ◌<◌, ◌≤◌, List, [], ◌∷◌, ◌++◌, length, take, drop, refl, ap, subst, sym, arith, length-append}
use Rattle.std.proofs.lemmas.List.Elements.{All-append, All-weaker, All-cons, All-nil}
use Rattle.std.specs.List.{All}
use Rattle.std.specs.Str.{IsCharBoundary}
use Rattle.yf_flow.specs.declared.frame.Frame.{Frame}
use Rattle.yf_flow.specs.Machine.{EntryIsIn}

pub indexed_more : {t : List ℕ} (m k : ℕ) → m ≤ k → (f : Frame) → EntryIsIn t m f → EntryIsIn t k f
indexed_more m k l f i = record { event = omega (arith, i.event); entry = omega (arith, i.entry); place = i.place }

pub frames_more : {t : List ℕ} (m k : ℕ) (fs : List Frame) → m ≤ k → All (EntryIsIn t m) fs → All (EntryIsIn t k) fs
frames_more {t} m k fs l a = All-weaker (EntryIsIn t m) (EntryIsIn t k) (indexed_more m k l) fs a

pub frames_pushed : {t : List ℕ} (m k : ℕ) (fs gs : List Frame) (f : Frame) → gs ≡ fs ++ f ∷ [] → m ≤ k
    → All (EntryIsIn t m) fs → EntryIsIn t k f → All (EntryIsIn t k) gs
frames_pushed {t} m k fs gs f e l a i =
    let whole = All-append (EntryIsIn t k) fs (f ∷ []) (frames_more m k fs l a) (All-cons (EntryIsIn t k) f [] i (All-nil (EntryIsIn t k))) in
    subst (λ xs. All (EntryIsIn t k) xs) (sym e) whole

pub pushed_longer : {X : Type 0} (xs ys : List X) (x : X) → ys ≡ xs ++ x ∷ [] → length xs < length ys
pushed_longer {X} xs ys x e = rw e (omega (arith, length-append {A = X}))

-- all of no escapes begin at boundaries
pub none_outside : (t es : List ℕ) → es ≡ [] → All (IsCharBoundary t) es
none_outside t es e = subst (λ xs. All (IsCharBoundary t) xs) (sym e) (All-nil (IsCharBoundary t))

-- an element put among others
inserted_length : {X : Type 0} (i : ℕ) (xs : List X) (x : X) → length (take i xs ++ x ∷ drop i xs) ≡ suc (length xs)
inserted_length zero xs x = refl
inserted_length (suc i) [] x = refl
inserted_length (suc i) (a ∷ xs) x = ap suc (inserted_length i xs x)

pub inserted_longer : {X : Type 0} (i : ℕ) (xs ys : List X) (x : X) → ys ≡ take i xs ++ x ∷ drop i xs → length xs < length ys
inserted_longer i xs ys x e = rw e (omega (arith, inserted_length i xs x))
