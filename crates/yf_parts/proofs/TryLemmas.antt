-- Flags that are near others, and how they are counted.
use Rattle.std.proofs.Common.{◌≡◌, ℕ, zero, suc, ◌+◌, ◌-◌, ◌<◌, ◌≤◌, true, false, Bool, List, [], ◌∷◌, ◌++◌, length}
use Rattle.std.proofs.Common.{take, drop, get_or, slice_range, refl, sym, ap, subst, ◌∙◌, append_assoc, length-append}
use Rattle.std.proofs.Common.{length-drop, drop-cons, arith}
use Rattle.std.specs.Prelude.{map, nat_lt, if◌then◌else◌}
use Rattle.std.proofs.lemmas.Bool.{or_parts}
use Rattle.std.proofs.lemmas.Bool.Decides.{nat_tests}
use Rattle.std.proofs.lemmas.List.{take_all}
use Rattle.std.proofs.Math.Bool.{or-true}
use Rattle.yf_parts.specs.Asked.{Covers, has_true}
use Rattle.yf_parts.specs.Tries.{counts_from, is_near, near_all}
use Rattle.yf_parts.specs.declared.candidates.Reach.{Reach}

-- the number of flags that are set
abbrev trues : List Bool → ℕ
trues [] = 0
trues (true ∷ rest) = trues rest + 1
trues (false ∷ rest) = trues rest

counted : (c : ℕ) (flags : List Bool) (k d : ℕ) → k ≤ length flags
    → get_or (counts_from c flags) k d ≡ c + trues (take k flags)
counted c [] zero d l = omega arith
counted c [] (suc k) d l = absurd (omega arith)
counted c (x ∷ rest) zero d l = omega arith
counted c (true ∷ rest) (suc k) d l =
    let later : get_or (counts_from (c + 1) rest) k d ≡ (c + 1) + trues (take k rest) =
    counted (c + 1) rest k d (omega arith) in
    later ∙ omega arith
counted c (false ∷ rest) (suc k) d l = counted c rest k d (omega arith)

some_true : (flags : List Bool) → has_true flags ≡ nat_lt 0 (trues flags)
some_true [] = refl
some_true (true ∷ flags) = grind (arith, nat_tests)
some_true (false ∷ flags) = some_true flags

trues_cut : (flags : List Bool) (a b n : ℕ) → b ≡ a + n
    → trues (take b flags) ≡ trues (take a flags) + trues (take n (drop a flags))
trues_cut flags zero b n e =
    let same : b ≡ n = omega arith in
    let size : trues (take b flags) ≡ trues (take n flags) = ap (λ k. trues (take k flags)) same in
    let none : trues (take 0 flags) ≡ 0 = refl in
    let whole : trues (take n (drop 0 flags)) ≡ trues (take n flags) = refl in
    omega arith
trues_cut [] (suc a) zero n e = absurd (omega arith)
trues_cut [] (suc a) (suc b) zero e = refl
trues_cut [] (suc a) (suc b) (suc n) e = refl
trues_cut (x ∷ flags) (suc a) zero n e = absurd (omega arith)
trues_cut (true ∷ flags) (suc a) (suc b) n e =
    let later : trues (take b flags) ≡ trues (take a flags) + trues (take n (drop a flags)) =
    trues_cut flags a b n (omega arith) in
    omega arith
trues_cut (false ∷ flags) (suc a) (suc b) n e = trues_cut flags a b n (omega arith)

pub counts_length : (c : ℕ) (flags : List Bool) → length (counts_from c flags) ≡ length flags + 1
counts_length c [] = refl
counts_length c (x ∷ rest) =
    let later : length (counts_from (if x then c + 1 else c) rest) ≡ length rest + 1 =
    counts_length (if x then c + 1 else c) rest in
    omega arith

-- more flags are set before one index than before the other if and only if one between them is set
pub counts_tell : (flags : List Bool) (a b d e : ℕ) → a ≤ b → b ≤ length flags
    → nat_lt (get_or (counts_from 0 flags) a d) (get_or (counts_from 0 flags) b e) ≡ has_true (slice_range flags a b)
counts_tell flags a b d e l m =
    let front : get_or (counts_from 0 flags) a d ≡ 0 + trues (take a flags) = counted 0 flags a d (omega arith) in
    let whole : get_or (counts_from 0 flags) b e ≡ 0 + trues (take b flags) = counted 0 flags b e m in
    let first : get_or (counts_from 0 flags) a d ≡ trues (take a flags) = omega arith in
    let second : get_or (counts_from 0 flags) b e ≡ trues (take b flags) = omega arith in
    let cut : trues (take b flags) ≡ trues (take a flags) + trues (slice_range flags a b) =
    trues_cut flags a b (b - a) (omega arith) in
    let more : nat_lt (trues (take a flags)) (trues (take a flags) + trues (slice_range flags a b))
    ≡ nat_lt 0 (trues (slice_range flags a b)) = grind (arith, nat_tests) in
    rw (first, second, cut) (more ∙ sym (some_true (slice_range flags a b)))

-- an end after the last flag gives the number of an end at it
pub slice_past : (flags : List Bool) (a b : ℕ) → length flags ≤ b → a ≤ length flags
    → slice_range flags a (length flags) ≡ slice_range flags a b
slice_past flags a b l m = take_all (length flags - a) (drop a flags) (omega (arith, length-drop a flags))
    ∙ sym (take_all (b - a) (drop a flags) (omega (arith, length-drop a flags)))

module _ (counts : List ℕ) (flags : List Bool) (i : ℕ) (reach : Reach) (from : ℕ) (is : counts ≡ counts_from 0 flags)
    (inside : i < length flags)
    (before : from ≡ i - reach.after) where
  pub near_within : reach.before < length flags - i
      → nat_lt (get_or counts from 0) (get_or counts (i + reach.before + 1) 0) ≡ is_near reach flags i
  near_within l = rw (is, before)
      (counts_tell flags (i - reach.after) (i + reach.before + 1) 0 0 (omega arith) (omega arith))

  pub near_past : length flags - i ≤ reach.before → nat_lt (get_or counts from 0) (get_or counts (length flags) 0)
      ≡ is_near reach flags i
  near_past l = rw (is, before) (counts_tell flags (i - reach.after) (length flags) 0 0 (omega arith) (omega arith)
      ∙ ap has_true (slice_past flags (i - reach.after) (i + reach.before + 1) (omega arith) (omega arith)))

-- one more flag
pub near_next : (reach : Reach) (flags : List Bool) (i : ℕ) (chosen after : List Bool) (b : Bool) → i < length flags
    → after ≡ chosen ++ b ∷ [] → b ≡ is_near reach flags i
    → after ++ near_all reach flags (i + 1) (drop (i + 1) flags) ≡ chosen ++ near_all reach flags i (drop i flags)
near_next reach flags i chosen after b l e f =
    let next : suc i ≡ i + 1 = omega arith in
    let split : drop i flags ≡ get_or flags i true ∷ drop (i + 1) flags = drop-cons flags i true l
    ∙ ap (λ k. get_or flags i true ∷ drop k flags) next in
    rw (e, split, f) (append_assoc chosen (is_near reach flags i ∷ [])
    (near_all reach flags (i + 1) (drop (i + 1) flags)))

none_taken : (n : ℕ) (flags : List Bool) → has_true flags ≡ false → has_true (take n flags) ≡ false
none_taken zero flags e = refl
none_taken (suc n) [] e = refl
none_taken (suc n) (x ∷ flags) e = let parts = or_parts x (has_true flags) e in
    rw (parts.0, none_taken n flags parts.1) refl

none_dropped : (n : ℕ) (flags : List Bool) → has_true flags ≡ false → has_true (drop n flags) ≡ false
none_dropped zero flags e = e
none_dropped (suc n) [] e = refl
none_dropped (suc n) (x ∷ flags) e = none_dropped n flags (or_parts x (has_true flags) e).1

-- none is near if none is set
pub none_near : (reach : Reach) (flags : List Bool) (i : ℕ) (rest : List Bool) → has_true flags ≡ false
    → has_true (near_all reach flags i rest) ≡ false
none_near reach flags i [] e = refl
none_near reach flags i (x ∷ rest) e =
    rw (
      none_taken (i + reach.before + 1 - (i - reach.after)) (drop (i - reach.after) flags)
          (none_dropped (i - reach.after) flags e),
      none_near reach flags (i + 1) rest e,
    ) refl

pub near_length : (reach : Reach) (flags : List Bool) (i : ℕ) (rest : List Bool)
    → length (near_all reach flags i rest) ≡ length rest
near_length reach flags i [] = refl
near_length reach flags i (x ∷ rest) = ap suc (near_length reach flags (i + 1) rest)

-- a flag that is set is among those around it
true_around : (front : List Bool) (x : Bool) (rest : List Bool) (k n : ℕ) → k ≤ length front → length front < k + n
    → x ≡ true → has_true (take n (drop k (front ++ x ∷ rest))) ≡ true
true_around [] x rest zero zero a b e = absurd (omega arith)
true_around [] x rest zero (suc n) a b e = rw e refl
true_around [] x rest (suc k) n a b e = absurd (omega arith)
true_around (y ∷ front) x rest zero zero a b e = absurd (omega arith)
true_around (y ∷ front) x rest zero (suc n) a b e =
    rw (true_around front x rest zero n (omega arith) (omega arith) e) (or-true y)
true_around (y ∷ front) x rest (suc k) n a b e = true_around front x rest k n (omega arith) (omega arith) e

covers_from : (reach : Reach) (front rest flags : List Bool) (i : ℕ) → flags ≡ front ++ rest → i ≡ length front
    → Covers rest (near_all reach flags i rest)
covers_from reach front [] flags i e l = tt
covers_from reach front (x ∷ rest) flags i e l = (
  (λ on. subst (λ z. is_near reach z i ≡ true) (sym e)
      (true_around front x rest (i - reach.after) (i + reach.before + 1 - (i - reach.after)) (omega arith)
      (omega arith) on)),
  covers_from reach (front ++ x ∷ []) rest flags (i + 1) (e
      ∙ sym (append_assoc front (x ∷ []) rest)) (omega (arith, length-append front (x ∷ []))),
)

-- flags that were set are near
pub near_covers : (reach : Reach) (flags : List Bool) → Covers flags (near_all reach flags 0 flags)
near_covers reach flags = covers_from reach [] flags flags 0 refl refl

-- all flags are near one that is set, if the reach is large
module _ (reach : Reach) (flags : List Bool) (on : has_true flags ≡ true) (before : length flags ≤ reach.before)
    (after : length flags ≤ reach.after) where
  all_from : (i : ℕ) (rest : List Bool) → i + length rest ≤ length flags
      → near_all reach flags i rest ≡ map (λ _. true) rest
  all_from i [] m = refl
  all_from i (x ∷ rest) m =
      let none : i - reach.after ≡ 0 = omega arith in
      let whole : slice_range flags (i - reach.after) (i + reach.before + 1) ≡ flags =
      ap (λ k. slice_range flags k (i + reach.before + 1)) none
      ∙ take_all (i + reach.before + 1 - 0) flags (omega arith) in
      let here : is_near reach flags i ≡ true = ap has_true whole ∙ on in
      rw (here, all_from (i + 1) rest (omega arith)) refl

  pub all_near : near_all reach flags 0 flags ≡ map (λ _. true) flags
  all_near = all_from 0 flags (omega arith)

pub all_mapped : {A : Type 0} (f : A → Bool) (xs : List A) → map (λ _. true) (map f xs) ≡ map (λ _. true) xs
all_mapped f [] = refl
all_mapped f (x ∷ xs) = ap (λ z. true ∷ z) (all_mapped f xs)
