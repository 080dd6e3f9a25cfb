-- The hunks of a script are those between its texts.
use Rattle.std.proofs.Common.{◌≡◌, ℕ, ◌+◌, List, [], ◌∷◌, ◌++◌, length, refl, sym, ap, subst, ◌∙◌, append_assoc}
use Rattle.std.proofs.Common.{length-append, arith}
use Rattle.std.proofs.lemmas.List.{append-nil}
use Rattle.std.proofs.lemmas.List.Folds.{concat-append}
use Rattle.std.specs.List.{concat}
use Rattle.std.specs.Prelude.{None, Some}
use Rattle.yf_diff.specs.Script.{Edit, kept, dropped, added, olds, news}
use Rattle.yf_parts.specs.Hunks.{Differ, alike, differ, hunks_of, moved, origin}
use Rattle.yf_parts.specs.declared.hunks.Edge.{Edge}
use Rattle.yf_parts.specs.declared.hunks.Hunk.{Hunk}

abbrev edge : ℕ → ℕ → ℕ → Edge
edge a b c = record { lines = a; offset = b; formatted = c }

same_edge : {a b c d e f : ℕ} → a ≡ d → b ≡ e → c ≡ f → edge a b c ≡ edge d e f
same_edge l o n = rw (l, o, n) refl

sizes : (a b : List (List ℕ)) → length (concat (a ++ b)) ≡ length (concat a) + length (concat b)
sizes a b = ap length (concat-append a b) ∙ length-append (concat a) (concat b)

moved_more : (e : Edge) (a b c d : List (List ℕ)) → moved (moved e a b) c d ≡ moved e (a ++ c) (b ++ d)
moved_more e a b c d = same_edge (omega (arith, length-append a c)) (omega (arith, sizes a c))
    (omega (arith, sizes b d))

-- the edge after one more edit
moved_by : (now start : Edge) (a b c d x y : List (List ℕ)) → now ≡ moved start a b → a ++ c ≡ x → b ++ d ≡ y
    → moved now c d ≡ moved start x y
moved_by now start a b c d x y is old new = ap (λ e. moved e c d) is ∙ moved_more start a b c d
    ∙ ap (λ z. moved start z (b ++ d)) old ∙ ap (λ z. moved start x z) new

-- lists of lines that are joined in another way
regrouped : {hunks : _} {at : Edge} {old new after_old after_new : List (List ℕ)} → old ≡ after_old → new ≡ after_new
    → Differ hunks at old new → Differ hunks at after_old after_new
regrouped {hunks} {at} {old} {new} {after_old} {after_new} e f d =
    subst (λ z. Differ hunks at after_old z) f (subst (λ z. Differ hunks at z new) e d)

mutual
  closed_hunks : (steps : List Edit) (at now : Edge) (same : List (List ℕ)) → now ≡ moved at same same
      → Differ (hunks_of None now steps) at (same ++ olds steps) (same ++ news steps)
  closed_hunks [] at now same e = alike
  closed_hunks (kept l ∷ rest) at now same e = regrouped (append_assoc same (l ∷ []) (olds rest))
      (append_assoc same (l ∷ []) (news rest))
      (closed_hunks rest at (moved now (l ∷ []) (l ∷ [])) (same ++ l ∷ [])
      (moved_by now at same same (l ∷ []) (l ∷ []) (same ++ l ∷ []) (same ++ l ∷ []) e refl refl))
  closed_hunks (dropped l ∷ rest) at now same e = begun_hunks rest at now (moved now (l ∷ []) []) same
      (l ∷ []) [] e refl
  closed_hunks (added l ∷ rest) at now same e = begun_hunks rest at now (moved now [] (l ∷ [])) same [] (l ∷ []) e refl

  begun_hunks : (steps : List Edit) (at start now : Edge) (same gone came : List (List ℕ))
      → start ≡ moved at same same → now ≡ moved start gone came
      → Differ (hunks_of (Some start) now steps) at (same ++ (gone ++ olds steps)) (same ++ (came ++ news steps))
  begun_hunks [] at start now same gone came e f = differ same gone came e f alike
  begun_hunks (kept l ∷ rest) at start now same gone came e f =
      differ same gone came e f (closed_hunks rest now (moved now (l ∷ []) (l ∷ [])) (l ∷ []) refl)
  begun_hunks (dropped l ∷ rest) at start now same gone came e f =
      regrouped (ap (λ z. same ++ z) (append_assoc gone (l ∷ []) (olds rest))) refl
      (begun_hunks rest at start (moved now (l ∷ []) []) same (gone ++ l ∷ []) came e
      (moved_by now start gone came (l ∷ []) [] (gone ++ l ∷ []) came f refl (append-nil came)))
  begun_hunks (added l ∷ rest) at start now same gone came e f =
      regrouped refl (ap (λ z. same ++ z) (append_assoc came (l ∷ []) (news rest)))
      (begun_hunks rest at start (moved now [] (l ∷ [])) same gone (came ++ l ∷ []) e
      (moved_by now start gone came [] (l ∷ []) gone (came ++ l ∷ []) f (append-nil gone) refl))

-- the hunks of a script between the lines of two texts
pub hunks_differ : (hunks : List Hunk) (steps : List Edit) {old new : List (List ℕ)}
    → hunks ≡ hunks_of None origin steps
    → olds steps ≡ old → news steps ≡ new → Differ hunks origin old new
hunks_differ hunks steps is e f = regrouped e f (subst (λ z. Differ z origin (olds steps) (news steps)) (sym is)
    (closed_hunks steps origin origin [] refl))
