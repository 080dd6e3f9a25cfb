-- The written hunks of a script lead from its old lines to its new ones.
use Rattle.std.proofs.Common.{◌≡◌, ℕ, zero, suc, ◌+◌, ◌-◌, ◌<◌, ◌≤◌, ◌==◌, true, false, not, ⊎_elim, List, [], ◌∷◌, ◌++◌, length, take, drop, refl, sym, ap, subst, ◌∙◌, append_assoc, length-append, arith}
use Rattle.std.proofs.lemmas.Bool.{cases_Bool}
use Rattle.std.proofs.lemmas.Bool.Decides.{nat_tests}
use Rattle.std.proofs.Math.Bool.{or-true}
use Rattle.yf_diff.specs.Script.{Edit, kept, dropped, added, olds, news, old_part, new_part, is_change, has_change}
use Rattle.yf_diff.specs.Unified.{is_shown, begins, hunk, hunks, hunk_line, head_text, edit_text}
use Rattle.yf_diff.specs.Applied.{ScriptApplied, ended, stays, replaced, edits_text}

-- a change is among the edits around it
change_around : (front : List Edit) (x : Edit) (rest : List Edit) (k n : ℕ) → k ≤ length front → length front < k + n → is_change x ≡ true → has_change (take n (drop k (front ++ x ∷ rest))) ≡ true
change_around [] x rest zero zero a b e = absurd (omega arith)
change_around [] x rest zero (suc n) a b e = rw e refl
change_around [] x rest (suc k) n a b e = absurd (omega arith)
change_around (y ∷ front) x rest zero zero a b e = absurd (omega arith)
change_around (y ∷ front) x rest zero (suc n) a b e = rw (change_around front x rest zero n (omega arith) (omega arith) e) (or-true (is_change y))
change_around (y ∷ front) x rest (suc k) n a b e = change_around front x rest k n (omega arith) (omega arith) e

-- so it is shown
pub change_shown : (front : List Edit) (x : Edit) (rest : List Edit) → is_change x ≡ true → is_shown (front ++ x ∷ rest) (length front) ≡ true
change_shown front x rest e = change_around front x rest (length front - 3) (length front + 4 - (length front - 3)) (omega arith) (omega arith) e

-- a hunk begins after an edit that is not shown
begins_after : (script : List Edit) (at : ℕ) → begins script (at + 1) ≡ not (is_shown script at)
begins_after script at =
    let e : at + 1 - 1 ≡ at = omega arith in
    let z : (at + 1 == 0) ≡ false = grind (arith, nat_tests) in
    rw (z, e) refl

-- Within a hunk: its edits come first, and the rest after it is applied.
record Run (script : List Edit) (at old_before new_before : ℕ) (rest : List Edit) : Type 0 where
  later : List Edit
  text : List ℕ
  split : rest ≡ hunk script at rest ++ later
  written : hunks script at old_before new_before rest ≡ edits_text (hunk script at rest) ++ text
  applied : ScriptApplied (old_before + length (olds (hunk script at rest))) (new_before + length (news (hunk script at rest))) (olds later) (news later) text

record Both (script : List Edit) (at old_before new_before : ℕ) (rest : List Edit) : Type 0 where
  outside : begins script at ≡ true → ScriptApplied old_before new_before (olds rest) (news rest) (hunks script at old_before new_before rest)
  inside : begins script at ≡ false → Run script at old_before new_before rest

olds_joined : (xs ys : List Edit) → olds (xs ++ ys) ≡ olds xs ++ olds ys
olds_joined [] ys = refl
olds_joined (x ∷ xs) ys = ap (λ z. old_part x ++ z) (olds_joined xs ys) ∙ sym (append_assoc (old_part x) (olds xs) (olds ys))

news_joined : (xs ys : List Edit) → news (xs ++ ys) ≡ news xs ++ news ys
news_joined [] ys = refl
news_joined (x ∷ xs) ys = ap (λ z. new_part x ++ z) (news_joined xs ys) ∙ sym (append_assoc (new_part x) (news xs) (news ys))

same_numbers : (a b c d : ℕ) (old new : List (List ℕ)) (text : List ℕ) → a ≡ c → b ≡ d → ScriptApplied a b old new text → ScriptApplied c d old new text
same_numbers a b c d old new text e f applied = subst (λ z. ScriptApplied z d old new text) e (subst (λ z. ScriptApplied a z old new text) f applied)

same_texts : (a b : ℕ) (old new after_old after_new : List (List ℕ)) (text after : List ℕ) → old ≡ after_old → new ≡ after_new → text ≡ after → ScriptApplied a b old new text → ScriptApplied a b after_old after_new after
same_texts a b old new after_old after_new text after e f g applied = subst (λ z. ScriptApplied a b z after_new after) e (subst (λ z. ScriptApplied a b old z after) f (subst (λ z. ScriptApplied a b old new z) g applied))

hidden : (script : List Edit) (at old_before new_before : ℕ) (x : Edit) (rest : List Edit) → is_shown script at ≡ false → (is_change x ≡ true → is_shown script at ≡ true) → Both script (at + 1) (old_before + length (old_part x)) (new_before + length (new_part x)) rest → Both script at old_before new_before (x ∷ rest)
hidden script at a b (kept line) rest e f next =
    let later : List ℕ = hunks script (at + 1) (a + 1) (b + 1) rest in
    let first : ScriptApplied a b (line ∷ olds rest) (line ∷ news rest) later = stays (next.outside (begins_after script at ∙ ap not e)) in
    let same : later ≡ hunks script at a b (kept line ∷ rest) = rw e refl in
    let none : hunk script at (kept line ∷ rest) ≡ [] = rw e refl in
    record {
      outside = λ _. subst (λ z. ScriptApplied a b (line ∷ olds rest) (line ∷ news rest) z) same first;
      inside = λ _. record {
        later = kept line ∷ rest;
        text = later;
        split = rw none refl;
        written = sym same ∙ sym (ap (λ z. edits_text z ++ later) none);
        applied = subst (λ z. ScriptApplied (a + length (olds z)) (b + length (news z)) (line ∷ olds rest) (line ∷ news rest) later) (sym none) (same_numbers a b (a + 0) (b + 0) (line ∷ olds rest) (line ∷ news rest) later (omega arith) (omega arith) first);
      };
    }
hidden script at a b (dropped line) rest e f next = absurd (let no : is_shown script at ≡ true = f refl in cc)
hidden script at a b (added line) rest e f next = absurd (let no : is_shown script at ≡ true = f refl in cc)

-- the parts of a text, grouped in another way
regrouped : (head x later edits text : List ℕ) → later ≡ edits ++ text → (head ++ x) ++ later ≡ head ++ ((x ++ edits) ++ text)
regrouped head x later edits text e = rw e (append_assoc head x (edits ++ text) ∙ ap (λ z. head ++ z) (sym (append_assoc x edits text)))

shown : (script : List Edit) (at old_before new_before : ℕ) (x : Edit) (rest : List Edit) → is_shown script at ≡ true → Both script (at + 1) (old_before + length (old_part x)) (new_before + length (new_part x)) rest → Both script at old_before new_before (x ∷ rest)
shown script at a b x rest e next =
    let run : Run script (at + 1) (a + length (old_part x)) (b + length (new_part x)) rest = next.inside (begins_after script at ∙ ap not e) in
    let edits : List Edit = hunk script (at + 1) rest in
    let whole : hunk script at (x ∷ rest) ≡ x ∷ edits = rw e refl in
    let written : hunks script at a b (x ∷ rest) ≡ (head_text script at a b (x ∷ rest) ++ edit_text x) ++ hunks script (at + 1) (a + length (old_part x)) (b + length (new_part x)) rest = rw e refl in
    let all : hunks script at a b (x ∷ rest) ≡ head_text script at a b (x ∷ rest) ++ (edits_text (x ∷ edits) ++ run.text) = written ∙ regrouped (head_text script at a b (x ∷ rest)) (edit_text x) (hunks script (at + 1) (a + length (old_part x)) (b + length (new_part x)) rest) (edits_text edits) run.text run.written in
    let applied : ScriptApplied (a + length (olds (x ∷ edits))) (b + length (news (x ∷ edits))) (olds run.later) (news run.later) run.text =
    same_numbers _ _ _ _ (olds run.later) (news run.later) run.text (omega (arith, length-append (old_part x) (olds edits))) (omega (arith, length-append (new_part x) (news edits))) run.applied in
    let split : x ∷ rest ≡ (x ∷ edits) ++ run.later = ap (λ z. x ∷ z) run.split in
    record {
      outside = λ yes.
          let head : head_text script at a b (x ∷ rest) ≡ hunk_line a b (x ∷ edits) = rw (yes, whole) refl in
          same_texts a b (olds (x ∷ edits) ++ olds run.later) (news (x ∷ edits) ++ news run.later) (olds (x ∷ rest)) (news (x ∷ rest)) (hunk_line a b (x ∷ edits) ++ (edits_text (x ∷ edits) ++ run.text)) (hunks script at a b (x ∷ rest)) (sym (ap olds split ∙ olds_joined (x ∷ edits) run.later)) (sym (ap news split ∙ news_joined (x ∷ edits) run.later)) (sym (all ∙ ap (λ z. z ++ (edits_text (x ∷ edits) ++ run.text)) head)) (replaced (x ∷ edits) (olds run.later) (news run.later) run.text applied);
      inside = λ no.
          let head : head_text script at a b (x ∷ rest) ≡ [] = rw no refl in
          record {
            later = run.later;
            text = run.text;
            split = rw whole split;
            written = all ∙ ap (λ z. z ++ (edits_text (x ∷ edits) ++ run.text)) head ∙ sym (ap (λ z. edits_text z ++ run.text) whole);
            applied = subst (λ z. ScriptApplied (a + length (olds z)) (b + length (news z)) (olds run.later) (news run.later) run.text) (sym whole) applied;
          };
    }

both : (script front rest : List Edit) (at a b : ℕ) → script ≡ front ++ rest → at ≡ length front → Both script at a b rest
both script front [] at a b is l = record {
  outside = λ _. ended;
  inside = λ _. record {
    later = [];
    text = [];
    split = refl;
    written = refl;
    applied = ended;
  };
}
both script front (x ∷ rest) at a b is l =
    let next : Both script (at + 1) (a + length (old_part x)) (b + length (new_part x)) rest = both script (front ++ x ∷ []) rest (at + 1) (a + length (old_part x)) (b + length (new_part x)) (is ∙ sym (append_assoc front (x ∷ []) rest)) (omega (arith, length-append front (x ∷ []))) in
    let seen : is_change x ≡ true → is_shown script at ≡ true = λ c. rw (is, l) (change_shown front x rest c) in
    ⊎_elim (λ (e : is_shown script at ≡ true). shown script at a b x rest e next)
    (λ (e : is_shown script at ≡ false). hidden script at a b x rest e seen next)
    (cases_Bool (is_shown script at))

pub scripts_applied : (script : List Edit) → ScriptApplied 0 0 (olds script) (news script) (hunks script 0 0 0 script)
scripts_applied script = (both script [] script 0 0 0 refl refl).outside refl
