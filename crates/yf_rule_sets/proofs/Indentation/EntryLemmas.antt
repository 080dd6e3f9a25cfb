-- Laws of entries in the events of a reading.
use Rattle.std.proofs.Common.{◌≡◌, ℕ, zero, suc, ◌+◌, ◌-◌, ◌<◌, ◌≤◌, Bool, true, false, not, List, [], ◌∷◌, ◌++◌, Option, Some, None, drop, get_or, length, map, refl, sym, ap, subst, ◌∙◌, ⊎_elim, arith, add-one}
use Rattle.std.specs.Prelude.{◌==◌, ◌&&◌, ◌||◌, nat_le, nat_lt, slice_get, slice_index, if◌then◌else◌, MatchBool}
use Rattle.std.specs.Option.{option_to_list}
use Rattle.std.specs.Str.{IsCharBoundary}
use Rattle.std.proofs.lemmas.Bool.{and_parts, cases_Bool}
use Rattle.std.proofs.lemmas.Bool.Decides.{nat_tests}
use Rattle.std.proofs.lemmas.List.{append-nil, drop_all, get_or-append-add, length-append}
use Rattle.std.proofs.lemmas.Option.{same_Some}
use Rattle.yf_chars.specs.Class.{is_white_or_end}
use Rattle.yf_chars.specs.Text.{code}
use Rattle.yf_events.specs.Event.{EventValue, EventInText}
use Rattle.yf_events.specs.declared.event.Entry.{Entry}
use Rattle.yf_rule_sets.specs.RuleSets.Columns.{ColumnsTo, IsColumn}
use Rattle.yf_rule_sets.specs.Passes.Entries.{all_entries, and_those, entries_from, first_entry, is_boundary, is_unmarked, start_at, starts_block, unmarked_at}
use Rattle.yf_rule_sets.specs.RuleSets.QuestionMarks.{HasQuestionMark}
use Rattle.yf_chars.proofs.Tests.{none_some}

-- boundaries

within_boundary : (n i x : ℕ) → i ≤ n → (i < n → 128 ≤ x → 192 ≤ x) → (nat_le i n && (nat_le n i || (nat_lt x 128 || nat_le 192 x))) ≡ true
within_boundary n i x l f = ⊎_elim
    (λ (h : (nat_le i n && (nat_le n i || (nat_lt x 128 || nat_le 192 x))) ≡ true). h)
    (λ (h : (nat_le i n && (nat_le n i || (nat_lt x 128 || nat_le 192 x))) ≡ false).
    let a : i < n = grind (arith, nat_tests) in let b : 128 ≤ x = grind (arith, nat_tests) in let c = f a b in grind (arith, nat_tests))
    (cases_Bool (nat_le i n && (nat_le n i || (nat_lt x 128 || nat_le 192 x))))

pub boundary_true : (t : List ℕ) (i : ℕ) → IsCharBoundary t i → is_boundary t i ≡ true
boundary_true t i b = within_boundary (length t) i (slice_index t i) b.0 b.1

is_within : (n i x : ℕ) → (nat_le i n && (nat_le n i || (nat_lt x 128 || nat_le 192 x))) ≡ true → (i ≤ n) × (i < n → 128 ≤ x → 192 ≤ x)
is_within n i x e = (grind (arith, nat_tests), λ a b. grind (arith, nat_tests))

pub true_boundary : (t : List ℕ) (i : ℕ) → is_boundary t i ≡ true → IsCharBoundary t i
true_boundary t i e = is_within (length t) i (slice_index t i) e

pub boundary_false : (t : List ℕ) (i : ℕ) → (IsCharBoundary t i → ⊥) → is_boundary t i ≡ false
boundary_false t i n = ⊎_elim (λ (h : is_boundary t i ≡ true). absurd (n (true_boundary t i h))) (λ (h : is_boundary t i ≡ false). h) (cases_Bool (is_boundary t i))

-- the entry that an event begins

pub entry_there : (es : List EventInText) (i : ℕ) (o : Option Entry) → slice_get (map (λ (e : EventInText). e.entry) es) i ≡ Some o → first_entry (drop i es) ≡ o
entry_there [] i o e = absurd (none_some e)
entry_there (x ∷ es) zero o e = same_Some _ _ e
entry_there (x ∷ es) (suc i) o e = entry_there es i o e

module _ (t bytes : List ℕ) (es : List EventInText) (i : ℕ) where
  pub starts_there : (entry : Entry) → slice_get (map (λ (e : EventInText). e.entry) es) i ≡ Some (Some entry) → bytes ≡ t → IsCharBoundary bytes entry.start
      → Some entry.start ≡ start_at t (first_entry (drop i es))
  starts_there entry e q b = sym (ap (start_at t) (entry_there es i (Some entry) e)
      ∙ ap (λ b. if b then Some entry.start else None) (boundary_true t entry.start (subst (λ w. IsCharBoundary w entry.start) q b)))

  pub starts_within : (entry : Entry) → slice_get (map (λ (e : EventInText). e.entry) es) i ≡ Some (Some entry) → bytes ≡ t → (IsCharBoundary bytes entry.start → ⊥)
      → None ≡ start_at t (first_entry (drop i es))
  starts_within entry e q n = sym (ap (start_at t) (entry_there es i (Some entry) e)
      ∙ ap (λ b. if b then Some entry.start else None) (boundary_false t entry.start (λ b. n (subst (λ w. IsCharBoundary w entry.start) (sym q) b))))

  pub starts_none : slice_get (map (λ (e : EventInText). e.entry) es) i ≡ Some None → None ≡ start_at t (first_entry (drop i es))
  starts_none e = sym (ap (start_at t) (entry_there es i None e))

-- the start of the entries of the block collection that an event begins
entries_at : (t : List ℕ) (es : List EventInText) (i : ℕ) (e : EventValue) → slice_get (map (λ (e : EventInText). e.event) es) i ≡ Some e
    → entries_from t (drop i es) ≡ (if starts_block e then start_at t (first_entry (drop (suc i) es)) else None)
entries_at t [] i e q = absurd (none_some q)
entries_at t (x ∷ es) zero e q = ap (λ (v : EventValue). if starts_block v then start_at t (first_entry es) else None) (same_Some _ _ q)
entries_at t (x ∷ es) (suc i) e q = entries_at t es i e q

pub in_block : (t : List ℕ) (es : List EventInText) (i next : ℕ) (e : EventValue) (b : Bool) → slice_get (map (λ (e : EventInText). e.event) es) i ≡ Some e → b ≡ starts_block e → b ≡ true
    → next ≡ i + 1 → entries_from t (drop i es) ≡ start_at t (first_entry (drop next es))
in_block t es i next e b q f h n = entries_at t es i e q ∙ ap (λ b. if b then start_at t (first_entry (drop (suc i) es)) else None) (sym f ∙ h)
    ∙ ap (λ k. start_at t (first_entry (drop k es))) (sym (add-one i) ∙ sym n)

pub in_none : (t : List ℕ) (es : List EventInText) (i : ℕ) (e : EventValue) (b : Bool) → slice_get (map (λ (e : EventInText). e.event) es) i ≡ Some e → b ≡ starts_block e → b ≡ false
    → entries_from t (drop i es) ≡ None
in_none t es i e b q f h = entries_at t es i e q ∙ ap (λ b. if b then start_at t (first_entry (drop (suc i) es)) else None) (sym f ∙ h)

pub past_events : (t : List ℕ) (es : List EventInText) (i : ℕ) → length es ≤ i → start_at t (first_entry (drop i es)) ≡ None
past_events t es i l = ap (λ es. start_at t (first_entry es)) (drop_all i es l)

-- one more block collection

all_more : (t : List ℕ) (es : List EventInText) (i : ℕ) → i < length es → all_entries t (drop i es) ≡ and_those (entries_from t (drop i es)) (all_entries t (drop (suc i) es))
all_more t [] i l = absurd (omega (arith, l))
all_more t (x ∷ es) zero l = refl
all_more t (x ∷ es) (suc i) l = all_more t es i (omega (arith, l))

pub all_from : (t : List ℕ) (es : List EventInText) (i : ℕ) (o : Option ℕ) → i < length es → o ≡ entries_from t (drop i es)
    → all_entries t (drop i es) ≡ and_those o (all_entries t (drop (i + 1) es))
all_from t es i o l e = all_more t es i l ∙ ap (λ p. and_those p (all_entries t (drop (suc i) es))) (sym e) ∙ ap (λ k. and_those o (all_entries t (drop k es))) (sym (add-one i))

module _ (t : List ℕ) (es : List EventInText) (i : ℕ) (os new all : List ℕ) (l : i < length es) (inv : os ++ all_entries t (drop i es) ≡ all) where
  one_listed : (o : ℕ) → Some o ≡ entries_from t (drop i es) → new ≡ os ++ o ∷ [] → new ++ all_entries t (drop (i + 1) es) ≡ all
  one_listed o e q = ap (λ w. w ++ all_entries t (drop (i + 1) es)) q ∙ one_before os o (all_entries t (drop (i + 1) es)) ∙ ap (λ w. os ++ w) (sym (all_from t es i (Some o) l e)) ∙ inv where
    one_before : (xs : List ℕ) (x : ℕ) (ys : List ℕ) → (xs ++ x ∷ []) ++ ys ≡ xs ++ (x ∷ ys)
    one_before [] x ys = refl
    one_before (y ∷ xs) x ys = ap (λ w. y ∷ w) (one_before xs x ys)

  none_listed : None ≡ entries_from t (drop i es) → new ≡ os → new ++ all_entries t (drop (i + 1) es) ≡ all
  none_listed e q = ap (λ w. w ++ all_entries t (drop (i + 1) es)) q ∙ ap (λ w. os ++ w) (sym (all_from t es i None l e)) ∙ inv

  pub entry_listed : (answer : Option ℕ) → answer ≡ entries_from t (drop i es) → new ≡ os ++ option_to_list answer → new ++ all_entries t (drop (i + 1) es) ≡ all
  entry_listed None e q = none_listed e (q ∙ append-nil os)
  entry_listed (Some o) e q = one_listed o e q

-- entries without `?`

pub mark_test : (t : List ℕ) (o : ℕ) (b : Bool) → MatchBool b (HasQuestionMark t o) (HasQuestionMark t o → ⊥) → ((code t o == 63) && is_white_or_end (code t (o + 1))) ≡ b
mark_test t o true h = both (code t o) (is_white_or_end (code t (o + 1))) h.sign h.white where
  both : (c : ℕ) (w : Bool) → c ≡ 63 → w ≡ true → ((c == 63) && w) ≡ true
  both c w e f = grind (arith, nat_tests)
mark_test t o false n = ⊎_elim
    (λ (h : ((code t o == 63) && is_white_or_end (code t (o + 1))) ≡ true).
    let p = and_parts (code t o == 63) (is_white_or_end (code t (o + 1))) h in absurd (n (record { sign = is_sign (code t o) p.0; white = p.1 })))
    (λ (h : ((code t o == 63) && is_white_or_end (code t (o + 1))) ≡ false). h)
    (cases_Bool ((code t o == 63) && is_white_or_end (code t (o + 1))))
  where
    is_sign : (c : ℕ) → (c == 63) ≡ true → c ≡ 63
    is_sign c e = grind (arith, nat_tests)

module _ (t bytes : List ℕ) (es : List EventInText) (i : ℕ) where
  pub unmarked_there : (entry : Entry) (b n : Bool) → slice_get (map (λ (e : EventInText). e.entry) es) i ≡ Some (Some entry) → bytes ≡ t
      → MatchBool b (HasQuestionMark bytes entry.start) (HasQuestionMark bytes entry.start → ⊥) → n ≡ not b → n ≡ unmarked_at t es i
  unmarked_there entry b n e q h f = f ∙ ap not (sym (mark_test bytes entry.start b h)) ∙ ap (λ w. is_unmarked w (Some entry)) q ∙ ap (is_unmarked t) (sym (entry_there es i (Some entry) e))

  pub unmarked_none : (n : Bool) → slice_get (map (λ (e : EventInText). e.entry) es) i ≡ Some None → n ≡ false → n ≡ unmarked_at t es i
  unmarked_none n e f = f ∙ ap (is_unmarked t) (sym (entry_there es i None e))

-- the column of the entries that begin at an index

split_at : (t : List ℕ) (es : List EventInText) (i : ℕ) → (os : List ℕ) × (all_entries t es ≡ os ++ all_entries t (drop i es))
split_at t [] zero = ([], refl)
split_at t [] (suc i) = ([], refl)
split_at t (x ∷ es) zero = ([], refl)
split_at t (x ∷ es) (suc i) = let s = split_at t es i in by (entries_from t (x ∷ es)) s.0 s.1 where
  by : (o : Option ℕ) (os : List ℕ) → all_entries t es ≡ os ++ all_entries t (drop i es) → (ys : List ℕ) × (and_those o (all_entries t es) ≡ ys ++ all_entries t (drop i es))
  by None os e = (os, e)
  by (Some o) os e = (o ∷ os, ap (λ w. o ∷ w) e)

pub column_there : (t : List ℕ) (es : List EventInText) (columns : List ℕ) (i o : ℕ) → i < length es → ColumnsTo t (all_entries t es) columns (length (all_entries t es))
    → entries_from t (drop i es) ≡ Some o → IsCharBoundary t o
    → IsColumn t o (get_or columns (length (all_entries t es) - length (all_entries t (drop i es))) 0)
column_there t es columns i o l c e b =
    let s = split_at t es i in
    let rest = all_entries t (drop (i + 1) es) in
    let all = all_entries t es in
    let m : all_entries t (drop i es) ≡ o ∷ rest = all_from t es i (Some o) l (sym e) in
    let w : all ≡ s.0 ++ (o ∷ rest) = s.1 ∙ ap (λ w. s.0 ++ w) m in
    let k = length all - length (all_entries t (drop i es)) in
    let n : k ≡ length s.0 = let a = ap length w in let d = length-append s.0 (o ∷ rest) in let f = ap length m in omega (arith, a, d, f) in
    let g : get_or all k 0 ≡ o = ap (λ j. get_or all j 0) n ∙ ap (λ xs. get_or xs (length s.0) 0) w
    ∙ ap (λ j. get_or (s.0 ++ (o ∷ rest)) j 0) (let z : length s.0 ≡ length s.0 + 0 = omega arith in z) ∙ get_or-append-add s.0 (o ∷ rest) 0 0 in
    let h : k < length all = let a = ap length w in let d = length-append s.0 (o ∷ rest) in omega (arith, a, d, n) in
    subst (λ p. IsColumn t p (get_or columns k 0)) g (c.columns k h (subst (λ p. IsCharBoundary t p) (sym g) b))
