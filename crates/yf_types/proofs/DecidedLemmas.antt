-- The tests of texts agree with the relation between patterns and texts.
use Rattle.std.proofs.Common.{◌≡◌, inl, inr, ℕ, zero, suc, ◌≤◌, Bool, true, true≢false, eq-eqb, arith}
use Rattle.std.proofs.Common.{List, [], ◌∷◌, ◌++◌, refl, sym, ap, subst, ◌∙◌, append_assoc, append-nil, length-append}
use Rattle.std.specs.Prelude.{◌==◌, length}
use Rattle.std.proofs.lemmas.Bool.{eqb-true}
use Rattle.yf_lines.specs.CoreSchema.{Pattern, byte_of, bytes, followed, either, optional, repeated, Matches, in_class}
use Rattle.yf_lines.specs.CoreSchema.{as_written, in_order, the_one, the_other, left_out, given, no_time, once_more}
use Rattle.yf_types.specs.Decided.{IsDecided}
use Rattle.yf_types.specs.Tests.{after_bytes, after_match, after_times, is_end, is_match}
use Rattle.yf_types.proofs.MatchLemmas.{both_true, one_true, true_or}
use Rattle.yf_types.proofs.SixtyRuns.{passes_now}

-- A text that passes is a match and a rest that passes.

record IsSplit (p : Pattern) (k : List ℕ → Bool) (t x y : List ℕ) : Type 0 where
  joined : t ≡ x ++ y
  matched : Matches p x
  passed : k y ≡ true

abbrev Split : Pattern → (List ℕ → Bool) → List ℕ → Type 0
Split p k t = (x : List ℕ) × (y : List ℕ) × IsSplit p k t x y

abbrev Splits : Pattern → Type 0
Splits p = (k : List ℕ → Bool) (t : List ℕ) → after_match p k t ≡ true → Split p k t

word_split : (w : List ℕ) (k : List ℕ → Bool) (t : List ℕ) → after_bytes w k t ≡ true
    → (y : List ℕ) × ((t ≡ w ++ y) × (k y ≡ true))
word_split [] k t e = (t, (refl, e))
word_split (b ∷ w) k [] e = absurd (true≢false (sym e))
word_split (b ∷ w) k (c ∷ t) e =
    let u = both_true (c == b) (after_bytes w k t) e in
    let v = word_split w k t u.1 in
    (v.0, (ap (λ d. d ∷ t) (eqb-true c b u.0) ∙ ap (λ s. b ∷ s) v.1.0, v.1.1))

times_split : (p : Pattern) (k : List ℕ → Bool) → Splits p → (n : ℕ) (t : List ℕ)
    → after_times (after_match p) n k t ≡ true → Split (repeated p) k t
times_split p k f zero t e = ([], t, record { joined = refl; matched = no_time; passed = e })
times_split p k f (suc n) t e =
    elim (one_true (k t) (after_match p (after_times (after_match p) n k) t) e) [
      | inl g ↦ ([], t, record { joined = refl; matched = no_time; passed = g })
      | inr g ↦
          let u = f (after_times (after_match p) n k) t g in
          let v = times_split p k f n u.1 u.2.passed in (
            u.0 ++ v.0,
            v.1,
            record {
              joined = u.2.joined ∙ ap (λ s. u.0 ++ s) v.2.joined ∙ sym (append_assoc u.0 v.0 v.1);
              matched = once_more u.2.matched v.2.matched;
              passed = v.2.passed;
            },
          )
    ]

split : (p : Pattern) → Splits p
split (byte_of c) k [] e = absurd (true≢false (sym e))
split (byte_of c) k (b ∷ t) e =
    let u = both_true (c b) (k t) e in (b ∷ [], t, record { joined = refl; matched = in_class u.0; passed = u.1 })
split (bytes w) k t e =
    let u = word_split w k t e in (w, u.0, record { joined = u.1.0; matched = as_written; passed = u.1.1 })
split (followed p q) k t e =
    let u = split p (after_match q k) t e in
    let v = split q k u.1 u.2.passed in (
      u.0 ++ v.0,
      v.1,
      record {
        joined = u.2.joined ∙ ap (λ s. u.0 ++ s) v.2.joined ∙ sym (append_assoc u.0 v.0 v.1);
        matched = in_order u.2.matched v.2.matched;
        passed = v.2.passed;
      },
    )
split (either p q) k t e =
    elim (one_true (after_match p k t) (after_match q k t) e) [
      | inl g ↦ let u =
          split p k t g in
          (u.0, u.1, record { joined = u.2.joined; matched = the_one u.2.matched; passed = u.2.passed })
      | inr g ↦ let u =
          split q k t g in
          (u.0, u.1, record { joined = u.2.joined; matched = the_other u.2.matched; passed = u.2.passed })
    ]
split (optional p) k t e =
    elim (one_true (after_match p k t) (k t) e) [
      | inl g ↦ let u =
          split p k t g in (u.0, u.1, record { joined = u.2.joined; matched = given u.2.matched; passed = u.2.passed })
      | inr g ↦ ([], t, record { joined = refl; matched = left_out; passed = g })
    ]
split (repeated p) k t e = times_split p k (split p) (length t) t e

sound : (p : Pattern) (t : List ℕ) → is_match p t ≡ true → Matches p t
sound p t e = let u = split p is_end t e in by u.0 u.1 u.2 where
  by : (x y : List ℕ) → IsSplit p is_end t x y → Matches p t
  by x [] s = subst (λ z. Matches p z) (sym (s.joined ∙ append-nil x)) s.matched
  by x (b ∷ y) s = absurd (true≢false (sym s.passed))

-- If a test passes more texts, a match may be before more texts.

abbrev Below : (List ℕ → Bool) → (List ℕ → Bool) → Type 0
Below k l = (t : List ℕ) → k t ≡ true → l t ≡ true

word_grows : (w : List ℕ) (k l : List ℕ → Bool) → Below k l → Below (after_bytes w k) (after_bytes w l)
word_grows [] k l h t e = h t e
word_grows (b ∷ w) k l h [] e = absurd (true≢false (sym e))
word_grows (b ∷ w) k l h (c ∷ t) e =
    let u = both_true (c == b) (after_bytes w k t) e in rw (u.0, word_grows w k l h t u.1) refl

times_grow : (m : (List ℕ → Bool) → List ℕ → Bool) → ((k l : List ℕ → Bool) → Below k l → Below (m k) (m l))
    → (k l : List ℕ → Bool) → Below k l
    → (a b : ℕ) → a ≤ b → Below (after_times m a k) (after_times m b l)
times_grow m f k l h zero zero i t e = h t e
times_grow m f k l h zero (suc b) i t e = true_or (l t) (m (after_times m b l) t) (inl (h t e))
times_grow m f k l h (suc a) zero i t e = absurd (omega (arith, i))
times_grow m f k l h (suc a) (suc b) i t e =
    elim (one_true (k t) (m (after_times m a k) t) e) [
      | inl g ↦ true_or (l t) (m (after_times m b l) t) (inl (h t g))
      | inr g ↦ true_or (l t) (m (after_times m b l) t)
          (inr (f (after_times m a k) (after_times m b l) (times_grow m f k l h a b (omega (arith, i))) t g))
    ]

match_grows : (p : Pattern) (k l : List ℕ → Bool) → Below k l → Below (after_match p k) (after_match p l)
match_grows (byte_of c) k l h [] e = absurd (true≢false (sym e))
match_grows (byte_of c) k l h (b ∷ t) e = let u = both_true (c b) (k t) e in rw (u.0, h t u.1) refl
match_grows (bytes w) k l h t e = word_grows w k l h t e
match_grows (followed p q) k l h t e = match_grows p (after_match q k) (after_match q l) (match_grows q k l h) t e
match_grows (either p q) k l h t e =
    elim (one_true (after_match p k t) (after_match q k t) e) [
      | inl g ↦ true_or (after_match p l t) (after_match q l t) (inl (match_grows p k l h t g))
      | inr g ↦ true_or (after_match p l t) (after_match q l t) (inr (match_grows q k l h t g))
    ]
match_grows (optional p) k l h t e =
    elim (one_true (after_match p k t) (k t) e) [
      | inl g ↦ true_or (after_match p l t) (l t) (inl (match_grows p k l h t g))
      | inr g ↦ true_or (after_match p l t) (l t) (inr (h t g))
    ]
match_grows (repeated p) k l h t e =
    times_grow (after_match p) (match_grows p) k l h (length t) (length t) (omega arith) t e

-- A match and a rest that passes are a text that passes.

abbrev Joins : Pattern → List ℕ → Type 0
Joins p x = (k : List ℕ → Bool) (y : List ℕ) → k y ≡ true → after_match p k (x ++ y) ≡ true

word_joins : (w : List ℕ) → Joins (bytes w) w
word_joins [] k y h = h
word_joins (b ∷ w) k y h = rw (eq-eqb b b refl, word_joins w k y h) refl

times_join : (p : Pattern) (x z : List ℕ) → Joins p x → Joins (repeated p) z → Joins (repeated p) (x ++ z)
times_join p [] z f g k y h = g k y h
times_join p (b ∷ x) z f g k y h =
    let m = after_match p in
    let n = length ((x ++ z) ++ y) in
    let l : length (z ++ y) ≤ n = rw (append_assoc x z y, length-append x (z ++ y)) (omega arith) in
    let w = times_grow m (match_grows p) k k (λ t e. e) (length (z ++ y)) n l (z ++ y) (g k y h) in
    let v : m (after_times m n k) (b ∷ ((x ++ z) ++ y)) ≡ true
    = subst (λ s. m (after_times m n k) (b ∷ s) ≡ true) (sym (append_assoc x z y)) (f (after_times m n k) (z ++ y) w) in
    true_or (k (b ∷ ((x ++ z) ++ y))) (m (after_times m n k) (b ∷ ((x ++ z) ++ y))) (inr v)

joins : {p : Pattern} {x : List ℕ} → Matches p x → Joins p x
joins (in_class e) k y h = rw (e, h) refl
joins (as_written {w = w}) k y h = word_joins w k y h
joins (in_order {p = p} {q = q} {x = x} {y = z} m n) k y h =
    rw (append_assoc x z y) (joins m (after_match q k) (z ++ y) (joins n k y h))
joins (the_one {p = p} {q = q} {x = x} m) k y h =
    true_or (after_match p k (x ++ y)) (after_match q k (x ++ y)) (inl (joins m k y h))
joins (the_other {p = p} {q = q} {x = x} m) k y h =
    true_or (after_match p k (x ++ y)) (after_match q k (x ++ y)) (inr (joins m k y h))
joins (left_out {p = p}) k y h = true_or (after_match p k y) (k y) (inr h)
joins (given {p = p} {x = x} m) k y h = true_or (after_match p k (x ++ y)) (k (x ++ y)) (inl (joins m k y h))
joins (no_time {p = p}) k y h = passes_now p k y h
joins (once_more {p = p} {x = x} {y = z} m n) k y h = times_join p x z (joins m) (joins n) k y h

complete : (p : Pattern) (t : List ℕ) → Matches p t → is_match p t ≡ true
complete p t m = subst (λ z. is_match p z ≡ true) (append-nil t) (joins m is_end [] refl)

pub decided : (p : Pattern) (t : List ℕ) → IsDecided p t
decided p t = record { sound = sound p t; complete = complete p t }
