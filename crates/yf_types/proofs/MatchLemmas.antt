-- The parts of a pattern give facts about all bytes of a match, and about one of them.
use Rattle.std.proofs.Common.{◌≡◌, ◌⊎◌, inl, inr, ℕ, zero, suc, Bool, true, false, true≢false, List, [], ◌∷◌, refl, sym}
use Rattle.std.proofs.Common.{ap, ◌∙◌}
use Rattle.std.specs.Prelude.{◌&&◌, ◌||◌, ◌==◌, not, length}
use Rattle.std.specs.List.{list_all, list_any}
use Rattle.std.proofs.lemmas.Bool.{eqb-true}
use Rattle.yf_lines.specs.CoreSchema.{Pattern, byte_of, bytes, followed, either, optional, repeated}
use Rattle.yf_types.specs.Tests.{after_byte, after_bytes, after_match, after_times, is_end, is_match}

pub both_true : (p q : Bool) → (p && q) ≡ true → (p ≡ true) × (q ≡ true)
both_true true q e = (refl, e)
both_true false q e = absurd (true≢false (sym e))

pub one_true : (p q : Bool) → (p || q) ≡ true → (p ≡ true) ⊎ (q ≡ true)
one_true true q e = inl refl
one_true false q e = inr e

pub true_or : (p q : Bool) → (p ≡ true) ⊎ (q ≡ true) → (p || q) ≡ true
true_or true q e = refl
true_or false q (inl e) = absurd (true≢false (sym e))
true_or false q (inr e) = e

-- All bytes are in a class.

abbrev pub AllAre : (ℕ → Bool) → Pattern → Type 0
AllAre c (byte_of p) = (b : ℕ) → p b ≡ true → c b ≡ true
AllAre c (bytes w) = list_all c w ≡ true
AllAre c (followed p q) = AllAre c p × AllAre c q
AllAre c (either p q) = AllAre c p × AllAre c q
AllAre c (optional p) = AllAre c p
AllAre c (repeated p) = AllAre c p

abbrev Keeps : (ℕ → Bool) → (List ℕ → Bool) → Type 0
Keeps c k = (t : List ℕ) → k t ≡ true → list_all c t ≡ true

byte_keeps : (c p : ℕ → Bool) (k : List ℕ → Bool) → ((b : ℕ) → p b ≡ true → c b ≡ true) → Keeps c k
    → Keeps c (after_byte p k)
byte_keeps c p k a h [] e = absurd (true≢false (sym e))
byte_keeps c p k a h (b ∷ t) e =
    let w = both_true (p b) (k t) e in
    rw (a b w.0, h t w.1) refl

bytes_keep : (c : ℕ → Bool) (w : List ℕ) (k : List ℕ → Bool) → list_all c w ≡ true → Keeps c k
    → Keeps c (after_bytes w k)
bytes_keep c [] k a h t e = h t e
bytes_keep c (b ∷ w) k a h [] e = absurd (true≢false (sym e))
bytes_keep c (b ∷ w) k a h (d ∷ t) e =
    let x = both_true (c b) (list_all c w) a in
    let y = both_true (d == b) (after_bytes w k t) e in
    rw (eqb-true d b y.0, x.0, bytes_keep c w k x.1 h t y.1) refl

times_keep : (c : ℕ → Bool) (m : (List ℕ → Bool) → List ℕ → Bool) (n : ℕ) (k : List ℕ → Bool)
    → ((l : List ℕ → Bool) → Keeps c l → Keeps c (m l)) → Keeps c k → Keeps c (after_times m n k)
times_keep c m zero k f h t e = h t e
times_keep c m (suc n) k f h t e =
    elim (one_true (k t) (m (after_times m n k) t) e) [
      | inl g ↦ h t g
      | inr g ↦ f (after_times m n k) (times_keep c m n k f h) t g
    ]

match_keeps : (c : ℕ → Bool) (p : Pattern) (k : List ℕ → Bool) → AllAre c p → Keeps c k → Keeps c (after_match p k)
match_keeps c (byte_of p) k a h t e = byte_keeps c p k a h t e
match_keeps c (bytes w) k a h t e = bytes_keep c w k a h t e
match_keeps c (followed p q) k a h t e = match_keeps c p (after_match q k) a.0 (match_keeps c q k a.1 h) t e
match_keeps c (either p q) k a h t e =
    elim (one_true (after_match p k t) (after_match q k t) e) [
      | inl g ↦ match_keeps c p k a.0 h t g
      | inr g ↦ match_keeps c q k a.1 h t g
    ]
match_keeps c (optional p) k a h t e =
    elim (one_true (after_match p k t) (k t) e) [ inl g ↦ match_keeps c p k a h t g | inr g ↦ h t g ]
match_keeps c (repeated p) k a h t e =
    times_keep c (after_match p) (length t) k (λ (l : List ℕ → Bool). match_keeps c p l a) h t e

end_keeps : (c : ℕ → Bool) → Keeps c is_end
end_keeps c [] e = refl
end_keeps c (b ∷ t) e = absurd (true≢false (sym e))

pub all_are : (c : ℕ → Bool) (p : Pattern) (t : List ℕ) → AllAre c p → is_match p t ≡ true → list_all c t ≡ true
all_are c p t a e = match_keeps c p is_end a (end_keeps c) t e

-- One byte is in a class.

abbrev pub OneIs : (ℕ → Bool) → Pattern → Type 0
OneIs c (byte_of p) = (b : ℕ) → p b ≡ true → c b ≡ true
OneIs c (bytes w) = list_any c w ≡ true
OneIs c (followed p q) = OneIs c p ⊎ OneIs c q
OneIs c (either p q) = OneIs c p × OneIs c q
OneIs c (optional p) = ⊥
OneIs c (repeated p) = ⊥

abbrev Has : (ℕ → Bool) → (List ℕ → Bool) → Type 0
Has c k = (t : List ℕ) → k t ≡ true → list_any c t ≡ true

byte_passes : (c p : ℕ → Bool) (k : List ℕ → Bool) → Has c k → Has c (after_byte p k)
byte_passes c p k h [] e = absurd (true≢false (sym e))
byte_passes c p k h (b ∷ t) e = true_or (c b) (list_any c t) (inr (h t (both_true (p b) (k t) e).1))

bytes_pass : (c : ℕ → Bool) (w : List ℕ) (k : List ℕ → Bool) → Has c k → Has c (after_bytes w k)
bytes_pass c [] k h t e = h t e
bytes_pass c (b ∷ w) k h t e = byte_passes c (λ d. d == b) (after_bytes w k) (bytes_pass c w k h) t e

times_pass : (c : ℕ → Bool) (m : (List ℕ → Bool) → List ℕ → Bool) (n : ℕ) (k : List ℕ → Bool)
    → ((l : List ℕ → Bool) → Has c l → Has c (m l)) → Has c k → Has c (after_times m n k)
times_pass c m zero k f h t e = h t e
times_pass c m (suc n) k f h t e =
    elim (one_true (k t) (m (after_times m n k) t) e) [
      | inl g ↦ h t g
      | inr g ↦ f (after_times m n k) (times_pass c m n k f h) t g
    ]

match_passes : (c : ℕ → Bool) (p : Pattern) (k : List ℕ → Bool) → Has c k → Has c (after_match p k)
match_passes c (byte_of p) k h t e = byte_passes c p k h t e
match_passes c (bytes w) k h t e = bytes_pass c w k h t e
match_passes c (followed p q) k h t e = match_passes c p (after_match q k) (match_passes c q k h) t e
match_passes c (either p q) k h t e =
    elim (one_true (after_match p k t) (after_match q k t) e) [
      | inl g ↦ match_passes c p k h t g
      | inr g ↦ match_passes c q k h t g
    ]
match_passes c (optional p) k h t e =
    elim (one_true (after_match p k t) (k t) e) [ inl g ↦ match_passes c p k h t g | inr g ↦ h t g ]
match_passes c (repeated p) k h t e =
    times_pass c (after_match p) (length t) k (λ (l : List ℕ → Bool). match_passes c p l) h t e

bytes_have : (c : ℕ → Bool) (w : List ℕ) (k : List ℕ → Bool) → list_any c w ≡ true → Has c (after_bytes w k)
bytes_have c [] k a t e = absurd (true≢false (sym a))
bytes_have c (b ∷ w) k a [] e = absurd (true≢false (sym e))
bytes_have c (b ∷ w) k a (d ∷ t) e =
    let y = both_true (d == b) (after_bytes w k t) e in
    elim (one_true (c b) (list_any c w) a) [
      | inl g ↦ true_or (c d) (list_any c t) (inl (ap c (eqb-true d b y.0) ∙ g))
      | inr g ↦ true_or (c d) (list_any c t) (inr (bytes_have c w k g t y.1))
    ]

match_has : (c : ℕ → Bool) (p : Pattern) (k : List ℕ → Bool) → OneIs c p → Has c (after_match p k)
match_has c (byte_of p) k a [] e = absurd (true≢false (sym e))
match_has c (byte_of p) k a (b ∷ t) e = true_or (c b) (list_any c t) (inl (a b (both_true (p b) (k t) e).0))
match_has c (bytes w) k a t e = bytes_have c w k a t e
match_has c (followed p q) k (inl a) t e = match_has c p (after_match q k) a t e
match_has c (followed p q) k (inr a) t e = match_passes c p (after_match q k) (match_has c q k a) t e
match_has c (either p q) k a t e =
    elim (one_true (after_match p k t) (after_match q k t) e) [
      | inl g ↦ match_has c p k a.0 t g
      | inr g ↦ match_has c q k a.1 t g
    ]
match_has c (optional p) k a t e = absurd a
match_has c (repeated p) k a t e = absurd a

-- If all bytes of one pattern are outside a class, and another has a byte in it, no text matches both.

not_first : (v x y : Bool) → (not v ≡ true) × (y ≡ true) → (v ≡ true) ⊎ (x ≡ true) → (x ≡ true → y ≡ true → ⊥) → ⊥
not_first true x y w a f = true≢false (sym w.0)
not_first false x y w (inl a) f = true≢false (sym a)
not_first false x y w (inr a) f = f a w.1

not_all : (c : ℕ → Bool) (t : List ℕ) → list_any c t ≡ true → list_all (λ b. not (c b)) t ≡ true → ⊥
not_all c [] a e = true≢false (sym a)
not_all c (b ∷ t) a e =
    not_first (c b) (list_any c t) (list_all (λ d. not (c d)) t) (both_true (not (c b)) (list_all (λ d. not (c d)) t) e)
    (one_true (c b) (list_any c t) a) (not_all c t)

pub no_match : (c : ℕ → Bool) (p q : Pattern) (t : List ℕ) → AllAre (λ b. not (c b)) p → OneIs c q
    → is_match p t ≡ true → is_match q t ≡ false
no_match c p q t a o e = by (is_match q t) refl where
  by : (v : Bool) → is_match q t ≡ v → v ≡ false
  by true f = absurd (not_all c t (match_has c q is_end o t f) (all_are (λ b. not (c b)) p t a e))
  by false f = refl
