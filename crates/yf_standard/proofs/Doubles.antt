-- Double-quoted scalars (7.3.1): two adjacent escapes of the standard that are the halves of a pair are one escape
-- here.
use Rattle.std.proofs.Common.{◌≡◌, ◌≢◌, ℕ, ◌+◌, true, false, true≢false, List, [], ◌∷◌, ◌++◌, Some, sym, ◌∙◌, subst, ◌⊎◌, inl, inr, ⊎_elim, arith}
use Rattle.std.proofs.lemmas.Bool.{cases_Bool}
use Rattle.std.specs.Char.{IsScalar}
use lib.Utf8.{scalar}
use Rattle.yf_chars.specs.Signs.{BACKSLASH, DOUBLE_QUOTE}
use Rattle.yf_chars.specs.Text.{code, next}
use Rattle.yf_chars.specs.Class.{is_nb_json}
use Rattle.yf_chars.specs.Chain.{Chain}
use Rattle.yf_chars.specs.Chain.Chain.{done, step}
use Rattle.yf_chars.specs.Escape.{named, NumericEscape, is_high, is_low, NoLow, Escape}
use Rattle.yf_chars.specs.Escape.Escape.{by_letter, by_two, by_four, by_half, by_pair, by_eight}
use Rattle.yf_quoted.specs.Quoted.{DoubleChar}
use Rattle.yf_quoted.specs.Quoted.Piece.{good, bad}
use Rattle.yf_quoted.specs.Quoted.DoubleChar.{unescaped, escaped, wrong}
use Rattle.yf_standard.proofs.Reading.{Star}
use Rattle.yf_standard.proofs.Reading.Star.{none, more}
use Rattle.yf_standard.proofs.Basics.{SomeOf}
use Rattle.yf_chars.proofs.EscapeLemmas.{not_low, no_name, unnamed_u}

-- nb-double-char, 107, one at a time
pub data Lone (t : List ℕ) : ℕ → ℕ → Type 0 where
  lone_char : {i : ℕ} → is_nb_json (code t i) ≡ true → code t i ≢ BACKSLASH → code t i ≢ DOUBLE_QUOTE → Lone t i (next t i)
  lone_letter : {i v : ℕ} → code t i ≡ BACKSLASH → named (code t (i + 1)) ≡ Some v → Lone t i (i + 2)
  lone_two : {i v : ℕ} → NumericEscape t i 120 2 v → Lone t i (i + 4)
  lone_four : {i v : ℕ} → NumericEscape t i 117 4 v → Lone t i (i + 6)
  lone_eight : {i v : ℕ} → NumericEscape t i 85 8 v → Lone t i (i + 10)

-- whether a number is a character's is known
scalar_known : (v : ℕ) → IsScalar v ⊎ (IsScalar v → ⊥)
scalar_known v = ⊎_elim (λ (s : scalar v ≡ true). inl s) (λ (n : scalar v ≡ false). inr (λ s. true≢false (sym s ∙ n))) (cases_Bool (scalar v))

pub as_char : {t : List ℕ} {i j v : ℕ} → Escape t i j v → SomeOf (DoubleChar t) i j
as_char {t} {i} {j} {v} e = ⊎_elim (λ (s : IsScalar v). (good v ∷ [], escaped e s)) (λ (n : IsScalar v → ⊥). (bad i ∷ [], wrong e n)) (scalar_known v)

pub no_low_of : {t : List ℕ} {i : ℕ} → (code t i ≡ BACKSLASH → code t (i + 1) ≢ 117) → NoLow t i
no_low_of f = record { none = λ v n l. f n.backslash n.letter }

pub four_read : {t : List ℕ} {i v : ℕ} → NumericEscape t i 117 4 v → NoLow t (i + 6) → SomeOf (DoubleChar t) i (i + 6)
four_read {t} {i} {v} a n = ⊎_elim (λ (h : is_high v ≡ true). as_char (by_half a h n)) (λ (l : is_high v ≡ false). as_char (by_four a l)) (cases_Bool (is_high v))

-- the first half of a pair, or a separate escape
abbrev Paired : List ℕ → ℕ → ℕ → ℕ → Type 0
Paired t i v w = ((is_high v ≡ true) × (is_low w ≡ true)) ⊎ NoLow t (i + 6)

pub pair_known : {t : List ℕ} {i v w : ℕ} → NumericEscape t i 117 4 v → NumericEscape t (i + 6) 117 4 w → ((is_high v ≡ true) × (is_low w ≡ true)) ⊎ ((is_high v ≡ false) ⊎ NoLow t (i + 6))
pair_known {t} {i} {v} {w} a b =
    ⊎_elim (λ (h : is_high v ≡ true).
    ⊎_elim (λ (l : is_low w ≡ true). inl (h, l)) (λ (m : is_low w ≡ false). inr (inr (not_low b m))) (cases_Bool (is_low w)))
    (λ (l : is_high v ≡ false). inr (inl l)) (cases_Bool (is_high v))

module _ {t : List ℕ} where
  front : {i h j : ℕ} → SomeOf (DoubleChar t) i h → SomeOf (Chain (DoubleChar t)) h j → SomeOf (Chain (DoubleChar t)) i j
  front c r = (c.0 ++ r.0, step c.1 r.1)

  pub chars_read : {i j : ℕ} → Star (Lone t) i j → NoLow t j → SomeOf (Chain (DoubleChar t)) i j
  chars_read none n = ([], done)
  chars_read (more (lone_char a b c) s) n = front (_, unescaped a b c) (chars_read s n)
  chars_read (more (lone_letter a b) s) n = front (as_char (by_letter a b)) (chars_read s n)
  chars_read (more (lone_two a) s) n = front (as_char (by_two a)) (chars_read s n)
  chars_read (more (lone_eight a) s) n = front (as_char (by_eight a)) (chars_read s n)
  chars_read (more (lone_four {v = v} a) none) n = front (four_read a n) ([], done)
  chars_read (more (lone_four {v = v} a) (more (lone_char b d e) s)) n =
      front (four_read a (no_low_of (λ q. absurd (d q)))) (front (_, unescaped b d e) (chars_read s n))
  chars_read (more (lone_four {v = v} a) (more (lone_letter b d) s)) n =
      front (four_read a (no_low_of (λ _ q. no_name 117 unnamed_u q d))) (front (as_char (by_letter b d)) (chars_read s n))
  chars_read (more (lone_four {v = v} a) (more (lone_two b) s)) n =
      front (four_read a (no_low_of (λ _ q. absurd (omega (arith, q, b.letter))))) (front (as_char (by_two b)) (chars_read s n))
  chars_read (more (lone_four {v = v} a) (more (lone_eight b) s)) n =
      front (four_read a (no_low_of (λ _ q. absurd (omega (arith, q, b.letter))))) (front (as_char (by_eight b)) (chars_read s n))
  chars_read {i} {j} (more (lone_four {i = g} {v = v} a) (more {k = k} (lone_four {v = w} b) s)) n =
      let r = chars_read (more (lone_four b) s) n in
      let q = chars_read s n in
      ⊎_elim (λ (p : (is_high v ≡ true) × (is_low w ≡ true)).
      let e : g + 12 ≡ g + 6 + 6 = omega arith in
      front (subst (λ z. SomeOf (DoubleChar t) g z) e (as_char (by_pair a p.0 b p.1))) q)
      (λ (o : (is_high v ≡ false) ⊎ NoLow t (g + 6)).
      ⊎_elim (λ (l : is_high v ≡ false). front (as_char (by_four a l)) r) (λ (m : NoLow t (g + 6)). front (four_read a m) r) o)
      (pair_known a b)
