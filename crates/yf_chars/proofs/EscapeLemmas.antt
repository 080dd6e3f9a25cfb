-- Laws of escapes: at most one escape begins at an offset.
use Rattle.std.proofs.Common.{◌≢◌, ◌⊎◌, ◌≡◌, ℕ, ◌+◌, ◌-◌, ◌*◌, ◌^◌, ◌<◌, ◌≤◌, true, false, true≢false, Some, None, refl, sym, ap, ◌∙◌, subst, ⊎_elim, arith, add-one, leb, List, [], ◌∷◌, ◌++◌, ◌/◌, ◌%◌, encode_utf8_all, encode_utf8, append-nil, append_assoc}
use native.Mathlib.Numerals.{unary_clauses}
use Rattle.std.proofs.Math.Nat.{pow-le-pow_right}
use Rattle.std.proofs.lemmas.Bool.{cases_lt, and_parts, leb-true, lt-ltb, le-ltb}
use Rattle.std.proofs.lemmas.Bool.Decides.{nat_tests}
use lib.Utf8.{encode}
use Rattle.std.proofs.lemmas.Str.{encode_ascii, encodes-append}
use Rattle.std.specs.Char.{digit_value}
use Rattle.yf_chars.specs.Text.{code}
use Rattle.yf_chars.specs.Chain.{Stuck, Chosen}
use Rattle.yf_chars.specs.Class.{is_between}
use Rattle.yf_chars.specs.Escape.{named, number, Digits, NumericEscape, is_high, is_low, joined, NoLow, Escape, upper_digit, two_digits, is_by_two, is_by_four, spelled_long, spelled_by, spelled, short_name, by_number}
use Rattle.yf_chars.specs.Escape.Escape.{by_letter, by_two, by_four, by_half, by_pair, by_eight}

-- a result with only one end and one meaning is chosen
pub chosen_only : {X : Type 0} {P : ℕ → X → Type 0} {j : ℕ} {x : X} → P j x → ((k : ℕ) (y : X) → P k y → (k ≡ j) × (y ≡ x)) → Chosen P j x
chosen_only {j = j} d u = record {
  derived = d;
  longest = λ k y e. let same = u k y e in omega (arith, same.0);
  only = λ y e. (u j y e).1;
}

-- digits
pub no_digits : (t : List ℕ) (i : ℕ) → Digits t i 0 0
unfolding number
no_digits t i = record { each = λ m l. absurd (omega arith); value = refl }

pub more_digits : {t : List ℕ} {i k v d : ℕ} → Digits t i k v → digit_value (code t (i + k)) ≡ d → d < 16 → Digits t i (k + 1) (v * 16 + d)
unfolding number
more_digits {t} {i} {k} {v} {d} s e l = record {
  each = λ m h. ⊎_elim (λ (b : m < k). s.each m b)
      (λ (b : k ≤ m). let same : k ≡ m = omega arith in subst (λ w. digit_value (code t (i + w)) < 16) same (rw e l)) (cases_lt m k);
  value = rw add-one (rw (s.value, e) refl);
}

pub room_for_digit : (v k : ℕ) → v < 16 ^ k → k < 8 → v * 16 + 15 < 16 ^ 8
room_for_digit v k l h =
    let p : 16 ^ k ≤ 16 ^ 7 = pow-le-pow_right {n = 16} (omega arith) {i = k} {j = 7} (omega arith) in
    omega arith

pub digits_unique : {t : List ℕ} {i k v w : ℕ} → Digits t i k v → Digits t i k w → v ≡ w
digits_unique a b = sym a.value ∙ b.value

pub numbered_unique : {t : List ℕ} {i c k v w : ℕ} → NumericEscape t i c k v → NumericEscape t i c k w → v ≡ w
numbered_unique a b = digits_unique a.digits b.digits

-- the three letters before digits have no meaning as a single letter
pub unnamed_x : named 120 ≡ None
unfolding named
unnamed_x = refl

pub unnamed_u : named 117 ≡ None
unfolding named
unnamed_u = refl

pub unnamed_U : named 85 ≡ None
unfolding named
unnamed_U = refl

pub named_below : (c v : ℕ) → named c ≡ Some v → c < 128
unfolding named
named_below c v e = grind (arith, nat_tests)

pub digit_below : (c : ℕ) → digit_value c < 16 → c < 128
digit_below c l = grind (arith, nat_tests)

pub power_more : (k : ℕ) → 16 ^ (k + 1) ≡ 16 ^ k * 16
power_more k = rw add-one (simp unary_clauses)

pub unnamed_end : named 0x110000 ≡ None
unfolding named
unnamed_end = refl

pub high_bounds : (v : ℕ) → is_high v ≡ true → (0xD800 ≤ v) × (v ≤ 0xDBFF)
unfolding is_high is_between
high_bounds v e = let parts = and_parts (leb 0xD800 v) (leb v 0xDBFF) e in (leb-true _ _ parts.0, leb-true _ _ parts.1)

pub low_bounds : (v : ℕ) → is_low v ≡ true → (0xDC00 ≤ v) × (v ≤ 0xDFFF)
unfolding is_low is_between
low_bounds v e = let parts = and_parts (leb 0xDC00 v) (leb v 0xDFFF) e in (leb-true _ _ parts.0, leb-true _ _ parts.1)

pub joined_is : (v w : ℕ) → joined v w ≡ 0x10000 + (v - 0xD800) * 0x400 + (w - 0xDC00)
unfolding joined
joined_is v w = refl

pub no_low : {t : List ℕ} {i : ℕ} → ((v : ℕ) → NumericEscape t i 117 4 v → ⊥) → NoLow t i
no_low n = record { none = λ v a l. n v a }

pub not_low : {t : List ℕ} {i w : ℕ} → NumericEscape t i 117 4 w → is_low w ≡ false → NoLow t i
not_low n e = record { none = λ v a l. true≢false (sym l ∙ ap is_low (numbered_unique a n) ∙ e) }

pub no_name : {c v : ℕ} (d : ℕ) → named d ≡ None → c ≡ d → named c ≡ Some v → ⊥
no_name {c} {v} d n e s = let s' : named d ≡ Some v = rw e at s in cc

-- one escape at most
pub chosen_letter : {t : List ℕ} {i v : ℕ} → code t i ≡ 92 → named (code t (i + 1)) ≡ Some v → Chosen (Escape t i) (i + 2) v
chosen_letter {t} {i} {v} b e = chosen_only (by_letter b e) (λ k y d. only e d) where
  only : {k y : ℕ} → named (code t (i + 1)) ≡ Some v → Escape t i k y → (k ≡ i + 2) × (y ≡ v)
  only e (by_letter a f) = (refl, cc)
  only e (by_two n) = absurd (no_name 120 unnamed_x n.letter e)
  only e (by_four n h) = absurd (no_name 117 unnamed_u n.letter e)
  only e (by_half n h l) = absurd (no_name 117 unnamed_u n.letter e)
  only e (by_pair n h m l) = absurd (no_name 117 unnamed_u n.letter e)
  only e (by_eight n) = absurd (no_name 85 unnamed_U n.letter e)

pub chosen_two : {t : List ℕ} {i v : ℕ} → NumericEscape t i 120 2 v → Chosen (Escape t i) (i + 4) v
chosen_two {t} {i} {v} n = chosen_only (by_two n) (λ k y d. only n d) where
  only : {k y : ℕ} → NumericEscape t i 120 2 v → Escape t i k y → (k ≡ i + 4) × (y ≡ v)
  only n (by_letter a f) = absurd (no_name 120 unnamed_x n.letter f)
  only n (by_two m) = (refl, numbered_unique m n)
  only n (by_four m h) = let a = n.letter in let b = m.letter in absurd (omega arith)
  only n (by_half m h l) = let a = n.letter in let b = m.letter in absurd (omega arith)
  only n (by_pair m h o l) = let a = n.letter in let b = m.letter in absurd (omega arith)
  only n (by_eight m) = let a = n.letter in let b = m.letter in absurd (omega arith)

pub chosen_eight : {t : List ℕ} {i v : ℕ} → NumericEscape t i 85 8 v → Chosen (Escape t i) (i + 10) v
chosen_eight {t} {i} {v} n = chosen_only (by_eight n) (λ k y d. only n d) where
  only : {k y : ℕ} → NumericEscape t i 85 8 v → Escape t i k y → (k ≡ i + 10) × (y ≡ v)
  only n (by_letter a f) = absurd (no_name 85 unnamed_U n.letter f)
  only n (by_two m) = let a = n.letter in let b = m.letter in absurd (omega arith)
  only n (by_four m h) = let a = n.letter in let b = m.letter in absurd (omega arith)
  only n (by_half m h l) = let a = n.letter in let b = m.letter in absurd (omega arith)
  only n (by_pair m h o l) = let a = n.letter in let b = m.letter in absurd (omega arith)
  only n (by_eight m) = (refl, numbered_unique m n)

pub chosen_four : {t : List ℕ} {i v : ℕ} → NumericEscape t i 117 4 v → is_high v ≡ false → Chosen (Escape t i) (i + 6) v
chosen_four {t} {i} {v} n h = chosen_only (by_four n h) (λ k y d. only n h d) where
  only : {k y : ℕ} → NumericEscape t i 117 4 v → is_high v ≡ false → Escape t i k y → (k ≡ i + 6) × (y ≡ v)
  only n h (by_letter a f) = absurd (no_name 117 unnamed_u n.letter f)
  only n h (by_two m) = let a = n.letter in let b = m.letter in absurd (omega arith)
  only n h (by_four m g) = (refl, numbered_unique m n)
  only n h (by_half m g l) = (refl, numbered_unique m n)
  only n h (by_pair m g o l) = absurd (true≢false (sym g ∙ ap is_high (numbered_unique m n) ∙ h))
  only n h (by_eight m) = let a = n.letter in let b = m.letter in absurd (omega arith)

pub chosen_half : {t : List ℕ} {i v : ℕ} → NumericEscape t i 117 4 v → is_high v ≡ true → NoLow t (i + 6) → Chosen (Escape t i) (i + 6) v
chosen_half {t} {i} {v} n h o = chosen_only (by_half n h o) (λ k y d. only n o d) where
  only : {k y : ℕ} → NumericEscape t i 117 4 v → NoLow t (i + 6) → Escape t i k y → (k ≡ i + 6) × (y ≡ v)
  only n o (by_letter a f) = absurd (no_name 117 unnamed_u n.letter f)
  only n o (by_two m) = let a = n.letter in let b = m.letter in absurd (omega arith)
  only n o (by_four m g) = (refl, numbered_unique m n)
  only n o (by_half m g l) = (refl, numbered_unique m n)
  only n o (by_pair {w = w} m g p l) = absurd (o.none w p l)
  only n o (by_eight m) = let a = n.letter in let b = m.letter in absurd (omega arith)

pub chosen_pair : {t : List ℕ} {i v w : ℕ} → NumericEscape t i 117 4 v → is_high v ≡ true → NumericEscape t (i + 6) 117 4 w → is_low w ≡ true
    → Chosen (Escape t i) (i + 12) (joined v w)
chosen_pair {t} {i} {v} {w} n h o l = chosen_only (by_pair n h o l) (λ k y d. only n h o l d) where
  only : {k y : ℕ} → NumericEscape t i 117 4 v → is_high v ≡ true → NumericEscape t (i + 6) 117 4 w → is_low w ≡ true → Escape t i k y
      → (k ≡ i + 12) × (y ≡ joined v w)
  only n h o l (by_letter a f) = absurd (no_name 117 unnamed_u n.letter f)
  only n h o l (by_two m) = let a = n.letter in let b = m.letter in absurd (omega arith)
  only n h o l (by_four m g) = absurd (true≢false (sym h ∙ ap is_high (numbered_unique n m) ∙ g))
  only n h o l (by_half m g q) = absurd (q.none w o l)
  only n h o l (by_pair m g p q) = (refl, (let a = numbered_unique m n in let b = numbered_unique p o in cc))
  only n h o l (by_eight m) = let a = n.letter in let b = m.letter in absurd (omega arith)

-- no escape
pub no_escape : {t : List ℕ} {i : ℕ} → ((v : ℕ) → NumericEscape t i 117 4 v → ⊥) → ((v : ℕ) → NumericEscape t i 120 2 v → ⊥)
    → ((v : ℕ) → NumericEscape t i 85 8 v → ⊥) → ((v : ℕ) → code t i ≡ 92 → named (code t (i + 1)) ≡ Some v → ⊥) → Stuck (Escape t i)
no_escape {t} {i} u x e l = record { none = λ j v d. none u x e l d } where
  none : {j v : ℕ} → ((v : ℕ) → NumericEscape t i 117 4 v → ⊥) → ((v : ℕ) → NumericEscape t i 120 2 v → ⊥)
      → ((v : ℕ) → NumericEscape t i 85 8 v → ⊥) → ((v : ℕ) → code t i ≡ 92 → named (code t (i + 1)) ≡ Some v → ⊥) → Escape t i j v → ⊥
  none u x e l (by_letter {v = v} b f) = l v b f
  none u x e l (by_two {v = v} n) = x v n
  none u x e l (by_four {v = v} n h) = u v n
  none u x e l (by_half {v = v} n h q) = u v n
  none u x e l (by_pair {v = v} n h o q) = u v n
  none u x e l (by_eight {v = v} n) = e v n

-- the bytes of written characters
pub upper_below : (d : ℕ) → d < 16 → upper_digit d < 128
unfolding upper_digit
upper_below d l = grind (arith, nat_tests)

pub two_bytes : (v : ℕ) → v < 256 → encode_utf8_all (two_digits v) ≡ two_digits v
unfolding two_digits
two_bytes v l =
    let a : upper_digit (v / 16) < 128 = upper_below (v / 16) (omega arith) in
    let b : upper_digit (v % 16) < 128 = upper_below (v % 16) (omega arith) in
    rw (encode_ascii (upper_digit (v / 16)) a, encode_ascii (upper_digit (v % 16)) b) refl

pub by_two_below : (c : ℕ) → is_by_two c ≡ true → c < 256
unfolding is_by_two is_between
by_two_below c e = grind (arith, nat_tests)

pub by_four_below : (c : ℕ) → is_by_four c ≡ true → c < 65536
unfolding is_by_four
by_four_below c e = grind (arith, nat_tests)

pub spelled_two : (c : ℕ) → is_by_two c ≡ true → spelled_long c ≡ 92 ∷ 120 ∷ two_digits c
unfolding spelled_long
spelled_two c e = rw e refl

pub spelled_four : (c : ℕ) → is_by_two c ≡ false → is_by_four c ≡ true → spelled_long c ≡ 92 ∷ 117 ∷ two_digits (c / 256) ++ two_digits (c % 256)
unfolding spelled_long
spelled_four c e f = rw (e, f) refl

pub spelled_self : (c : ℕ) → is_by_two c ≡ false → is_by_four c ≡ false → spelled_long c ≡ c ∷ []
unfolding spelled_long
spelled_self c e f = rw (e, f) refl

pub spelled_letter : (c l : ℕ) → short_name c ≡ Some l → spelled c ≡ 92 ∷ l ∷ []
unfolding spelled spelled_by
spelled_letter c l e = rw e refl

pub spelled_none : (c : ℕ) → short_name c ≡ None → spelled c ≡ spelled_long c
unfolding spelled spelled_by
spelled_none c e = rw e refl

pub two_spelled : (c : ℕ) → is_by_two c ≡ true → encode_utf8_all (spelled_long c) ≡ 92 ∷ 120 ∷ two_digits c
unfolding encode
two_spelled c e = ap encode_utf8_all (spelled_two c e) ∙ ap (λ w. 92 ∷ 120 ∷ w) (two_bytes c (by_two_below c e))

-- two digits and an ASCII text are their own bytes
more_bytes : (v : ℕ) {w : List ℕ} → v < 256 → encode_utf8_all w ≡ w → encode_utf8_all (two_digits v ++ w) ≡ two_digits v ++ w
more_bytes v {w} l e = encodes-append (two_digits v) w ∙ ap (λ z. z ++ encode_utf8_all w) (two_bytes v l) ∙ ap (λ z. two_digits v ++ z) e

four_bytes : (c : ℕ) → c < 65536 → encode_utf8_all (92 ∷ 117 ∷ two_digits (c / 256) ++ two_digits (c % 256)) ≡ 92 ∷ 117 ∷ two_digits (c / 256) ++ two_digits (c % 256)
unfolding encode
four_bytes c l = ap (λ w. 92 ∷ 117 ∷ w) (more_bytes (c / 256) (omega arith) (two_bytes (c % 256) (omega arith)))

pub four_spelled : (c : ℕ) → is_by_two c ≡ false → is_by_four c ≡ true
    → encode_utf8_all (spelled_long c) ≡ 92 ∷ 117 ∷ two_digits (c / 256) ++ two_digits (c % 256)
four_spelled c e f = ap encode_utf8_all (spelled_four c e f) ∙ four_bytes c (by_four_below c f)

-- by a number
pub few_digits : (c : ℕ) → c < 0x10000 → by_number c ≡ 92 ∷ 117 ∷ two_digits (c / 256) ++ two_digits (c % 256)
unfolding by_number
few_digits c l = rw (lt-ltb c 0x10000 l) refl

pub many_digits : (c : ℕ) → 0x10000 ≤ c
    → by_number c ≡ 92 ∷ 85 ∷ two_digits 0 ++ (two_digits (c / 65536) ++ (two_digits (c / 256 % 256) ++ two_digits (c % 256)))
unfolding by_number
many_digits c l = rw (le-ltb c 0x10000 l) refl

pub few_spelled : (c : ℕ) → c < 0x10000 → encode_utf8_all (by_number c) ≡ 92 ∷ 117 ∷ two_digits (c / 256) ++ two_digits (c % 256)
few_spelled c l = ap encode_utf8_all (few_digits c l) ∙ four_bytes c l

pub many_spelled : (c : ℕ) → 0x10000 ≤ c → c < 0x110000
    → encode_utf8_all (by_number c) ≡ 92 ∷ 85 ∷ two_digits 0 ++ (two_digits (c / 65536) ++ (two_digits (c / 256 % 256) ++ two_digits (c % 256)))
unfolding encode
many_spelled c l h =
    ap encode_utf8_all (many_digits c l)
    ∙ ap (λ w. 92 ∷ 85 ∷ w) (more_bytes 0 (omega arith) (more_bytes (c / 65536) (omega arith) (more_bytes (c / 256 % 256) (omega arith) (two_bytes (c % 256) (omega arith)))))

pub self_spelled : (c : ℕ) → is_by_two c ≡ false → is_by_four c ≡ false → encode_utf8_all (spelled_long c) ≡ encode_utf8 c
self_spelled c e f = ap encode_utf8_all (spelled_self c e f) ∙ append-nil (encode_utf8 c)

pub letter_spelled : (c l : ℕ) → short_name c ≡ Some l → l < 128 → encode_utf8_all (spelled c) ≡ 92 ∷ l ∷ []
unfolding encode
letter_spelled c l e low = ap encode_utf8_all (spelled_letter c l e) ∙ ap (λ w. 92 ∷ (w ++ [])) (encode_ascii l low)

-- appended one after another
pub glue_two : {b d : List ℕ} (a : List ℕ) (x y : ℕ) → b ≡ a ++ x ∷ [] → d ≡ b ++ y ∷ [] → d ≡ a ++ x ∷ y ∷ []
glue_two a x y p q = q ∙ ap (λ w. w ++ y ∷ []) p ∙ append_assoc a (x ∷ []) (y ∷ [])

pub glue : {b d e : List ℕ} (a : List ℕ) (x y : ℕ) (z : List ℕ) → b ≡ a ++ x ∷ [] → d ≡ b ++ y ∷ [] → e ≡ d ++ z → e ≡ a ++ x ∷ y ∷ z
glue a x y z p q r = r ∙ ap (λ w. w ++ z) (glue_two a x y p q) ∙ append_assoc a (x ∷ y ∷ []) z

-- an escape is the only one there
escape_chosen : {t : List ℕ} {i j v : ℕ} → Escape t i j v → Chosen (Escape t i) j v
escape_chosen (by_letter b e) = chosen_letter b e
escape_chosen (by_two n) = chosen_two n
escape_chosen (by_four n h) = chosen_four n h
escape_chosen (by_half n h o) = chosen_half n h o
escape_chosen (by_pair n h o l) = chosen_pair n h o l
escape_chosen (by_eight n) = chosen_eight n

pub escape_unique : {t : List ℕ} {i j k v w : ℕ} → Escape t i j v → Escape t i k w → (j ≡ k) × (v ≡ w)
escape_unique {t} {i} {j} {k} {v} {w} a b =
    let f = (escape_chosen a).longest k w b in
    let g = (escape_chosen b).longest j v a in
    let same : j ≡ k = omega arith in
    (same, (escape_chosen b).only v (subst (λ m. Escape t i m v) same a))

-- it begins with a backslash and moves on, and no line break follows the backslash
pub escape_backslash : {t : List ℕ} {i j v : ℕ} → Escape t i j v → code t i ≡ 92
escape_backslash (by_letter b e) = b
escape_backslash (by_two n) = n.backslash
escape_backslash (by_four n h) = n.backslash
escape_backslash (by_half n h o) = n.backslash
escape_backslash (by_pair n h o l) = n.backslash
escape_backslash (by_eight n) = n.backslash

pub escape_forward : {t : List ℕ} {i j v : ℕ} → Escape t i j v → i < j
escape_forward (by_letter b e) = omega arith
escape_forward (by_two n) = omega arith
escape_forward (by_four n h) = omega arith
escape_forward (by_half n h o) = omega arith
escape_forward (by_pair n h o l) = omega arith
escape_forward (by_eight n) = omega arith

pub unnamed_lf : named 10 ≡ None
unfolding named
unnamed_lf = refl

pub unnamed_cr : named 13 ≡ None
unfolding named
unnamed_cr = refl

no_break_letter : {t : List ℕ} {i d k v : ℕ} → NumericEscape t i d k v → d ≢ 10 → d ≢ 13 → (code t (i + 1) ≡ 13) ⊎ (code t (i + 1) ≡ 10) → ⊥
no_break_letter n a b o = ⊎_elim (λ e. b (sym n.letter ∙ e)) (λ e. a (sym n.letter ∙ e)) o

pub escape_no_break : {t : List ℕ} {i j v : ℕ} → Escape t i j v → (code t (i + 1) ≡ 13) ⊎ (code t (i + 1) ≡ 10) → ⊥
escape_no_break {t} {i} (by_letter b e) o = ⊎_elim (λ (q : code t (i + 1) ≡ 13). no_name 13 unnamed_cr q e) (λ (q : code t (i + 1) ≡ 10). no_name 10 unnamed_lf q e) o
escape_no_break (by_two n) o = no_break_letter n (λ q. omega arith) (λ q. omega arith) o
escape_no_break (by_four n h) o = no_break_letter n (λ q. omega arith) (λ q. omega arith) o
escape_no_break (by_half n h p) o = no_break_letter n (λ q. omega arith) (λ q. omega arith) o
escape_no_break (by_pair n h p l) o = no_break_letter n (λ q. omega arith) (λ q. omega arith) o
escape_no_break (by_eight n) o = no_break_letter n (λ q. omega arith) (λ q. omega arith) o

-- no - and no . is part of an escape
pub record NoSign (t : List ℕ) (i j : ℕ) : Type 0 where
  pub none : (m : ℕ) → i ≤ m → m < j → (code t m ≢ 45) × (code t m ≢ 46)

value_no_sign : (c : ℕ) → digit_value c < 16 → (c ≢ 45) × (c ≢ 46)
value_no_sign c l = (λ e. digit_dash (subst (λ w. digit_value w < 16) e l), λ e. digit_dot (subst (λ w. digit_value w < 16) e l)) where
  digit_dash : digit_value 45 < 16 → ⊥
  digit_dash l = omega arith

  digit_dot : digit_value 46 < 16 → ⊥
  digit_dot l = omega arith

unnamed_dash : named 45 ≡ None
unfolding named
unnamed_dash = refl

unnamed_dot : named 46 ≡ None
unfolding named
unnamed_dot = refl

numbered_no_sign : {t : List ℕ} {i c k v : ℕ} → NumericEscape t i c k v → c ≢ 45 → c ≢ 46 → NoSign t i (i + 2 + k)
numbered_no_sign {t} {i} {c} {k} n a b = record {
  none = λ m l h. ⊎_elim
      (λ (e : m < i + 2). two m l e)
      (λ (e : i + 2 ≤ m).
      let q : (i + 2) + (m - (i + 2)) ≡ m = omega arith in
      value_no_sign (code t m) (subst (λ w. digit_value (code t w) < 16) q (n.digits.each (m - (i + 2)) (omega arith))))
      (cases_lt m (i + 2));
} where
  two : (m : ℕ) → i ≤ m → m < i + 2 → (code t m ≢ 45) × (code t m ≢ 46)
  two m l h = ⊎_elim
      (λ (e : m < i + 1). let q : m ≡ i = omega arith in let z : code t m ≡ 92 = ap (code t) q ∙ n.backslash in (λ f. omega arith, λ f. omega arith))
      (λ (e : i + 1 ≤ m). let q : m ≡ i + 1 = omega arith in let z : code t m ≡ c = ap (code t) q ∙ n.letter in (λ f. a (sym z ∙ f), λ f. b (sym z ∙ f)))
      (cases_lt m (i + 1))

letter_no_sign : {t : List ℕ} {i v : ℕ} → code t i ≡ 92 → named (code t (i + 1)) ≡ Some v → NoSign t i (i + 2)
letter_no_sign {t} {i} b n = record {
  none = λ m l h. ⊎_elim
      (λ (e : m < i + 1). let q : m ≡ i = omega arith in let z : code t m ≡ 92 = ap (code t) q ∙ b in (λ f. omega arith, λ f. omega arith))
      (λ (e : i + 1 ≤ m). let q : m ≡ i + 1 = omega arith in let z : code t m ≡ code t (i + 1) = ap (code t) q in
      (λ f. no_name 45 unnamed_dash (sym z ∙ f) n, λ f. no_name 46 unnamed_dot (sym z ∙ f) n))
      (cases_lt m (i + 1));
}

no_sign_to : {t : List ℕ} {i j k : ℕ} → j ≡ k → NoSign t i j → NoSign t i k
no_sign_to {t} {i} e n = subst (λ m. NoSign t i m) e n

pub escape_no_sign : {t : List ℕ} {i j v : ℕ} → Escape t i j v → NoSign t i j
escape_no_sign (by_letter b e) = letter_no_sign b e
escape_no_sign (by_two n) = no_sign_to (omega arith) (numbered_no_sign n (λ e. omega arith) (λ e. omega arith))
escape_no_sign (by_four n h) = no_sign_to (omega arith) (numbered_no_sign n (λ e. omega arith) (λ e. omega arith))
escape_no_sign (by_half n h o) = no_sign_to (omega arith) (numbered_no_sign n (λ e. omega arith) (λ e. omega arith))
escape_no_sign {t} (by_pair {i = i} n h o l) =
    let a = numbered_no_sign n (λ e. omega arith) (λ e. omega arith) in
    let b = numbered_no_sign o (λ e. omega arith) (λ e. omega arith) in
    record { none = λ m f g. ⊎_elim (λ (e : m < i + 6). a.none m f (omega arith)) (λ (e : i + 6 ≤ m). b.none m e (omega arith)) (cases_lt m (i + 6)) }
escape_no_sign (by_eight n) = no_sign_to (omega arith) (numbered_no_sign n (λ e. omega arith) (λ e. omega arith))
