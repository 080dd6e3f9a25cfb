-- A written character is read again.
use Rattle.std.proofs.Common.{◌⊎◌, ◌≡◌, ℕ, ◌+◌, ◌*◌, ◌/◌, ◌%◌, ◌<◌, ◌≤◌, Bool, true, false, Option, Some, None, refl, sym, ap, ◌∙◌, subst, inl, inr, ⊎_elim, arith, List, [], ◌∷◌, ◌++◌, length, drop, encode_utf8_all, if◌then◌else◌}
use Rattle.std.proofs.lemmas.Bool.{cases_Bool, cases_lt}
use Rattle.std.proofs.lemmas.Bool.Decides.{nat_tests}
use Rattle.std.proofs.lemmas.List.{length-append, length-drop}
use lib.Utf8.{encode, scalar_cases}
use Rattle.std.proofs.lemmas.Str.{encode_ascii, len_utf8_ascii, length-encode, len_utf8_bounds, drop_past_char}
use Rattle.std.specs.Char.{digit_value, len_utf8, IsScalar}
use Rattle.std.specs.Str.{IsUtf8, IsCharBoundary}
use Rattle.yf_chars.specs.Text.{code, CharAt}
use Rattle.yf_chars.specs.Class.{is_between, is_printable, is_break_char, is_nb_char}
use Rattle.yf_chars.specs.Escape.{named, Digits, is_high, upper_digit, two_digits, is_by_two, is_by_four, spelled, short_name, by_number}
use Rattle.yf_chars.specs.Escape.Escape.{by_letter, by_two, by_four, by_eight}
use Rattle.yf_chars.specs.Hidden.{is_spelled_out, spelled_out}
use Rattle.yf_chars.specs.Spelled.{SpellsChar, ReadsBack}
use Rattle.yf_chars.specs.Spelled.SpellsChar.{as_escape, as_itself}
use Rattle.yf_chars.proofs.TextLemmas.{reads_char, scalar_below}
use Rattle.yf_chars.proofs.EscapeLemmas.{no_digits, more_digits, upper_below, by_two_below, by_four_below, spelled_none, two_spelled, four_spelled, self_spelled, letter_spelled, few_spelled, many_spelled}
use Rattle.yf_chars.proofs.Tests.{none_some}

-- the bytes from an offset on
pub record IsAt (t : List ℕ) (q : ℕ) (r : List ℕ) : Type 0 where
  pub bytes : drop q t ≡ r
  pub boundary : IsCharBoundary t q

is_at_within : {t : List ℕ} {q : ℕ} (c : ℕ) (r : List ℕ) → IsAt t q (encode c ++ r) → q < length t
is_at_within {t} {q} c r s =
    let long : length (drop q t) ≡ length (encode c ++ r) = ap length s.bytes in
    omega (arith, length-drop q t, length-append (encode c) r, length-encode c, len_utf8_bounds c)

pub is_at_char : {t : List ℕ} {q : ℕ} {r : List ℕ} (c : ℕ) → IsUtf8 t → IsAt t q (encode c ++ r) → CharAt t q c (q + len_utf8 c) × IsAt t (q + len_utf8 c) r
is_at_char {t} {q} {r} c u s =
    let read = reads_char t q c r u s.boundary (is_at_within c r s) s.bytes in
    (read, record { bytes = drop_past_char t r q c s.bytes; boundary = read.boundary })

pub is_at_ascii : {t : List ℕ} {q : ℕ} {r : List ℕ} (c : ℕ) → IsUtf8 t → c < 128 → IsAt t q (c ∷ r) → CharAt t q c (q + 1) × IsAt t (q + 1) r
is_at_ascii {t} {q} {r} c u l s =
    let wide : c ∷ r ≡ encode c ++ r = ap (λ w. w ++ r) (sym (encode_ascii c l)) in
    let got = is_at_char c u (subst (λ w. IsAt t q w) wide s) in
    let one_long : len_utf8 c ≡ 1 = len_utf8_ascii c l in
    (subst (λ w. CharAt t q c (q + w)) one_long got.0, subst (λ w. IsAt t (q + w) r) one_long got.1)

-- digits
upper_value : (d : ℕ) → d < 16 → digit_value (upper_digit d) ≡ d
unfolding upper_digit
upper_value d l = grind (arith, nat_tests)

next_digit : {t : List ℕ} {i k v q : ℕ} {r : List ℕ} (d : ℕ) → IsUtf8 t → d < 16 → i + k ≡ q → Digits t i k v → IsAt t q (upper_digit d ∷ r)
    → Digits t i (k + 1) (v * 16 + d) × IsAt t (q + 1) r
next_digit {t} {i} {k} {v} {q} {r} d u l e s p =
    let got = is_at_ascii (upper_digit d) u (upper_below d l) p in
    let here : code t (i + k) ≡ upper_digit d = ap (code t) e ∙ got.0.char in
    (more_digits s (ap digit_value here ∙ upper_value d l) l, got.1)

next_two : {t : List ℕ} {i k v q : ℕ} {r : List ℕ} (w : ℕ) → IsUtf8 t → w < 256 → i + k ≡ q → Digits t i k v → IsAt t q (two_digits w ++ r)
    → Digits t i (k + 2) (v * 256 + w) × IsAt t (q + 2) r
unfolding two_digits
next_two {t} {i} {k} {v} {q} {r} w u l e s p =
    let a = next_digit (w / 16) u (omega arith) e s p in
    let b = next_digit (w % 16) u (omega arith) (omega arith) a.0 a.1 in
    let sum : (v * 16 + w / 16) * 16 + w % 16 ≡ v * 256 + w = omega arith in
    let count : k + 1 + 1 ≡ k + 2 = omega arith in
    let place : q + 1 + 1 ≡ q + 2 = omega arith in
    let d : Digits t i (k + 2) ((v * 16 + w / 16) * 16 + w % 16) = subst (λ m. Digits t i m ((v * 16 + w / 16) * 16 + w % 16)) count b.0 in
    (subst (λ m. Digits t i (k + 2) m) sum d, subst (λ m. IsAt t m r) place b.1)

-- the kinds of spelling
name_letter : (c l : ℕ) → short_name c ≡ Some l → (named l ≡ Some c) × (l < 128)
unfolding short_name named
name_letter c l e = grind (arith, nat_tests)

back_letter : (c l : ℕ) → short_name c ≡ Some l → ReadsBack (92 ∷ l ∷ []) c
back_letter c l e = record { holds = holds } where
  holds : (t : List ℕ) (i : ℕ) (rest : List ℕ) → IsUtf8 t → IsCharBoundary t i → drop i t ≡ 92 ∷ l ∷ rest → SpellsChar t c i (i + 2)
  holds t i rest u b d =
      let n = name_letter c l e in
      let first = is_at_ascii 92 u (omega arith) (record { bytes = d; boundary = b }) in
      let second = is_at_ascii l u n.1 first.1 in
      as_escape (by_letter first.0.char (ap named second.0.char ∙ n.0))

back_two : (c : ℕ) → c < 256 → ReadsBack (92 ∷ 120 ∷ two_digits c) c
unfolding two_digits
back_two c l = record { holds = holds } where
  holds : (t : List ℕ) (i : ℕ) (rest : List ℕ) → IsUtf8 t → IsCharBoundary t i → drop i t ≡ 92 ∷ 120 ∷ (two_digits c ++ rest) → SpellsChar t c i (i + 4)
  holds t i rest u b d =
      let first = is_at_ascii 92 u (omega arith) (record { bytes = d; boundary = b }) in
      let second = is_at_ascii 120 u (omega arith) first.1 in
      let place : (i + 2) + 0 ≡ i + 1 + 1 = omega arith in
      let digits = next_two c u l place (no_digits t (i + 2)) second.1 in
      let sum : 0 * 256 + c ≡ c = omega arith in
      as_escape (by_two (record { backslash = first.0.char; letter = second.0.char; digits = subst (λ v. Digits t (i + 2) 2 v) sum digits.0 }))

back_four : (c : ℕ) → c < 65536 → is_high c ≡ false → ReadsBack (92 ∷ 117 ∷ two_digits (c / 256) ++ two_digits (c % 256)) c
unfolding two_digits
back_four c l f = record { holds = holds } where
  holds : (t : List ℕ) (i : ℕ) (rest : List ℕ) → IsUtf8 t → IsCharBoundary t i → drop i t ≡ 92 ∷ 117 ∷ (two_digits (c / 256) ++ (two_digits (c % 256) ++ rest)) → SpellsChar t c i (i + 6)
  holds t i rest u b d =
      let first = is_at_ascii 92 u (omega arith) (record { bytes = d; boundary = b }) in
      let second = is_at_ascii 117 u (omega arith) first.1 in
      let place : (i + 2) + 0 ≡ i + 1 + 1 = omega arith in
      let high = next_two (c / 256) u (omega arith) place (no_digits t (i + 2)) second.1 in
      let low = next_two (c % 256) u (omega arith) (omega arith) high.0 high.1 in
      let sum : (0 * 256 + c / 256) * 256 + c % 256 ≡ c = omega arith in
      as_escape (by_four (record { backslash = first.0.char; letter = second.0.char; digits = subst (λ v. Digits t (i + 2) 4 v) sum low.0 }) f)

back_eight : (c : ℕ) → c < 0x110000 → ReadsBack (92 ∷ 85 ∷ two_digits 0 ++ (two_digits (c / 65536) ++ (two_digits (c / 256 % 256) ++ two_digits (c % 256)))) c
unfolding two_digits
back_eight c l = record { holds = holds } where
  holds : (t : List ℕ) (i : ℕ) (rest : List ℕ) → IsUtf8 t → IsCharBoundary t i
      → drop i t ≡ 92 ∷ 85 ∷ (two_digits 0 ++ (two_digits (c / 65536) ++ (two_digits (c / 256 % 256) ++ (two_digits (c % 256) ++ rest)))) → SpellsChar t c i (i + 10)
  holds t i rest u b d =
      let first = is_at_ascii 92 u (omega arith) (record { bytes = d; boundary = b }) in
      let second = is_at_ascii 85 u (omega arith) first.1 in
      let place : (i + 2) + 0 ≡ i + 1 + 1 = omega arith in
      let one = next_two 0 u (omega arith) place (no_digits t (i + 2)) second.1 in
      let two = next_two (c / 65536) u (omega arith) (omega arith) one.0 one.1 in
      let three = next_two (c / 256 % 256) u (omega arith) (omega arith) two.0 two.1 in
      let four = next_two (c % 256) u (omega arith) (omega arith) three.0 three.1 in
      let sum : (((0 * 256 + 0) * 256 + c / 65536) * 256 + c / 256 % 256) * 256 + c % 256 ≡ c = omega arith in
      as_escape (by_eight (record { backslash = first.0.char; letter = second.0.char; digits = subst (λ v. Digits t (i + 2) 8 v) sum four.0 }))

-- no half of a pair is a character
low_high : (c : ℕ) → c < 55296 → is_high c ≡ false
unfolding is_high is_between
low_high c l = grind (arith, nat_tests)

above_high : (c : ℕ) → 57344 ≤ c → is_high c ≡ false
unfolding is_high is_between
above_high c l = grind (arith, nat_tests)

scalar_high : (c : ℕ) → IsScalar c → is_high c ≡ false
scalar_high c s = ⊎_elim (λ (h : c < 55296). low_high c h) (λ (h : (57344 ≤ c) × (c < 1114112)). above_high c h.0) (scalar_cases c s)

pub number_back : (c : ℕ) → IsScalar c → ReadsBack (encode_utf8_all (by_number c)) c
number_back c s =
    ⊎_elim (λ (l : c < 0x10000). subst (λ w. ReadsBack w c) (sym (few_spelled c l)) (back_four c l (scalar_high c s)))
    (λ (l : 0x10000 ≤ c). let h = scalar_below c s in subst (λ w. ReadsBack w c) (sym (many_spelled c l h)) (back_eight c h)) (cases_lt c 0x10000)

pub plain_char : (c : ℕ) → c < 0x110000 → (c < 0xD800) ⊎ (0xE000 ≤ c) → short_name c ≡ None → is_by_two c ≡ false → is_by_four c ≡ false → is_nb_char c ≡ true
unfolding short_name is_by_two is_by_four is_nb_char is_printable is_break_char is_between
plain_char c b s n e f = grind (arith, nat_tests)

short_quote : short_name 34 ≡ Some 34
unfolding short_name
short_quote = refl

short_backslash : short_name 92 ≡ Some 92
unfolding short_name
short_backslash = refl

back_itself : (c : ℕ) → IsScalar c → short_name c ≡ None → is_by_two c ≡ false → is_by_four c ≡ false → ReadsBack (encode c) c
back_itself c s n e f = record {
  holds = λ t i rest u b d.
      let read = is_at_char c u (record { bytes = d; boundary = b }) in
      let nb : is_nb_char c ≡ true = ⊎_elim (λ (h : c < 55296). plain_char c (omega arith) (inl h) n e f)
      (λ (h : (57344 ≤ c) × (c < 1114112)). plain_char c h.1 (inr h.0) n e f) (scalar_cases c s) in
      let end : i + len_utf8 c ≡ i + length (encode c) = omega (arith, length-encode c) in
      as_itself (subst (λ j. CharAt t i c j) end read.0) nb
      (λ q. none_some (sym n ∙ ap short_name q ∙ short_quote)) (λ q. none_some (sym n ∙ ap short_name q ∙ short_backslash));
}

long_back : (c : ℕ) → IsScalar c → short_name c ≡ None → ReadsBack (encode_utf8_all (spelled c)) c
long_back c s n =
    ⊎_elim (λ (e : is_by_two c ≡ true). subst (λ w. ReadsBack w c) (sym (ap encode_utf8_all (spelled_none c n) ∙ two_spelled c e)) (back_two c (by_two_below c e)))
    (λ (e : is_by_two c ≡ false).
    ⊎_elim (λ (f : is_by_four c ≡ true). subst (λ w. ReadsBack w c) (sym (ap encode_utf8_all (spelled_none c n) ∙ four_spelled c e f)) (back_four c (by_four_below c f) (scalar_high c s)))
    (λ (f : is_by_four c ≡ false). subst (λ w. ReadsBack w c) (sym (ap encode_utf8_all (spelled_none c n) ∙ self_spelled c e f)) (back_itself c s n e f))
    (cases_Bool (is_by_four c)))
    (cases_Bool (is_by_two c))

pub reads_back : (c : ℕ) → IsScalar c → ReadsBack (encode_utf8_all (spelled c)) c
reads_back c s = go (short_name c) refl where
  go : (o : Option ℕ) → short_name c ≡ o → ReadsBack (encode_utf8_all (spelled c)) c
  go (Some l) e = let n = name_letter c l e in subst (λ w. ReadsBack w c) (sym (letter_spelled c l e n.1)) (back_letter c l e)
  go None e = long_back c s e

pub out_back : (c : ℕ) → IsScalar c → ReadsBack (encode_utf8_all (spelled_out c)) c
unfolding spelled_out
out_back c s = go (is_spelled_out c) refl where
  go : (b : Bool) → is_spelled_out c ≡ b → ReadsBack (encode_utf8_all (if b then by_number c else spelled c)) c
  go true e = number_back c s
  go false e = reads_back c s
