-- If hidden characters are to be escaped, no character of a written quoted scalar is hidden.
use Rattle.std.proofs.Common.{◌≡◌, ◌≢◌, ℕ, ◌+◌, ◌/◌, ◌%◌, ◌<◌, ◌≤◌, Bool, true, false, true≢false, List, [], ◌∷◌, ◌++◌, length, flat_map, Option, Some, None, refl, sym, ap, ◌∙◌, subst, ⊎_elim, arith, append_assoc}
use Rattle.std.specs.Prelude.{◌||◌}
use Rattle.std.specs.Char.{len_utf8}
use Rattle.std.specs.List.{list_any}
use Rattle.std.specs.Str.{IsUtf8}
use Rattle.std.proofs.lemmas.Bool.{and_parts, cases_Bool, cases_eq, cases_lt, ne_eqb}
use Rattle.std.proofs.lemmas.Bool.Decides.{nat_tests}
use Rattle.std.proofs.lemmas.List.{length-append}
use Rattle.std.proofs.lemmas.Str.{length-encode}
use lib.Utf8.{encode, encodes, scalar, scalars}
use Rattle.yf_chars.specs.Class.{is_between}
use Rattle.yf_chars.specs.Escape.{by_number, is_by_four, is_by_two, short_name, spelled, spelled_by, spelled_long, two_digits}
use Rattle.yf_chars.specs.Hidden.{is_hidden, is_spelled_out, spelled_out}
use Rattle.yf_chars.specs.Text.{code, no_char}
use Rattle.yf_chars.proofs.EscapeLemmas.{by_four_below, by_two_below, few_digits, many_digits, spelled_four, spelled_self, spelled_two, upper_below}
use Rattle.yf_chars.proofs.HiddenLemmas.{low_shown, out_hidden, spelled_alike, spelled_apart}
use Rattle.yf_chars.proofs.SpelledLemmas.{IsAt, is_at_char}
use Rattle.yf_chars.proofs.TextLemmas.{scalar_below}
use Rattle.yf_lines.proofs.ClearLemmas.{code_inside}
use Rattle.yf_quoted.specs.Written.{twice}

-- each of the characters is shown as it is
abbrev pub AllShown : List ℕ → Type 0
AllShown [] = Unit {0}
AllShown (c ∷ cs) = (is_hidden c ≡ false) × AllShown cs

pub both_shown : (xs ys : List ℕ) → AllShown xs → AllShown ys → AllShown (xs ++ ys)
both_shown [] ys a b = b
both_shown (x ∷ xs) ys a b = (a.0, both_shown xs ys a.1 b)

pub ascii_shown : (c : ℕ) → c < 128 → is_hidden c ≡ false
ascii_shown c l = low_shown c (omega (arith, l))

-- Escapes.

digits_shown : (v : ℕ) → v < 256 → AllShown (two_digits v)
unfolding two_digits
digits_shown v l = (ascii_shown _ (upper_below (v / 16) (omega arith)), (ascii_shown _ (upper_below (v % 16) (omega arith)), tt))

number_shown : (c : ℕ) → scalar c ≡ true → AllShown (by_number c)
number_shown c s =
    let slash = ascii_shown 92 (omega arith) in
    let digits : (v : ℕ) (r : List ℕ) → v < 256 → AllShown r → AllShown (two_digits v ++ r) = λ v r l a. both_shown (two_digits v) r (digits_shown v l) a in
    ⊎_elim
    (λ (l : c < 0x10000). rw (few_digits c l)
    (slash, (ascii_shown 117 (omega arith), digits (c / 256) (two_digits (c % 256)) (omega arith) (digits_shown (c % 256) (omega arith)))))
    (λ (l : 0x10000 ≤ c). let h : c < 0x110000 = scalar_below c s in rw (many_digits c l) (
      slash,
      (
        ascii_shown 85 (omega arith),
        digits 0 _ (omega arith) (digits (c / 65536) _ (omega arith) (digits (c / 256 % 256) _ (omega arith) (digits_shown (c % 256) (omega arith)))),
      ),
    ))
    (cases_lt c 0x10000)

letter_low : (c l : ℕ) → short_name c ≡ Some l → l < 128
unfolding short_name
letter_low c l e = grind (arith, nat_tests)

low_enough : (c : ℕ) → is_by_two c ≡ false → c ≤ 160 → c < 128
unfolding is_by_two is_between
low_enough c e l = grind (arith, nat_tests)

itself_shown : (c : ℕ) → is_spelled_out c ≡ false → is_by_two c ≡ false → is_by_four c ≡ false → is_hidden c ≡ false
itself_shown c e f g =
    ⊎_elim (λ (l : 160 < c). sym (out_hidden c l g) ∙ e) (λ (l : c ≤ 160). ascii_shown c (low_enough c f l)) (cases_lt 160 c)

long_shown : (c : ℕ) → is_spelled_out c ≡ false → AllShown (spelled_long c)
long_shown c e =
    ⊎_elim (λ (f : is_by_two c ≡ true). rw (spelled_two c f) (ascii_shown 92 (omega arith), (ascii_shown 120 (omega arith), digits_shown c (by_two_below c f))))
    (λ (f : is_by_two c ≡ false).
    ⊎_elim (λ (g : is_by_four c ≡ true). let l = by_four_below c g in rw (spelled_four c f g) (
      ascii_shown 92 (omega arith),
      (
        ascii_shown 117 (omega arith),
        both_shown (two_digits (c / 256)) (two_digits (c % 256)) (digits_shown (c / 256) (omega (arith, l))) (digits_shown (c % 256) (omega arith)),
      ),
    ))
    (λ (g : is_by_four c ≡ false). rw (spelled_self c f g) (itself_shown c e f g, tt))
    (cases_Bool (is_by_four c)))
    (cases_Bool (is_by_two c))

alike_shown : (c : ℕ) → is_spelled_out c ≡ false → AllShown (spelled c)
unfolding spelled spelled_by
alike_shown c e = go (short_name c) refl where
  go : (o : Option ℕ) → short_name c ≡ o → AllShown (spelled_by o c)
  go (Some l) f = (ascii_shown 92 (omega arith), (ascii_shown l (letter_low c l f), tt))
  go None f = long_shown c e

out_shown : (c : ℕ) → scalar c ≡ true → AllShown (spelled_out c)
out_shown c s =
    ⊎_elim (λ (e : is_spelled_out c ≡ true). rw (spelled_apart c e) (number_shown c s))
    (λ (e : is_spelled_out c ≡ false). rw (spelled_alike c e) (alike_shown c e)) (cases_Bool (is_spelled_out c))

-- Texts in quotes.

pub all_out_shown : (cs : List ℕ) → scalars cs ≡ true → AllShown (flat_map spelled_out cs)
all_out_shown [] e = tt
all_out_shown (c ∷ cs) e =
    let parts = and_parts (scalar c) (scalars cs) e in
    both_shown (spelled_out c) (flat_map spelled_out cs) (out_shown c parts.0) (all_out_shown cs parts.1)

twice_shown : (c : ℕ) → is_hidden c ≡ false → AllShown (twice c)
twice_shown c e = ⊎_elim (λ (q : c ≡ 39). rw q (ascii_shown 39 (omega arith), (ascii_shown 39 (omega arith), tt))) (λ (q : c ≢ 39). rw (ne_eqb c 39 q) (e, tt)) (cases_eq c 39)

none_of_two : (a b : Bool) → (a || b) ≡ false → (a ≡ false) × (b ≡ false)
none_of_two true b e = absurd (true≢false e)
none_of_two false b e = (refl, e)

pub all_twice_shown : (cs : List ℕ) → list_any is_hidden cs ≡ false → AllShown (flat_map twice cs)
all_twice_shown [] e = tt
all_twice_shown (c ∷ cs) e =
    let parts = none_of_two (is_hidden c) (list_any is_hidden cs) e in
    both_shown (twice c) (flat_map twice cs) (twice_shown c parts.0) (all_twice_shown cs parts.1)

-- In a text.

-- no hidden character begins among these
pub shown_there : {t : List ℕ} (cs r : List ℕ) {q : ℕ} (k : ℕ) → IsUtf8 t → AllShown cs → IsAt t q (encodes cs ++ r) → q ≤ k → k < q + length (encodes cs) → code t k < no_char → is_hidden (code t k) ≡ false
shown_there [] r k u a s l m n = absurd (omega (arith, l, m))
shown_there {t} (c ∷ cs) r {q} k u a s l m n =
    let got = is_at_char c u (subst (λ w. IsAt t q w) (append_assoc (encode c) (encodes cs) r) s) in
    let there : q + len_utf8 c + length (encodes cs) ≡ q + length (encode c ++ encodes cs) = omega (arith, length-append (encode c) (encodes cs), length-encode c) in
    ⊎_elim
    (λ (i : k < q + len_utf8 c).
    ⊎_elim (λ (j : q < k). let none : code t k ≡ no_char = code_inside u got.0 j i in absurd (omega (arith, none, n)))
    (λ (j : k ≤ q). let same : q ≡ k = omega (arith, j, l) in ap (λ z. is_hidden (code t z)) (sym same) ∙ (ap is_hidden got.0.char ∙ a.0)) (cases_lt q k))
    (λ (i : q + len_utf8 c ≤ k). shown_there cs r k u a.1 got.1 i (omega (arith, there, m)) n)
    (cases_lt k (q + len_utf8 c))
