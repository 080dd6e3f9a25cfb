-- Quoted scalars are on one line, and are derived again at any offset.
use Rattle.std.proofs.Common.{◌≡◌, ◌≢◌, ℕ, ◌+◌, ◌/◌, ◌%◌, ◌<◌, ◌≤◌, ℤ, true, false, Option, Some, None, List, [], ◌∷◌, ◌++◌, length, flat_map, refl, inl, inr, ⊎_elim, arith, encode_utf8_all}
use Rattle.std.proofs.lemmas.Bool.{cases_Bool, cases_eq, cases_lt, ne_eqb, and_parts}
use Rattle.std.proofs.lemmas.Bool.Decides.{nat_tests}
use lib.Utf8.{scalars, scalar, scalar_cases}
use Rattle.std.specs.Str.{IsUtf8}
use Rattle.yf_chars.specs.declared.context.Ctx.{Ctx}
use Rattle.yf_chars.specs.Class.{is_nb_char}
use Rattle.yf_chars.specs.Escape.{upper_digit, two_digits, is_by_two, is_by_four, spelled_long, spelled_by, spelled, short_name, by_number}
use Rattle.yf_chars.specs.Hidden.{is_spelled_out, spelled_out}
use Rattle.yf_chars.proofs.EscapeLemmas.{by_two_below, by_four_below, few_digits, many_digits}
use Rattle.yf_chars.proofs.HiddenLemmas.{spelled_alike, spelled_apart}
use Rattle.yf_chars.proofs.SpelledLemmas.{IsAt, plain_char}
use Rattle.yf_chars.proofs.CharBounds.{visible_nb}
use Rattle.yf_chars.proofs.TextLemmas.{scalar_below}
use Rattle.yf_lines.specs.Basic.{is_block}
use Rattle.yf_lines.specs.LineText.{AllNb, IsLineText}
use Rattle.yf_lines.specs.declared.invisible.Invisible.{Invisible}
use Rattle.yf_lines.specs.declared.invisible.Invisible.TheVariants.{Plain, Escaped}
use Rattle.yf_lines.proofs.RestLemmas.{nb_append, line_append, line_ascii, line_nothing}
use Rattle.yf_quoted.specs.Quoted.{Piece, text_of, bad_escapes, SingleQuoted, DoubleQuoted}
use Rattle.yf_quoted.specs.Written.{DoubleBack, all_nb, twice, single_bytes, double_bytes, double_bytes_in}
use Rattle.yf_quoted.proofs.WriteLemmas.{single_back}

-- the written characters
twice_nb : (c : ℕ) → is_nb_char c ≡ true → AllNb (twice c)
twice_nb c e = ⊎_elim (λ (q : c ≡ 39). let nb = visible_nb 39 (omega arith) (omega arith) in rw (q) (nb, (nb, tt))) (λ (q : c ≢ 39). rw (ne_eqb c 39 q) (e, tt)) (cases_eq c 39)

all_twice : (cs : List ℕ) → all_nb cs ≡ true → AllNb (flat_map twice cs)
all_twice [] e = tt
all_twice (c ∷ cs) e =
    let parts = and_parts (is_nb_char c) (all_nb cs) e in
    nb_append (twice c) (flat_map twice cs) (twice_nb c parts.0) (all_twice cs parts.1)

digit_nb : (d : ℕ) → d < 16 → (32 ≤ upper_digit d) × (upper_digit d < 127)
unfolding upper_digit
digit_nb d l = (grind (arith, nat_tests), grind (arith, nat_tests))

digits_nb : (v : ℕ) → v < 256 → AllNb (two_digits v)
unfolding two_digits
digits_nb v l =
    let a = digit_nb (v / 16) (omega arith) in
    let b = digit_nb (v % 16) (omega arith) in
    (visible_nb _ a.0 a.1, (visible_nb _ b.0 b.1, tt))

letter_bounds : (c l : ℕ) → short_name c ≡ Some l → (32 ≤ l) × (l < 127)
unfolding short_name
letter_bounds c l e = (grind (arith, nat_tests), grind (arith, nat_tests))

itself_nb : (c : ℕ) → scalar c ≡ true → short_name c ≡ None → is_by_two c ≡ false → is_by_four c ≡ false → is_nb_char c ≡ true
itself_nb c s n e f =
    ⊎_elim (λ (h : c < 55296). plain_char c (omega arith) (inl h) n e f)
    (λ (h : (57344 ≤ c) × (c < 1114112)). plain_char c h.1 (inr h.0) n e f) (scalar_cases c s)

long_nb : (c : ℕ) → scalar c ≡ true → short_name c ≡ None → AllNb (spelled_long c)
unfolding spelled_long
long_nb c s n =
    ⊎_elim (λ (e : is_by_two c ≡ true). rw e (visible_nb 92 (omega arith) (omega arith), (visible_nb 120 (omega arith) (omega arith), digits_nb c (by_two_below c e))))
    (λ (e : is_by_two c ≡ false).
    ⊎_elim (λ (f : is_by_four c ≡ true).
    let l = by_four_below c f in
    rw (e, f) (nb_append (92 ∷ 117 ∷ two_digits (c / 256)) (two_digits (c % 256))
    (visible_nb 92 (omega arith) (omega arith), (visible_nb 117 (omega arith) (omega arith), digits_nb (c / 256) (omega arith))) (digits_nb (c % 256) (omega arith))))
    (λ (f : is_by_four c ≡ false). rw (e, f) (itself_nb c s n e f, tt)) (cases_Bool (is_by_four c)))
    (cases_Bool (is_by_two c))

spelled_nb : (c : ℕ) → scalar c ≡ true → AllNb (spelled c)
unfolding spelled spelled_by
spelled_nb c s = go (short_name c) refl where
  go : (o : Option ℕ) → short_name c ≡ o → AllNb (spelled_by o c)
  go (Some l) e = let b = letter_bounds c l e in (visible_nb 92 (omega arith) (omega arith), (visible_nb l b.0 b.1, tt))
  go None e = long_nb c s e

-- each character is written with characters that may be on a line
all_spelled_by : (f : ℕ → List ℕ) → ((c : ℕ) → scalar c ≡ true → AllNb (f c)) → (cs : List ℕ) → scalars cs ≡ true → AllNb (flat_map f cs)
all_spelled_by f each [] e = tt
all_spelled_by f each (c ∷ cs) e =
    let parts = and_parts (scalar c) (scalars cs) e in
    nb_append (f c) (flat_map f cs) (each c parts.0) (all_spelled_by f each cs parts.1)

-- a text in quotes is within one line
in_quotes : (q : ℕ) (cs : List ℕ) → 32 ≤ q → q < 127 → AllNb cs → IsLineText (q ∷ (encode_utf8_all cs ++ q ∷ []))
in_quotes q cs l h a =
    let nb = visible_nb q l h in
    line_ascii q (omega arith) nb (line_append (record { chars = cs; bytes = refl; each = a }) (line_ascii q (omega arith) nb line_nothing))

pub single_line_text : (cs : List ℕ) → all_nb cs ≡ true → IsLineText (single_bytes cs)
single_line_text cs a = in_quotes 39 (flat_map twice cs) (omega arith) (omega arith) (all_twice cs a)

-- by its number
number_nb : (c : ℕ) → scalar c ≡ true → AllNb (by_number c)
number_nb c s =
    let slash = visible_nb 92 (omega arith) (omega arith) in
    let digits : (v : ℕ) (r : List ℕ) → v < 256 → AllNb r → AllNb (two_digits v ++ r) = λ v r l a. nb_append (two_digits v) r (digits_nb v l) a in
    ⊎_elim
    (λ (l : c < 0x10000). rw (few_digits c l)
    (slash, (visible_nb 117 (omega arith) (omega arith), digits (c / 256) (two_digits (c % 256)) (omega arith) (digits_nb (c % 256) (omega arith)))))
    (λ (l : 0x10000 ≤ c). let h : c < 0x110000 = scalar_below c s in rw (many_digits c l) (
      slash,
      (
        visible_nb 85 (omega arith) (omega arith),
        digits 0 _ (omega arith) (digits (c / 65536) _ (omega arith)
            (digits (c / 256 % 256) _ (omega arith) (digits_nb (c % 256) (omega arith)))),
      ),
    ))
    (cases_lt c 0x10000)

out_nb : (c : ℕ) → scalar c ≡ true → AllNb (spelled_out c)
out_nb c s =
    ⊎_elim (λ (e : is_spelled_out c ≡ true). rw (spelled_apart c e) (number_nb c s))
    (λ (e : is_spelled_out c ≡ false). rw (spelled_alike c e) (spelled_nb c s)) (cases_Bool (is_spelled_out c))

double_line_text_by : (f : ℕ → List ℕ) → ((c : ℕ) → scalar c ≡ true → AllNb (f c)) → (cs : List ℕ) → scalars cs ≡ true
    → IsLineText (34 ∷ encode_utf8_all (flat_map f cs) ++ 34 ∷ [])
double_line_text_by f each cs a = in_quotes 34 (flat_map f cs) (omega arith) (omega arith) (all_spelled_by f each cs a)

pub double_in_line : (i : Invisible) (cs : List ℕ) → scalars cs ≡ true → IsLineText (double_bytes_in i cs)
double_in_line Plain cs a = double_line_text_by spelled spelled_nb cs a
double_in_line Escaped cs a = double_line_text_by spelled_out out_nb cs a

pub double_line_text : (cs : List ℕ) → scalars cs ≡ true → IsLineText (double_bytes cs)
double_line_text = double_in_line Plain

-- at any offset, whatever follows
pub single_is_at : {t : List ℕ} (n : ℤ) (c : Ctx) (cs r : List ℕ) {q : ℕ} → IsUtf8 t → is_block c ≡ false → all_nb cs ≡ true → IsAt t q (single_bytes cs ++ r)
    → SingleQuoted t n c q (q + length (single_bytes cs)) cs
single_is_at {t} n c cs r {q} u b a s = (single_back cs a).derived t q r n c u s.bytes b

-- the pieces of a double-quoted scalar that hold no bad escape, and its characters
pub record Double (t : List ℕ) (n : ℤ) (c : Ctx) (q j : ℕ) (cs : List ℕ) : Type 0 where
  pub pieces : List Piece
  pub text : text_of pieces ≡ cs
  pub no_bad : bad_escapes pieces ≡ []
  pub derived : DoubleQuoted t n c q j pieces

pub double_there : {t : List ℕ} (n : ℤ) (c : Ctx) {bytes cs : List ℕ} (r : List ℕ) {q : ℕ} → DoubleBack bytes cs → IsUtf8 t → is_block c ≡ false → IsAt t q (bytes ++ r)
    → Double t n c q (q + length bytes) cs
double_there {t} n c r {q} back u b s =
    let got = back.chosen t q r n c u s.bytes b in
    record { pieces = got.0; text = got.1; no_bad = got.2; derived = got.3.derived }
