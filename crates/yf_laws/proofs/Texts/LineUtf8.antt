-- The bytes of a line's text are UTF-8.
use Rattle.std.proofs.Common.{◌≡◌, ℕ, ◌+◌, true, List, [], ◌∷◌, ◌++◌, length, refl, subst, arith}
use Rattle.std.specs.Char.{IsScalar}
use Rattle.std.specs.Str.{IsUtf8, chars}
use Rattle.std.proofs.lemmas.Bool.Decides.{nat_tests}
use Rattle.std.proofs.lemmas.Str.{IsUtf8-append, IsUtf8-between, IsUtf8-encode, IsUtf8-nil, encode_ascii}
use lib.Utf8.{encode, encodes}
use Rattle.yf_chars.specs.Class.{is_nb_char, is_printable, is_between, is_break_char}
use Rattle.yf_lines.proofs.RestLemmas.{Rest, rest_is_at, slice_back}
use Rattle.yf_lines.specs.LineText.{AllNb, IsLineText}

nb_scalar : (c : ℕ) → is_nb_char c ≡ true → IsScalar c
unfolding is_nb_char is_printable is_between is_break_char
nb_scalar c e = grind (arith, nat_tests)

chars_utf8 : (cs : List ℕ) → AllNb cs → IsUtf8 (encodes cs)
chars_utf8 [] a = IsUtf8-nil
chars_utf8 (c ∷ cs) a = IsUtf8-append (encode c) (encodes cs) (IsUtf8-encode c (nb_scalar c a.0)) (chars_utf8 cs a.1)

pub line_utf8 : {w : List ℕ} → IsLineText w → IsUtf8 w
line_utf8 a = subst (λ w. IsUtf8 w) a.bytes (chars_utf8 a.chars a.each)

feed_scalar : IsScalar 10
feed_scalar = refl

pub feed_utf8 : {z : List ℕ} → IsUtf8 z → IsUtf8 (10 ∷ z)
feed_utf8 {z} u =
    let same : encode 10 ≡ 10 ∷ [] = encode_ascii 10 (omega arith) in
    subst (λ w. IsUtf8 (w ++ z)) same (IsUtf8-append (encode 10) z (IsUtf8-encode 10 feed_scalar) u)

-- The bytes between two offsets.

pub space_chars : chars (32 ∷ []) ≡ 32 ∷ []
unfolding chars
space_chars = refl

pub written_utf8 : {t : List ℕ} {q : ℕ} (w r : List ℕ) → IsUtf8 t → Rest t q (w ++ r) → Rest t (q + length w) r → IsUtf8 w
written_utf8 {t} {q} w r u s e = subst (λ z. IsUtf8 z) (slice_back w r (rest_is_at s)) (IsUtf8-between t q (q + length w) u (omega arith) s.boundary e.boundary)
