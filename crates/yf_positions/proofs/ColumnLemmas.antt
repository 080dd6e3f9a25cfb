-- The units of a line, byte by byte.
use Rattle.std.proofs.Common.{◌≡◌, ℕ, zero, suc, ◌+◌, ◌-◌, ◌/◌, ◌%◌, ◌<◌, ◌≤◌, Bool, true, false, ◌||◌, ⊎_elim, List, [], ◌∷◌, ◌++◌, length, take, drop, get_or, sum_by, refl, ap, ◌∙◌, subst, arith, ltb, length-append}
use Rattle.std.proofs.lemmas.Bool.{both_ways, cases_Bool, cases_lt, lt-ltb, le-ltb, le-leb}
use Rattle.std.proofs.lemmas.List.{drop_more, drop_all, get_or_past}
use Rattle.std.proofs.lemmas.List.Sums.{sum_by-append, sum_by-cons, sum_by-take-drop}
use Rattle.std.proofs.lemmas.Str.{encode_ascii, length-encode, len_utf8_bounds}
use Rattle.std.specs.Char.{len_utf8}
use Rattle.std.specs.Str.{IsUtf8}
use lib.Utf8.{encode, encodes}
use Rattle.yf_positions.specs.declared.encoding.Encoding.{Encoding}
use Rattle.yf_positions.specs.declared.encoding.Encoding.TheVariants.{Utf8, Utf16, Utf32}
use Rattle.yf_positions.specs.Units.{byte_units, char_units, lead_units, is_break, continues}
use Rattle.yf_positions.specs.Offsets.{bytes_within, units_before, character_start}

-- `offset_in`: a byte more, and the three ends
pub within_more : (e : Encoding) (t : List ℕ) (at k : ℕ) → at < length t → is_break (get_or t at 0) ≡ false
    → byte_units e (get_or t at 0) ≤ k → bytes_within e (drop at t) k
    ≡ suc (bytes_within e (drop (at + 1) t) (k - byte_units e (get_or t at 0)))
within_more e t at k l b u = rw (drop_more t at 0 l, b, le-ltb k (byte_units e (get_or t at 0)) u) refl

pub within_break : (e : Encoding) (t : List ℕ) (at k : ℕ) → at < length t → is_break (get_or t at 0) ≡ true
    → bytes_within e (drop at t) k ≡ 0
within_break e t at k l b = rw (drop_more t at 0 l, b) refl

or_right_true : (x y : Bool) → y ≡ true → (x || y) ≡ true
or_right_true true y e = refl
or_right_true false y e = e

pub within_full : (e : Encoding) (t : List ℕ) (at k : ℕ) → at < length t → k < byte_units e (get_or t at 0)
    → bytes_within e (drop at t) k ≡ 0
within_full e t at k l u = rw (
  drop_more t at 0 l,
  or_right_true (is_break (get_or t at 0))
      (ltb k (byte_units e (get_or t at 0))) (lt-ltb k (byte_units e (get_or t at 0)) u),
) refl

pub within_end : (e : Encoding) (t : List ℕ) (at k : ℕ) → length t ≤ at → bytes_within e (drop at t) k ≡ 0
within_end e t at k l = rw (drop_all at t l) refl

pub ruleset within_steps = (within_more, within_break, within_full, within_end)

pub within_bound : (e : Encoding) (t : List ℕ) (k : ℕ) → bytes_within e t k ≤ length t
within_bound e [] k = omega arith
within_bound e (c ∷ t) k =
    let rest : bytes_within e t (k - byte_units e c) ≤ length t = within_bound e t (k - byte_units e c) in
    ⊎_elim (λ (f : (is_break c || ltb k (byte_units e c)) ≡ true). rw f (omega arith))
    (λ (f : (is_break c || ltb k (byte_units e c)) ≡ false). rw f (omega arith))
    (cases_Bool (is_break c || ltb k (byte_units e c)))

-- `column_at`
pub units_more : (e : Encoding) (t : List ℕ) (at end : ℕ) → at < end → at < length t
    → is_break (get_or t at 0) ≡ false → units_before e (drop at t) (end - at)
    ≡ byte_units e (get_or t at 0) + units_before e (drop (at + 1) t) (end - (at + 1))
units_more e t at end h l b = let n : end - at ≡ suc (end - (at + 1)) = omega arith in
    rw (n, drop_more t at 0 l, b) refl

pub units_break : (e : Encoding) (t : List ℕ) (at end : ℕ) → at < end → at < length t
    → is_break (get_or t at 0) ≡ true → units_before e (drop at t) (end - at) ≡ 0
units_break e t at end h l b = let n : end - at ≡ suc (end - (at + 1)) = omega arith in
    rw (n, drop_more t at 0 l, b) refl

units_none : (e : Encoding) (t : List ℕ) → units_before e t 0 ≡ 0
units_none e [] = refl
units_none e (c ∷ t) = refl

pub units_end : (e : Encoding) (t : List ℕ) (at end : ℕ) → end ≤ at → units_before e (drop at t) (end - at) ≡ 0
units_end e t at end h = let n : end - at ≡ 0 = omega arith in rw n (units_none e (drop at t))

pub ruleset column_steps = (units_more, units_break, units_end)

-- `character_start`
pub start_back : (t : List ℕ) (at : ℕ) → 0 < at → continues (get_or t at 0) ≡ true
    → character_start t at ≡ character_start t (at - 1)
start_back t zero p h = absurd (omega arith)
start_back t (suc at) p h = let n : suc at - 1 ≡ at = omega arith in rw (h, n) refl

pub start_here : (t : List ℕ) (at : ℕ) → continues (get_or t at 0) ≡ false → character_start t at ≡ at
start_here t zero h = refl
start_here t (suc at) h = rw h refl

pub start_end : (t : List ℕ) (at : ℕ) → length t ≤ at → character_start t at ≡ at
start_end t at l = start_here t at (let z : get_or t at 0 ≡ 0 = get_or_past t at 0 l in ap continues z)

pub ruleset start_steps = (start_back, start_here, start_end)

-- the units of a text are those of its characters
abbrev pub units_of : Encoding → List ℕ → ℕ
units_of e t = sum_by (byte_units e) t

pub units_most : (e : Encoding) (t : List ℕ) (i : ℕ) → units_before e t i ≤ units_of e t
units_most e [] i = omega arith
units_most e (c ∷ t) zero = omega arith
units_most e (c ∷ t) (suc i) =
    let rest : units_before e t i ≤ units_of e t = units_most e t i in
    let all : units_of e (c ∷ t) ≡ byte_units e c + units_of e t = sum_by-cons (byte_units e) c t in
    ⊎_elim (λ (f : is_break c ≡ true). rw f (omega arith))
    (λ (f : is_break c ≡ false). rw f (omega arith))
    (cases_Bool (is_break c))

ascii_units : (e : Encoding) (b : ℕ) → b < 128 → byte_units e b ≡ 1
ascii_units e b h = rw (lt-ltb b 128 h) refl

pub no_units : (e : Encoding) (b : ℕ) → 128 ≤ b → b < 192 → byte_units e b ≡ 0
no_units e b l h = rw (le-ltb b 128 l, lt-ltb b 192 h) refl

first_units : (e : Encoding) (b : ℕ) → 192 ≤ b → byte_units e b ≡ lead_units e b
first_units e b h = rw (le-ltb b 128 (omega arith), le-ltb b 192 h) refl

-- a character of two, three and four bytes, by its first byte
two_units : (e : Encoding) (b c : ℕ) → b < 224 → 128 ≤ c → c < 2048 → lead_units e b ≡ char_units e c
two_units Utf8 b c h l m = rw (lt-ltb b 224 h, le-ltb c 128 l, lt-ltb c 2048 m) refl
two_units Utf16 b c h l m = rw (lt-ltb b 240 (omega arith), lt-ltb c 65536 (omega arith)) refl
two_units Utf32 b c h l m = refl

three_units : (e : Encoding) (b c : ℕ) → 224 ≤ b → b < 240 → 2048 ≤ c → c < 65536 → lead_units e b ≡ char_units e c
three_units Utf8 b c g h l m = rw (
  le-ltb b 224 g,
  lt-ltb b 240 h,
  le-ltb c 128
      (omega arith),
  le-ltb c 2048 l,
  lt-ltb c 65536 m,
) refl
three_units Utf16 b c g h l m = rw (lt-ltb b 240 h, lt-ltb c 65536 m) refl
three_units Utf32 b c g h l m = refl

four_units : (e : Encoding) (b c : ℕ) → 240 ≤ b → 65536 ≤ c → lead_units e b ≡ char_units e c
four_units Utf8 b c g l = rw (
  le-ltb b 224 (omega arith),
  le-ltb b 240 g,
  le-ltb c 128 (omega arith),
  le-ltb c 2048
      (omega arith),
  le-ltb c 65536 l,
) refl
four_units Utf16 b c g l = rw (le-ltb b 240 g, le-ltb c 65536 l) refl
four_units Utf32 b c g l = refl

one_unit : (e : Encoding) (c : ℕ) → c < 128 → char_units e c ≡ 1
one_unit Utf8 c h = rw (lt-ltb c 128 h) refl
one_unit Utf16 c h = rw (lt-ltb c 65536 (omega arith)) refl
one_unit Utf32 c h = refl

encode_two : (c : ℕ) → 128 ≤ c → c < 2048 → encode c ≡ (192 + c / 64) ∷ (128 + c % 64) ∷ []
unfolding encode
encode_two c l h = rw (le-ltb c 128 l, lt-ltb c 2048 h) refl

encode_three : (c : ℕ) → 2048 ≤ c → c < 65536 → encode c ≡ (224 + c / 4096) ∷ (128 + c / 64 % 64) ∷ (128 + c % 64) ∷ []
unfolding encode
encode_three c l h = rw (le-ltb c 128 (omega arith), le-ltb c 2048 l, lt-ltb c 65536 h) refl

encode_four : (c : ℕ) → 65536 ≤ c → encode c ≡ (240 + c / 262144) ∷ (128 + c / 4096 % 64) ∷ (128 + c / 64 % 64) ∷
    (128 + c % 64) ∷ []
unfolding encode
encode_four c l = rw (le-ltb c 128 (omega arith), le-ltb c 2048 (omega arith), le-ltb c 65536 l) refl

-- a byte that continues a character
later_units : (e : Encoding) (n : ℕ) → byte_units e (128 + n % 64) ≡ 0
later_units e n = no_units e (128 + n % 64) (omega arith) (omega arith)

units_of_two : (e : Encoding) (a b : ℕ) → byte_units e b ≡ 0 → units_of e (a ∷ b ∷ []) ≡ byte_units e a
units_of_two e a b h = omega (arith, h)

units_of_three : (e : Encoding) (a b c : ℕ) → byte_units e b ≡ 0 → byte_units e c ≡ 0
    → units_of e (a ∷ b ∷ c ∷ []) ≡ byte_units e a
units_of_three e a b c h i = omega (arith, h, i)

units_of_four : (e : Encoding) (a b c d : ℕ) → byte_units e b ≡ 0 → byte_units e c ≡ 0 → byte_units e d ≡ 0
    → units_of e (a ∷ b ∷ c ∷ d ∷ []) ≡ byte_units e a
units_of_four e a b c d h i j = omega (arith, h, i, j)

below_1 : (e : Encoding) (c : ℕ) → c < 128 → units_of e (encode c) ≡ char_units e c
below_1 e c h = ap (units_of e) (encode_ascii c h) ∙ (omega (arith, ascii_units e c h, one_unit e c h))

below_2 : (e : Encoding) (c : ℕ) → 128 ≤ c → c < 2048 → units_of e (encode c) ≡ char_units e c
below_2 e c l h =
    ap (units_of e) (encode_two c l h)
    ∙ units_of_two e (192 + c / 64) (128 + c % 64) (later_units e c)
    ∙ first_units e (192 + c / 64) (omega arith)
    ∙ two_units e (192 + c / 64) c (omega arith) l h

below_3 : (e : Encoding) (c : ℕ) → 2048 ≤ c → c < 65536 → units_of e (encode c) ≡ char_units e c
below_3 e c l h =
    ap (units_of e) (encode_three c l h)
    ∙ units_of_three e (224 + c / 4096) (128 + c / 64 % 64) (128 + c % 64) (later_units e (c / 64)) (later_units e c)
    ∙ first_units e (224 + c / 4096) (omega arith)
    ∙ three_units e (224 + c / 4096) c (omega arith) (omega arith) l h

below_4 : (e : Encoding) (c : ℕ) → 65536 ≤ c → units_of e (encode c) ≡ char_units e c
below_4 e c l =
    ap (units_of e) (encode_four c l)
    ∙ units_of_four e (240 + c / 262144) (128 + c / 4096 % 64) (128 + c / 64 % 64) (128 + c % 64)
    (later_units e (c / 4096)) (later_units e (c / 64)) (later_units e c)
    ∙ first_units e (240 + c / 262144) (omega arith)
    ∙ four_units e (240 + c / 262144) c (omega arith) l

pub units_char : (e : Encoding) (c : ℕ) → units_of e (encode c) ≡ char_units e c
units_char e c =
    ⊎_elim (λ (h : c < 128). below_1 e c h)
    (λ (l : 128 ≤ c).
    ⊎_elim (λ (h : c < 2048). below_2 e c l h)
    (λ (m : 2048 ≤ c).
    ⊎_elim (λ (h : c < 65536). below_3 e c m h)
    (λ (n : 65536 ≤ c). below_4 e c n)
    (cases_lt c 65536))
    (cases_lt c 2048))
    (cases_lt c 128)

pub units_chars : (e : Encoding) (cs : List ℕ) → units_of e (encodes cs) ≡ sum_by (char_units e) cs
units_chars e [] = refl
units_chars e (c ∷ cs) =
    let here : units_of e (encode c) ≡ char_units e c = units_char e c in
    let rest : units_of e (encodes cs) ≡ sum_by (char_units e) cs = units_chars e cs in
    let all : sum_by (char_units e) (c ∷ cs) ≡ char_units e c + sum_by (char_units e) cs =
    sum_by-cons (char_units e) c cs in
    sum_by-append (byte_units e) (encode c) (encodes cs) ∙ (omega (arith, here, rest, all))

-- a character has at most as many units as bytes
few_units : (e : Encoding) (c : ℕ) → char_units e c ≤ len_utf8 c
few_units Utf8 c = omega arith
few_units Utf16 c =
    ⊎_elim (λ (h : c < 65536). let one : char_units Utf16 c ≡ 1 = rw (lt-ltb c 65536 h) refl in
    omega (arith, one, len_utf8_bounds c))
    (λ (l : 65536 ≤ c).
    let two : char_units Utf16 c ≡ 2 = rw (le-ltb c 65536 l) refl in
    let four : len_utf8 c ≡ 4 = rw (le-ltb c 128 (omega arith), le-ltb c 2048 (omega arith), le-ltb c 65536 l) refl in
    omega (arith, two, four))
    (cases_lt c 65536)
few_units Utf32 c = omega (arith, len_utf8_bounds c)

units_bytes : (e : Encoding) (cs : List ℕ) → sum_by (char_units e) cs ≤ length (encodes cs)
units_bytes e [] = omega arith
units_bytes e (c ∷ cs) =
    let here : char_units e c ≤ len_utf8 c = few_units e c in
    let size : length (encode c) ≡ len_utf8 c = length-encode c in
    let rest : sum_by (char_units e) cs ≤ length (encodes cs) = units_bytes e cs in
    let all : sum_by (char_units e) (c ∷ cs) ≡ char_units e c + sum_by (char_units e) cs =
    sum_by-cons (char_units e) c cs in
    let both : length (encode c ++ encodes cs) ≡ length (encode c) + length (encodes cs) =
    length-append (encode c) (encodes cs) in
    let most : sum_by (char_units e) (c ∷ cs) ≤ length (encode c ++ encodes cs) = omega arith in
    most

pub units_fit : (e : Encoding) (t : List ℕ) → IsUtf8 t → units_of e t ≤ length t
units_fit e t u = subst (λ z. units_of e z ≤ length z) u.1.1 (let same = units_chars e u.0 in
    let few = units_bytes e u.0 in omega (arith, same, few))

-- the units of a part of a line
pub units_column : (e : Encoding) (t : List ℕ) (start i : ℕ) → IsUtf8 t → start ≤ i → i ≤ length t
    → units_before e (drop start t) (i - start) ≤ length t
units_column e t start i u a b =
    let most : units_before e (drop start t) (i - start) ≤ units_of e (drop start t) =
    units_most e (drop start t) (i - start) in
    let part : units_of e (take start t) + units_of e (drop start t) ≡ units_of e t =
    sum_by-take-drop (byte_units e) t start in
    let fit : units_of e t ≤ length t = units_fit e t u in
    omega arith

lead_some : (e : Encoding) (b : ℕ) → 1 ≤ lead_units e b
lead_some Utf8 b =
    ⊎_elim (λ (h : b < 224). rw (lt-ltb b 224 h) (omega arith))
    (λ (l : 224 ≤ b).
    ⊎_elim (λ (h : b < 240). rw (le-ltb b 224 l, lt-ltb b 240 h) (omega arith))
    (λ (m : 240 ≤ b). rw (le-ltb b 224 l, le-ltb b 240 m) (omega arith))
    (cases_lt b 240))
    (cases_lt b 224)
lead_some Utf16 b =
    ⊎_elim (λ (h : b < 240). rw (lt-ltb b 240 h) (omega arith))
    (λ (l : 240 ≤ b). rw (le-ltb b 240 l) (omega arith))
    (cases_lt b 240)
lead_some Utf32 b = omega arith

-- tests of a first byte
pub some_units : (e : Encoding) (b : ℕ) → continues b ≡ false → 0 < byte_units e b
some_units e b h =
    ⊎_elim (λ (a : b < 128). omega (arith, ascii_units e b a))
    (λ (a : 128 ≤ b).
    ⊎_elim (λ (m : b < 192). absurd (let no : continues b ≡ true = rw (le-leb 128 b a, lt-ltb b 192 m) refl in
    both_ways (continues b) h no))
    (λ (m : 192 ≤ b). omega (arith, first_units e b m, lead_some e b))
    (cases_lt b 192))
    (cases_lt b 128)
