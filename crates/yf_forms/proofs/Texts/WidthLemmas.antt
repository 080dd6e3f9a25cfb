-- Widths: numbers of characters, cut at the greatest number.
use Rattle.std.proofs.Common.{◌≡◌, ℕ, zero, suc, ◌+◌, ◌<◌, ◌≤◌, ◌^◌, ◌/◌, ◌%◌, true, false, ◌==◌, List, [], ◌∷◌, ◌++◌, length, flat_map, encode_utf8_all, Option, Some, None, refl, sym, ap, ◌∙◌, arith, append-nil, ⊎_elim}
use Rattle.std.specs.Prelude.{min, nat_lt, is_some}
use Rattle.std.specs.Str.{chars, IsUtf8, IsAscii}
use Rattle.std.proofs.lemmas.Bool.{cases_Bool, cases_lt, and_parts, ne_eqb}
use Rattle.std.proofs.lemmas.Bool.Decides.{nat_tests}
use Rattle.std.proofs.lemmas.Grind.{flat_map-append}
use Rattle.std.proofs.lemmas.List.{length-append}
use Rattle.std.proofs.lemmas.Str.{chars-append, chars-encodes, encodes-chars, scalars-chars, IsUtf8-append, IsUtf8-from_ascii, IsUtf8-nil}
use lib.Utf8.{scalar, scalars, encodes, low_scalar}
use Rattle.yf_chars.specs.Hidden.{is_spelled_out, spelled_out}
use Rattle.yf_chars.proofs.HiddenLemmas.{spelled_alike, spelled_apart}
use Rattle.yf_chars.specs.Escape.{by_number, spelled, spelled_long, short_name, is_by_two, is_by_four, two_digits, upper_digit}
use Rattle.yf_chars.proofs.EscapeLemmas.{few_digits, many_digits, upper_below, by_two_below, by_four_below, spelled_two, spelled_four, spelled_self, spelled_letter, spelled_none}
use Rattle.yf_chars.proofs.TextLemmas.{scalar_below}
use Rattle.yf_lines.specs.declared.invisible.Invisible.{Invisible}
use Rattle.yf_lines.specs.declared.invisible.Invisible.TheVariants.{Plain, Escaped}
use Rattle.yf_quoted.specs.Written.{twice, single_bytes, double_bytes_in, spelled_in}
use Rattle.yf_forms.specs.NormalForms.Measures.{up_to_greatest, joined_width}
use Rattle.yf_forms.specs.Nodes.OneLine.{width, spaced}

-- saturating sums of cut numbers are the cut sum

cut_both_at : (g a b : ℕ) → min (min a g + min b g) g ≡ min (a + b) g
cut_both_at g a b = omega arith

cut_first_at : (g a b : ℕ) → min (min a g + b) g ≡ min (a + b) g
cut_first_at g a b = omega arith

cut_at_most : (g a : ℕ) → a ≤ g → min a g ≡ a
cut_at_most g a l = omega arith

pub cut_both : (a b : ℕ) → up_to_greatest (up_to_greatest a + up_to_greatest b) ≡ up_to_greatest (a + b)
cut_both a b = cut_both_at _ a b

pub cut_first : (a b : ℕ) → up_to_greatest (up_to_greatest a + b) ≡ up_to_greatest (a + b)
cut_first a b = cut_first_at _ a b

-- a number that a `usize` holds is not cut
pub not_cut : (a : ℕ) → a < 2 ^ 64 → up_to_greatest a ≡ a
not_cut a l = cut_at_most _ a (omega arith)

-- texts one after another

pub width_join : (x y : List ℕ) → IsUtf8 x → width (x ++ y) ≡ width x + width y
width_join x y u = ap length (chars-append x y u) ∙ length-append (chars x) (chars y)

pub chars_head : (b : ℕ) (y : List ℕ) → nat_lt b 128 ≡ true → chars (b ∷ y) ≡ b ∷ chars y
unfolding chars
chars_head b [] e = rw e refl
chars_head b (c ∷ y) e = rw e refl

pub width_head : (b : ℕ) (y : List ℕ) → nat_lt b 128 ≡ true → width (b ∷ y) ≡ suc (width y)
width_head b y e = ap length (chars_head b y e)

one_ascii : (b : ℕ) → b < 128 → IsAscii (b ∷ [])
one_ascii b l zero = l
one_ascii b l (suc i) = omega arith

below_by : (b : ℕ) → nat_lt b 128 ≡ true → b < 128
below_by b e = grind (arith, nat_tests)

pub utf8_head : (b : ℕ) (y : List ℕ) → nat_lt b 128 ≡ true → IsUtf8 y → IsUtf8 (b ∷ y)
utf8_head b y e u = IsUtf8-append (b ∷ []) y (IsUtf8-from_ascii (b ∷ []) (one_ascii b (below_by b e))) u

pub width_nil : width [] ≡ 0
unfolding chars
width_nil = refl

-- a text with bytes has characters
pub some_width : (b : ℕ) (x : List ℕ) → IsUtf8 (b ∷ x) → (n : ℕ) × (width (b ∷ x) ≡ suc n)
some_width b x u = go (chars (b ∷ x)) (encodes-chars (b ∷ x) u) where
  go : (cs : List ℕ) → encodes cs ≡ b ∷ x → (n : ℕ) × (length cs ≡ suc n)
  go [] e = absurd cc
  go (c ∷ cs) e = (length cs, refl)

not_zero_at : (g n : ℕ) → 0 < g → (min (suc n) g == 0) ≡ false
not_zero_at g n l = let h : 0 < min (suc n) g = omega arith in ne_eqb (min (suc n) g) 0 (λ e. omega (arith, e, h))

not_zero : (n : ℕ) → (up_to_greatest (suc n) == 0) ≡ false
not_zero n = not_zero_at _ n (omega arith)

space_at : (g n m : ℕ) → min (min (suc n) g + min (suc m) g + 1) g ≡ min (suc n + suc (suc m)) g
space_at g n m = omega arith

pub joined_some : (n m : ℕ) → joined_width (up_to_greatest (suc n)) (up_to_greatest (suc m)) ≡ up_to_greatest (suc n + suc (suc m))
joined_some n m = rw (not_zero n, not_zero m) (space_at _ n m)

joined_none : (n : ℕ) → joined_width (up_to_greatest (suc n)) 0 ≡ up_to_greatest (suc n)
joined_none n = rw (not_zero n) refl

pub utf8_spaced : (x y : List ℕ) → IsUtf8 x → IsUtf8 y → IsUtf8 (spaced x y)
utf8_spaced [] y u v = v
utf8_spaced (b ∷ x) [] u v = u
utf8_spaced (b ∷ x) (c ∷ y) u v = IsUtf8-append (b ∷ x) (32 ∷ c ∷ y) u (utf8_head 32 (c ∷ y) refl v)

pub joined_spaced : (x y : List ℕ) → IsUtf8 x → IsUtf8 y
    → joined_width (up_to_greatest (width x)) (up_to_greatest (width y)) ≡ up_to_greatest (width (spaced x y))
joined_spaced [] y u v = rw width_nil refl
joined_spaced (b ∷ x) [] u v = let s = some_width b x u in rw (s.1, width_nil) (joined_none s.0)
joined_spaced (b ∷ x) (c ∷ y) u v =
    let s = some_width b x u in
    let r = some_width c y v in
    let e : width (spaced (b ∷ x) (c ∷ y)) ≡ width (b ∷ x) + suc (width (c ∷ y)) =
    width_join (b ∷ x) (32 ∷ c ∷ y) u ∙ ap (λ n. width (b ∷ x) + n) (width_head 32 (c ∷ y) refl) in
    rw (e, s.1, r.1) (joined_some s.0 r.0)

-- texts in quotes

pub scalars_join : (xs ys : List ℕ) → scalars xs ≡ true → scalars ys ≡ true → scalars (xs ++ ys) ≡ true
scalars_join [] ys a b = b
scalars_join (x ∷ xs) ys a b = let p = and_parts (scalar x) (scalars xs) a in rw (p.0, scalars_join xs ys p.1 b) refl

pub scalars_all : (f : ℕ → List ℕ) → ((c : ℕ) → scalar c ≡ true → scalars (f c) ≡ true) → (cs : List ℕ) → scalars cs ≡ true
    → scalars (flat_map f cs) ≡ true
scalars_all f each [] a = refl
scalars_all f each (c ∷ cs) a =
    let p = and_parts (scalar c) (scalars cs) a in scalars_join (f c) (flat_map f cs) (each c p.0) (scalars_all f each cs p.1)

twice_scalars : (c : ℕ) → scalar c ≡ true → scalars (twice c) ≡ true
twice_scalars c s =
    ⊎_elim (λ (e : (c == 39) ≡ true). rw e refl) (λ (e : (c == 39) ≡ false). rw (e, s) refl) (cases_Bool (c == 39))

low : (c : ℕ) → c < 128 → scalar c ≡ true
low c l = low_scalar c (omega arith)

digits_scalars : (v : ℕ) → v < 256 → scalars (two_digits v) ≡ true
unfolding two_digits
digits_scalars v l =
    rw (low (upper_digit (v / 16)) (upper_below (v / 16) (omega arith)), low (upper_digit (v % 16)) (upper_below (v % 16) (omega arith))) refl

long_scalars : (c : ℕ) → scalar c ≡ true → scalars (spelled_long c) ≡ true
long_scalars c s =
    ⊎_elim (λ (e : is_by_two c ≡ true). rw (spelled_two c e) (digits_scalars c (by_two_below c e)))
    (λ (e : is_by_two c ≡ false).
    ⊎_elim (λ (f : is_by_four c ≡ true). rw (spelled_four c e f) (let l : c < 65536 = by_four_below c f in
    scalars_join (two_digits (c / 256)) (two_digits (c % 256)) (digits_scalars (c / 256) (omega arith)) (digits_scalars (c % 256) (omega arith))))
    (λ (f : is_by_four c ≡ false). rw (spelled_self c e f) (rw s refl)) (cases_Bool (is_by_four c))) (cases_Bool (is_by_two c))

pub letter_low : (c l : ℕ) → short_name c ≡ Some l → l < 128
unfolding short_name
letter_low c l e = grind (arith, nat_tests)

spelled_scalars : (c : ℕ) → scalar c ≡ true → scalars (spelled c) ≡ true
spelled_scalars c s = go (short_name c) refl where
  go : (o : Option ℕ) → short_name c ≡ o → scalars (spelled c) ≡ true
  go (Some l) e = rw (spelled_letter c l e, low l (letter_low c l e)) refl
  go None e = rw (spelled_none c e) (long_scalars c s)

quoted_width : (q : ℕ) (f : ℕ → List ℕ) → nat_lt q 128 ≡ true → ((c : ℕ) → scalar c ≡ true → scalars (f c) ≡ true) → (cs : List ℕ)
    → scalars cs ≡ true → width (q ∷ encode_utf8_all (flat_map f cs) ++ q ∷ []) ≡ 2 + length (flat_map f cs)
quoted_width q f l each cs s =
    let t = scalars_all f each cs s in
    let u : IsUtf8 (encode_utf8_all (flat_map f cs)) = (flat_map f cs, (t, refl)) in
    let e : width (encode_utf8_all (flat_map f cs) ++ q ∷ []) ≡ length (flat_map f cs) + 1 =
    width_join _ (q ∷ []) u ∙ ap (λ xs. length xs + width (q ∷ [])) (chars-encodes (flat_map f cs) t) ∙ ap (λ n. length (flat_map f cs) + n) (width_head q [] l ∙ ap suc width_nil) in
    let h : width (q ∷ encode_utf8_all (flat_map f cs) ++ q ∷ []) ≡ suc (width (encode_utf8_all (flat_map f cs) ++ q ∷ [])) = width_head q _ l in
    omega arith

quoted_utf8 : (q : ℕ) (f : ℕ → List ℕ) → nat_lt q 128 ≡ true → ((c : ℕ) → scalar c ≡ true → scalars (f c) ≡ true) → (cs : List ℕ)
    → scalars cs ≡ true → IsUtf8 (q ∷ encode_utf8_all (flat_map f cs) ++ q ∷ [])
quoted_utf8 q f l each cs s =
    utf8_head q _ l (IsUtf8-append _ (q ∷ []) (flat_map f cs, (scalars_all f each cs s, refl)) (utf8_head q [] l IsUtf8-nil))

pub single_width : (text : List ℕ) → IsUtf8 text → width (single_bytes (chars text)) ≡ 2 + length (flat_map twice (chars text))
single_width text u = quoted_width 39 twice refl twice_scalars (chars text) (scalars-chars text u)

number_scalars : (c : ℕ) → scalar c ≡ true → scalars (by_number c) ≡ true
number_scalars c s =
    ⊎_elim (λ (l : c < 0x10000). rw (few_digits c l)
    (scalars_join (two_digits (c / 256)) (two_digits (c % 256)) (digits_scalars (c / 256) (omega arith)) (digits_scalars (c % 256) (omega arith))))
    (λ (l : 0x10000 ≤ c). let h : c < 0x110000 = scalar_below c s in rw (many_digits c l)
    (scalars_join (two_digits 0) _ (digits_scalars 0 (omega arith)) (scalars_join (two_digits (c / 65536)) _ (digits_scalars (c / 65536) (omega arith))
    (scalars_join (two_digits (c / 256 % 256)) _ (digits_scalars (c / 256 % 256) (omega arith)) (digits_scalars (c % 256) (omega arith))))))
    (cases_lt c 0x10000)

spelled_in_scalars : (i : Invisible) (c : ℕ) → scalar c ≡ true → scalars (spelled_in i c) ≡ true
spelled_in_scalars Plain c s = spelled_scalars c s
spelled_in_scalars Escaped c s =
    ⊎_elim (λ (e : is_spelled_out c ≡ true). rw (spelled_apart c e) (number_scalars c s))
    (λ (e : is_spelled_out c ≡ false). rw (spelled_alike c e) (spelled_scalars c s)) (cases_Bool (is_spelled_out c))

pub double_width : (i : Invisible) (text : List ℕ) → IsUtf8 text → width (double_bytes_in i (chars text)) ≡ 2 + length (flat_map (spelled_in i) (chars text))
double_width i text u = quoted_width 34 (spelled_in i) refl (spelled_in_scalars i) (chars text) (scalars-chars text u)

pub single_utf8 : (text : List ℕ) → IsUtf8 text → IsUtf8 (single_bytes (chars text))
single_utf8 text u = quoted_utf8 39 twice refl twice_scalars (chars text) (scalars-chars text u)

pub double_utf8 : (i : Invisible) (text : List ℕ) → IsUtf8 text → IsUtf8 (double_bytes_in i (chars text))
double_utf8 i text u = quoted_utf8 34 (spelled_in i) refl (spelled_in_scalars i) (chars text) (scalars-chars text u)

-- the loops that count them

more_at : (g a n w m : ℕ) → w ≡ min (a + n) g → min (w + m) g ≡ min (a + (n + m)) g
more_at g a n w m e = omega arith

pub one_counted : (f : ℕ → List ℕ) (cs : List ℕ) (c w v : ℕ) → w ≡ up_to_greatest (2 + length (flat_map f cs)) → v ≡ up_to_greatest (w + length (f c))
    → v ≡ up_to_greatest (2 + length (flat_map f (cs ++ c ∷ [])))
one_counted f cs c w v e g =
    let last : flat_map f (c ∷ []) ≡ f c = append-nil (f c) in
    let both : length (flat_map f (cs ++ c ∷ [])) ≡ length (flat_map f cs) + length (f c) =
    ap length (flat_map-append f cs (c ∷ [])) ∙ length-append (flat_map f cs) (flat_map f (c ∷ [])) ∙ ap (λ xs. length (flat_map f cs) + length xs) last in
    g ∙ more_at _ 2 (length (flat_map f cs)) w (length (f c)) e ∙ ap (λ n. up_to_greatest (2 + n)) (sym both)

-- the length of a spelling

pub by_letter : (c : ℕ) → is_some (short_name c) ≡ true → length (spelled c) ≡ 2
by_letter c e = go (short_name c) refl e where
  go : (o : Option ℕ) → short_name c ≡ o → is_some o ≡ true → length (spelled c) ≡ 2
  go (Some l) n e = ap length (spelled_letter c l n)
  go None n e = absurd cc

pub not_by_letter : (c : ℕ) → is_some (short_name c) ≡ false → spelled c ≡ spelled_long c
not_by_letter c e = go (short_name c) refl e where
  go : (o : Option ℕ) → short_name c ≡ o → is_some o ≡ false → spelled c ≡ spelled_long c
  go (Some l) n e = absurd cc
  go None n e = spelled_none c n

pub by_two : (c : ℕ) → is_some (short_name c) ≡ false → is_by_two c ≡ true → length (spelled c) ≡ 4
unfolding two_digits
by_two c n e = ap length (not_by_letter c n ∙ spelled_two c e)

pub by_four : (c : ℕ) → is_some (short_name c) ≡ false → is_by_two c ≡ false → is_by_four c ≡ true → length (spelled c) ≡ 6
unfolding two_digits
by_four c n e f = ap length (not_by_letter c n ∙ spelled_four c e f)

pub by_itself : (c : ℕ) → is_some (short_name c) ≡ false → is_by_two c ≡ false → is_by_four c ≡ false → length (spelled c) ≡ 1
by_itself c n e f = ap length (not_by_letter c n ∙ spelled_self c e f)

-- with hidden characters escaped
pub by_few : (c : ℕ) → is_spelled_out c ≡ true → c < 0x10000 → length (spelled_out c) ≡ 6
unfolding two_digits
by_few c e l = ap length (spelled_apart c e ∙ few_digits c l)

pub by_many : (c : ℕ) → is_spelled_out c ≡ true → 0x10000 ≤ c → length (spelled_out c) ≡ 10
unfolding two_digits
by_many c e l = ap length (spelled_apart c e ∙ many_digits c l)

pub not_out : (c : ℕ) → is_spelled_out c ≡ false → length (spelled_out c) ≡ length (spelled c)
not_out c e = ap length (spelled_alike c e)
