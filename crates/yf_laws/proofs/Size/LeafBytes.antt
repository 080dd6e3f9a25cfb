-- The length of a scalar in the house style, bounded by the bytes that it is counted with.
use Rattle.std.proofs.Common.{◌≡◌, ℕ, zero, suc, ◌+◌, ◌-◌, ◌*◌, ◌<◌, ◌≤◌, Bool, true, false, ⊎_elim, List, [], ◌∷◌, ◌++◌, length, map, replicate, Option, Some, None, refl, sym, ap, ◌∙◌, arith, length-append, encode_utf8_all, flat_map, true≢false}
use Rattle.std.specs.Prelude.{◌==◌, ◌/◌, ◌%◌, if◌then◌else◌, max}
use Rattle.std.specs.List.{list_all}
use Rattle.std.proofs.Math.Nat.{add-mul, le-max_left, le-max_right, mul-add, mul-le-mul_right, suc-mul}
use Rattle.std.proofs.lemmas.Bool.{and_parts, cases_Bool, cases_lt}
use Rattle.std.proofs.lemmas.Bool.Decides.{nat_tests}
use Rattle.std.proofs.lemmas.List.{length-replicate}
use Rattle.std.proofs.lemmas.Str.{encodes-chars, len_utf8_bounds, length-encode, scalars-chars}
use Rattle.std.specs.Char.{len_utf8}
use Rattle.std.specs.Str.{IsUtf8, chars}
use lib.Utf8.{encode, scalar, scalars}
use Rattle.yf_chars.specs.Hidden.{is_spelled_out, spelled_out}
use Rattle.yf_chars.specs.Escape.{by_number, is_by_four, is_by_two, short_name, spelled, spelled_long, two_digits}
use Rattle.yf_chars.proofs.HiddenLemmas.{low_itself, spelled_alike, spelled_apart}
use Rattle.yf_chars.proofs.EscapeLemmas.{few_spelled, four_spelled, letter_spelled, many_spelled, self_spelled, spelled_none, two_spelled}
use Rattle.yf_chars.proofs.TextLemmas.{scalar_below}
use Rattle.yf_lines.specs.Steady.{is_steady}
use Rattle.yf_lines.specs.declared.invisible.Invisible.{Invisible}
use Rattle.yf_lines.specs.declared.quotes.Quotes.{Quotes}
use Rattle.yf_lines.proofs.CoreSteady.{nothing_steady}
use Rattle.yf_block_scalar.specs.Content.{literal, literal_after}
use Rattle.yf_quoted.specs.Written.{quotes_in, spelled_in, twice}
use Rattle.yf_props.specs.Props.{PropsValue}
use Rattle.yf_events.specs.declared.event.ScalarStyle.{ScalarStyle}
use Rattle.yf_events.specs.declared.event.ScalarStyle.TheVariants.{Plain, Single, Double, Literal, Folded}
use Rattle.yf_forms.specs.declared.style.Style.{Style}
use Rattle.yf_laws.specs.Layouts.ReadableTrees.{is_block_style}
use Rattle.yf_forms.specs.Nodes.BlockLines.{block_lines, chomping_sign, cut_at_feeds, digit_text, begins_with_space, final_feeds, header_text, into_first, is_feed, line_at, style_sign, without_final_feeds}
use Rattle.yf_forms.specs.Nodes.OneLine.{anchor_text, props_text, scalar_text, spaced, tag_text}
use Rattle.yf_forms.specs.Nodes.ScalarStyles.{has_block_content, lines_in, quoted_in, style_in, wanted}
use Rattle.yf_laws.proofs.Size.TextBytes.{bytes_append, bytes_more}
use Rattle.yf_laws.proofs.Size.Weights.{half_low, props_weight, text_weight}
use Rattle.yf_forms.proofs.Texts.WidthLemmas.{letter_low}

-- A text on one line: nothing, or one with room for the end of its line and a blank line before it, at eight bytes for
-- each of n.
pub data Short (n : ℕ) : List ℕ → Type 0 where
  nothing_short : Short n []
  some_short : {w : List ℕ} → 1 ≤ n → length w + 2 ≤ 8 * n → Short n w

pub short_more : {n m : ℕ} {w : List ℕ} → Short n w → n ≤ m → Short m w
short_more nothing_short l = nothing_short
short_more (some_short a b) l = some_short (omega (arith, a, l)) (omega (arith, b, l))

-- properties

spaced_most : (x y : List ℕ) → length (spaced x y) ≤ suc (length x + length y)
spaced_most [] y = omega arith
spaced_most (b ∷ x) [] = omega arith
spaced_most (b ∷ x) (c ∷ y) = omega (arith, length-append (b ∷ x) (32 ∷ c ∷ y))

both_some : (x y : List ℕ) → length (spaced x y) ≤ (length x + length y) + (length x + length y)
both_some [] y = omega arith
both_some (b ∷ x) [] = omega arith
both_some (b ∷ x) (c ∷ y) = omega (arith, length-append (b ∷ x) (32 ∷ c ∷ y))

pub props_most : (p : PropsValue) → length (props_text p) ≤ props_weight p + props_weight p
props_most p = both_some (anchor_text p.anchor) (tag_text p.tag)

pub short_spaced : (p m n : ℕ) (x y : List ℕ) → length x ≤ p + p → Short m y → p + m ≤ n → Short n (spaced x y)
short_spaced p m n [] y l a k = short_more a (omega (arith, k))
short_spaced p m n (b ∷ x) [] l a k = some_short (omega (arith, l, k)) (omega (arith, l, k))
short_spaced p m n (b ∷ x) (c ∷ y) l (some_short d e) k = some_short (omega (arith, d, k)) (omega (arith, l, e, k, length-append (b ∷ x) (32 ∷ c ∷ y)))

-- quotes

bytes_one : (c : ℕ) → length (encode_utf8_all (c ∷ [])) ≡ len_utf8 c
bytes_one c = let l = length-append (encode c) [] in omega (arith, l, length-encode c)

four_wide : (c : ℕ) → is_by_four c ≡ true → 2 ≤ len_utf8 c
unfolding is_by_four
four_wide c e = grind (arith, nat_tests)

two_long : (v : ℕ) → length (two_digits v) ≡ 2
unfolding two_digits
two_long v = refl

spelled_most : (c : ℕ) → length (encode_utf8_all (spelled c)) ≤ 4 * len_utf8 c
spelled_most c = by (short_name c) refl where
  low : 1 ≤ len_utf8 c
  low = (len_utf8_bounds c).0

  long : short_name c ≡ None → length (encode_utf8_all (spelled c)) ≡ length (encode_utf8_all (spelled_long c))
  long e = ap (λ z. length (encode_utf8_all z)) (spelled_none c e)

  by : (o : Option ℕ) → short_name c ≡ o → length (encode_utf8_all (spelled c)) ≤ 4 * len_utf8 c
  by (Some l) e = let same = ap length (letter_spelled c l e (letter_low c l e)) in omega (arith, same, low)
  by None e =
      ⊎_elim (λ (t : is_by_two c ≡ true). let same = ap length (two_spelled c t) in omega (arith, same, long e, low, two_long c))
      (λ (t : is_by_two c ≡ false).
      ⊎_elim (λ (f : is_by_four c ≡ true). let same = ap length (four_spelled c t f) in
      omega (arith, same, long e, four_wide c f, two_long (c / 256), two_long (c % 256), length-append (92 ∷ 117 ∷ two_digits (c / 256)) (two_digits (c % 256))))
      (λ (f : is_by_four c ≡ false). let same = ap length (self_spelled c t f) in omega (arith, same, long e, length-encode c))
      (cases_Bool (is_by_four c)))
      (cases_Bool (is_by_two c))

-- a hidden character as a number: six bytes, for at least two in UTF-8; or ten, for at least four
beyond_ascii : (c : ℕ) → 160 < c → 2 ≤ len_utf8 c
beyond_ascii c l = grind (arith, nat_tests)

beyond_few : (c : ℕ) → 0x10000 ≤ c → 4 ≤ len_utf8 c
beyond_few c l = grind (arith, nat_tests)

number_most : (c : ℕ) → scalar c ≡ true → 160 < c → length (encode_utf8_all (by_number c)) ≤ 4 * len_utf8 c
number_most c s k =
    ⊎_elim (λ (l : c < 0x10000). let same = ap length (few_spelled c l) in
    omega (arith, same, beyond_ascii c k, two_long (c / 256), two_long (c % 256), length-append (92 ∷ 117 ∷ two_digits (c / 256)) (two_digits (c % 256))))
    (λ (l : 0x10000 ≤ c). let same = ap length (many_spelled c l (scalar_below c s)) in
    omega (
      arith,
      same,
      beyond_few c l,
      two_long 0,
      two_long (c / 65536),
      two_long (c / 256 % 256),
      two_long (c % 256),
      length-append (92 ∷ 85 ∷ two_digits 0) (two_digits (c / 65536) ++ (two_digits (c / 256 % 256) ++ two_digits (c % 256))),
      length-append (two_digits (c / 65536)) (two_digits (c / 256 % 256) ++ two_digits (c % 256)),
      length-append (two_digits (c / 256 % 256)) (two_digits (c % 256)),
    ))
    (cases_lt c 0x10000)

spelled_out_most : (c : ℕ) → scalar c ≡ true → length (encode_utf8_all (spelled_out c)) ≤ 4 * len_utf8 c
spelled_out_most c s =
    ⊎_elim (λ (e : is_spelled_out c ≡ true). let same = ap (λ z. length (encode_utf8_all z)) (spelled_apart c e) in
    let most = number_most c s (above e) in omega (arith, same, most))
    (λ (e : is_spelled_out c ≡ false). let same = ap (λ z. length (encode_utf8_all z)) (spelled_alike c e) in omega (arith, same, spelled_most c))
    (cases_Bool (is_spelled_out c)) where
      above : is_spelled_out c ≡ true → 160 < c
      above e = ⊎_elim (λ (l : 160 < c). l) (λ (l : c ≤ 160). absurd (true≢false (sym e ∙ low_itself c l))) (cases_lt 160 c)

spelled_in_most : (i : Invisible) (c : ℕ) → scalar c ≡ true → length (encode_utf8_all (spelled_in i c)) ≤ 4 * len_utf8 c
spelled_in_most Invisible.Plain c s = spelled_most c
spelled_in_most Invisible.Escaped c s = spelled_out_most c s

all_spelled : (i : Invisible) (cs : List ℕ) → scalars cs ≡ true → length (encode_utf8_all (flat_map (spelled_in i) cs)) ≤ 4 * length (encode_utf8_all cs)
all_spelled i [] e = omega arith
all_spelled i (c ∷ cs) e =
    let parts = and_parts (scalar c) (scalars cs) e in
    let one = spelled_in_most i c parts.0 in
    let l = all_spelled i cs parts.1 in
    omega (arith, one, l, bytes_append (spelled_in i c) (flat_map (spelled_in i) cs), bytes_more c cs)

quotes_two : length (encode_utf8_all (39 ∷ 39 ∷ [])) ≡ 2
unfolding encode
quotes_two = refl

twice_most : (c : ℕ) → length (encode_utf8_all (twice c)) ≤ 4 * len_utf8 c
twice_most c = by (c == 39) where
  low : 1 ≤ len_utf8 c
  low = (len_utf8_bounds c).0

  by : (b : Bool) → length (encode_utf8_all (if b then 39 ∷ 39 ∷ [] else c ∷ [])) ≤ 4 * len_utf8 c
  by true = omega (arith, low, quotes_two)
  by false = omega (arith, bytes_one c)

all_twice : (cs : List ℕ) → length (encode_utf8_all (flat_map twice cs)) ≤ 4 * length (encode_utf8_all cs)
all_twice [] = omega arith
all_twice (c ∷ cs) = let l = all_twice cs in omega (arith, l, twice_most c, bytes_append (twice c) (flat_map twice cs), bytes_more c cs)

quoted_most : (house : Style) (q : Quotes) (text : List ℕ) → IsUtf8 text → length (scalar_text house (style_in q) text) ≤ 4 * length text + 2
quoted_most house Quotes.Single text u =
    let l = all_twice (chars text) in let same = ap length (encodes-chars text u) in omega (arith, l, same, length-append (39 ∷ encode_utf8_all (flat_map twice (chars text))) (39 ∷ []))
quoted_most house Quotes.Double text u =
    let l = all_spelled house.invisible (chars text) (scalars-chars text u) in
    let same = ap length (encodes-chars text u) in
    omega (arith, l, same, length-append (34 ∷ encode_utf8_all (flat_map (spelled_in house.invisible) (chars text))) (34 ∷ []))

-- Block scalars.

abbrev pub body_size : List (List ℕ) → ℕ
body_size [] = 0
body_size (l ∷ ls) = suc (length l) + body_size ls

abbrev chars_in : List (List ℕ) → ℕ
chars_in [] = 0
chars_in (l ∷ ls) = length l + chars_in ls

at_append : (column : ℕ) (xs ys : List (List ℕ)) → body_size (map (line_at column) (xs ++ ys)) ≡ body_size (map (line_at column) xs) + body_size (map (line_at column) ys)
at_append column [] ys = omega arith
at_append column (x ∷ xs) ys = let l = at_append column xs ys in omega (arith, l)

empty_lines : (column n : ℕ) → body_size (map (line_at column) (replicate n [])) ≡ n
empty_lines column zero = refl
empty_lines column (suc n) = let l = empty_lines column n in omega (arith, l)

one_at : (w column : ℕ) (x : List ℕ) → column ≤ w → length (line_at column x) ≤ length x * w + length x
one_at w column [] l = omega arith
one_at w column (b ∷ x) l = let m = suc-mul (length x) w in omega (arith, l, m, length-append (replicate column 32) (b ∷ x), length-replicate {A = ℕ} column 32)

-- lines at a column of at most w: w for each character, and the end of each line
lines_at : (w column : ℕ) (ls : List (List ℕ)) → column ≤ w → body_size (map (line_at column) ls) ≤ chars_in ls * w + length (literal_after ls)
lines_at w column [] l = omega arith
lines_at w column (x ∷ ls) l =
    let one = one_at w column x l in let more = lines_at w column ls l in omega (arith, one, more, add-mul (length x) (chars_in ls) w, length-append x (literal_after ls))

joined_after : (ls : List (List ℕ)) → length (literal_after ls) ≤ suc (length (literal ls))
joined_after [] = omega arith
joined_after (x ∷ ls) = omega arith

chars_after : (ls : List (List ℕ)) → chars_in ls ≤ length (literal_after ls)
chars_after [] = omega arith
chars_after (x ∷ ls) = let l = chars_after ls in omega (arith, l, length-append x (literal_after ls))

chars_joined : (ls : List (List ℕ)) → chars_in ls ≤ length (literal ls)
chars_joined [] = omega arith
chars_joined (x ∷ ls) = let l = chars_after ls in omega (arith, l, length-append x (literal_after ls))

cut_joined : (bs : List ℕ) → length (literal_after (cut_at_feeds bs)) ≤ suc (length bs)
cut_joined [] = omega arith
cut_joined (b ∷ bs) = by (b == 10) (cut_joined bs) where
  into : (ls : List (List ℕ)) → length (literal_after ls) ≤ suc (length bs) → length (literal_after (into_first b ls)) ≤ suc (suc (length bs))
  into [] l = omega arith
  into (x ∷ ls) l = omega (arith, l, length-append x (literal_after ls), length-append (b ∷ x) (literal_after ls))

  by : (c : Bool) → length (literal_after (cut_at_feeds bs)) ≤ suc (length bs) → length (literal_after (if c then [] ∷ cut_at_feeds bs else into_first b (cut_at_feeds bs))) ≤ suc (suc (length bs))
  by true l = omega (arith, l)
  by false l = into (cut_at_feeds bs) l

cut_chars : (bs : List ℕ) → chars_in (cut_at_feeds bs) ≤ length bs
cut_chars [] = omega arith
cut_chars (b ∷ bs) = by (b == 10) (cut_chars bs) where
  into : (ls : List (List ℕ)) → chars_in ls ≤ length bs → chars_in (into_first b ls) ≤ suc (length bs)
  into [] l = omega arith
  into (x ∷ ls) l = omega (arith, l)

  by : (c : Bool) → chars_in (cut_at_feeds bs) ≤ length bs → chars_in (if c then [] ∷ cut_at_feeds bs else into_first b (cut_at_feeds bs)) ≤ suc (length bs)
  by true l = omega (arith, l)
  by false l = into (cut_at_feeds bs) l

feeds_off : (text : List ℕ) → length (without_final_feeds text) ≤ length text
feeds_off [] = omega arith
feeds_off (b ∷ bs) = by (list_all is_feed (b ∷ bs)) (feeds_off bs) where
  by : (c : Bool) → length (without_final_feeds bs) ≤ length bs → length (if c then [] else b ∷ without_final_feeds bs) ≤ suc (length bs)
  by true l = omega arith
  by false l = omega (arith, l)

sign_one : (style : ScalarStyle) → length (style_sign style) ≡ 1
sign_one Plain = refl
sign_one Single = refl
sign_one Double = refl
sign_one Literal = refl
sign_one Folded = refl

digit_most : (indent : ℕ) (text : List ℕ) → length (digit_text indent text) ≤ 1
digit_most indent text = by (begins_with_space text) where
  by : (b : Bool) → length (if b then (48 + indent) ∷ [] else []) ≤ 1
  by true = omega arith
  by false = omega arith

chomp_most : (n : ℕ) → length (chomping_sign n) ≤ 1
chomp_most zero = omega arith
chomp_most (suc zero) = omega arith
chomp_most (suc (suc n)) = omega arith

header_most : (style : ScalarStyle) (indent : ℕ) (text : List ℕ) → length (header_text style indent text) ≤ 3
header_most style indent text =
    let a = digit_most indent text in
    let b = chomp_most (final_feeds text) in
    omega (arith, a, b, sign_one style, length-append (style_sign style) (digit_text indent text ++ chomping_sign (final_feeds text)), length-append (digit_text indent text) (chomping_sign (final_feeds text)))

-- its lines, with at most those numbers of characters and of line feeds at its end
block_most : (w column : ℕ) (ls : List (List ℕ)) (tail n : ℕ) → column ≤ w → chars_in ls ≤ n → length (literal_after ls) ≤ suc n → tail ≤ n
    → body_size (map (line_at column) (ls ++ replicate tail [])) ≤ n * w + (n + n + 1)
block_most w column ls tail n l a b d =
    let one = lines_at w column ls l in
    let two = mul-le-mul_right w a in
    omega (arith, one, two, a, b, d, at_append column ls (replicate tail []), empty_lines column tail)

-- The length of a scalar: on one line, or with its lines at a column of at most w, bounded by n · (w + 8).
pub record LeafCost (house : Style) (n : ℕ) (props : PropsValue) (style : ScalarStyle) (text : List ℕ) (lines : List (List ℕ)) : Type 0 where
  pub short : Short n (spaced (props_text props) (scalar_text house style text))
  pub block : is_block_style style ≡ true → (w column : ℕ) → column ≤ w
      → w + (length (spaced (props_text props) (header_text style house.indent text)) + (2 + body_size (block_lines style column text lines))) ≤ n * (w + 8)

lines_cost : (indent : ℕ) (props : PropsValue) (style : ScalarStyle) (text : List ℕ) (ls : List (List ℕ)) (tail n w column : ℕ) → column ≤ w → chars_in ls ≤ n → length (literal_after ls) ≤ suc n → tail ≤ n
    → w + (length (spaced (props_text props) (header_text style indent text)) + (2 + body_size (map (line_at column) (ls ++ replicate tail [])))) ≤ (props_weight props + suc n) * (w + 8)
lines_cost indent props style text ls tail n w column l a b d =
    let p : ℕ = props_weight props in
    let body = block_most w column ls tail n l a b d in
    let head = spaced_most (props_text props) (header_text style indent text) in
    let props_two = props_most props in
    let header = header_most style indent text in
    let all : (p + suc n) * (w + 8) ≡ p * (w + 8) + suc n * (w + 8) = add-mul p (suc n) (w + 8) in
    let next = suc-mul n (w + 8) in
    let wide : n * (w + 8) ≡ n * w + n * 8 = mul-add n w 8 in
    let eight : p * (w + 8) ≡ p * w + p * 8 = mul-add p w 8 in
    omega (arith, body, head, props_two, header, all, next, wide, eight)

-- Scalars in the house style.

quoted_off : (q : Quotes) → is_block_style (style_in q) ≡ false
quoted_off Quotes.Single = refl
quoted_off Quotes.Double = refl

some_text : (text : List ℕ) → is_steady text ≡ false → 1 ≤ length text
some_text [] e = absurd (true≢false (sym nothing_steady ∙ e))
some_text (b ∷ bs) e = omega arith

plain_short : (text : List ℕ) → Short (length text) text
plain_short [] = nothing_short
plain_short (b ∷ bs) = some_short (omega arith) (omega arith)

one_line_cost : {house : Style} {m : ℕ} {props : PropsValue} {style : ScalarStyle} {text : List ℕ} {lines : List (List ℕ)} → is_block_style style ≡ false → Short m (scalar_text house style text)
    → LeafCost house (props_weight props + m) props style text lines
one_line_cost {house = house} {m = m} {props = props} {style = style} {text = text} off a = record {
  short = short_spaced (props_weight props) m (props_weight props + m) (props_text props) (scalar_text house style text) (props_most props) a (omega arith);
  block = λ e w column l. absurd (true≢false (sym e ∙ off));
}

quoted_cost : {m : ℕ} {props : PropsValue} {text : List ℕ} {lines : List (List ℕ)} (house : Style) → IsUtf8 text → 1 ≤ m → 4 * length text + 4 ≤ 8 * m
    → LeafCost house (props_weight props + m) props (quoted_in text house) text lines
quoted_cost {text = text} house u some l =
    let q : Quotes = quotes_in house.invisible (chars text) house.quotes in
    let most = quoted_most house q text u in
    one_line_cost (quoted_off q) (some_short some (omega (arith, most, l)))

literal_cost : {house : Style} {props : PropsValue} (text : List ℕ) (lines : List (List ℕ)) → LeafCost house (props_weight props + suc (length text)) props Literal text lines
literal_cost {house} {props} text lines =
    let off = feeds_off text in
    let chars = cut_chars (without_final_feeds text) in
    let joined = cut_joined (without_final_feeds text) in
    record {
      short = short_spaced (props_weight props) (suc (length text)) (props_weight props + suc (length text)) (props_text props) [] (props_most props) nothing_short (omega arith);
      block = λ e w column l. lines_cost house.indent props Literal text (cut_at_feeds (without_final_feeds text)) (final_feeds text - 1) (length text) w column l (omega (arith, chars, off)) (omega (arith, joined, off)) (omega (arith, off));
    }

folded_cost : {house : Style} {props : PropsValue} (text : List ℕ) (lines : List (List ℕ)) → LeafCost house (props_weight props + suc (max (length text) (length (literal lines)))) props Folded text lines
folded_cost {house} {props} text lines =
    let n : ℕ = max (length text) (length (literal lines)) in
    let one : length text ≤ n = le-max_left (length text) (length (literal lines)) in
    let two : length (literal lines) ≤ n = le-max_right (length text) (length (literal lines)) in
    let chars = chars_joined lines in
    let joined = joined_after lines in
    record {
      short = short_spaced (props_weight props) (suc n) (props_weight props + suc n) (props_text props) [] (props_most props) nothing_short (omega arith);
      block = λ e w column l. lines_cost house.indent props Folded text lines (final_feeds text - 1) n w column l (omega (arith, chars, two)) (omega (arith, joined, two)) (omega (arith, one));
    }

pub leaf_cost : (house : Style) (props : PropsValue) (style : ScalarStyle) (text : List ℕ) (lines : List (List ℕ)) → IsUtf8 text
    → LeafCost house (props_weight props + text_weight style text lines) props (wanted style text house) text (lines_in (wanted style text house) lines)
leaf_cost house props Plain text lines u = by (is_steady text) refl where
  by : (b : Bool) → is_steady text ≡ b
      → LeafCost house (props_weight props + length text) props (if b then Plain else quoted_in text house) text (lines_in (if b then Plain else quoted_in text house) lines)
  by true e = one_line_cost refl (plain_short text)
  by false e = let some = some_text text e in quoted_cost house u some (omega (arith, some))
leaf_cost house props Single text lines u = let l = half_low (length text) in quoted_cost house u (omega arith) (omega (arith, l))
leaf_cost house props Double text lines u = let l = half_low (length text) in quoted_cost house u (omega arith) (omega (arith, l))
leaf_cost house props Literal text lines u = by (has_block_content text) where
  by : (b : Bool) → LeafCost house (props_weight props + suc (length text)) props (if b then Literal else quoted_in text house) text (lines_in (if b then Literal else quoted_in text house) lines)
  by true = literal_cost text []
  by false = quoted_cost house u (omega arith) (omega arith)
leaf_cost house props Folded text lines u = by (has_block_content text) where
  most : length text ≤ max (length text) (length (literal lines))
  most = le-max_left (length text) (length (literal lines))

  by : (b : Bool) → LeafCost house (props_weight props + suc (max (length text) (length (literal lines)))) props (if b then Folded else quoted_in text house) text (lines_in (if b then Folded else quoted_in text house) lines)
  by true = folded_cost text lines
  by false = quoted_cost house u (omega arith) (omega (arith, most))
