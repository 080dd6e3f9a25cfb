-- Quoted scalars (7.3.1, 7.3.2): from the relations of the standard's productions to those of `Quoted`, in which two
-- adjacent halves of a surrogate pair are one character.
use Rattle.std.proofs.Common.{◌≡◌, ◌≢◌, ℕ, zero, suc, ◌+◌, ◌<◌, ◌≤◌, ℤ, Bool, true, false, true≢false, ◌&&◌, ◌||◌, ◌==◌, not, List, [], Some, None, if◌then◌else◌, refl, sym, ap, ◌∙◌, subst, ◌⊎◌, inl, inr, ⊎_elim, arith}
use Rattle.std.proofs.lemmas.Bool.{and_parts, eq-eqb}
use Rattle.std.proofs.lemmas.Bool.Decides.{nat_tests}
use Rattle.std.specs.Char.{digit_value}
use Rattle.yf_chars.specs.declared.context.Ctx.{Ctx}
use Rattle.yf_chars.specs.Text.{code}
use Rattle.yf_chars.specs.Class.{is_white, is_nb_json, is_hex_digit, is_digit, is_between}
use Rattle.yf_chars.specs.Chain.{Chain, Many}
use Rattle.yf_chars.specs.Chain.Chain.{done, step}
use Rattle.yf_chars.specs.Chain.One.{one}
use Rattle.yf_chars.specs.Escape.{named, number, NumericEscape, is_high, is_low, NoLow}
use Rattle.yf_chars.specs.Escape.Escape.{by_letter, by_two, by_four, by_pair, by_eight}
use Rattle.yf_lines.specs.Basic.{Break, FoldedBreak, FlowFolded, Clear, is_flow, is_key}
use Rattle.yf_lines.specs.Basic.SeparateInLine.{by_whites, at_start}
use Rattle.yf_lines.specs.Basic.FoldedBreak.{trimmed, as_space}
use Rattle.yf_lines.specs.Basic.FlowFolded.{at_break, past_whites}
use Rattle.yf_quoted.specs.Quoted.{Item, Rest, Inside, SingleChar, as_they_are, SingleQuoted, Piece, goods, DoubleChar, DoubleBreak, DoubleQuoted}
use Rattle.yf_quoted.specs.Quoted.Item.{set_off}
use Rattle.yf_quoted.specs.Quoted.Rest.{blank, last_break, next_line}
use Rattle.yf_quoted.specs.Quoted.Inside.{as_key, as_lines}
use Rattle.yf_quoted.specs.Quoted.SingleChar.{doubled, unquoted}
use Rattle.yf_quoted.specs.Quoted.DoubleChar.{unescaped}
use Rattle.yf_quoted.specs.Quoted.DoubleBreak.{folded_break, escaped_break}
use Rattle.yf_standard.specs.Characters.{x, ◌∪◌, ◌∖◌, s-white, nb-json, c-escape, c-double-quote, ns-hex-digit, ns-esc-null, ns-esc-bell, ns-esc-backspace, ns-esc-horizontal-tab, ns-esc-line-feed, ns-esc-vertical-tab, ns-esc-form-feed, ns-esc-carriage-return, ns-esc-escape, ns-esc-space, ns-esc-double-quote, ns-esc-slash, ns-esc-backslash, ns-esc-next-line, ns-esc-non-breaking-space, ns-esc-line-separator, ns-esc-paragraph-separator}
use Rattle.yf_standard.specs.Notation.{Form, Condition}
use Rattle.yf_standard.specs.Notation.Form.{‹◌›}
use Rattle.yf_standard.specs.Productions.{times}
use Rattle.yf_standard.proofs.Reading.{Star, FormRead}
use Rattle.yf_standard.proofs.Reading.Star.{none, more}
use Rattle.yf_standard.proofs.Basics.{SomeOf, CharOf, char_is, chars_many}
use Rattle.yf_standard.proofs.Flows.{SignOf}
use Rattle.yf_standard.proofs.Sets.{white_is, nb_json_is, hex_digit_is}
use Rattle.yf_standard.proofs.Doubles.{Lone, chars_read, as_char, four_read, pair_known, no_low_of}
use Rattle.yf_standard.proofs.Doubles.Lone.{lone_char, lone_letter, lone_two, lone_four, lone_eight}
use Rattle.yf_standard.proofs.Texts.{some_first}
use Rattle.yf_chars.proofs.TextLemmas.{next_ascii, next_later}
use Rattle.yf_chars.proofs.EscapeLemmas.{named_below, digit_below, no_name, unnamed_u}
use Rattle.yf_lines.proofs.BasicLemmas.{break_char}
use Rattle.yf_quoted.proofs.DoubleLemmas.{white_backslash}

-- with some meaning, over the parts that both kinds of quotes share
module _ {A : Type 0} (t : List ℕ) (put : List ℕ → List A) (C B : ℕ → ℕ → List A → Type 0) where
  whites_or : {i j : ℕ} → SomeOf (Rest t put C B) i j ⊎ Star (CharOf t s-white) i j → SomeOf (Rest t put C B) i j
  whites_or (inl r) = r
  whites_or (inr w) = let m = chars_many {t = t} {s = s-white} {p = is_white} white_is w in (put m.0, blank m.1)

-- [118]
pub nb_json_but : (q c : ℕ) → (nb-json ∖ x q) c ≡ true → (is_nb_json c ≡ true) × (c ≢ q)
unfolding ◌∖◌ x
nb_json_but q c e = let p = and_parts (nb-json c) (not (c == q)) e in (sym (nb_json_is c) ∙ p.0, λ z. true≢false (sym p.1 ∙ ap (λ w. not (w == q)) z ∙ same q)) where
  same : (q : ℕ) → not (q == q) ≡ false
  same q = rw (eq-eqb q q refl) refl

pub single_char_read : (t : List ℕ) (i j : ℕ) → ((g : ℕ) × (SignOf t 39 i g × SignOf t 39 g j)) ⊎ CharOf t (nb-json ∖ x 39) i j → SomeOf (SingleChar t) i j
single_char_read t i j (inl d) =
    let e : i + 2 ≡ j = omega (arith, d.1.0.1, d.1.1.1) in
    subst (λ z. SomeOf (SingleChar t) i z) e (_, doubled d.1.0.0 (ap (code t) d.1.0.1 ∙ d.1.1.0))
single_char_read t i j (inr d) = let p = nb_json_but 39 (code t i) d.0 in subst (λ z. SomeOf (SingleChar t) i z) d.1 (_, unquoted p.0 p.1)

pub no_white : (c : ℕ) → s-white c ≡ false → is_white c ≡ false
no_white c e = sym (white_is c) ∙ e

-- [123] to [125]
abbrev pub SingleItem : List ℕ → ℕ → ℕ → List ℕ → Type 0
SingleItem t = Item t as_they_are (SingleChar t)

abbrev pub SingleRest : List ℕ → ℤ → ℕ → ℕ → List ℕ → Type 0
SingleRest t n = Rest t as_they_are (SingleChar t) (FlowFolded t n)

abbrev pub SingleNs : List ℕ → ℕ → ℕ → Type 0
SingleNs t i j = SomeOf (SingleChar t) i j × (s-white (code t i) ≡ false)

pub single_item_read : (t : List ℕ) (i j : ℕ) → (h : ℕ) × (Star (CharOf t s-white) i h × SingleNs t h j) → SomeOf (SingleItem t) i j
single_item_read t i j d =
    let m = chars_many {t = t} {s = s-white} {p = is_white} white_is d.1.0 in (_, set_off m.1 (no_white (code t d.0) d.1.1.1) d.1.1.0.1)

pub single_next_read : (t : List ℕ) (n : ℤ) (i j : ℕ)
    → (h : ℕ) × (SomeOf (FlowFolded t n) i h × ((h ≡ j) ⊎ ((k : ℕ) × (SingleNs t h k × ((l : ℕ) × (SomeOf (Chain (SingleItem t)) k l × (SomeOf (SingleRest t n) l j ⊎ Star (CharOf t s-white) l j)))))))
    → SomeOf (SingleRest t n) i j
single_next_read t n i j d = go d.1.1 where
  go : (d.0 ≡ j) ⊎ ((k : ℕ) × (SingleNs t d.0 k × ((l : ℕ) × (SomeOf (Chain (SingleItem t)) k l × (SomeOf (SingleRest t n) l j ⊎ Star (CharOf t s-white) l j))))) → SomeOf (SingleRest t n) i j
  go (inl e) = (d.1.0.0, last_break (subst (λ z. FlowFolded t n i z d.1.0.0) e d.1.0.1))
  go (inr f) = let r = whites_or t as_they_are (SingleChar t) (FlowFolded t n) f.1.1.1.1 in (_, next_line d.1.0.1 (no_white (code t d.0) f.1.0.1) f.1.0.0.1 f.1.1.1.0.1 r.1)

-- lines of single quotes
abbrev pub SingleLines : List ℕ → ℤ → ℕ → ℕ → Type 0
SingleLines t n i j = (h : ℕ) × (SomeOf (Chain (SingleItem t)) i h × SomeOf (SingleRest t n) h j)

pub single_lines_read : (t : List ℕ) (n : ℤ) (i j : ℕ) → (h : ℕ) × (SomeOf (Chain (SingleItem t)) i h × (SomeOf (SingleRest t n) h j ⊎ Star (CharOf t s-white) h j)) → SingleLines t n i j
single_lines_read t n i j d = (d.0, (d.1.0, whites_or t as_they_are (SingleChar t) (FlowFolded t n) d.1.1))

abbrev pub SingleInside : List ℕ → ℤ → Ctx → ℕ → ℕ → List ℕ → Type 0
SingleInside t n c = Inside t as_they_are (SingleChar t) (FlowFolded t n) c

pub single_as_lines : (t : List ℕ) (n : ℤ) (c : Ctx) (i j : ℕ) → is_flow c ≡ true → SingleLines t n i j → SomeOf (SingleInside t n c) i j
single_as_lines t n c i j e d = (_, as_lines e d.1.0.1 d.1.1.1)

pub single_as_key : (t : List ℕ) (n : ℤ) (c : Ctx) (i j : ℕ) → is_key c ≡ true → SomeOf (Chain (SingleChar t)) i j → SomeOf (SingleInside t n c) i j
single_as_key t n c i j e d = (_, as_key e d.1)

-- [120], if it covers no forbidden line
pub single_quoted_read : (t : List ℕ) (n : ℤ) (c : Ctx) (i j : ℕ) → Clear t i j → (g : ℕ) × (SignOf t 39 i g × ((k : ℕ) × (SomeOf (SingleInside t n c) g k × SignOf t 39 k j))) → SomeOf (SingleQuoted t n c) i j
single_quoted_read t n c i j w d = (
  d.1.1.1.0.0,
  record {
    close = d.1.1.0;
    opening = d.1.0.0;
    inside = subst (λ z. SingleInside t n c z d.1.1.0 d.1.1.1.0.0) (sym d.1.0.1) d.1.1.1.0.1;
    closing = d.1.1.1.1.0;
    end = d.1.1.1.1.1;
    clear = w;
  },
)

-- [42] to [58]
named_back : (a b c d u e f g h k l m n o p q r s : Bool) (z0 z1 z2 z3 z4 z5 z6 z7 z8 z9 y0 y1 y2 y3 y4 y5 y6 : ℕ)
    → (a || b || c || (d || u) || e || f || g || h || k || l || m || n || o || p || q || r || s) ≡ true
    → (v : ℕ) × ((if a then Some z0 else if b then Some z1 else if c then Some z2 else if d || u then Some z3 else if e then Some z4 else if f then Some z5 else if g then Some z6 else if h then Some z7
    else if k then Some z8 else if l then Some z9 else if m then Some y0 else if n then Some y1 else if o then Some y2 else if p then Some y3 else if q then Some y4 else if r then Some y5
    else if s then Some y6 else None) ≡ Some v)
named_back true b c d u e f g h k l m n o p q r s z0 z1 z2 z3 z4 z5 z6 z7 z8 z9 y0 y1 y2 y3 y4 y5 y6 w = (z0, refl)
named_back false true c d u e f g h k l m n o p q r s z0 z1 z2 z3 z4 z5 z6 z7 z8 z9 y0 y1 y2 y3 y4 y5 y6 w = (z1, refl)
named_back false false true d u e f g h k l m n o p q r s z0 z1 z2 z3 z4 z5 z6 z7 z8 z9 y0 y1 y2 y3 y4 y5 y6 w = (z2, refl)
named_back false false false true u e f g h k l m n o p q r s z0 z1 z2 z3 z4 z5 z6 z7 z8 z9 y0 y1 y2 y3 y4 y5 y6 w = (z3, refl)
named_back false false false false true e f g h k l m n o p q r s z0 z1 z2 z3 z4 z5 z6 z7 z8 z9 y0 y1 y2 y3 y4 y5 y6 w = (z3, refl)
named_back false false false false false true f g h k l m n o p q r s z0 z1 z2 z3 z4 z5 z6 z7 z8 z9 y0 y1 y2 y3 y4 y5 y6 w = (z4, refl)
named_back false false false false false false true g h k l m n o p q r s z0 z1 z2 z3 z4 z5 z6 z7 z8 z9 y0 y1 y2 y3 y4 y5 y6 w = (z5, refl)
named_back false false false false false false false true h k l m n o p q r s z0 z1 z2 z3 z4 z5 z6 z7 z8 z9 y0 y1 y2 y3 y4 y5 y6 w = (z6, refl)
named_back false false false false false false false false true k l m n o p q r s z0 z1 z2 z3 z4 z5 z6 z7 z8 z9 y0 y1 y2 y3 y4 y5 y6 w = (z7, refl)
named_back false false false false false false false false false true l m n o p q r s z0 z1 z2 z3 z4 z5 z6 z7 z8 z9 y0 y1 y2 y3 y4 y5 y6 w = (z8, refl)
named_back false false false false false false false false false false true m n o p q r s z0 z1 z2 z3 z4 z5 z6 z7 z8 z9 y0 y1 y2 y3 y4 y5 y6 w = (z9, refl)
named_back false false false false false false false false false false false true n o p q r s z0 z1 z2 z3 z4 z5 z6 z7 z8 z9 y0 y1 y2 y3 y4 y5 y6 w = (y0, refl)
named_back false false false false false false false false false false false false true o p q r s z0 z1 z2 z3 z4 z5 z6 z7 z8 z9 y0 y1 y2 y3 y4 y5 y6 w = (y1, refl)
named_back false false false false false false false false false false false false false true p q r s z0 z1 z2 z3 z4 z5 z6 z7 z8 z9 y0 y1 y2 y3 y4 y5 y6 w = (y2, refl)
named_back false false false false false false false false false false false false false false true q r s z0 z1 z2 z3 z4 z5 z6 z7 z8 z9 y0 y1 y2 y3 y4 y5 y6 w = (y3, refl)
named_back false false false false false false false false false false false false false false false true r s z0 z1 z2 z3 z4 z5 z6 z7 z8 z9 y0 y1 y2 y3 y4 y5 y6 w = (y4, refl)
named_back false false false false false false false false false false false false false false false false true s z0 z1 z2 z3 z4 z5 z6 z7 z8 z9 y0 y1 y2 y3 y4 y5 y6 w = (y5, refl)
named_back false false false false false false false false false false false false false false false false false true z0 z1 z2 z3 z4 z5 z6 z7 z8 z9 y0 y1 y2 y3 y4 y5 y6 w = (y6, refl)
named_back false false false false false false false false false false false false false false false false false false z0 z1 z2 z3 z4 z5 z6 z7 z8 z9 y0 y1 y2 y3 y4 y5 y6 w = absurd (true≢false (sym w))

pub letter_back : (c : ℕ) → (ns-esc-null ∪ ns-esc-bell ∪ ns-esc-backspace ∪ ns-esc-horizontal-tab ∪ ns-esc-line-feed ∪ ns-esc-vertical-tab ∪ ns-esc-form-feed ∪ ns-esc-carriage-return ∪ ns-esc-escape ∪ ns-esc-space ∪ ns-esc-double-quote ∪ ns-esc-slash ∪ ns-esc-backslash ∪ ns-esc-next-line ∪ ns-esc-non-breaking-space ∪ ns-esc-line-separator ∪ ns-esc-paragraph-separator) c ≡ true → (v : ℕ) × (named c ≡ Some v)
unfolding named x ◌∪◌ ns-esc-null ns-esc-bell ns-esc-backspace ns-esc-horizontal-tab ns-esc-line-feed ns-esc-vertical-tab ns-esc-form-feed ns-esc-carriage-return ns-esc-escape ns-esc-space ns-esc-double-quote ns-esc-slash ns-esc-backslash ns-esc-next-line ns-esc-non-breaking-space ns-esc-line-separator ns-esc-paragraph-separator
letter_back c e = named_back (c == 48) (c == 97) (c == 98) (c == 116) (c == 9) (c == 110) (c == 118) (c == 102) (c == 114) (c == 101) (c == 32) (c == 34) (c == 47) (c == 92) (c == 78) (c == 95) (c == 76) (c == 80)
    0x00 0x07 0x08 0x09 0x0A 0x0B 0x0C 0x0D 0x1B 32 34 47 92 0x85 0xA0 0x2028 0x2029 e

-- [59] to [61]: a letter and that many hexadecimal digits
value_of : (c : ℕ) → is_hex_digit c ≡ true → digit_value c < 16
unfolding is_hex_digit is_digit is_between
value_of c e = grind (arith, nat_tests)

pub record Hexes (t : List ℕ) (k i j : ℕ) : Type 0 where
  pub each : (m : ℕ) → m < k → digit_value (code t (i + m)) < 16
  pub end : i + k ≡ j

pub hexes_read : (t : List ℕ) (L : Condition → ℕ → Type 0) (K : ℕ → Form → ℕ → ℕ → Type 0) (e k i j : ℕ) → FormRead t L K e (times k (‹ ns-hex-digit ›)) i j → Hexes t k i j
hexes_read t L K e zero i j d = record { each = λ m l. absurd (omega arith); end = omega (arith, d) }
hexes_read t L K e (suc k) i j d =
    let h : is_hex_digit (code t i) ≡ true = sym (hex_digit_is (code t i)) ∙ d.1.0.0 in
    let v : digit_value (code t i) < 16 = value_of (code t i) h in
    let q : i + 1 ≡ d.0 = sym (next_ascii t i (digit_below (code t i) v)) ∙ d.1.0.1 in
    let r = hexes_read t L K e k d.0 j d.1.1 in
    let end : d.0 + k ≡ j = r.end in
    record { each = λ m l. at v q r m l; end = omega (arith, q, end) }
  where
    at : digit_value (code t i) < 16 → i + 1 ≡ d.0 → Hexes t k d.0 j → (m : ℕ) → m < suc k → digit_value (code t (i + m)) < 16
    at v q r zero l = let z : i ≡ i + 0 = omega arith in subst (λ z. digit_value (code t z) < 16) z v
    at v q r (suc m) l = let z : d.0 + m ≡ i + suc m = omega (arith, q) in subst (λ z. digit_value (code t z) < 16) z (r.each m (omega arith))

pub record HexOf (t : List ℕ) (c k i j : ℕ) : Type 0 where
  pub letter : code t i ≡ c
  pub digits : Hexes t k (i + 1) j

pub hex_of_read : (t : List ℕ) (L : Condition → ℕ → Type 0) (K : ℕ → Form → ℕ → ℕ → Type 0) (e c k i j : ℕ) → c < 128
    → (g : ℕ) × (CharOf t (x c) i g × FormRead t L K e (times k (‹ ns-hex-digit ›)) g j) → HexOf t c k i j
hex_of_read t L K e c k i j l d = let a = char_is t i d.0 c l d.1.0 in record { letter = a.0; digits = subst (λ z. Hexes t k z j) (sym a.1) (hexes_read t L K e k d.0 j d.1.1) }

-- [62]
numbered_of : (t : List ℕ) (i g c k j : ℕ) → SignOf t 92 i g → HexOf t c k g j → (v : ℕ) × (NumericEscape t i c k v × (i + 2 + k ≡ j))
numbered_of t i g c k j s h =
    let q : g ≡ i + 1 = sym s.1 in
    let two : g + 1 ≡ i + 2 = omega (arith, q) in
    let d : Hexes t k (i + 2) j = subst (λ z. Hexes t k z j) two h.digits in
    let end : i + 2 + k ≡ j = d.end in
    (number t (i + 2) k, (record { backslash = s.0; letter = ap (code t) (sym q) ∙ h.letter; digits = record { each = d.each; value = refl } }, end))

pub escape_read : (t : List ℕ) (i j : ℕ) → (g : ℕ) × (SignOf t 92 i g × (CharOf t (ns-esc-null ∪ ns-esc-bell ∪ ns-esc-backspace ∪ ns-esc-horizontal-tab ∪ ns-esc-line-feed ∪ ns-esc-vertical-tab ∪ ns-esc-form-feed ∪ ns-esc-carriage-return ∪ ns-esc-escape ∪ ns-esc-space ∪ ns-esc-double-quote ∪ ns-esc-slash ∪ ns-esc-backslash ∪ ns-esc-next-line ∪ ns-esc-non-breaking-space ∪ ns-esc-line-separator ∪ ns-esc-paragraph-separator) g j ⊎ (HexOf t 120 2 g j ⊎ (HexOf t 117 4 g j ⊎ HexOf t 85 8 g j)))) → Lone t i j
escape_read t i j d = go d.1.1 where
  go : CharOf t (ns-esc-null ∪ ns-esc-bell ∪ ns-esc-backspace ∪ ns-esc-horizontal-tab ∪ ns-esc-line-feed ∪ ns-esc-vertical-tab ∪ ns-esc-form-feed ∪ ns-esc-carriage-return ∪ ns-esc-escape ∪ ns-esc-space ∪ ns-esc-double-quote ∪ ns-esc-slash ∪ ns-esc-backslash ∪ ns-esc-next-line ∪ ns-esc-non-breaking-space ∪ ns-esc-line-separator ∪ ns-esc-paragraph-separator) d.0 j ⊎ (HexOf t 120 2 d.0 j ⊎ (HexOf t 117 4 d.0 j ⊎ HexOf t 85 8 d.0 j)) → Lone t i j
  go (inl c) =
      let v = letter_back (code t d.0) c.0 in
      let q : i + 2 ≡ j = omega (arith, d.1.0.1, sym (next_ascii t d.0 (named_below (code t d.0) v.0 v.1)), c.1) in
      subst (λ z. Lone t i z) q (lone_letter d.1.0.0 (ap (λ z. named (code t z)) d.1.0.1 ∙ v.1))
  go (inr (inl h)) = let n = numbered_of t i d.0 120 2 j d.1.0 h in let q : i + 4 ≡ j = omega (arith, n.1.1) in subst (λ z. Lone t i z) q (lone_two n.1.0)
  go (inr (inr (inl h))) = let n = numbered_of t i d.0 117 4 j d.1.0 h in let q : i + 6 ≡ j = omega (arith, n.1.1) in subst (λ z. Lone t i z) q (lone_four n.1.0)
  go (inr (inr (inr h))) = let n = numbered_of t i d.0 85 8 j d.1.0 h in let q : i + 10 ≡ j = omega (arith, n.1.1) in subst (λ z. Lone t i z) q (lone_eight n.1.0)

-- [107]
pub double_char_read : (t : List ℕ) (i j : ℕ) → Lone t i j ⊎ CharOf t (nb-json ∖ c-escape ∖ c-double-quote) i j → Lone t i j
unfolding ◌∖◌ x c-escape c-double-quote
double_char_read t i j (inl l) = l
double_char_read t i j (inr d) =
    let p = and_parts (nb-json (code t i) && not (code t i == 92)) (not (code t i == 34)) d.0 in
    let q = and_parts (nb-json (code t i)) (not (code t i == 92)) p.0 in
    subst (λ z. Lone t i z) d.1 (lone_char (sym (nb_json_is (code t i)) ∙ q.0) (differs (code t i) 92 q.1) (differs (code t i) 34 p.1))
  where
    differs : (c k : ℕ) → not (c == k) ≡ true → c ≢ k
    differs c k e z = true≢false (sym e ∙ rw (eq-eqb c k z) refl)

-- [114], with adjacent escapes
pub data LoneItems (t : List ℕ) : ℕ → ℕ → Type 0 where
  no_items : {i j : ℕ} → i ≡ j → LoneItems t i j
  other_item : {i h k j : ℕ} → Star (CharOf t s-white) i h → is_white (code t h) ≡ false → SomeOf (DoubleChar t) h k → NoLow t h → h < k → LoneItems t k j → LoneItems t i j
  four_item : {i h j v : ℕ} → Star (CharOf t s-white) i h → is_white (code t h) ≡ false → NumericEscape t h 117 4 v → LoneItems t (h + 6) j → LoneItems t i j

pub item_of : {t : List ℕ} {i h k j : ℕ} → Star (CharOf t s-white) i h → is_white (code t h) ≡ false → Lone t h k → LoneItems t k j → LoneItems t i j
item_of {t} {h = h} w v (lone_char a b c) s = other_item w v (_, unescaped a b c) (no_low_of (λ z. absurd (b z))) (next_later t h) s
item_of w v (lone_letter a b) s = other_item w v (as_char (by_letter a b)) (no_low_of (λ _ z. no_name 117 unnamed_u z b)) (omega arith) s
item_of w v (lone_two a) s = other_item w v (as_char (by_two a)) (no_low_of (λ _ z. absurd (omega (arith, z, a.letter)))) (omega arith) s
item_of w v (lone_four a) s = four_item w v a s
item_of w v (lone_eight a) s = other_item w v (as_char (by_eight a)) (no_low_of (λ _ z. absurd (omega (arith, z, a.letter)))) (omega arith) s

abbrev pub LoneNs : List ℕ → ℕ → ℕ → Type 0
LoneNs t i j = Lone t i j × (s-white (code t i) ≡ false)

pub lone_items : {t : List ℕ} {i j : ℕ} → Star (λ i j. (h : ℕ) × (Star (CharOf t s-white) i h × LoneNs t h j)) i j → LoneItems t i j
lone_items none = no_items refl
lone_items {t} (more d r) = item_of d.1.0 (no_white (code t d.0) d.1.1.1) d.1.1.0 (lone_items r)

abbrev pub DoubleItem : List ℕ → ℕ → ℕ → List Piece → Type 0
DoubleItem t = Item t goods (DoubleChar t)

abbrev pub DoubleRest : List ℕ → ℤ → ℕ → ℕ → List Piece → Type 0
DoubleRest t n = Rest t goods (DoubleChar t) (DoubleBreak t n)

white_low : {t : List ℕ} {i k : ℕ} → CharOf t s-white i k → NoLow t i
white_low {t} {i} c = no_low_of (λ e. absurd (true≢false (sym (sym (white_is (code t i)) ∙ c.0) ∙ ap is_white e ∙ white_backslash)))

whites_forward : (t : List ℕ) {i j : ℕ} → Star (CharOf t s-white) i j → i ≤ j
whites_forward t none = omega arith
whites_forward t {i} (more c r) = let a = next_later t i in let b = whites_forward t r in let d = c.1 in omega (arith, a, b, d)

module _ {t : List ℕ} where
  put_off : {i h k j : ℕ} → Star (CharOf t s-white) i h → is_white (code t h) ≡ false → SomeOf (DoubleChar t) h k → SomeOf (Chain (DoubleItem t)) k j → SomeOf (Chain (DoubleItem t)) i j
  put_off w n c r = let m = chars_many {t = t} {s = s-white} {p = is_white} white_is w in (_, step (set_off m.1 n c.1) r.1)

  pub items_read : {i j : ℕ} → LoneItems t i j → NoLow t j → SomeOf (Chain (DoubleItem t)) i j
  items_read {i} (no_items e) n = ([], subst (λ z. Chain (DoubleItem t) i z []) e done)
  items_read (other_item w v c l y s) n = put_off w v c (items_read s n)
  items_read {j = j} (four_item {h = h} w v a (no_items e)) n = put_off w v (four_read a (subst (λ z. NoLow t z) (sym e) n)) ([], subst (λ z. Chain (DoubleItem t) (h + 6) z []) e done)
  items_read (four_item w v a (other_item none q c l y s)) n = put_off w v (four_read a l) (put_off none q c (items_read s n))
  items_read (four_item w v a (other_item (more z p) q c l y s)) n = put_off w v (four_read a (white_low z)) (items_read (other_item (more z p) q c l y s) n)
  items_read (four_item w v a (four_item (more z p) q b s)) n = put_off w v (four_read a (white_low z)) (items_read (four_item (more z p) q b s) n)
  items_read (four_item {h = g} {v = f} w v a (four_item {v = k} none q b s)) n =
      let r = items_read (four_item none q b s) n in
      let z = items_read s n in
      ⊎_elim (λ (p : (is_high f ≡ true) × (is_low k ≡ true)).
      let e : g + 12 ≡ g + 6 + 6 = omega arith in
      put_off w v (subst (λ z. SomeOf (DoubleChar t) g z) e (as_char (by_pair a p.0 b p.1))) z)
      (λ (o : (is_high f ≡ false) ⊎ NoLow t (g + 6)).
      ⊎_elim (λ (l : is_high f ≡ false). put_off w v (as_char (by_four a l)) r) (λ (m : NoLow t (g + 6)). put_off w v (four_read a m) r) o)
      (pair_known a b)

  -- the first of them, if no white space is before it
  first_item : {i j : ℕ} {w : List Piece} → Chain (DoubleItem t) i j w → i < j → is_white (code t i) ≡ false → (k : ℕ) × (SomeOf (DoubleChar t) i k × SomeOf (Chain (DoubleItem t)) k j)
  first_item done l n = absurd (omega arith)
  first_item (step {h = k} (set_off done v c) r) l n = (k, ((_, c), (_, r)))
  first_item (step (set_off (step (one e) m) v c) r) l n = absurd (true≢false (sym e ∙ n))

  lone_later : {i j : ℕ} → Lone t i j → i < j
  lone_later (lone_char {i = i} a b c) = next_later t i
  lone_later (lone_letter a b) = omega arith
  lone_later (lone_two a) = omega arith
  lone_later (lone_four a) = omega arith
  lone_later (lone_eight a) = omega arith

  items_forward : {i j : ℕ} → LoneItems t i j → i ≤ j
  items_forward (no_items e) = omega (arith, e)
  items_forward (other_item w v c l y s) = let b = items_forward s in let c = whites_forward t w in omega (arith, y, b, c)
  items_forward (four_item w v a s) = let b = items_forward s in let c = whites_forward t w in omega (arith, b, c)

  -- [112] and [113]: no half of a pair begins at a break
  break_low : {i j : ℕ} → Break t i j → NoLow t i
  break_low b = no_low_of (λ e. absurd (⊎_elim (λ h. absurd (omega arith)) (λ h. absurd (omega arith)) (break_char b)))

  folded_low : {n : ℤ} {c : Ctx} {i j : ℕ} {w : List ℕ} → FoldedBreak t n c i j w → NoLow t i
  folded_low (trimmed b e r) = break_low b
  folded_low (as_space b) = break_low b

  white_first : {i j : ℕ} {w : List ℕ} → Many t is_white i j w → i < j → NoLow t i
  white_first {i} m l = no_low_of (λ e. absurd (true≢false (sym (some_first m l) ∙ ap is_white e ∙ white_backslash)))

  flow_folded_low : {n : ℤ} {i j : ℕ} {w : List ℕ} → FlowFolded t n i j w → NoLow t i
  flow_folded_low (at_break f p) = folded_low f
  flow_folded_low (past_whites (by_whites m l) f p) = white_first m l
  flow_folded_low (past_whites (at_start s) f p) = folded_low f

  pub double_break_low : {n : ℤ} {i j : ℕ} {w : List Piece} → DoubleBreak t n i j w → NoLow t i
  double_break_low (folded_break f) = flow_folded_low f
  double_break_low (escaped_break done e b c p) = no_low_of (λ _ z. ⊎_elim (λ h. absurd (omega arith)) (λ h. absurd (omega arith)) (break_char b))
  double_break_low (escaped_break (step (one {i = i} e) m) s b c p) = no_low_of (λ z. absurd (true≢false (sym e ∙ ap is_white z ∙ white_backslash)))

-- white space and the end, or a further line: no half of a pair begins there
pub record RestRead (t : List ℕ) (n : ℤ) (i j : ℕ) : Type 0 where
  pub low : NoLow t i
  pub rest : SomeOf (DoubleRest t n) i j

-- [115]
pub record NextRead (t : List ℕ) (n : ℤ) (i j : ℕ) : Type 0 where
  pub low : NoLow t i
  pub rest : NoLow t j → SomeOf (DoubleRest t n) i j

next_or_whites : (t : List ℕ) (n : ℤ) (i j : ℕ) → NoLow t j → NextRead t n i j ⊎ Star (CharOf t s-white) i j → RestRead t n i j
next_or_whites t n i j l (inl r) = record { low = r.low; rest = r.rest l }
next_or_whites t n i j l (inr none) = record { low = l; rest = ([], blank done) }
next_or_whites t n i j l (inr (more c r)) =
    let m = chars_many {t = t} {s = s-white} {p = is_white} white_is (more c r) in record { low = white_low c; rest = (goods m.0, blank m.1) }

pub double_next_read : (t : List ℕ) (n : ℤ) (i j : ℕ)
    → (h : ℕ) × (SomeOf (DoubleBreak t n) i h × ((h ≡ j) ⊎ ((k : ℕ) × (LoneNs t h k × ((l : ℕ) × (LoneItems t k l × (NextRead t n l j ⊎ Star (CharOf t s-white) l j)))))))
    → NextRead t n i j
double_next_read t n i j d = record { low = double_break_low d.1.0.1; rest = λ w. go w d.1.1 } where
  go : NoLow t j → (d.0 ≡ j) ⊎ ((k : ℕ) × (LoneNs t d.0 k × ((l : ℕ) × (LoneItems t k l × (NextRead t n l j ⊎ Star (CharOf t s-white) l j))))) → SomeOf (DoubleRest t n) i j
  go w (inl e) = (d.1.0.0, last_break (subst (λ z. DoubleBreak t n i z d.1.0.0) e d.1.0.1))
  go w (inr f) =
      let v = no_white (code t d.0) f.1.0.1 in
      let r = next_or_whites t n f.1.1.0 j w f.1.1.1.1 in
      let c = items_read (item_of none v f.1.0.0 f.1.1.1.0) r.low in
      let a = lone_later f.1.0.0 in let b = items_forward f.1.1.1.0 in
      let s = first_item c.1 (omega (arith, a, b)) v in
      (_, next_line d.1.0.1 v s.1.0.1 s.1.1.1 r.rest.1)

-- [116]
abbrev pub DoubleLines : List ℕ → ℤ → ℕ → ℕ → Type 0
DoubleLines t n i j = NoLow t j → (h : ℕ) × (SomeOf (Chain (DoubleItem t)) i h × SomeOf (DoubleRest t n) h j)

pub double_lines_read : (t : List ℕ) (n : ℤ) (i j : ℕ) → (h : ℕ) × (LoneItems t i h × (NextRead t n h j ⊎ Star (CharOf t s-white) h j)) → DoubleLines t n i j
double_lines_read t n i j d = λ w. let r = next_or_whites t n d.0 j w d.1.1 in (d.0, (items_read d.1.0 r.low, r.rest))

abbrev pub DoubleInside : List ℕ → ℤ → Ctx → ℕ → ℕ → List Piece → Type 0
DoubleInside t n c = Inside t goods (DoubleChar t) (DoubleBreak t n) c

pub double_as_lines : (t : List ℕ) (n : ℤ) (c : Ctx) (i j : ℕ) → is_flow c ≡ true → DoubleLines t n i j → NoLow t j → SomeOf (DoubleInside t n c) i j
double_as_lines t n c i j e f w = let d = f w in (_, as_lines e d.1.0.1 d.1.1.1)

pub double_as_key : (t : List ℕ) (n : ℤ) (c : Ctx) (i j : ℕ) → is_key c ≡ true → Star (Lone t) i j → NoLow t j → SomeOf (DoubleInside t n c) i j
double_as_key t n c i j e d w = let r = chars_read d w in (_, as_key e r.1)

-- [109]
pub double_quoted_read : (t : List ℕ) (n : ℤ) (c : Ctx) (i j : ℕ) → Clear t i j → (g : ℕ) × (SignOf t 34 i g × ((k : ℕ) × ((NoLow t k → SomeOf (DoubleInside t n c) g k) × SignOf t 34 k j)))
    → SomeOf (DoubleQuoted t n c) i j
double_quoted_read t n c i j w d =
    let s = d.1.1.1.1 in
    let r = d.1.1.1.0 (no_low_of (λ e. absurd (omega (arith, e, s.0)))) in (
      r.0,
      record {
        close = d.1.1.0;
        opening = d.1.0.0;
        inside = subst (λ z. DoubleInside t n c z d.1.1.0 r.0) (sym d.1.0.1) r.1;
        closing = s.0;
        end = s.1;
        clear = w;
      },
    )
