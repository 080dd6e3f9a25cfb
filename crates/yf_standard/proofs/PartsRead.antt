-- The relations of the standard's productions of escaped breaks, directives and documents, in the words of the lemmas
-- on them.
use Rattle.std.proofs.Common.{◌≡◌, ◌≢◌, ℕ, ◌+◌, ◌<◌, ℤ, true, false, ◌&&◌, ◌||◌, length, List, [], refl, sym, ap, ◌∙◌, subst, ◌⊎◌, inl, inr, arith}
use Rattle.std.proofs.lemmas.Bool.{eqb-true, eq-eqb}
use Rattle.yf_chars.specs.declared.context.Ctx.TheVariants.{FlowIn}
use Rattle.yf_chars.specs.Text.{code, next}
use Rattle.yf_chars.specs.Class.{is_ns_char, is_digit, is_white}
use Rattle.yf_chars.specs.Chain.{Chain}
use Rattle.yf_chars.specs.Chain.Chain.{done, step}
use Rattle.yf_chars.specs.Class.{is_white_or_end, is_break_char}
use Rattle.yf_lines.specs.Basic.{Break, LineStart, SeparateInLine, Empty, FlowPrefix, ForbiddenLine, is_three, is_marker}
use Rattle.std.proofs.Math.Bool.{or-true}
use Rattle.yf_chars.proofs.TextLemmas.{code-end}
use Rattle.yf_lines.proofs.BasicLemmas.{ends_by_white, ends_at_end}
use Rattle.yf_comments.specs.Comments.{CommentLine, LineEnd}
use Rattle.yf_props.specs.Names.{Handle, TagPrefix, UriChar, TagChar}
use Rattle.yf_props.specs.Names.TagPrefix.{local_prefix, global_prefix}
use Rattle.yf_quoted.specs.Quoted.{DoubleBreak}
use Rattle.yf_quoted.specs.Quoted.DoubleBreak.{escaped_break}
use Rattle.yf_stream.specs.Stream.{Prefixes}
use Rattle.yf_stream.specs.Stream.PrefixPart.{order_mark, prefix_comment}
use Rattle.yf_standard.specs.Characters.{x, b-char, s-white, ns-char, ns-dec-digit, c-byte-order-mark}
use Rattle.yf_standard.specs.Rules.{is_name_yaml, is_name_tag}
use Rattle.yf_standard.proofs.Reading.{Star}
use Rattle.yf_standard.proofs.Reading.Star.{none, more}
use Rattle.yf_standard.proofs.Basics.{SomeOf, CharOf, char_is, star_chain, chars_many, chars_some}
use Rattle.yf_standard.proofs.Flows.{SignOf}
use Rattle.yf_standard.proofs.Sets.{white_is, break_char_is, ns_char_is, dec_digit_is}
use Rattle.yf_standard.proofs.DirectivesRead.{SomeChars, YamlRead, TagRead, ReservedRead}
use Rattle.yf_standard.proofs.StreamsRead.{Suffix, Round, Any, SomeExplicit}

pub star_map : {R S : ℕ → ℕ → Type 0} {i j : ℕ} → ((i j : ℕ) → R i j → S i j) → Star R i j → Star S i j
star_map f none = none
star_map f (more {i = i} {k = k} r s) = more (f i k r) (star_map f s)

-- one character or more
abbrev pub Plus : (ℕ → ℕ → Type 0) → ℕ → ℕ → Type 0
Plus R i j = (k : ℕ) × (R i k × Star R k j)

pub names_read : (t : List ℕ) (i j : ℕ) → Plus (CharOf t ns-char) i j → SomeChars t is_ns_char i j
names_read t i j d = chars_some {t = t} {s = ns-char} {p = is_ns_char} ns_char_is d.1.0 d.1.1

pub digits_read : (t : List ℕ) (i j : ℕ) → Plus (CharOf t ns-dec-digit) i j → SomeChars t is_digit i j
digits_read t i j d = chars_some {t = t} {s = ns-dec-digit} {p = is_digit} dec_digit_is d.1.0 d.1.1

-- [112]
pub double_escaped_read : (t : List ℕ) (n : ℤ) (i j : ℕ)
    → (g : ℕ) × (Star (CharOf t s-white) i g × ((h : ℕ) × (SignOf t 92 g h × ((k : ℕ) × (Break t h k × ((l : ℕ) × (Star (SomeOf (Empty t n FlowIn)) k l × FlowPrefix t n l j))))))) → SomeOf (DoubleBreak t n) i j
double_escaped_read t n i j d =
    let m = chars_many {t = t} {s = s-white} {p = is_white} white_is d.1.0 in
    let e = star_chain {S = Empty t n FlowIn} (λ i j s. s) d.1.1.1.1.1.1.1.0 in
    let b : Break t (d.0 + 1) d.1.1.1.1.0 = subst (λ z. Break t z d.1.1.1.1.0) (sym d.1.1.1.0.1) d.1.1.1.1.1.0 in
    (_, escaped_break m.1 d.1.1.1.0.0 b e.1 d.1.1.1.1.1.1.1.1)

-- [85]
pub parameter_read : (t : List ℕ) (i j : ℕ) → (g : ℕ) × (((code t i ≢ 35) × (i ≡ g)) × Plus (CharOf t ns-char) g j) → (code t i ≢ 35) × SomeChars t is_ns_char i j
parameter_read t i j d = (d.1.0.0, subst (λ z. SomeChars t is_ns_char z j) (sym d.1.0.1) (names_read t d.0 j d.1.1))

-- [83]
pub reserved_directive_read : (t : List ℕ) (i j : ℕ)
    → (g : ℕ) × ((((is_name_yaml t i ≡ false) × (is_name_tag t i ≡ false)) × (i ≡ g)) × ((k : ℕ) × (SomeChars t is_ns_char g k × Star (λ i j. (h : ℕ) × (SeparateInLine t i h × ((code t h ≢ 35) × SomeChars t is_ns_char h j))) k j)))
    → ReservedRead t i j
reserved_directive_read t i j d = record {
  no_yaml = d.1.0.0.0;
  no_tag = d.1.0.0.1;
  at = d.1.1.0;
  name = subst (λ z. SomeChars t is_ns_char z d.1.1.0) (sym d.1.0.1) d.1.1.1.0;
  words = d.1.1.1.1;
}

-- [87]
pub record VersionRead (t : List ℕ) (i j : ℕ) : Type 0 where
  pub point : ℕ
  pub major : SomeChars t is_digit i point
  pub dot : code t point ≡ 46
  pub minor : SomeChars t is_digit (point + 1) j

pub version_read : (t : List ℕ) (i j : ℕ) → (d : ℕ) × (Plus (CharOf t ns-dec-digit) i d × ((e : ℕ) × (CharOf t (x 46) d e × Plus (CharOf t ns-dec-digit) e j))) → VersionRead t i j
version_read t i j d =
    let a = char_is t d.0 d.1.1.0 46 (omega arith) d.1.1.1.0 in
    record { point = d.0; major = digits_read t i d.0 d.1.0; dot = a.0; minor = subst (λ z. SomeChars t is_digit z j) (sym a.1) (digits_read t d.1.1.0 j d.1.1.1.1) }

-- [86]
pub yaml_directive_read : (t : List ℕ) (i j : ℕ)
    → (a : ℕ) × (CharOf t (x 89) i a × ((b : ℕ) × (CharOf t (x 65) a b × ((c : ℕ) × (CharOf t (x 77) b c × ((d : ℕ) × (CharOf t (x 76) c d × ((g : ℕ) × (SeparateInLine t d g × VersionRead t g j))))))))) → YamlRead t i j
yaml_directive_read t i j r =
    let y = char_is t i r.0 89 (omega arith) r.1.0 in
    let a = char_is t r.0 r.1.1.0 65 (omega arith) r.1.1.1.0 in
    let m = char_is t r.1.1.0 r.1.1.1.1.0 77 (omega arith) r.1.1.1.1.1.0 in
    let l = char_is t r.1.1.1.1.0 r.1.1.1.1.1.1.0 76 (omega arith) r.1.1.1.1.1.1.1.0 in
    let s = r.1.1.1.1.1.1.1.1 in
    let two : r.1.1.0 ≡ i + 2 = omega (arith, y.1, a.1) in
    let three : r.1.1.1.1.0 ≡ i + 3 = omega (arith, two, m.1) in
    let four : r.1.1.1.1.1.1.0 ≡ i + 4 = omega (arith, three, l.1) in
    record {
      y = y.0;
      a = ap (code t) y.1 ∙ a.0;
      m = sym (ap (code t) two) ∙ m.0;
      l = sym (ap (code t) three) ∙ l.0;
      at = s.0;
      separation = subst (λ z. SeparateInLine t z s.0) four s.1.0;
      point = s.1.1.point;
      major = s.1.1.major;
      dot = s.1.1.dot;
      minor = s.1.1.minor;
    }

-- [88]
pub tag_directive_read : (t : List ℕ) (i j : ℕ)
    → (a : ℕ) × (CharOf t (x 84) i a × ((b : ℕ) × (CharOf t (x 65) a b × ((c : ℕ) × (CharOf t (x 71) b c × ((g : ℕ) × (SeparateInLine t c g × ((h : ℕ) × (Handle t g h × ((k : ℕ) × (SeparateInLine t h k × SomeOf (TagPrefix t) k j))))))))))) → TagRead t i j
tag_directive_read t i j r =
    let y = char_is t i r.0 84 (omega arith) r.1.0 in
    let a = char_is t r.0 r.1.1.0 65 (omega arith) r.1.1.1.0 in
    let g = char_is t r.1.1.0 r.1.1.1.1.0 71 (omega arith) r.1.1.1.1.1.0 in
    let s = r.1.1.1.1.1.1 in
    let two : r.1.1.0 ≡ i + 2 = omega (arith, y.1, a.1) in
    let three : r.1.1.1.1.0 ≡ i + 3 = omega (arith, two, g.1) in
    record {
      t1 = y.0;
      a = ap (code t) y.1 ∙ a.0;
      g = sym (ap (code t) two) ∙ g.0;
      at = s.0;
      separation = subst (λ z. SeparateInLine t z s.0) three s.1.0;
      ends = s.1.1.0;
      handle = s.1.1.1.0;
      from = s.1.1.1.1.0;
      again = s.1.1.1.1.1.0;
      prefix = s.1.1.1.1.1.1;
    }

-- [94] and [95]
pub local_prefix_read : (t : List ℕ) (i j : ℕ) → (g : ℕ) × (SignOf t 33 i g × Star (SomeOf (UriChar t)) g j) → SomeOf (TagPrefix t) i j
local_prefix_read t i j d =
    let c = star_chain {S = UriChar t} (λ i j s. s) d.1.1 in (_, local_prefix d.1.0.0 (subst (λ z. Chain (UriChar t) z j c.0) (sym d.1.0.1) c.1))

pub global_prefix_read : (t : List ℕ) (i j : ℕ) → (g : ℕ) × (SomeOf (TagChar t) i g × Star (SomeOf (UriChar t)) g j) → SomeOf (TagPrefix t) i j
global_prefix_read t i j d = let c = star_chain {S = UriChar t} (λ i j s. s) d.1.1 in (_, global_prefix d.1.0.1 c.1)

-- [202] to [205]
mark_is : (t : List ℕ) (i j : ℕ) → CharOf t c-byte-order-mark i j → (code t i ≡ 0xFEFF) × (next t i ≡ j)
unfolding c-byte-order-mark x
mark_is t i j d = (eqb-true (code t i) 0xFEFF d.0, d.1)

comment_parts : {t : List ℕ} {i j : ℕ} → Star (SomeOf (CommentLine t)) i j → SomeOf (Prefixes t) i j
comment_parts none = ([], done)
comment_parts (more c r) = let b = comment_parts r in (_, step (prefix_comment c.1) b.1)

pub prefix_read : (t : List ℕ) (i j : ℕ) → (k : ℕ) × (((i ≡ k) ⊎ CharOf t c-byte-order-mark i k) × Star (SomeOf (CommentLine t)) k j) → SomeOf (Prefixes t) i j
prefix_read t i j d = go d.1.0 where
  go : (i ≡ d.0) ⊎ CharOf t c-byte-order-mark i d.0 → SomeOf (Prefixes t) i j
  go (inl e) = subst (λ z. SomeOf (Prefixes t) z j) (sym e) (comment_parts d.1.1)
  go (inr m) =
      let a = mark_is t i d.0 m in
      let b = comment_parts d.1.1 in
      (_, step (order_mark a.0) (subst (λ z. Prefixes t z j b.0) (sym a.1) b.1))

abbrev pub Three : List ℕ → ℕ → ℕ → ℕ → Type 0
Three t c i j = (is_three t i c ≡ true) × (i + 3 ≡ j)

pub three_read : (t : List ℕ) (c i j : ℕ) → c < 128 → (a : ℕ) × (CharOf t (x c) i a × ((b : ℕ) × (CharOf t (x c) a b × ((d : ℕ) × (CharOf t (x c) b d × (d ≡ j)))))) → Three t c i j
unfolding is_three
three_read t c i j l r =
    let a = char_is t i r.0 c l r.1.0 in
    let b = char_is t r.0 r.1.1.0 c l r.1.1.1.0 in
    let d = char_is t r.1.1.0 r.1.1.1.1.0 c l r.1.1.1.1.1.0 in
    let e : r.1.1.1.1.0 ≡ j = r.1.1.1.1.1.1 in
    let two : r.1.1.0 ≡ i + 2 = omega (arith, a.1, b.1) in
    let one : code t (i + 1) ≡ c = ap (code t) a.1 ∙ b.0 in
    let last : code t (i + 2) ≡ c = sym (ap (code t) two) ∙ d.0 in
    (rw (eq-eqb (code t i) c a.0, eq-eqb (code t (i + 1)) c one, eq-eqb (code t (i + 2)) c last) refl, omega (arith, two, d.1, e))

pub suffix_read : (t : List ℕ) (i j : ℕ) → (k : ℕ) × (Three t 46 i k × SomeOf (LineEnd t) k j) → Suffix t i j
suffix_read t i j d = (d.1.0.0, subst (λ z. SomeOf (LineEnd t) z j) (sym d.1.0.1) d.1.1)

-- [211]: a round of its last star
pub round_read : (t : List ℕ) (e i j : ℕ)
    → ((k : ℕ) × (Plus (Suffix t) i k × ((m : ℕ) × (Star (SomeOf (Prefixes t)) k m × ((m ≡ j) ⊎ Any t e m j))))) ⊎ (CharOf t c-byte-order-mark i j ⊎ (SomeOf (CommentLine t) i j ⊎ SomeExplicit t e i j)) → Round t e i j
round_read t e i j (inl d) = inl d
round_read t e i j (inr (inl d)) = inr (inl (mark_is t i j d))
round_read t e i j (inr (inr d)) = inr (inr d)

-- [206]
ends_by_break : (c : ℕ) → is_break_char c ≡ true → is_white_or_end c ≡ true
unfolding is_white_or_end
ends_by_break c e = rw (e, or-true (is_white c)) refl

pub forbidden_read : (t : List ℕ) (i j : ℕ)
    → (k : ℕ) × ((LineStart t i × (i ≡ k)) × ((m : ℕ) × ((Three t 45 k m ⊎ Three t 46 k m) × (CharOf t b-char m j ⊎ (CharOf t s-white m j ⊎ ((m ≡ length t) × (m ≡ j))))))) → ForbiddenLine t i
unfolding is_marker
forbidden_read t i j d = record { start = d.1.0.0; marker = three d.1.1.1.0 } where
  ended : {m : ℕ} → i + 3 ≡ m → CharOf t b-char m j ⊎ (CharOf t s-white m j ⊎ ((m ≡ length t) × (m ≡ j))) → is_white_or_end (code t (i + 3)) ≡ true
  ended {m} q (inl c) = ap (λ z. is_white_or_end (code t z)) q ∙ ends_by_break (code t m) (sym (break_char_is (code t m)) ∙ c.0)
  ended {m} q (inr (inl c)) = ap (λ z. is_white_or_end (code t z)) q ∙ ends_by_white (code t m) (sym (white_is (code t m)) ∙ c.0)
  ended {m} q (inr (inr c)) = ap (λ z. is_white_or_end (code t z)) (q ∙ c.0) ∙ ap is_white_or_end (code-end t) ∙ ends_at_end

  three : Three t 45 d.0 d.1.1.0 ⊎ Three t 46 d.0 d.1.1.0 → ((is_three t i 45 || is_three t i 46) && is_white_or_end (code t (i + 3))) ≡ true
  three (inl h) =
      let a : is_three t i 45 ≡ true = ap (λ z. is_three t z 45) d.1.0.1 ∙ h.0 in
      let q : i + 3 ≡ d.1.1.0 = ap (λ z. z + 3) d.1.0.1 ∙ h.1 in rw (a, ended q d.1.1.1.1) refl
  three (inr h) =
      let a : is_three t i 46 ≡ true = ap (λ z. is_three t z 46) d.1.0.1 ∙ h.0 in
      let q : i + 3 ≡ d.1.1.0 = ap (λ z. z + 3) d.1.0.1 ∙ h.1 in rw (a, ended q d.1.1.1.1, or-true (is_three t i 45)) refl
