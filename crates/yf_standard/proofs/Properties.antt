-- Aliases, anchors, tags and properties (5.6, 6.8.2, 6.9, 7.1): from the standard's productions to the relations of
-- `Names`.
use Rattle.std.proofs.Common.{◌≡◌, ◌≢◌, ℕ, ◌+◌, ◌<◌, ◌≤◌, ℤ, Bool, true, false, true≢false, ◌||◌, ◌==◌, List, ◌++◌, refl, sym, ap, ◌∙◌, subst, ◌⊎◌, inl, inr, arith, slice_range}
use Rattle.yf_chars.specs.declared.context.Ctx.{Ctx}
use Rattle.yf_chars.specs.Text.{code}
use Rattle.yf_chars.specs.Class.{is_anchor_char, is_word_char, is_uri_char, is_tag_char, is_hex_digit, is_flow_indicator}
use Rattle.yf_chars.specs.Chain.{Chain, Stuck, One, Many}
use Rattle.yf_chars.specs.Chain.One.{one}
use Rattle.yf_chars.specs.Chain.Chain.{done, step}
use Rattle.yf_comments.specs.Comments.{Separate}
use Rattle.yf_props.specs.Names.{SpelledChar, AnchorChar, WordChar, UriChar, TagChar, Run, Anchor, Alias, Handle, VerbatimTag, TagProperty, Properties}
use Rattle.yf_props.specs.Names.SpelledChar.{as_itself, as_escape}
use Rattle.yf_props.specs.Names.Anchor.{ampersand_name}
use Rattle.yf_props.specs.Names.Alias.{asterisk_name}
use Rattle.yf_props.specs.Names.Handle.{primary_handle, secondary_handle, named_handle}
use Rattle.yf_props.specs.Names.VerbatimTag.{in_brackets}
use Rattle.yf_props.specs.Names.ShorthandTag.{handle_suffix}
use Rattle.yf_props.specs.Names.TagProperty.{verbatim_tag, shorthand_tag, non_specific_tag}
use Rattle.yf_props.specs.Names.Properties.{by_tag, by_anchor, tag_first, anchor_first}
use Rattle.yf_standard.specs.Characters.{x, ◌∪◌, c-tag, c-flow-indicator, ns-anchor-char, ns-word-char, ns-hex-digit}
use Rattle.yf_standard.proofs.Reading.{Star}
use Rattle.yf_standard.proofs.Basics.{SomeOf, CharOf, chars_some, star_chain}
use Rattle.yf_standard.proofs.Sets.{anchor_char_is, word_char_is, hex_digit_is, flow_indicator_is}
use Rattle.yf_standard.proofs.Flows.{SignOf}
use Rattle.yf_chars.proofs.TextLemmas.{next_ascii, next_later}
use Rattle.yf_chars.proofs.CharFacts.{exclamation_no_word}
use Rattle.yf_lines.proofs.CoreSteady.{either_way}
use Rattle.yf_props.proofs.TagLemmas.{close_uri, hex_below}

none_of : (t : List ℕ) (p : ℕ → Bool) (j : ℕ) → p (code t j) ≡ false → Stuck (One t p j)
none_of t p j e = record { none = λ k y d. no d } where
  no : {k : ℕ} {y : List ℕ} → One t p j k y → ⊥
  no (one h) = true≢false (sym h ∙ e)

run_is : (t : List ℕ) (p : ℕ → Bool) (i j : ℕ) → ((w : List ℕ) × (Many t p i j w × (i < j))) → p (code t j) ≡ false → Run (One t p) i j
run_is t p i j d e = record { characters = d.0; chain = d.1.0; some = d.1.1; all = none_of t p j e }

-- [103]
pub name_read : (t : List ℕ) (i j : ℕ)
    → (k : ℕ) × (((g : ℕ) × (CharOf t ns-anchor-char i g × Star (CharOf t ns-anchor-char) g k)) × ((is_anchor_char (code t k) ≡ false) × (k ≡ j))) → Run (AnchorChar t) i j
name_read t i j d =
    let r = chars_some {t = t} {s = ns-anchor-char} {p = is_anchor_char} anchor_char_is d.1.0.1.0 d.1.0.1.1 in
    subst (λ z. Run (AnchorChar t) i z) d.1.1.1 (run_is t is_anchor_char i d.0 r d.1.1.0)

-- [101] and [104]
pub anchor_read : (t : List ℕ) (i j : ℕ) → (g : ℕ) × (SignOf t 38 i g × Run (AnchorChar t) g j) → SomeOf (Anchor t) i j
anchor_read t i j d = (slice_range t (i + 1) j, ampersand_name d.1.0.0 (subst (λ z. Run (AnchorChar t) z j) (sym d.1.0.1) d.1.1))

pub alias_read : (t : List ℕ) (i j : ℕ) → (g : ℕ) × (SignOf t 42 i g × Run (AnchorChar t) g j) → SomeOf (Alias t) i j
alias_read t i j d = (slice_range t (i + 1) j, asterisk_name d.1.0.0 (subst (λ z. Run (AnchorChar t) z j) (sym d.1.0.1) d.1.1))

-- [39]: one of the signs, by cases of the word characters
signs : (w a b c d e f g h i j k l m n o p q r s u v : Bool)
    → (w || (a || b || c || d || e || f || g || h || i || j || k || l || m || n || o || p || q || r || s || u || v))
    ≡ (w || a || b || c || d || e || f || g || h || i || j || k || l || m || n || o || p || q || r || s || u || v)
signs true a b c d e f g h i j k l m n o p q r s u v = refl
signs false a b c d e f g h i j k l m n o p q r s u v = refl

unfoldable pub uri_signs : ℕ → Bool
unfolding x ◌∪◌
uri_signs = x 35 ∪ x 59 ∪ x 47 ∪ x 63 ∪ x 58 ∪ x 64 ∪ x 38 ∪ x 61 ∪ x 43 ∪ x 36 ∪ x 44 ∪ x 95 ∪ x 46 ∪ x 33 ∪ x 126 ∪ x 42 ∪ x 39 ∪ x 40 ∪ x 41 ∪ x 91 ∪ x 93

pub uri_is : (c : ℕ) → (is_word_char c || uri_signs c) ≡ is_uri_char c
unfolding uri_signs x ◌∪◌ is_uri_char
uri_is c = signs (is_word_char c) (c == 35) (c == 59) (c == 47) (c == 63) (c == 58) (c == 64) (c == 38) (c == 61) (c == 43) (c == 36) (c == 44) (c == 95) (c == 46) (c == 33) (c == 126) (c == 42) (c == 39) (c == 40) (c == 41) (c == 91) (c == 93)

-- % and two digits
escape_read : (t : List ℕ) (p : ℕ → Bool) (i j : ℕ)
    → (g : ℕ) × (SignOf t 37 i g × ((h : ℕ) × (CharOf t ns-hex-digit g h × ((k : ℕ) × (CharOf t ns-hex-digit h k × (k ≡ j)))))) → SomeOf (SpelledChar t p) i j
escape_read t p i j d =
    let a : is_hex_digit (code t d.0) ≡ true = sym (hex_digit_is (code t d.0)) ∙ d.1.1.1.0.0 in
    let h : d.1.1.0 ≡ d.0 + 1 = sym d.1.1.1.0.1 ∙ next_ascii t d.0 (hex_below (code t d.0) a) in
    let b : is_hex_digit (code t d.1.1.0) ≡ true = sym (hex_digit_is (code t d.1.1.0)) ∙ d.1.1.1.1.1.0.0 in
    let k : d.1.1.1.1.0 ≡ d.1.1.0 + 1 = sym d.1.1.1.1.1.0.1 ∙ next_ascii t d.1.1.0 (hex_below (code t d.1.1.0) b) in
    let first : is_hex_digit (code t (i + 1)) ≡ true = ap (λ z. is_hex_digit (code t z)) d.1.0.1 ∙ a in
    let two : i + 2 ≡ d.1.1.0 = omega (arith, h, d.1.0.1) in
    let second : is_hex_digit (code t (i + 2)) ≡ true = ap (λ z. is_hex_digit (code t z)) two ∙ b in
    let end : i + 3 ≡ j = omega (arith, two, k, d.1.1.1.1.1.1) in
    subst (λ z. SomeOf (SpelledChar t p) i z) end (_, as_escape d.1.0.0 first second)

pub uri_read : (t : List ℕ) (i j : ℕ)
    → ((g : ℕ) × (SignOf t 37 i g × ((h : ℕ) × (CharOf t ns-hex-digit g h × ((k : ℕ) × (CharOf t ns-hex-digit h k × (k ≡ j)))))))
    ⊎ (CharOf t ns-word-char i j ⊎ CharOf t uri_signs i j) → SomeOf (UriChar t) i j
uri_read t i j (inl d) = escape_read t is_uri_char i j d
uri_read t i j (inr (inl d)) =
    let e = sym (uri_is (code t i)) ∙ either_way (is_word_char (code t i)) (uri_signs (code t i)) (inl (sym (word_char_is (code t i)) ∙ d.0)) in
    subst (λ z. SomeOf (UriChar t) i z) d.1 (_, as_itself e)
uri_read t i j (inr (inr d)) =
    let e = sym (uri_is (code t i)) ∙ either_way (is_word_char (code t i)) (uri_signs (code t i)) (inr d.0) in
    subst (λ z. SomeOf (UriChar t) i z) d.1 (_, as_itself e)

-- [40]
pub tag_char_read : (t : List ℕ) (i j : ℕ) → (SomeOf (UriChar t) i j × (c-tag (code t i) ≡ false)) × (c-flow-indicator (code t i) ≡ false) → SomeOf (TagChar t) i j
unfolding c-tag x is_tag_char
tag_char_read t i j d = go d.0.0.1 where
  go : {j : ℕ} {w : List ℕ} → SpelledChar t is_uri_char i j w → SomeOf (TagChar t) i j
  go (as_itself e) =
      let f : is_flow_indicator (code t i) ≡ false = sym (flow_indicator_is (code t i)) ∙ d.1 in
      (_, as_itself (rw (e, d.0.1, f) refl))
  go (as_escape a b c) = (_, as_escape a b c)

-- one or more characters of a name, as many as possible
spelled_later : {t : List ℕ} {p : ℕ → Bool} {i j : ℕ} {w : List ℕ} → SpelledChar t p i j w → i < j
spelled_later {t} (as_itself {i = i} e) = next_later t i
spelled_later (as_escape a b c) = omega arith

spelled_order : {t : List ℕ} {p : ℕ → Bool} {i j : ℕ} {w : List ℕ} → Chain (SpelledChar t p) i j w → i ≤ j
spelled_order done = omega arith
spelled_order (step s c) = let a = spelled_later s in let b = spelled_order c in omega arith

pub spelled_run : (t : List ℕ) (p : ℕ → Bool) (i k j : ℕ) → SomeOf (SpelledChar t p) i k → Star (SomeOf (SpelledChar t p)) k j → Stuck (SpelledChar t p j) → Run (SpelledChar t p) i j
spelled_run t p i k j s r n =
    let c = star_chain {S = SpelledChar t p} (λ i j s. s) r in
    let a = spelled_later s.1 in
    let b = spelled_order c.1 in
    record { characters = s.0 ++ c.0; chain = step s.1 c.1; some = omega arith; all = n }

no_spelled : (t : List ℕ) (p : ℕ → Bool) (j : ℕ) → p (code t j) ≡ false → code t j ≢ 37 → Stuck (SpelledChar t p j)
no_spelled t p j e n = record { none = λ k y d. no d } where
  no : {k : ℕ} {y : List ℕ} → SpelledChar t p j k y → ⊥
  no (as_itself h) = true≢false (sym h ∙ e)
  no (as_escape a b c) = n a

-- [98]
pub verbatim_read : (t : List ℕ) (i j : ℕ)
    → (g : ℕ) × (SignOf t 33 i g × ((h : ℕ) × (SignOf t 60 g h × ((k : ℕ) × (((f : ℕ) × (SomeOf (UriChar t) h f × Star (SomeOf (UriChar t)) f k)) × SignOf t 62 k j)))))
    → SomeOf (VerbatimTag t) i j
verbatim_read t i j d =
    let e : code t d.1.1.1.1.0 ≡ 62 = d.1.1.1.1.1.1.0 in
    let n = no_spelled t is_uri_char d.1.1.1.1.0 (ap is_uri_char e ∙ close_uri) (omega (arith, e)) in
    let r = spelled_run t is_uri_char d.1.1.0 d.1.1.1.1.1.0.0 d.1.1.1.1.0 d.1.1.1.1.1.0.1.0 d.1.1.1.1.1.0.1.1 n in
    let at : d.1.1.0 ≡ i + 2 = omega (arith, d.1.0.1, d.1.1.1.0.1) in
    let less : code t (i + 1) ≡ 60 = ap (code t) d.1.0.1 ∙ d.1.1.1.0.0 in
    subst (λ z. SomeOf (VerbatimTag t) i z) d.1.1.1.1.1.1.1 (_, in_brackets d.1.0.0 less (subst (λ z. Run (UriChar t) z d.1.1.1.1.0) at r) e)

-- [89] to [92]
pub handle_read : (t : List ℕ) (i j : ℕ)
    → ((g : ℕ) × (SignOf t 33 i g × ((k : ℕ) × (((f : ℕ) × (CharOf t ns-word-char g f × Star (CharOf t ns-word-char) f k)) × SignOf t 33 k j))))
    ⊎ (((g : ℕ) × (SignOf t 33 i g × SignOf t 33 g j)) ⊎ SignOf t 33 i j) → Handle t i j
handle_read t i j (inl d) =
    let w = chars_some {t = t} {s = ns-word-char} {p = is_word_char} word_char_is d.1.1.1.0.1.0 d.1.1.1.0.1.1 in
    let r = run_is t is_word_char d.0 d.1.1.0 w (ap is_word_char d.1.1.1.1.0 ∙ exclamation_no_word) in
    subst (λ z. Handle t i z) d.1.1.1.1.1 (named_handle d.1.0.0 (subst (λ z. Run (WordChar t) z d.1.1.0) (sym d.1.0.1) r) d.1.1.1.1.0)
handle_read t i j (inr (inl d)) =
    let e : i + 2 ≡ j = omega (arith, d.1.0.1, d.1.1.1) in
    subst (λ z. Handle t i z) e (secondary_handle d.1.0.0 (ap (code t) d.1.0.1 ∙ d.1.1.0))
handle_read t i j (inr (inr d)) = subst (λ z. Handle t i z) d.1 (primary_handle d.0)

-- [99], [100] and [97]
pub tag_read : (t : List ℕ) (i j : ℕ)
    → SomeOf (VerbatimTag t) i j
    ⊎ (((h : ℕ) × (Handle t i h × ((k : ℕ) × (((f : ℕ) × (SomeOf (TagChar t) h f × Star (SomeOf (TagChar t)) f k)) × (Stuck (TagChar t k) × (k ≡ j))))))
    ⊎ ((g : ℕ) × (SignOf t 33 i g × (Stuck (TagChar t g) × (g ≡ j))))) → SomeOf (TagProperty t) i j
tag_read t i j (inl d) = (_, verbatim_tag d.1)
tag_read t i j (inr (inl d)) =
    let r = spelled_run t is_tag_char d.0 d.1.1.1.0.0 d.1.1.0 d.1.1.1.0.1.0 d.1.1.1.0.1.1 d.1.1.1.1.0 in
    subst (λ z. SomeOf (TagProperty t) i z) d.1.1.1.1.1 (_, shorthand_tag (handle_suffix d.1.0 r))
tag_read t i j (inr (inr d)) =
    subst (λ z. SomeOf (TagProperty t) i z) (d.1.0.1 ∙ d.1.1.1) (_, non_specific_tag d.1.0.0 (subst (λ z. Stuck (TagChar t z)) (sym d.1.0.1) d.1.1.0))

-- [96]
pub properties_read : (t : List ℕ) (n : ℤ) (c : Ctx) (i j : ℕ)
    → ((h : ℕ) × (SomeOf (TagProperty t) i h × ((h ≡ j) ⊎ ((k : ℕ) × (SomeOf (Separate t n c) h k × SomeOf (Anchor t) k j)))))
    ⊎ ((h : ℕ) × (SomeOf (Anchor t) i h × ((h ≡ j) ⊎ ((k : ℕ) × (SomeOf (Separate t n c) h k × SomeOf (TagProperty t) k j))))) → SomeOf (Properties t n c) i j
properties_read t n c i j (inl d) = go d.1.1 where
  go : (d.0 ≡ j) ⊎ ((k : ℕ) × (SomeOf (Separate t n c) d.0 k × SomeOf (Anchor t) k j)) → SomeOf (Properties t n c) i j
  go (inl e) = subst (λ z. SomeOf (Properties t n c) i z) e (_, by_tag d.1.0.1)
  go (inr r) = (_, tag_first d.1.0.1 r.1.0.1 r.1.1.1)
properties_read t n c i j (inr d) = go d.1.1 where
  go : (d.0 ≡ j) ⊎ ((k : ℕ) × (SomeOf (Separate t n c) d.0 k × SomeOf (TagProperty t) k j)) → SomeOf (Properties t n c) i j
  go (inl e) = subst (λ z. SomeOf (Properties t n c) i z) e (_, by_anchor d.1.0.1)
  go (inr r) = (_, anchor_first d.1.0.1 r.1.0.1 r.1.1.1)
