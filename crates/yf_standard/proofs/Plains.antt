-- Plain scalars (7.3.3): the standard's productions and `PlainText` derive the same texts.
use Rattle.std.proofs.Common.{◌≡◌, ℕ, ◌+◌, ◌<◌, ℤ, Bool, true, false, true≢false, ◌&&◌, ◌||◌, ◌==◌, not, List, [], ◌∷◌, ◌++◌, refl, sym, ap, ◌∙◌, subst, ◌⊎◌, inl, inr, arith}
use Rattle.std.proofs.Math.Bool.{and_assoc, or_assoc, or-true, or-false}
use Rattle.std.proofs.lemmas.Bool.{and_parts, eqb-true, or_cases, or_left, or_right}
use Rattle.yf_chars.specs.declared.context.Ctx.{Ctx}
use Rattle.yf_chars.specs.declared.context.Ctx.TheVariants.{BlockOut, BlockIn, FlowOut, FlowIn, BlockKey, FlowKey}
use Rattle.yf_chars.specs.Text.{code, next, before}
use Rattle.yf_chars.specs.Class.{is_white, is_ns_char, is_indicator, is_flow_indicator, is_plain_safe}
use Rattle.yf_chars.specs.Chain.{Chain}
use Rattle.yf_lines.specs.Basic.{FlowFolded, is_flow}
use Rattle.yf_plain.specs.Plain.{is_sign, is_plain_first, is_plain_char, PlainItem, PlainLine, PlainNext, PlainText}
use Rattle.yf_plain.specs.Plain.PlainItem.{set_off}
use Rattle.yf_plain.specs.Plain.PlainLine.{one_line}
use Rattle.yf_plain.specs.Plain.PlainNext.{next_line}
use Rattle.yf_plain.specs.Plain.PlainText.{as_key, as_lines}
use Rattle.yf_standard.specs.Characters.{x, ◌∪◌, ◌∖◌, s-white, ns-char, c-indicator, ns-plain-safe, c-mapping-key, c-mapping-value, c-sequence-entry, c-comment, c-collect-entry, c-sequence-start, c-sequence-end, c-mapping-start, c-mapping-end, c-anchor, c-alias, c-tag, c-literal, c-folded, c-single-quote, c-double-quote, c-directive, c-reserved}
use Rattle.yf_standard.specs.Notation.Form.{ns-plain, ns-plain-first, ns-plain-char, nb-ns-plain-in-line, ns-plain-one-line, s-ns-plain-next-line, ‹◌›, ◌⋆, ◌∙◌ as ◌then◌}
use Rattle.yf_standard.specs.Productions.{rule}
use Rattle.yf_standard.specs.Rules.{read}
use Rattle.yf_standard.specs.Literal.{kind}
use Rattle.yf_standard.specs.Literal.Derived.{by_rule, one_of, one_then, in_left, in_right, where_holds}
use Rattle.yf_standard.proofs.Reading.{Star}
use Rattle.yf_standard.proofs.Basics.{SomeOf, CharOf, star_chain, chars_many}
use Rattle.yf_standard.proofs.BasicsMade.{Read, chars_made, many_made, flow_folded_made}
use Rattle.yf_standard.proofs.Sets.{white_is, ns_char_is, plain_safe_is}
use Rattle.yf_chars.proofs.TextLemmas.{next_ascii}
use Rattle.yf_plain.proofs.PlainLemmas.{sign_below}

swap : (m d e f g h : Bool) → (m || d || e || f || g || h) ≡ (d || e || f || g || h || m)
swap true d e f g h = sym (or-true (d || e || f || g || h))
swap false d e f g h = sym (or-false (d || e || f || g || h))

apart : (q a b c : Bool) → (q || (a || b || c)) ≡ (q || a || b || c)
apart true a b c = refl
apart false a b c = refl

indicator_is : (c : ℕ) → c-indicator c ≡ is_indicator c
unfolding c-indicator c-mapping-key c-mapping-value c-sequence-entry c-comment c-collect-entry c-sequence-start c-sequence-end c-mapping-start c-mapping-end c-anchor c-alias c-tag c-literal c-folded c-single-quote c-double-quote c-directive c-reserved x ◌∪◌ is_indicator is_flow_indicator
indicator_is c =
    let m = (c == 45) || (c == 63) || (c == 58) in
    let q = (c == 44) || (c == 91) || (c == 93) || (c == 123) || (c == 125) in
    let first : (m || (c == 44) || (c == 91) || (c == 93) || (c == 123) || (c == 125)) ≡ (q || (c == 45) || (c == 63) || (c == 58)) =
    swap m (c == 44) (c == 91) (c == 93) (c == 123) (c == 125) ∙ apart q (c == 45) (c == 63) (c == 58) in
    ap (λ b. b || (c == 35) || (c == 38) || (c == 42) || (c == 33) || (c == 124) || (c == 62) || (c == 39) || (c == 34) || (c == 37) || ((c == 64) || (c == 96))) first
    ∙ sym (or_assoc (q || (c == 45) || (c == 63) || (c == 58) || (c == 35) || (c == 38) || (c == 42) || (c == 33) || (c == 124) || (c == 62) || (c == 39) || (c == 34) || (c == 37)) (c == 64) (c == 96))

-- [126]
sign_is : (c : ℕ) → (c-mapping-key ∪ c-mapping-value ∪ c-sequence-entry) c ≡ is_sign c
unfolding c-mapping-key c-mapping-value c-sequence-entry x ◌∪◌ is_sign
sign_is c = refl

no_indicator_is : (c : ℕ) → (ns-char ∖ c-indicator) c ≡ (is_ns_char c && not (is_indicator c))
unfolding ◌∖◌
no_indicator_is c = rw (ns_char_is c, indicator_is c) refl

safe_code_is : (k : Ctx) (c : ℕ) → (ns-plain-safe k ∖ c-mapping-value ∖ c-comment) c ≡ (is_plain_safe c k && (not (c == 58) && not (c == 35)))
unfolding ◌∖◌ c-mapping-value c-comment x
safe_code_is k c = rw (plain_safe_is k c) (and_assoc (is_plain_safe c k) (not (c == 58)) (not (c == 35)))

pub first_read : (t : List ℕ) (c : Ctx) (i j : ℕ)
    → CharOf t (ns-char ∖ c-indicator) i j ⊎ ((k : ℕ) × (CharOf t (c-mapping-key ∪ c-mapping-value ∪ c-sequence-entry) i k × ((ns-plain-safe c (code t k) ≡ true) × (k ≡ j))))
    → (is_plain_first t c i ≡ true) × (next t i ≡ j)
unfolding is_plain_first
first_read t c i j (inl d) =
    (or_left (is_ns_char (code t i) && not (is_indicator (code t i))) (is_sign (code t i) && is_plain_safe (code t (i + 1)) c) (sym (no_indicator_is (code t i)) ∙ d.0), d.1)
first_read t c i j (inr d) =
    let a : is_sign (code t i) ≡ true = sym (sign_is (code t i)) ∙ d.1.0.0 in
    let n : next t i ≡ i + 1 = next_ascii t i (sign_below (code t i) a) in
    let k : d.0 ≡ i + 1 = sym d.1.0.1 ∙ n in
    let b : is_plain_safe (code t (i + 1)) c ≡ true = sym (ap (λ p. is_plain_safe (code t p) c) k) ∙ sym (plain_safe_is c (code t d.0)) ∙ d.1.1.0 in
    (or_right (is_ns_char (code t i) && not (is_indicator (code t i))) (is_sign (code t i) && is_plain_safe (code t (i + 1)) c) (rw (a, b) refl), d.1.0.1 ∙ d.1.1.1)

colon_below : (c : ℕ) → (c == 58) ≡ true → c < 128
colon_below c e = let q : c ≡ 58 = eqb-true c 58 e in omega arith

-- [130]
pub char_read : (t : List ℕ) (c : Ctx) (i j : ℕ)
    → CharOf t (ns-plain-safe c ∖ c-mapping-value ∖ c-comment) i j
    ⊎ (((k : ℕ) × (((ns-char (before t i) ≡ true) × (i ≡ k)) × CharOf t c-comment k j))
    ⊎ ((k : ℕ) × (CharOf t c-mapping-value i k × ((ns-plain-safe c (code t k) ≡ true) × (k ≡ j)))))
    → (is_plain_char t c i ≡ true) × (next t i ≡ j)
unfolding is_plain_char c-comment c-mapping-value x
char_read t c i j (inl d) =
    (or_left A2 C (or_left A B (sym (safe_code_is c (code t i)) ∙ d.0)), d.1)
  where
    A : Bool
    A = is_plain_safe (code t i) c && (not (code t i == 58) && not (code t i == 35))

    B : Bool
    B = (code t i == 35) && is_ns_char (before t i)

    C : Bool
    C = (code t i == 58) && is_plain_safe (code t (i + 1)) c

    A2 : Bool
    A2 = A || B
char_read t c i j (inr (inl d)) =
    let e : i ≡ d.0 = d.1.0.1 in
    let q : (code t i == 35) ≡ true = ap (λ p. code t p == 35) e ∙ d.1.1.0 in
    let r : is_ns_char (before t i) ≡ true = sym (ns_char_is (before t i)) ∙ d.1.0.0 in
    let b : ((code t i == 35) && is_ns_char (before t i)) ≡ true = rw (q, r) refl in (
      or_left ((is_plain_safe (code t i) c && (not (code t i == 58) && not (code t i == 35))) || ((code t i == 35) && is_ns_char (before t i)))
          ((code t i == 58) && is_plain_safe (code t (i + 1)) c)
          (or_right (is_plain_safe (code t i) c && (not (code t i == 58) && not (code t i == 35))) ((code t i == 35) && is_ns_char (before t i)) b),
      ap (next t) e ∙ d.1.1.1,
    )
char_read t c i j (inr (inr d)) =
    let n : next t i ≡ i + 1 = next_ascii t i (colon_below (code t i) d.1.0.0) in
    let k : d.0 ≡ i + 1 = sym d.1.0.1 ∙ n in
    let b : is_plain_safe (code t (i + 1)) c ≡ true = sym (ap (λ p. is_plain_safe (code t p) c) k) ∙ sym (plain_safe_is c (code t d.0)) ∙ d.1.1.0 in
    let both : ((code t i == 58) && is_plain_safe (code t (i + 1)) c) ≡ true = rw (d.1.0.0, b) refl in (
      or_right ((is_plain_safe (code t i) c && (not (code t i == 58) && not (code t i == 35))) || ((code t i == 35) && is_ns_char (before t i)))
          ((code t i == 58) && is_plain_safe (code t (i + 1)) c) both,
      d.1.0.1 ∙ d.1.1.1,
    )

-- [132] to [135]
pub item_read : (t : List ℕ) (c : Ctx) (i j : ℕ) → (h : ℕ) × (Star (CharOf t s-white) i h × ((is_plain_char t c h ≡ true) × (next t h ≡ j))) → SomeOf (PlainItem t c) i j
item_read t c i j d =
    let m = chars_many {t = t} {s = s-white} {p = is_white} white_is d.1.0 in
    (m.0 ++ code t d.0 ∷ [], subst (λ k. PlainItem t c i k (m.0 ++ code t d.0 ∷ [])) d.1.1.1 (set_off m.1 d.1.1.0))

pub line_read : (t : List ℕ) (c : Ctx) (i j : ℕ) → (h : ℕ) × (((is_plain_first t c i ≡ true) × (next t i ≡ h)) × SomeOf (Chain (PlainItem t c)) h j) → SomeOf (PlainLine t c) i j
line_read t c i j d =
    (code t i ∷ d.1.1.0, one_line d.1.0.0 (subst (λ k. Chain (PlainItem t c) k j d.1.1.0) (sym d.1.0.1) d.1.1.1))

pub next_read : (t : List ℕ) (n : ℤ) (c : Ctx) (i j : ℕ)
    → (h : ℕ) × (SomeOf (FlowFolded t n) i h × ((k : ℕ) × (((is_plain_char t c h ≡ true) × (next t h ≡ k)) × SomeOf (Chain (PlainItem t c)) k j)))
    → SomeOf (PlainNext t n c) i j
next_read t n c i j d =
    let r = d.1.1.1.1 in
    let q = d.1.1.1.0 in
    (d.1.0.0 ++ code t d.0 ∷ r.0, next_line d.1.0.1 q.0 (subst (λ k. Chain (PlainItem t c) k j r.0) (sym q.1) r.1))

pub multi_read : (t : List ℕ) (n : ℤ) (c : Ctx) (i j : ℕ) → is_flow c ≡ true → (h : ℕ) × (SomeOf (PlainLine t c) i h × Star (SomeOf (PlainNext t n c)) h j) → SomeOf (PlainText t n c) i j
multi_read t n c i j e d =
    let r = star_chain {S = PlainNext t n c} (λ i j s. s) d.1.1 in
    (d.1.0.0 ++ r.0, as_lines e d.1.0.1 r.1)

-- the other way
pub first_made : {room : ℕ} (t : List ℕ) (c : Ctx) (i : ℕ) → is_plain_first t c i ≡ true → Read t room (ns-plain-first c) i (next t i)
unfolding is_plain_first rule kind read
first_made {room = room} t c i e = go (or_cases (is_ns_char (code t i) && not (is_indicator (code t i))) (is_sign (code t i) && is_plain_safe (code t (i + 1)) c) e) where
  go : ((is_ns_char (code t i) && not (is_indicator (code t i))) ≡ true) ⊎ ((is_sign (code t i) && is_plain_safe (code t (i + 1)) c) ≡ true)
      → Read t room (ns-plain-first c) i (next t i)
  go (inl a) = by_rule refl (in_left (one_of (no_indicator_is (code t i) ∙ a)))
  go (inr b) =
      let p = and_parts (is_sign (code t i)) (is_plain_safe (code t (i + 1)) c) b in
      let n : i + 1 ≡ next t i = sym (next_ascii t i (sign_below (code t i) p.0)) in
      let s : ns-plain-safe c (code t (next t i)) ≡ true = sym (ap (λ k. ns-plain-safe c (code t k)) n) ∙ plain_safe_is c (code t (i + 1)) ∙ p.1 in
      by_rule refl (in_right (one_then (one_of (sign_is (code t i) ∙ p.0)) (where_holds s)))

pub char_made : {room : ℕ} (t : List ℕ) (c : Ctx) (i : ℕ) → is_plain_char t c i ≡ true → Read t room (ns-plain-char c) i (next t i)
unfolding is_plain_char rule kind read c-comment c-mapping-value x
char_made {room = room} t c i e =
    go (or_cases ((is_plain_safe (code t i) c && (not (code t i == 58) && not (code t i == 35))) || ((code t i == 35) && is_ns_char (before t i)))
    ((code t i == 58) && is_plain_safe (code t (i + 1)) c) e) where
      inner : ((is_plain_safe (code t i) c && (not (code t i == 58) && not (code t i == 35))) ≡ true) ⊎ (((code t i == 35) && is_ns_char (before t i)) ≡ true)
          → Read t room (ns-plain-char c) i (next t i)
      inner (inl a) = by_rule refl (in_left (one_of (safe_code_is c (code t i) ∙ a)))
      inner (inr b) =
          let p = and_parts (code t i == 35) (is_ns_char (before t i)) b in
          by_rule refl (in_right (in_left (one_then (where_holds (ns_char_is (before t i) ∙ p.1)) (one_of p.0))))

      go : (((is_plain_safe (code t i) c && (not (code t i == 58) && not (code t i == 35))) || ((code t i == 35) && is_ns_char (before t i))) ≡ true)
          ⊎ (((code t i == 58) && is_plain_safe (code t (i + 1)) c) ≡ true) → Read t room (ns-plain-char c) i (next t i)
      go (inl a) = inner (or_cases (is_plain_safe (code t i) c && (not (code t i == 58) && not (code t i == 35))) ((code t i == 35) && is_ns_char (before t i)) a)
      go (inr b) =
          let p = and_parts (code t i == 58) (is_plain_safe (code t (i + 1)) c) b in
          let n : i + 1 ≡ next t i = sym (next_ascii t i (colon_below (code t i) p.0)) in
          let s : ns-plain-safe c (code t (next t i)) ≡ true = sym (ap (λ k. ns-plain-safe c (code t k)) n) ∙ plain_safe_is c (code t (i + 1)) ∙ p.1 in
          by_rule refl (in_right (in_right (one_then (one_of p.0) (where_holds s))))

pub items_made : {room : ℕ} {t : List ℕ} {c : Ctx} {i j : ℕ} {w : List ℕ} → Chain (PlainItem t c) i j w → Read t room (nb-ns-plain-in-line c) i j
unfolding rule kind
items_made {room = room} {t = t} {c = c} r = by_rule refl (many_made item r) where
  item : (i j : ℕ) (w : List ℕ) → PlainItem t c i j w → Read t room (‹ s-white › ⋆ then ns-plain-char c) i j
  item i j w (set_off {h = h} m e) = one_then (chars_made white_is m) (char_made t c h e)

pub line_made : {room : ℕ} {t : List ℕ} {c : Ctx} {i j : ℕ} {w : List ℕ} → PlainLine t c i j w → Read t room (ns-plain-one-line c) i j
unfolding rule kind
line_made {room = room} {t = t} {c = c} (one_line {i = i} e r) = by_rule refl (one_then (first_made t c i e) (items_made r))

pub next_made : {room : ℕ} {t : List ℕ} {n : ℤ} {c : Ctx} (i j : ℕ) (w : List ℕ) → PlainNext t n c i j w → Read t room (s-ns-plain-next-line n c) i j
unfolding rule kind
next_made {room = room} {t = t} {n = n} {c = c} i j w (next_line {h = h} f e r) = by_rule refl (one_then (flow_folded_made f) (one_then (char_made t c h e) (items_made r)))

pub plain_made : {room : ℕ} {t : List ℕ} {n : ℤ} {c : Ctx} {i j : ℕ} {w : List ℕ} → PlainText t n c i j w → Read t room (ns-plain n c) i j
unfolding rule kind
plain_made {room = room} {c = BlockKey} (as_key e l) = by_rule refl (line_made l)
plain_made {room = room} {c = FlowKey} (as_key e l) = by_rule refl (line_made l)
plain_made {room = room} {c = BlockOut} (as_key e l) = absurd (true≢false (sym e))
plain_made {room = room} {c = BlockIn} (as_key e l) = absurd (true≢false (sym e))
plain_made {room = room} {c = FlowOut} (as_key e l) = absurd (true≢false (sym e))
plain_made {room = room} {c = FlowIn} (as_key e l) = absurd (true≢false (sym e))
plain_made {room = room} {c = FlowOut} (as_lines e l r) = by_rule refl (by_rule refl (one_then (line_made l) (many_made next_made r)))
plain_made {room = room} {c = FlowIn} (as_lines e l r) = by_rule refl (by_rule refl (one_then (line_made l) (many_made next_made r)))
plain_made {room = room} {c = BlockOut} (as_lines e l r) = absurd (true≢false (sym e))
plain_made {room = room} {c = BlockIn} (as_lines e l r) = absurd (true≢false (sym e))
plain_made {room = room} {c = BlockKey} (as_lines e l r) = absurd (true≢false (sym e))
plain_made {room = room} {c = FlowKey} (as_lines e l r) = absurd (true≢false (sym e))
