-- Aliases, anchors, tags and properties (5.6, 6.8.2, 6.9, 7.1): from the relations of `Names` to the standard's
-- productions.
use Rattle.std.proofs.Common.{◌≡◌, ℕ, ◌+◌, ◌<◌, ℤ, Bool, true, false, true≢false, ◌&&◌, ◌==◌, not, List, [], ◌∷◌, refl, sym, ap, ◌∙◌, subst, ⊎_elim, arith}
use Rattle.std.proofs.lemmas.Bool.{cases_Bool, and_parts, or_cases}
use Rattle.yf_chars.specs.declared.context.Ctx.{Ctx}
use Rattle.yf_chars.specs.Text.{code, next}
use Rattle.yf_chars.specs.Class.{is_anchor_char, is_word_char, is_uri_char, is_tag_char, is_hex_digit, is_flow_indicator}
use Rattle.yf_chars.specs.Chain.{Chain, Stuck}
use Rattle.yf_chars.specs.Chain.One.{one}
use Rattle.yf_chars.specs.Chain.Chain.{done, step}
use Rattle.yf_props.specs.Props.{TagValue}
use Rattle.yf_props.specs.Names.{AnchorChar, UriChar, TagChar, Run, Anchor, Alias, Handle, TagPrefix, VerbatimTag, ShorthandTag, TagProperty, PropertiesValue, Properties}
use Rattle.yf_props.specs.Names.SpelledChar.{as_itself, as_escape}
use Rattle.yf_props.specs.Names.Anchor.{ampersand_name}
use Rattle.yf_props.specs.Names.Alias.{asterisk_name}
use Rattle.yf_props.specs.Names.Handle.{primary_handle, secondary_handle, named_handle}
use Rattle.yf_props.specs.Names.TagPrefix.{local_prefix, global_prefix}
use Rattle.yf_props.specs.Names.VerbatimTag.{in_brackets}
use Rattle.yf_props.specs.Names.ShorthandTag.{handle_suffix}
use Rattle.yf_props.specs.Names.TagProperty.{verbatim_tag, shorthand_tag, non_specific_tag}
use Rattle.yf_props.specs.Names.Properties.{by_tag, by_anchor, tag_first, anchor_first}
use Rattle.yf_standard.specs.Characters.{x, c-anchor, c-alias, c-tag, ns-hex-digit}
use Rattle.yf_standard.specs.Notation.{Form}
use Rattle.yf_standard.specs.Notation.Form.{‹◌›, ◌⁺, ns-uri-char, ns-tag-char, c-tag-handle, ns-tag-prefix, c-ns-properties, c-ns-tag-property, c-verbatim-tag, c-ns-shorthand-tag, c-ns-anchor-property, ns-anchor-name, c-ns-alias-node}
use Rattle.yf_standard.specs.Productions.{rule}
use Rattle.yf_standard.specs.Rules.{read}
use Rattle.yf_standard.specs.Literal.{kind}
use Rattle.yf_standard.specs.Literal.Derived.{by_rule, nothing, one_of, one_then, in_left, in_right, absent, present, at_least_one, without, where_holds}
use Rattle.yf_standard.proofs.BasicsMade.{Read, one_char, many_made, some_chars_made, separate_made}
use Rattle.yf_standard.proofs.Properties.{uri_signs, uri_is}
use Rattle.yf_standard.proofs.Sets.{anchor_char_is, word_char_is, hex_digit_is, flow_indicator_is}
use Rattle.yf_chars.proofs.TextLemmas.{next_ascii}
use Rattle.yf_props.proofs.TagLemmas.{hex_below}

-- one or more steps of a chain
pub some_made : {room : ℕ} {A : Type 0} {S : ℕ → ℕ → List A → Type 0} {t : List ℕ} {a : Form} {i j : ℕ} {w : List A}
    → ((i j : ℕ) (w : List A) → S i j w → Read t room a i j) → Chain S i j w → i < j → Read t room (a ⁺) i j
some_made f done l = absurd (omega arith)
some_made f (step {i = i} {h = h} {x = y} s c) l = at_least_one (f i h y s) (many_made f c)

no_anchor : {t : List ℕ} {i : ℕ} → Stuck (AnchorChar t i) → is_anchor_char (code t i) ≡ false
no_anchor {t} {i} n = ⊎_elim (λ (e : is_anchor_char (code t i) ≡ true). absurd (n.none (next t i) (code t i ∷ []) (one e))) (λ (e : is_anchor_char (code t i) ≡ false). e)
    (cases_Bool (is_anchor_char (code t i)))

-- [103]
name_made : {room : ℕ} {t : List ℕ} {i j : ℕ} → Run (AnchorChar t) i j → Read t room ns-anchor-name i j
unfolding rule kind read
name_made r = by_rule refl (one_then (some_chars_made anchor_char_is r.chain r.some) (where_holds (no_anchor r.all)))

-- [104] and [101]
pub alias_made : {room : ℕ} {t : List ℕ} {i j : ℕ} {w : List ℕ} → Alias t i j w → Read t room c-ns-alias-node i j
unfolding rule kind c-alias
alias_made {t = t} (asterisk_name {i = i} e r) = by_rule refl (one_then (one_char t i 42 (omega arith) e) (name_made r))

anchor_made : {room : ℕ} {t : List ℕ} {i j : ℕ} {w : List ℕ} → Anchor t i j w → Read t room c-ns-anchor-property i j
unfolding rule kind c-anchor
anchor_made {t = t} (ampersand_name {i = i} e r) = by_rule refl (one_then (one_char t i 38 (omega arith) e) (name_made r))

-- [39]
hex_made : {room : ℕ} {t : List ℕ} {i : ℕ} → is_hex_digit (code t i) ≡ true → Read t room (‹ ns-hex-digit ›) i (i + 1)
hex_made {room = room} {t = t} {i = i} e =
    subst (λ z. Read t room (‹ ns-hex-digit ›) i z) (next_ascii t i (hex_below (code t i) e)) (one_of (hex_digit_is (code t i) ∙ e))

escape_made : {room : ℕ} {t : List ℕ} {i : ℕ} → code t i ≡ 37 → is_hex_digit (code t (i + 1)) ≡ true → is_hex_digit (code t (i + 2)) ≡ true → Read t room ns-uri-char i (i + 3)
unfolding rule kind
escape_made {room = room} {t = t} {i = i} a b c =
    let two : i + 1 + 1 ≡ i + 2 = omega arith in
    let three : i + 2 + 1 ≡ i + 3 = omega arith in
    let first : Read t room (‹ ns-hex-digit ›) (i + 1) (i + 2) = subst (λ z. Read t room (‹ ns-hex-digit ›) (i + 1) z) two (hex_made b) in
    let second : Read t room (‹ ns-hex-digit ›) (i + 2) (i + 3) = subst (λ z. Read t room (‹ ns-hex-digit ›) (i + 2) z) three (hex_made c) in
    by_rule refl (in_left (one_then (one_char t i 37 (omega arith) a) (one_then first (one_then second nothing))))

uri_one : {room : ℕ} {t : List ℕ} {i : ℕ} → is_uri_char (code t i) ≡ true → Read t room ns-uri-char i (next t i)
unfolding rule kind uri_signs
uri_one {room = room} {t = t} {i = i} e =
    ⊎_elim (λ (w : is_word_char (code t i) ≡ true). by_rule refl (in_right (in_left (one_of (word_char_is (code t i) ∙ w)))))
    (λ (s : uri_signs (code t i) ≡ true). by_rule refl (in_right (in_right (one_of s))))
    (or_cases (is_word_char (code t i)) (uri_signs (code t i)) (uri_is (code t i) ∙ e))

pub uri_made : {room : ℕ} {t : List ℕ} (i j : ℕ) (w : List ℕ) → UriChar t i j w → Read t room ns-uri-char i j
uri_made i j w (as_itself e) = uri_one e
uri_made i j w (as_escape a b c) = escape_made a b c

-- [40]
no_sign_37 : is_flow_indicator 37 ≡ false
unfolding is_flow_indicator
no_sign_37 = refl

no_tag : (c : ℕ) → (c == 33) ≡ false → c-tag c ≡ false
unfolding c-tag x
no_tag c e = e

pub tag_char_made : {room : ℕ} {t : List ℕ} (i j : ℕ) (w : List ℕ) → TagChar t i j w → Read t room ns-tag-char i j
unfolding rule kind is_tag_char
tag_char_made {t = t} i j w (as_itself e) =
    let a = and_parts (is_uri_char (code t i)) (not (code t i == 33) && not (is_flow_indicator (code t i))) e in
    let b = and_parts (not (code t i == 33)) (not (is_flow_indicator (code t i))) a.1 in
    let p : (code t i == 33) ≡ false = not_true b.0 in
    let q : is_flow_indicator (code t i) ≡ false = not_true b.1 in
    by_rule refl (without (without (uri_one a.0) (no_tag (code t i) p)) (flow_indicator_is (code t i) ∙ q))
  where
    not_true : {b : Bool} → not b ≡ true → b ≡ false
    not_true {b = true} e = absurd (true≢false (sym e))
    not_true {b = false} e = refl
tag_char_made {t = t} i j w (as_escape a b c) =
    let p : (code t i == 33) ≡ false = ap (λ z. z == 33) a in
    let q : is_flow_indicator (code t i) ≡ false = ap is_flow_indicator a ∙ no_sign_37 in
    by_rule refl (without (without (escape_made a b c) (no_tag (code t i) p)) (flow_indicator_is (code t i) ∙ q))

-- [89] to [92]
pub handle_made : {room : ℕ} {t : List ℕ} {i j : ℕ} → Handle t i j → Read t room c-tag-handle i j
unfolding rule kind c-tag
handle_made {t = t} (primary_handle {i = i} e) = by_rule refl (in_right (in_right (by_rule refl (one_char t i 33 (omega arith) e))))
handle_made {room = room} {t = t} (secondary_handle {i = i} e f) =
    let two : i + 1 + 1 ≡ i + 2 = omega arith in
    let s : Read t room (‹ x 33 ›) (i + 1) (i + 2) = subst (λ z. Read t room (‹ x 33 ›) (i + 1) z) two (one_char t (i + 1) 33 (omega arith) f) in
    by_rule refl (in_right (in_left (by_rule refl (one_then (one_char t i 33 (omega arith) e) s))))
handle_made {t = t} (named_handle {i = i} {j = j} e r f) =
    by_rule refl (in_left (by_rule refl (one_then (one_char t i 33 (omega arith) e)
    (one_then (some_chars_made word_char_is r.chain r.some) (one_char t j 33 (omega arith) f)))))

-- [93] to [95]
pub prefix_made : {room : ℕ} {t : List ℕ} {i j : ℕ} {w : List ℕ} → TagPrefix t i j w → Read t room ns-tag-prefix i j
unfolding rule kind c-tag
prefix_made {t = t} (local_prefix {i = i} e c) = by_rule refl (in_left (by_rule refl (one_then (one_char t i 33 (omega arith) e) (many_made uri_made c))))
prefix_made (global_prefix {i = i} {k = k} {c = w} a c) = by_rule refl (in_right (by_rule refl (one_then (tag_char_made i k w a) (many_made uri_made c))))

-- [97] to [100]
verbatim_made : {room : ℕ} {t : List ℕ} {i j : ℕ} {w : List ℕ} → VerbatimTag t i j w → Read t room c-verbatim-tag i j
unfolding rule kind
verbatim_made {room = room} {t = t} (in_brackets {i = i} {j = j} a b r c) =
    let two : i + 1 + 1 ≡ i + 2 = omega arith in
    let s : Read t room (‹ x 60 ›) (i + 1) (i + 2) = subst (λ z. Read t room (‹ x 60 ›) (i + 1) z) two (one_char t (i + 1) 60 (omega arith) b) in
    by_rule refl (one_then (one_char t i 33 (omega arith) a) (one_then s (one_then (some_made uri_made r.chain r.some) (one_char t j 62 (omega arith) c))))

shorthand_made : {room : ℕ} {t : List ℕ} {i j : ℕ} {w : TagValue} → ShorthandTag t i j w → Read t room c-ns-shorthand-tag i j
unfolding rule kind read
shorthand_made (handle_suffix h r) = by_rule refl (one_then (handle_made h) (one_then (some_made tag_char_made r.chain r.some) (where_holds r.all)))

tag_made : {room : ℕ} {t : List ℕ} {i j : ℕ} {w : TagValue} → TagProperty t i j w → Read t room c-ns-tag-property i j
unfolding rule kind read
tag_made (verbatim_tag v) = by_rule refl (in_left (verbatim_made v))
tag_made (shorthand_tag s) = by_rule refl (in_right (in_left (shorthand_made s)))
tag_made {t = t} (non_specific_tag {i = i} e n) = by_rule refl (in_right (in_right (by_rule refl (one_then (one_char t i 33 (omega arith) e) (where_holds n)))))

-- [96]
pub properties_made : {room : ℕ} {t : List ℕ} {n : ℤ} {c : Ctx} {i j : ℕ} {p : PropertiesValue} → Properties t n c i j p → Read t room (c-ns-properties n c) i j
unfolding rule kind
properties_made (by_tag a) = by_rule refl (in_left (one_then (tag_made a) absent))
properties_made (by_anchor a) = by_rule refl (in_right (one_then (anchor_made a) absent))
properties_made (tag_first a s b) = by_rule refl (in_left (one_then (tag_made a) (present (one_then (separate_made s) (anchor_made b)))))
properties_made (anchor_first a s b) = by_rule refl (in_right (one_then (anchor_made a) (present (one_then (separate_made s) (tag_made b)))))
