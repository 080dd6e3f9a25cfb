-- Example properties: their text, which is read again before a space.
use Rattle.std.proofs.Common.{◌≡◌, ℕ, ◌+◌, ℤ, List, [], ◌∷◌, ◌++◌, Some, None, codes, refl, ap, subst, arith}
use Rattle.std.specs.Str.{IsUtf8}
use lib.Utf8.{encode}
use Rattle.yf_chars.specs.declared.context.Ctx.{Ctx}
use Rattle.yf_chars.specs.Class.{is_anchor_char, is_ns_char, is_nb_char, is_printable, is_between, is_break_char, is_white, is_digit, is_hex_digit, is_tag_char, is_uri_char, is_word_char, is_flow_indicator}
use Rattle.yf_chars.proofs.SpelledLemmas.{IsAt}
use Rattle.yf_lines.specs.LineText.{is_after_name}
use Rattle.yf_lines.specs.LineText.Follows.{byte_follows}
use Rattle.yf_props.specs.Props.{PropsValue, TagValue, no_props}
use Rattle.yf_props.specs.Props.TagValue.{IsVerbatim, IsShort}
use Rattle.yf_props.specs.Names.{Properties, tag_with_anchor}
use Rattle.yf_props.specs.Written.{IsName, nothing_spelled, itself_spelled, escape_spelled, IsTag, short_form, verbatim_form, secondary_form, IsProps, props_bytes}
use Rattle.yf_props.proofs.NamesMade.{cons_some}
use Rattle.yf_props.proofs.PropsBack.{props_back}

-- &a !!s
shown : PropsValue
shown = record { anchor = Some (codes "a"); tag = Some (IsShort (codes "!!") (codes "s")) }

shown_bytes : props_bytes shown ≡ codes "&a !!s"
unfolding shown
shown_bytes = refl

name_a : IsName (codes "a")
unfolding encode is_anchor_char is_ns_char is_nb_char is_printable is_between is_break_char is_white is_flow_indicator
name_a = record { chars = 97 ∷ []; bytes = refl; each = (refl, tt); some = cons_some }

tag_s : IsTag (IsShort (codes "!!") (codes "s"))
unfolding is_tag_char is_uri_char is_word_char is_digit is_between is_flow_indicator
tag_s = short_form secondary_form (itself_spelled refl nothing_spelled) cons_some

shown_is : IsProps shown
unfolding shown
shown_is = record { anchor = λ name e. named e; tag = λ v e. tagged e } where
  named : {name : List ℕ} → Some (codes "a") ≡ Some name → IsName name
  named e = let same : codes "a" ≡ _ = cc in subst (λ w. IsName w) same name_a

  tagged : {v : TagValue} → Some (IsShort (codes "!!") (codes "s")) ≡ Some v → IsTag v
  tagged e = let same : IsShort (codes "!!") (codes "s") ≡ _ = cc in subst (λ w. IsTag w) same tag_s

-- at any offset, before a space, whatever follows
shown_back : (t : List ℕ) (n : ℤ) (c : Ctx) (q : ℕ) (r : List ℕ) → IsUtf8 t → IsAt t q (codes "&a !!s " ++ r)
    → Properties t n c q (q + 6) (tag_with_anchor (q + 2 + 1) (IsShort (codes "!!") (codes "s")) (codes "a") [])
unfolding shown is_after_name
shown_back t n c q r u s = props_back n c (32 ∷ r) u shown_is (λ e. not_none e) (byte_follows (omega arith) refl) s where
  not_none : shown ≡ no_props → ⊥
  not_none e = let both : Some (codes "a") ≡ None = ap (λ p. p.anchor) e in cc

-- !<%41>
percent_tag : IsTag (IsVerbatim (codes "%41"))
unfolding is_hex_digit is_digit is_between
percent_tag = verbatim_form (escape_spelled refl refl nothing_spelled) cons_some
