-- Written tags and properties are derived again.
use Rattle.std.proofs.Common.{◌≡◌, ◌≢◌, ℕ, ◌+◌, ◌<◌, ℤ, true, List, [], ◌∷◌, ◌++◌, Option, Some, None, length, slice_range, refl, sym, ap, ◌∙◌, subst, arith, append_assoc}
use Rattle.std.proofs.lemmas.List.{length-append}
use Rattle.std.specs.Str.{IsUtf8}
use lib.Utf8.{encodes}
use Rattle.yf_chars.specs.declared.context.Ctx.{Ctx}
use Rattle.yf_chars.specs.Class.{is_tag_char, is_uri_char, is_word_char}
use Rattle.yf_chars.proofs.ChainLemmas.{one_stuck}
use Rattle.yf_chars.proofs.SpelledLemmas.{IsAt, is_at_ascii}
use Rattle.yf_lines.specs.LineText.{Follows, is_after_name}
use Rattle.yf_lines.specs.LineText.Follows.{byte_follows}
use Rattle.yf_lines.proofs.RestLemmas.{slice_back, is_at_chars}
use Rattle.yf_comments.proofs.SpaceLemmas.{space_separates}
use Rattle.yf_props.specs.Props.{PropsValue, TagValue, no_props}
use Rattle.yf_props.specs.Props.TagValue.{IsVerbatim, IsShort}
use Rattle.yf_props.specs.Names.{Run, WordChar, UriChar, TagChar, Handle, VerbatimTag, ShorthandTag, TagProperty, Properties}
use Rattle.yf_props.specs.Names.Handle.{primary_handle, secondary_handle, named_handle}
use Rattle.yf_props.specs.Names.VerbatimTag.{in_brackets}
use Rattle.yf_props.specs.Names.ShorthandTag.{handle_suffix}
use Rattle.yf_props.specs.Names.TagProperty.{verbatim_tag, shorthand_tag, non_specific_tag}
use Rattle.yf_props.specs.Names.Properties.{by_tag, by_anchor, anchor_first}
use Rattle.yf_props.specs.Written.{IsName, IsSpelled, IsHandle, primary_form, secondary_form, named_form, IsTag, verbatim_form, short_form, lone_form, IsProps, anchor_bytes, tag_bytes, parts_bytes, props_bytes, tag_offset_at, props_at}
use Rattle.yf_props.proofs.TagLemmas.{spelled_stuck, percent_uri, close_uri}
use Rattle.yf_props.proofs.SolidLemmas.{uri_solid, tag_solid}
use Rattle.yf_props.proofs.NamesMade.{words_bytes}
use Rattle.yf_props.proofs.NamesBack.{tag_stuck, many_back, spelled_back, long_some, spelled_run, anchor_back}
use Rattle.yf_chars.proofs.CharFacts.{exclamation_no_word}

-- handles
pub record HandleAt (t : List ℕ) (q j : ℕ) (r : List ℕ) : Type 0 where
  pub handle : Handle t q j
  pub rest : IsAt t j r

pub handle_back : {t h : List ℕ} (r : List ℕ) (q : ℕ) → IsUtf8 t → IsHandle h → IsAt t q (h ++ r) → HandleAt t q (q + length h) r
handle_back r q u primary_form s = let got = is_at_ascii 33 u (omega arith) s in record { handle = primary_handle got.0.char; rest = got.1 }
handle_back {t} r q u secondary_form s =
    let got = is_at_ascii 33 u (omega arith) s in
    let next = is_at_ascii 33 u (omega arith) got.1 in
    let two : q + 1 + 1 ≡ q + 2 = omega arith in
    record { handle = secondary_handle got.0.char next.0.char; rest = subst (λ k. IsAt t k r) two next.1 }
handle_back {t} r q u (named_form {x = x} a n) s =
    let got = is_at_ascii 33 u (omega arith) s in
    let bytes : encodes x ≡ x = words_bytes x a in
    let inner : IsAt t (q + 1) (encodes x ++ (33 ∷ r)) = subst (λ w. IsAt t (q + 1) w) (append_assoc x (33 ∷ []) r ∙ ap (λ w. w ++ (33 ∷ r)) (sym bytes)) got.1 in
    let end = is_at_chars x u inner in
    let last = is_at_ascii 33 u (omega arith) end in
    let stop = one_stuck t is_word_char (q + 1 + length (encodes x)) (ap is_word_char last.0.char ∙ exclamation_no_word) in
    let long : 0 < length (encodes x) = omega (arith, long_some x n, ap length bytes) in
    let run : Run (WordChar t) (q + 1) (q + 1 + length (encodes x)) =
    record { characters = x; chain = many_back is_word_char x (33 ∷ r) (q + 1) u a inner; some = omega arith; all = stop } in
    let there : q + 1 + length (encodes x) + 1 ≡ q + length (33 ∷ (x ++ 33 ∷ [])) = omega (arith, ap length bytes, length-append x (33 ∷ [])) in
    record { handle = subst (λ k. Handle t q k) there (named_handle got.0.char run last.0.char); rest = subst (λ k. IsAt t k r) there last.1 }

-- tags
verbatim_back : {t x : List ℕ} (r : List ℕ) (q : ℕ) → IsUtf8 t → IsSpelled is_uri_char x → x ≢ [] → IsAt t q (tag_bytes (IsVerbatim x) ++ r)
    → VerbatimTag t q (q + length (tag_bytes (IsVerbatim x))) x
verbatim_back {t} {x} r q u k n s =
    let got = is_at_ascii 33 u (omega arith) s in
    let next = is_at_ascii 60 u (omega arith) got.1 in
    let two : q + 1 + 1 ≡ q + 2 = omega arith in
    let inner : IsAt t (q + 2) (x ++ (62 ∷ r)) = subst (λ w. IsAt t (q + 2) w) (append_assoc x (62 ∷ []) r) (subst (λ p. IsAt t p ((x ++ 62 ∷ []) ++ r)) two next.1) in
    let made = spelled_back (62 ∷ r) (q + 2) u uri_solid k inner in
    let last = is_at_ascii 62 u (omega arith) made.rest in
    let stop = spelled_stuck t is_uri_char percent_uri (q + 2 + length x) (ap is_uri_char last.0.char ∙ close_uri) (λ e. let c = last.0.char in omega arith) in
    let run : Run (UriChar t) (q + 2) (q + 2 + length x) = spelled_run (let l = long_some x n in omega arith) made stop in
    let whole : VerbatimTag t q (q + 2 + length x + 1) (slice_range t (q + 2) (q + 2 + length x)) = in_brackets got.0.char next.0.char run last.0.char in
    let there : q + 2 + length x + 1 ≡ q + length (tag_bytes (IsVerbatim x)) = omega (arith, length-append x (62 ∷ [])) in
    subst (λ p. VerbatimTag t q p x) there (subst (λ w. VerbatimTag t q (q + 2 + length x + 1) w) (slice_back x (62 ∷ r) inner) whole)

shorthand_back : {t h x : List ℕ} (r : List ℕ) (q : ℕ) → IsUtf8 t → IsHandle h → IsSpelled is_tag_char x → x ≢ [] → Follows is_after_name r
    → IsAt t q ((h ++ x) ++ r) → ShorthandTag t q (q + length (h ++ x)) (IsShort h x)
shorthand_back {t} {h} {x} r q u a k n f s =
    let s' : IsAt t q (h ++ (x ++ r)) = subst (λ w. IsAt t q w) (append_assoc h x r) s in
    let handle = handle_back (x ++ r) q u a s' in
    let made = spelled_back r (q + length h) u tag_solid k handle.rest in
    let run : Run (TagChar t) (q + length h) (q + length h + length x) = spelled_run (let l = long_some x n in omega arith) made (tag_stuck u made.rest f) in
    let whole : ShorthandTag t q (q + length h + length x) (IsShort (slice_range t q (q + length h)) (slice_range t (q + length h) (q + length h + length x))) =
    handle_suffix handle.handle run in
    let there : q + length h + length x ≡ q + length (h ++ x) = omega (arith, length-append h x) in
    let first : slice_range t q (q + length h) ≡ h = slice_back h (x ++ r) s' in
    let second : slice_range t (q + length h) (q + length h + length x) ≡ x = slice_back x r handle.rest in
    subst (λ p. ShorthandTag t q p (IsShort h x)) there
    (subst (λ w. ShorthandTag t q (q + length h + length x) (IsShort h w)) second
    (subst (λ w. ShorthandTag t q (q + length h + length x) (IsShort w (slice_range t (q + length h) (q + length h + length x)))) first whole))

pub tag_back : {t : List ℕ} {v : TagValue} (r : List ℕ) {q : ℕ} → IsUtf8 t → IsTag v → Follows is_after_name r → IsAt t q (tag_bytes v ++ r)
    → TagProperty t q (q + length (tag_bytes v)) v
tag_back r {q} u (verbatim_form k n) f s = verbatim_tag (verbatim_back r q u k n s)
tag_back r {q} u (short_form a k n) f s = shorthand_tag (shorthand_back r q u a k n f s)
tag_back r {q} u lone_form f s = let got = is_at_ascii 33 u (omega arith) s in non_specific_tag got.0.char (tag_stuck u got.1 f)

-- the character after a name
space_after : is_after_name 32 ≡ true
unfolding is_after_name
space_after = refl

name_end : {t : List ℕ} {q : ℕ} {r : List ℕ} (a : List ℕ) → IsName a → IsUtf8 t → IsAt t q (anchor_bytes a ++ r) → IsAt t (q + length (anchor_bytes a)) r
name_end {t} {q} {r} a k u s =
    let bytes : encodes k.chars ≡ a = k.bytes in
    let got = is_at_ascii 38 u (omega arith) s in
    let end = is_at_chars k.chars u (subst (λ w. IsAt t (q + 1) (w ++ r)) (sym bytes) got.1) in
    let there : q + 1 + length (encodes k.chars) ≡ q + length (anchor_bytes a) = omega (arith, ap length bytes) in
    subst (λ j. IsAt t j r) there end

-- properties
pub props_back : {t : List ℕ} (n : ℤ) (c : Ctx) {p : PropsValue} (r : List ℕ) {q : ℕ} → IsUtf8 t → IsProps p → p ≢ no_props → Follows is_after_name r
    → IsAt t q (props_bytes p ++ r) → Properties t n c q (q + length (props_bytes p)) (props_at q p)
props_back {t} n c {p} r {q} u k n' f s = go p.anchor p.tag refl refl s where
  go : (a : Option (List ℕ)) (v : Option TagValue) → p.anchor ≡ a → p.tag ≡ v → IsAt t q (parts_bytes a v ++ r)
      → Properties t n c q (q + length (parts_bytes a v)) (record { props = record { anchor = a; tag = v }; tag_offset = tag_offset_at q a v; comments = [] })
  go None None e g s = absurd (n' (none e g)) where
    none : p.anchor ≡ None → p.tag ≡ None → p ≡ no_props
    none e g = ap (λ a. record { anchor = a; tag = p.tag }) e ∙ ap (λ v. record { anchor = None; tag = v }) g
  go None (Some v) e g s = by_tag (tag_back r u (k.tag v g) f s)
  go (Some a) None e g s = by_anchor (anchor_back r u (k.anchor a e) f s)
  go (Some a) (Some v) e g s = both a v (k.anchor a e) (k.tag v g) s where
    both : (a : List ℕ) (v : TagValue) → IsName a → IsTag v → IsAt t q ((anchor_bytes a ++ (32 ∷ tag_bytes v)) ++ r)
        → Properties t n c q (q + length (anchor_bytes a ++ (32 ∷ tag_bytes v))) (record { props = record { anchor = Some a; tag = Some v }; tag_offset = Some (q + length (anchor_bytes a) + 1); comments = [] })
    both a v k l s =
        let s' : IsAt t q (anchor_bytes a ++ (32 ∷ (tag_bytes v ++ r))) = subst (λ w. IsAt t q w) (append_assoc (anchor_bytes a) (32 ∷ tag_bytes v) r) s in
        let first = anchor_back (32 ∷ (tag_bytes v ++ r)) u k (byte_follows (omega arith) space_after) s' in
        let end = name_end a k u s' in
        let space = is_at_ascii 32 u (omega arith) end in
        let second = tag_back r u l f space.1 in
        let there : q + length (anchor_bytes a) + 1 + length (tag_bytes v) ≡ q + length (anchor_bytes a ++ (32 ∷ tag_bytes v)) = omega (arith, length-append (anchor_bytes a) (32 ∷ tag_bytes v)) in
        subst (λ j. Properties t n c q j (record { props = record { anchor = Some a; tag = Some v }; tag_offset = Some (q + length (anchor_bytes a) + 1); comments = [] })) there
        (anchor_first first (space_separates n c (q + length (anchor_bytes a)) space.0.char) second)
