-- The form of derived names, tags and properties.
use Rattle.std.proofs.Common.{◌≡◌, ◌≢◌, ℕ, suc, ◌+◌, ◌<◌, ◌≤◌, ℤ, Bool, true, List, [], ◌∷◌, ◌++◌, length, slice_range, encode_utf8_all, refl, sym, ap, ◌∙◌, subst, arith}
use Rattle.std.proofs.lemmas.Bool.Decides.{nat_tests}
use Rattle.std.proofs.lemmas.Str.{encode_ascii}
use Rattle.std.specs.Str.{IsUtf8}
use Rattle.std.proofs.lemmas.Option.{same_Some}
use lib.Utf8.{encodes}
use Rattle.yf_chars.specs.declared.context.Ctx.{Ctx}
use Rattle.yf_chars.specs.Text.{code, next, no_char, CharAt}
use Rattle.yf_chars.specs.Class.{is_anchor_char, is_ns_char, is_nb_char, is_printable, is_between, is_word_char}
use Rattle.yf_chars.specs.Chain.{Chain, Many, One}
use Rattle.yf_chars.specs.Chain.Chain.{done, step}
use Rattle.yf_chars.specs.Chain.One.{one}
use Rattle.yf_chars.proofs.TextLemmas.{reads_real, reads_byte}
use Rattle.yf_chars.proofs.Tests.{none_some}
use Rattle.yf_lines.proofs.ClearLemmas as C
use Rattle.yf_lines.proofs.ClearLemmas.{spelled_nothing, spelled_join, spelled_char, spelled_slice}
use Rattle.yf_props.specs.Props.{TagValue}
use Rattle.yf_props.specs.Props.TagValue.{IsVerbatim}
use Rattle.yf_props.specs.Names.{SpelledChar, Run, Anchor, Alias, AnchorChar, Handle, VerbatimTag, ShorthandTag, TagProperty, Properties, PropertiesValue}
use Rattle.yf_props.specs.Names.SpelledChar.{as_itself, as_escape}
use Rattle.yf_props.specs.Names.Anchor.{ampersand_name}
use Rattle.yf_props.specs.Names.Alias.{asterisk_name}
use Rattle.yf_props.specs.Names.Handle.{primary_handle, secondary_handle, named_handle}
use Rattle.yf_props.specs.Names.VerbatimTag.{in_brackets}
use Rattle.yf_props.specs.Names.ShorthandTag.{handle_suffix}
use Rattle.yf_props.specs.Names.TagProperty.{verbatim_tag, shorthand_tag, non_specific_tag}
use Rattle.yf_props.specs.Names.Properties.{by_tag, by_anchor, tag_first, anchor_first}
use Rattle.yf_props.specs.Written.{AllOf, IsName, IsSpelled, nothing_spelled, itself_spelled, escape_spelled, IsHandle, primary_form, secondary_form, named_form, IsTag, verbatim_form, short_form, lone_form, IsProps}
use Rattle.yf_props.proofs.SeparationEnds.{Solid}
use Rattle.yf_props.proofs.SolidLemmas.{uri_solid, word_solid, tag_solid, hex_solid}

-- characters that are from one offset to another: their bytes
pub record Stretch (t : List ℕ) (i j : ℕ) (x : List ℕ) : Type 0 where
  pub spelled : C.Spelled t i j x
  pub within : j ≤ length t

pub stretch_slice : {t : List ℕ} {i j : ℕ} {x : List ℕ} → Stretch t i j x → slice_range t i j ≡ encodes x
stretch_slice s = spelled_slice s.within s.spelled

pub stretch_nothing : (t : List ℕ) (i : ℕ) → i ≤ length t → Stretch t i i []
stretch_nothing t i l = record { spelled = spelled_nothing t i; within = l }

pub stretch_char : {t : List ℕ} {i c j k : ℕ} {x : List ℕ} → CharAt t i c j → Stretch t j k x → Stretch t i k (c ∷ x)
stretch_char r s = record { spelled = spelled_join (spelled_char r) s.spelled; within = s.within }

-- runs of a class
pub many_stretch : {t : List ℕ} {p : ℕ → Bool} {i j : ℕ} {x : List ℕ} → IsUtf8 t → ((c : ℕ) → p c ≡ true → c < no_char) → i ≤ length t → Many t p i j x → Stretch t i j x
many_stretch {t} {i = i} u b l done = stretch_nothing t i l
many_stretch {t} u b l (step (one {i = i} e) m) = let r = reads_real t i u (b (code t i) e) in stretch_char r (many_stretch u b r.within m)

pub many_each : {t : List ℕ} {p : ℕ → Bool} {i j : ℕ} {x : List ℕ} → Many t p i j x → AllOf p x
many_each done = tt
many_each (step (one e) m) = (e, many_each m)

pub cons_some : {c : ℕ} {x : List ℕ} → c ∷ x ≢ []
cons_some {c} {x} e = let long : suc (length x) ≡ 0 = ap length e in omega arith

pub many_some : {t : List ℕ} {p : ℕ → Bool} {i j : ℕ} {x : List ℕ} → i < j → Many t p i j x → x ≢ []
many_some l done = absurd (omega arith)
many_some l (step (one e) m) = cons_some

-- names
anchor_below : (c : ℕ) → is_anchor_char c ≡ true → c < no_char
unfolding is_anchor_char is_ns_char is_nb_char is_printable is_between
anchor_below c e = grind (arith, nat_tests)

past_mark : {t : List ℕ} (i c : ℕ) → IsUtf8 t → code t i ≡ c → c < 128 → i + 1 ≤ length t
past_mark {t} i c u e l = (reads_byte t i c u e l).within

-- the bytes of a run of a class
pub record RunText (p : ℕ → Bool) (x : List ℕ) : Type 0 where
  pub chars : List ℕ
  pub bytes : encode_utf8_all chars ≡ x
  pub each : AllOf p chars
  pub some : chars ≢ []

pub run_made : {t : List ℕ} {p : ℕ → Bool} {i j : ℕ} → IsUtf8 t → ((c : ℕ) → p c ≡ true → c < no_char) → i ≤ length t → Run (One t p) i j → RunText p (slice_range t i j)
run_made u b l r =
    record { chars = r.characters; bytes = sym (stretch_slice (many_stretch u b l r.chain)); each = many_each r.chain; some = many_some r.some r.chain }

name_made : {t : List ℕ} {i j : ℕ} → IsUtf8 t → i ≤ length t → Run (AnchorChar t) i j → IsName (slice_range t i j)
name_made u l r = let a = run_made u anchor_below l r in record { chars = a.chars; bytes = a.bytes; each = a.each; some = a.some }

pub alias_made : {t : List ℕ} {i j : ℕ} {name : List ℕ} → IsUtf8 t → Alias t i j name → IsName name
alias_made {t} u (asterisk_name {i = i} e r) = name_made u (past_mark i 42 u e (omega arith)) r

pub anchor_made : {t : List ℕ} {i j : ℕ} {name : List ℕ} → IsUtf8 t → Anchor t i j name → IsName name
anchor_made {t} u (ampersand_name {i = i} e r) = name_made u (past_mark i 38 u e (omega arith)) r

-- characters of tags are bytes
abbrev Low : List ℕ → Type 0
Low [] = Unit {0}
Low (c ∷ x) = (c < 128) × Low x

pub low_bytes : (x : List ℕ) → Low x → encodes x ≡ x
low_bytes [] l = refl
low_bytes (c ∷ x) l = ap (λ w. w ++ encodes x) (encode_ascii c l.0) ∙ ap (λ w. c ∷ w) (low_bytes x l.1)

pub record Characters (t : List ℕ) (p : ℕ → Bool) (i j : ℕ) (x : List ℕ) : Type 0 where
  pub stretch : Stretch t i j x
  pub low : Low x
  pub text : IsSpelled p x

one_byte : {t : List ℕ} (i : ℕ) → IsUtf8 t → Solid (code t i) → CharAt t i (code t i) (i + 1)
one_byte {t} i u s = let h = s.high in reads_byte t i (code t i) u refl (omega arith)

pub spelled_made : {t : List ℕ} {p : ℕ → Bool} {i j : ℕ} {x : List ℕ} → IsUtf8 t → (S : (c : ℕ) → p c ≡ true → Solid c) → i ≤ length t → Chain (SpelledChar t p) i j x
    → Characters t p i j x
spelled_made {t} {i = i} u S l done = record { stretch = stretch_nothing t i l; low = tt; text = nothing_spelled }
spelled_made {t} u S l (step (as_itself {i = i} e) d) =
    let s = S (code t i) e in
    let r = one_byte i u s in
    let r' : CharAt t i (code t i) (next t i) = subst (λ k. CharAt t i (code t i) k) (sym r.end) r in
    let rest = spelled_made u S r'.within d in
    record { stretch = stretch_char r' rest.stretch; low = (let h = s.high in omega arith, rest.low); text = itself_spelled e rest.text }
spelled_made {t} u S l (step (as_escape {i = i} e f g) d) =
    let a = hex_solid (code t (i + 1)) f in
    let b = hex_solid (code t (i + 2)) g in
    let two : i + 1 + 1 ≡ i + 2 = omega arith in
    let three : i + 2 + 1 ≡ i + 3 = omega arith in
    let r = reads_byte t i 37 u e (omega arith) in
    let r₁ : CharAt t (i + 1) (code t (i + 1)) (i + 2) = subst (λ k. CharAt t (i + 1) (code t (i + 1)) k) two (one_byte (i + 1) u a) in
    let r₂ : CharAt t (i + 2) (code t (i + 2)) (i + 3) = subst (λ k. CharAt t (i + 2) (code t (i + 2)) k) three (one_byte (i + 2) u b) in
    let rest = spelled_made u S r₂.within d in
    record {
      stretch = stretch_char r (stretch_char r₁ (stretch_char r₂ rest.stretch));
      low = (omega arith, (let h = a.high in omega arith, (let h = b.high in omega arith, rest.low)));
      text = escape_spelled f g rest.text;
    }

spelled_some : {t : List ℕ} {p : ℕ → Bool} {i j : ℕ} {x : List ℕ} → i < j → Chain (SpelledChar t p) i j x → x ≢ []
spelled_some l done = absurd (omega arith)
spelled_some l (step (as_itself e) d) = cons_some
spelled_some l (step (as_escape e f g) d) = cons_some

record SpelledSlice (t : List ℕ) (p : ℕ → Bool) (i j : ℕ) : Type 0 where
  pub text : IsSpelled p (slice_range t i j)
  pub some : slice_range t i j ≢ []

spelled_slice_made : {t : List ℕ} {p : ℕ → Bool} {i j : ℕ} → IsUtf8 t → ((c : ℕ) → p c ≡ true → Solid c) → i ≤ length t → Run (SpelledChar t p) i j → SpelledSlice t p i j
spelled_slice_made {t} {p} {i} {j} u S l r =
    let made = spelled_made u S l r.chain in
    let bytes : slice_range t i j ≡ r.characters = stretch_slice made.stretch ∙ low_bytes r.characters made.low in
    record { text = subst (λ w. IsSpelled p w) (sym bytes) made.text; some = λ e. spelled_some r.some r.chain (sym bytes ∙ e) }

-- handles
words_low : (x : List ℕ) → AllOf is_word_char x → Low x
words_low [] a = tt
words_low (c ∷ x) a = (let s = word_solid c a.0 in let h = s.high in omega arith, words_low x a.1)

pub words_bytes : (x : List ℕ) → AllOf is_word_char x → encodes x ≡ x
words_bytes x a = low_bytes x (words_low x a)

word_below : (c : ℕ) → is_word_char c ≡ true → c < no_char
word_below c e = let s = word_solid c e in let h = s.high in omega arith

low_append : (x y : List ℕ) → Low x → Low y → Low (x ++ y)
low_append [] y a b = b
low_append (c ∷ x) y a b = (a.0, low_append x y a.1 b)

pub record HandleSlice (t : List ℕ) (i h : ℕ) : Type 0 where
  pub text : IsHandle (slice_range t i h)
  pub within : h ≤ length t

pub handle_made : {t : List ℕ} {i h : ℕ} → IsUtf8 t → Handle t i h → HandleSlice t i h
handle_made {t} u (primary_handle {i = i} a) =
    let r = reads_byte t i 33 u a (omega arith) in
    let s = stretch_char r (stretch_nothing t (i + 1) r.within) in
    let bytes : slice_range t i (i + 1) ≡ 33 ∷ [] = stretch_slice s ∙ low_bytes (33 ∷ []) (omega arith, tt) in
    record { text = subst (λ w. IsHandle w) (sym bytes) primary_form; within = r.within }
handle_made {t} u (secondary_handle {i = i} a b) =
    let two : i + 1 + 1 ≡ i + 2 = omega arith in
    let r = reads_byte t i 33 u a (omega arith) in
    let r' : CharAt t (i + 1) 33 (i + 2) = subst (λ k. CharAt t (i + 1) 33 k) two (reads_byte t (i + 1) 33 u b (omega arith)) in
    let s = stretch_char r (stretch_char r' (stretch_nothing t (i + 2) r'.within)) in
    let bytes : slice_range t i (i + 2) ≡ 33 ∷ 33 ∷ [] = stretch_slice s ∙ low_bytes (33 ∷ 33 ∷ []) (omega arith, (omega arith, tt)) in
    record { text = subst (λ w. IsHandle w) (sym bytes) secondary_form; within = r'.within }
handle_made {t} u (named_handle {i = i} {j = j} a r b) =
    let first = reads_byte t i 33 u a (omega arith) in
    let last = reads_byte t j 33 u b (omega arith) in
    let middle = many_stretch u word_below first.within r.chain in
    let end = stretch_char last (stretch_nothing t (j + 1) last.within) in
    let each = many_each r.chain in
    let s : Stretch t i (j + 1) (33 ∷ (r.characters ++ (33 ∷ []))) =
    stretch_char first (record { spelled = spelled_join middle.spelled end.spelled; within = end.within }) in
    let bytes : slice_range t i (j + 1) ≡ 33 ∷ (r.characters ++ 33 ∷ []) =
    stretch_slice s ∙ low_bytes (33 ∷ (r.characters ++ 33 ∷ [])) (omega arith, low_append r.characters (33 ∷ []) (words_low r.characters each) (omega arith, tt)) in
    record { text = subst (λ w. IsHandle w) (sym bytes) (named_form each (many_some r.some r.chain)); within = last.within }

-- tags
verbatim_made : {t : List ℕ} {i j : ℕ} {x : List ℕ} → IsUtf8 t → VerbatimTag t i j x → IsTag (IsVerbatim x)
verbatim_made {t} u (in_brackets {i = i} a b r c) =
    let two : i + 1 + 1 ≡ i + 2 = omega arith in
    let l = past_mark (i + 1) 60 u b (omega arith) in
    let made = spelled_slice_made u uri_solid (omega arith) r in
    verbatim_form made.text made.some

shorthand_made : {t : List ℕ} {i j : ℕ} {v : TagValue} → IsUtf8 t → ShorthandTag t i j v → IsTag v
shorthand_made u (handle_suffix h r) =
    let handle = handle_made u h in
    let made = spelled_slice_made u tag_solid handle.within r in
    short_form handle.text made.text made.some

pub tag_made : {t : List ℕ} {i j : ℕ} {v : TagValue} → IsUtf8 t → TagProperty t i j v → IsTag v
tag_made u (verbatim_tag d) = verbatim_made u d
tag_made u (shorthand_tag d) = shorthand_made u d
tag_made u (non_specific_tag a s) = lone_form

pub props_made : {t : List ℕ} {n : ℤ} {c : Ctx} {i j : ℕ} {p : PropertiesValue} → IsUtf8 t → Properties t n c i j p → IsProps p.props
props_made u (by_tag d) = let made = tag_made u d in record { anchor = λ name e. absurd (none_some e); tag = λ v e. subst (λ w. IsTag w) (same_Some _ _ e) made }
props_made u (by_anchor a) = let made = anchor_made u a in record { anchor = λ name e. subst (λ w. IsName w) (same_Some _ _ e) made; tag = λ v e. absurd (none_some e) }
props_made u (tag_first d s a) =
    let made = tag_made u d in
    let named = anchor_made u a in
    record { anchor = λ name e. subst (λ w. IsName w) (same_Some _ _ e) named; tag = λ v e. subst (λ w. IsTag w) (same_Some _ _ e) made }
props_made u (anchor_first a s d) =
    let made = tag_made u d in
    let named = anchor_made u a in
    record { anchor = λ name e. subst (λ w. IsName w) (same_Some _ _ e) named; tag = λ v e. subst (λ w. IsTag w) (same_Some _ _ e) made }
