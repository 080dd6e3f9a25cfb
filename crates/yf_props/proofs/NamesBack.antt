-- Written names, tags and properties are derived again before a space, a break, a comma or a closing bracket.
use Rattle.std.proofs.Common.{◌≡◌, ◌≢◌, ℕ, ◌+◌, ◌<◌, Bool, true, false, List, [], ◌∷◌, ◌++◌, length, slice_range, refl, sym, ap, ◌∙◌, subst, inl, inr, ◌⊎◌, ⊎_elim, arith, append_assoc, add-zero}
use Rattle.std.proofs.lemmas.List.{length-append}
use Rattle.std.proofs.lemmas.Str.{length-encode, len_utf8_bounds}
use Rattle.std.specs.Char.{len_utf8}
use Rattle.std.specs.Str.{IsUtf8}
use lib.Utf8.{encode, encodes}
use Rattle.yf_chars.specs.Text.{code, next, no_char}
use Rattle.yf_chars.specs.Class.{is_anchor_char, is_ns_char, is_nb_char, is_printable, is_between, is_break_char, is_white, is_digit, is_hex_digit, is_tag_char, is_uri_char, is_word_char, is_flow_indicator}
use Rattle.yf_chars.specs.Chain.{Chain, Many, One, Stuck}
use Rattle.yf_chars.specs.Chain.Chain.{done, step}
use Rattle.yf_chars.specs.Chain.One.{one}
use Rattle.yf_chars.proofs.ChainLemmas.{one_stuck}
use Rattle.yf_chars.proofs.SpelledLemmas.{IsAt, is_at_char, is_at_ascii}
use Rattle.yf_lines.specs.LineText.{Follows, is_after_name}
use Rattle.yf_lines.proofs.RestLemmas.{follows_code, after_name_cases, slice_back, is_at_chars}
use Rattle.yf_props.specs.Names.{SpelledChar, Run, Anchor, Alias, AnchorChar, TagChar}
use Rattle.yf_props.specs.Names.Anchor.{ampersand_name}
use Rattle.yf_props.specs.Names.Alias.{asterisk_name}
use Rattle.yf_props.specs.Names.SpelledChar.{as_itself, as_escape}
use Rattle.yf_props.specs.Written.{AllOf, IsName, IsSpelled, nothing_spelled, itself_spelled, escape_spelled, alias_bytes, anchor_bytes}
use Rattle.yf_props.proofs.NamesMade.{RunText}
use Rattle.yf_props.proofs.TagLemmas.{spelled_stuck, percent_tag}
use Rattle.yf_props.proofs.SolidLemmas.{hex_solid}
use Rattle.yf_props.proofs.SeparationEnds.{Solid}

-- the following character is not part of a name or of a tag
none_of_name : (c : ℕ) → (c ≡ no_char) ⊎ (is_after_name c ≡ true) → is_anchor_char c ≡ false
unfolding is_anchor_char is_ns_char is_nb_char is_printable is_between is_break_char is_white is_flow_indicator
none_of_name c (inl e) = ap is_anchor_char e
none_of_name c (inr e) = ⊎_elim (λ (f : c ≡ 32). ap is_anchor_char f) (λ (g : (c ≡ 10) ⊎ ((c ≡ 44) ⊎ ((c ≡ 93) ⊎ (c ≡ 125)))).
    ⊎_elim (λ (f : c ≡ 10). ap is_anchor_char f) (λ (h : (c ≡ 44) ⊎ ((c ≡ 93) ⊎ (c ≡ 125))).
    ⊎_elim (λ (f : c ≡ 44). ap is_anchor_char f) (λ (k : (c ≡ 93) ⊎ (c ≡ 125)).
    ⊎_elim (λ (f : c ≡ 93). ap is_anchor_char f) (λ (f : c ≡ 125). ap is_anchor_char f) k) h) g) (after_name_cases c e)

none_of_tag : (c : ℕ) → (c ≡ no_char) ⊎ (is_after_name c ≡ true) → is_tag_char c ≡ false
unfolding is_tag_char is_uri_char is_word_char is_digit is_between is_flow_indicator
none_of_tag c (inl e) = ap is_tag_char e
none_of_tag c (inr e) = ⊎_elim (λ (f : c ≡ 32). ap is_tag_char f) (λ (g : (c ≡ 10) ⊎ ((c ≡ 44) ⊎ ((c ≡ 93) ⊎ (c ≡ 125)))).
    ⊎_elim (λ (f : c ≡ 10). ap is_tag_char f) (λ (h : (c ≡ 44) ⊎ ((c ≡ 93) ⊎ (c ≡ 125))).
    ⊎_elim (λ (f : c ≡ 44). ap is_tag_char f) (λ (k : (c ≡ 93) ⊎ (c ≡ 125)).
    ⊎_elim (λ (f : c ≡ 93). ap is_tag_char f) (λ (f : c ≡ 125). ap is_tag_char f) k) h) g) (after_name_cases c e)

none_percent : (c : ℕ) → (c ≡ no_char) ⊎ (is_after_name c ≡ true) → c ≢ 37
none_percent c (inl e) q = omega arith
none_percent c (inr e) q = let k = after_name_cases c e in omega (arith, k)

pub tag_stuck : {t : List ℕ} {q : ℕ} {r : List ℕ} → IsUtf8 t → IsAt t q r → Follows is_after_name r → Stuck (TagChar t q)
tag_stuck {t} {q} u s f = let k = follows_code u s f in spelled_stuck t is_tag_char percent_tag q (none_of_tag (code t q) k) (none_percent (code t q) k)

-- runs of a class, from their bytes
pub many_back : {t : List ℕ} (p : ℕ → Bool) (cs r : List ℕ) (q : ℕ) → IsUtf8 t → AllOf p cs → IsAt t q (encodes cs ++ r) → Many t p q (q + length (encodes cs)) cs
many_back {t} p [] r q u a s = subst (λ w. Many t p q w []) (sym (add-zero q)) done
many_back {t} p (c ∷ cs) r q u a s =
    let got = is_at_char c u (subst (λ w. IsAt t q w) (append_assoc (encode c) (encodes cs) r) s) in
    let more = many_back p cs r (q + len_utf8 c) u a.1 got.1 in
    let there : q + len_utf8 c + length (encodes cs) ≡ q + length (encode c ++ encodes cs) = omega (arith, length-append (encode c) (encodes cs), length-encode c) in
    let here : p (code t q) ≡ true = ap p got.0.char ∙ a.0 in
    let rest : Many t p (next t q) (q + len_utf8 c + length (encodes cs)) cs = subst (λ w. Many t p w (q + len_utf8 c + length (encodes cs)) cs) (sym got.0.end) more in
    let whole : Many t p q (q + len_utf8 c + length (encodes cs)) (code t q ∷ cs) = step (one here) rest in
    subst (λ w. Many t p q w (c ∷ cs)) there (subst (λ v. Many t p q (q + len_utf8 c + length (encodes cs)) (v ∷ cs)) got.0.char whole)

some_bytes : (cs : List ℕ) → cs ≢ [] → 0 < length (encodes cs)
some_bytes [] n = absurd (n refl)
some_bytes (c ∷ cs) n = omega (arith, length-append (encode c) (encodes cs), length-encode c, len_utf8_bounds c)

-- a run of a class, if none of the class follows
pub run_back : {t : List ℕ} {p : ℕ → Bool} {x : List ℕ} (r : List ℕ) (q : ℕ) → IsUtf8 t → RunText p x → p (code t (q + length x)) ≡ false → IsAt t q (x ++ r)
    → Run (One t p) q (q + length x)
run_back {t} {p} {x} r q u n e s =
    let bytes : encodes n.chars ≡ x = n.bytes in
    let s' : IsAt t q (encodes n.chars ++ r) = subst (λ w. IsAt t q (w ++ r)) (sym bytes) s in
    let stop = one_stuck t p (q + length (encodes n.chars)) (subst (λ w. p (code t (q + length w)) ≡ false) (sym bytes) e) in
    let long = some_bytes n.chars n.some in
    subst (λ w. Run (One t p) q (q + length w)) bytes
    (record { characters = n.chars; chain = many_back p n.chars r q u n.each s'; some = omega arith; all = stop })

pub run_end : {t : List ℕ} {p : ℕ → Bool} {x : List ℕ} (r : List ℕ) (q : ℕ) → IsUtf8 t → RunText p x → IsAt t q (x ++ r) → IsAt t (q + length x) r
run_end {t} {p} {x} r q u n s =
    let bytes : encodes n.chars ≡ x = n.bytes in
    subst (λ w. IsAt t (q + length w) r) bytes (is_at_chars n.chars u (subst (λ w. IsAt t q (w ++ r)) (sym bytes) s))

-- names
name_run : {t : List ℕ} {name : List ℕ} (r : List ℕ) (q : ℕ) → IsUtf8 t → IsName name → Follows is_after_name r → IsAt t q (name ++ r)
    → Run (AnchorChar t) q (q + length name)
name_run {t} {name} r q u n f s =
    let run : RunText is_anchor_char name = record { chars = n.chars; bytes = n.bytes; each = n.each; some = n.some } in
    run_back r q u run (none_of_name (code t (q + length name)) (follows_code u (run_end r q u run s) f)) s

past_sign : (q : ℕ) (x : List ℕ) (c : ℕ) → q + 1 + length x ≡ q + length (c ∷ x)
past_sign q x c = omega arith

pub alias_back : {t : List ℕ} {name : List ℕ} (r : List ℕ) {q : ℕ} → IsUtf8 t → IsName name → Follows is_after_name r → IsAt t q (alias_bytes name ++ r)
    → Alias t q (q + length (alias_bytes name)) name
alias_back {t} {name} r {q} u n f s =
    let got = is_at_ascii 42 u (omega arith) s in
    let whole : Alias t q (q + 1 + length name) (slice_range t (q + 1) (q + 1 + length name)) = asterisk_name got.0.char (name_run r (q + 1) u n f got.1) in
    subst (λ k. Alias t q k name) (past_sign q name 42) (subst (λ w. Alias t q (q + 1 + length name) w) (slice_back name r got.1) whole)

pub anchor_back : {t : List ℕ} {name : List ℕ} (r : List ℕ) {q : ℕ} → IsUtf8 t → IsName name → Follows is_after_name r → IsAt t q (anchor_bytes name ++ r)
    → Anchor t q (q + length (anchor_bytes name)) name
anchor_back {t} {name} r {q} u n f s =
    let got = is_at_ascii 38 u (omega arith) s in
    let whole : Anchor t q (q + 1 + length name) (slice_range t (q + 1) (q + 1 + length name)) = ampersand_name got.0.char (name_run r (q + 1) u n f got.1) in
    subst (λ k. Anchor t q k name) (past_sign q name 38) (subst (λ w. Anchor t q (q + 1 + length name) w) (slice_back name r got.1) whole)

-- characters of tags
pub record SpelledAt (t : List ℕ) (p : ℕ → Bool) (q j : ℕ) (r : List ℕ) : Type 0 where
  pub meaning : List ℕ
  pub chain : Chain (SpelledChar t p) q j meaning
  pub rest : IsAt t j r

-- one of them
pub itself_back : {t : List ℕ} {p : ℕ → Bool} (c : ℕ) (r : List ℕ) (q : ℕ) → IsUtf8 t → Solid c → p c ≡ true → IsAt t q (c ∷ r)
    → SpelledChar t p q (q + 1) (code t q ∷ []) × IsAt t (q + 1) r
itself_back {t} {p} c r q u s e at =
    let got = is_at_ascii c u (let h = s.high in omega arith) at in
    let here : p (code t q) ≡ true = ap p got.0.char ∙ e in
    (subst (λ k. SpelledChar t p q k (code t q ∷ [])) got.0.end (as_itself here), got.1)

pub escape_back : {t : List ℕ} {p : ℕ → Bool} (a b : ℕ) (r : List ℕ) (q : ℕ) → IsUtf8 t → is_hex_digit a ≡ true → is_hex_digit b ≡ true → IsAt t q (37 ∷ a ∷ b ∷ r)
    → SpelledChar t p q (q + 3) (37 ∷ code t (q + 1) ∷ code t (q + 2) ∷ []) × IsAt t (q + 3) r
escape_back {t} {p} a b r q u e f at =
    let high = hex_solid a e in
    let low = hex_solid b f in
    let got = is_at_ascii 37 u (omega arith) at in
    let got₁ = is_at_ascii a u (let h = high.high in omega arith) got.1 in
    let got₂ = is_at_ascii b u (let h = low.high in omega arith) got₁.1 in
    let two : q + 1 + 1 ≡ q + 2 = omega arith in
    let three : q + 1 + 1 + 1 ≡ q + 3 = omega arith in
    let first : is_hex_digit (code t (q + 1)) ≡ true = ap is_hex_digit got₁.0.char ∙ e in
    let second : is_hex_digit (code t (q + 2)) ≡ true = ap (λ w. is_hex_digit (code t w)) (sym two) ∙ ap is_hex_digit got₂.0.char ∙ f in
    (as_escape got.0.char first second, subst (λ w. IsAt t w r) three got₂.1)

pub spelled_back : {t : List ℕ} {p : ℕ → Bool} {x : List ℕ} (r : List ℕ) (q : ℕ) → IsUtf8 t → ((c : ℕ) → p c ≡ true → Solid c) → IsSpelled p x → IsAt t q (x ++ r)
    → SpelledAt t p q (q + length x) r
spelled_back {t} {p} r q u S nothing_spelled s =
    record { meaning = []; chain = subst (λ w. Chain (SpelledChar t p) q w []) (sym (add-zero q)) done; rest = subst (λ w. IsAt t w r) (sym (add-zero q)) s }
spelled_back {t} {p} r q u S (itself_spelled {c = c} {x = x} e k) s =
    let first = itself_back c (x ++ r) q u (S c e) e s in
    let more = spelled_back r (q + 1) u S k first.1 in
    let there : q + 1 + length x ≡ q + length (c ∷ x) = omega arith in
    let meaning : List ℕ = code t q ∷ [] ++ more.meaning in
    let whole : Chain (SpelledChar t p) q (q + 1 + length x) meaning = step first.0 more.chain in
    record { meaning = meaning; chain = subst (λ w. Chain (SpelledChar t p) q w meaning) there whole; rest = subst (λ w. IsAt t w r) there more.rest }
spelled_back {t} {p} r q u S (escape_spelled {a = a} {b = b} {x = x} e f k) s =
    let first = escape_back a b (x ++ r) q u e f s in
    let more = spelled_back r (q + 3) u S k first.1 in
    let there : q + 3 + length x ≡ q + length (37 ∷ a ∷ b ∷ x) = omega arith in
    let meaning : List ℕ = 37 ∷ code t (q + 1) ∷ code t (q + 2) ∷ more.meaning in
    let whole : Chain (SpelledChar t p) q (q + 3 + length x) meaning = step first.0 more.chain in
    record { meaning = meaning; chain = subst (λ w. Chain (SpelledChar t p) q w meaning) there whole; rest = subst (λ w. IsAt t w r) there more.rest }

pub long_some : (x : List ℕ) → x ≢ [] → 0 < length x
long_some [] n = absurd (n refl)
long_some (c ∷ x) n = omega arith

pub spelled_run : {t : List ℕ} {p : ℕ → Bool} {q j : ℕ} {r : List ℕ} → q < j → SpelledAt t p q j r → Stuck (SpelledChar t p j) → Run (SpelledChar t p) q j
spelled_run l a s = record { characters = a.meaning; chain = a.chain; some = l; all = s }
