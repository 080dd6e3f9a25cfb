-- Written text within a text: the characters at an offset, from the bytes from there on.
use Rattle.std.proofs.Common.{◌≡◌, ◌≢◌, ℕ, zero, suc, ◌+◌, ◌-◌, ◌<◌, Bool, true, false, true≢false, eqb, List, [], ◌∷◌, ◌++◌, length, take, drop, slice_range, replicate, refl, sym, ap, ◌∙◌, subst, arith, ⊎_elim, ◌⊎◌, inl, inr, append_assoc, length-append, length-drop, add-zero}
use Rattle.std.proofs.Math.Seq.{take-append_seam}
use Rattle.std.proofs.lemmas.Str as S
use Rattle.std.proofs.lemmas.Str.{len_utf8_bounds, length-encode, encode_ascii, len_utf8_ascii, drop_past_char, encodes-append}
use Rattle.std.specs.Char.{len_utf8}
use Rattle.std.specs.Str.{IsUtf8}
use lib.Utf8.{encode, encodes}
use Rattle.yf_chars.specs.Text.{code, next, before, last_or, CharAt, no_char}
use Rattle.yf_chars.specs.Class.{is_nb_char}
use Rattle.yf_chars.specs.Chain.{Many}
use Rattle.yf_chars.specs.Chain.Chain.{done, step}
use Rattle.yf_chars.specs.Chain.One.{one}
use Rattle.yf_chars.proofs.TextLemmas.{reads_char, reads_byte, code-end}
use Rattle.yf_chars.proofs.SpelledLemmas.{IsAt, is_at_ascii, is_at_char}
use Rattle.yf_lines.specs.Basic.{Spaces, Break, Clear, ForbiddenLine}
use Rattle.yf_lines.specs.Basic.Break.{lone_lf}
use Rattle.yf_lines.specs.LineText.{AllNb, IsLineText, is_after_name, is_after_text, Follows}
pub use Rattle.yf_lines.specs.Rest.{Rest}
use Rattle.yf_lines.specs.LineText.Follows.{nothing_follows, byte_follows}
use Rattle.std.proofs.lemmas.Bool.{or_right, or_cases, eqb-true}
use Rattle.std.proofs.lemmas.Bool.Decides.{nat_tests}
use Rattle.yf_lines.proofs.ClearLemmas.{Quiet, quiet_nothing, quiet_join, quiet_char, clear_quiet}
use Rattle.yf_chars.proofs.CharFacts.{return_no_nb, feed_no_nb, mark_no_nb}

pub rest_start : (t : List ℕ) → IsUtf8 t → Rest t 0 t
unfolding before
rest_start t u = record {
  bytes = refl;
  boundary = S.IsCharBoundary-start t u;
  clean = λ e. absurd (omega (arith, ap (last_or no_char) S.chars-nil));
}

pub rest_is_at : {t : List ℕ} {q : ℕ} {r : List ℕ} → Rest t q r → IsAt t q r
rest_is_at s = record { bytes = s.bytes; boundary = s.boundary }

pub rest_within : {t : List ℕ} {q : ℕ} (c : ℕ) (r : List ℕ) → Rest t q (encode c ++ r) → q < length t
rest_within {t} {q} c r s =
    let long : length (drop q t) ≡ length (encode c ++ r) = ap length s.bytes in
    omega (arith, length-drop q t, length-append (encode c) r, length-encode c, len_utf8_bounds c)

pub rest_char : {t : List ℕ} {q : ℕ} {r : List ℕ} (c : ℕ) → IsUtf8 t → c ≢ 13 → Rest t q (encode c ++ r)
    → CharAt t q c (q + len_utf8 c) × Rest t (q + len_utf8 c) r
rest_char {t} {q} {r} c u n s =
    let read = reads_char t q c r u s.boundary (rest_within c r s) s.bytes in
    (read, record { bytes = drop_past_char t r q c s.bytes; boundary = read.boundary; clean = λ e. n (sym read.back ∙ e) })

pub rest_ascii : {t : List ℕ} {q : ℕ} {r : List ℕ} (c : ℕ) → IsUtf8 t → c < 128 → c ≢ 13 → Rest t q (c ∷ r) → CharAt t q c (q + 1) × Rest t (q + 1) r
rest_ascii {t} {q} {r} c u l n s =
    let wide : c ∷ r ≡ encode c ++ r = ap (λ w. w ++ r) (sym (encode_ascii c l)) in
    let s' : Rest t q (encode c ++ r) = subst (λ w. Rest t q w) wide s in
    let got = rest_char c u n s' in
    let one_long : len_utf8 c ≡ 1 = len_utf8_ascii c l in
    (subst (λ w. CharAt t q c (q + w)) one_long got.0, subst (λ w. Rest t (q + w) r) one_long got.1)

-- spaces
pub spaces_more : {t : List ℕ} {q k : ℕ} → code t q ≡ 32 → Spaces t (q + 1) k → Spaces t q (suc k)
spaces_more {t} {q} {k} e s = record { each = each } where
  each : (m : ℕ) → m < suc k → code t (q + m) ≡ 32
  each zero l = ap (code t) (add-zero q) ∙ e
  each (suc m) l =
      let there : q + suc m ≡ q + 1 + m = omega arith in
      ap (code t) there ∙ s.each m (omega arith)

pub rest_spaces : {t : List ℕ} (k q : ℕ) {r : List ℕ} → IsUtf8 t → Rest t q (replicate k 32 ++ r) → Spaces t q k × Rest t (q + k) r
rest_spaces {t} zero q {r} u s = (record { each = λ m l. absurd (omega arith) }, subst (λ w. Rest t w r) (sym (add-zero q)) s)
rest_spaces {t} (suc k) q {r} u s =
    let got = rest_ascii 32 u (omega arith) (λ e. absurd (omega arith)) s in
    let more = rest_spaces k (q + 1) u got.1 in
    let there : q + 1 + k ≡ q + suc k = omega arith in
    (spaces_more got.0.char more.0, subst (λ w. Rest t w r) there more.1)

-- nb-chars
pub nb_not : (d c : ℕ) → is_nb_char d ≡ false → is_nb_char c ≡ true → c ≢ d
nb_not d c n e q = true≢false (sym e ∙ ap is_nb_char q ∙ n)

-- characters that begin no line: the text after them, and no line begins within them
pub is_at_chars : {t : List ℕ} (cs : List ℕ) {q : ℕ} {r : List ℕ} → IsUtf8 t → IsAt t q (encodes cs ++ r) → IsAt t (q + length (encodes cs)) r
is_at_chars {t} [] {q} {r} u s = subst (λ w. IsAt t w r) (sym (add-zero q)) s
is_at_chars {t} (c ∷ cs) {q} {r} u s =
    let got = is_at_char c u (subst (λ w. IsAt t q w) (append_assoc (encode c) (encodes cs) r) s) in
    let there : q + len_utf8 c + length (encodes cs) ≡ q + length (encode c ++ encodes cs) = omega (arith, length-append (encode c) (encodes cs), length-encode c) in
    subst (λ w. IsAt t w r) there (is_at_chars cs u got.1)

pub chars_quiet : {t : List ℕ} (cs r : List ℕ) {q : ℕ} → IsUtf8 t → AllNb cs → IsAt t q (encodes cs ++ r) → Quiet t q (q + length (encodes cs))
chars_quiet {t} [] r {q} u a s = subst (λ w. Quiet t q w) (sym (add-zero q)) (quiet_nothing t q)
chars_quiet {t} (c ∷ cs) r {q} u a s =
    let got = is_at_char c u (subst (λ w. IsAt t q w) (append_assoc (encode c) (encodes cs) r) s) in
    let there : q + len_utf8 c + length (encodes cs) ≡ q + length (encode c ++ encodes cs) = omega (arith, length-append (encode c) (encodes cs), length-encode c) in
    let quiet : Quiet t q (q + len_utf8 c) = quiet_char u got.0 (nb_not 10 c feed_no_nb a.0) (nb_not 13 c return_no_nb a.0) (nb_not 0xFEFF c mark_no_nb a.0) in
    subst (λ w. Quiet t q w) there (quiet_join quiet (chars_quiet cs r u a.1 got.1))

-- the text between two offsets
pub slice_back : {t : List ℕ} (w r : List ℕ) {q : ℕ} → IsAt t q (w ++ r) → slice_range t q (q + length w) ≡ w
slice_back {t} w r {q} s =
    let long : q + length w - q ≡ length w = omega arith in
    ap (λ k. take k (drop q t)) long ∙ ap (take (length w)) s.bytes ∙ take-append_seam w r

-- a text within a line: its characters, and the text after it; no line begins within it
pub record TextAt (t : List ℕ) (q j : ℕ) (r : List ℕ) : Type 0 where
  pub meaning : List ℕ
  pub chars : Many t is_nb_char q j meaning
  pub quiet : Quiet t q j
  pub rest : Rest t j r

chars_at : {t : List ℕ} (cs : List ℕ) (q : ℕ) {r : List ℕ} → IsUtf8 t → AllNb cs → Rest t q (encodes cs ++ r) → TextAt t q (q + length (encodes cs)) r
chars_at {t} [] q {r} u a s = record {
  meaning = [];
  chars = subst (λ w. Many t is_nb_char q w []) (sym (add-zero q)) done;
  quiet = subst (λ w. Quiet t q w) (sym (add-zero q)) (quiet_nothing t q);
  rest = subst (λ w. Rest t w r) (sym (add-zero q)) s;
}
chars_at {t} (c ∷ cs) q {r} u a s =
    let s' : Rest t q (encode c ++ (encodes cs ++ r)) = subst (λ w. Rest t q w) (append_assoc (encode c) (encodes cs) r) s in
    let got = rest_char c u (nb_not 13 c return_no_nb a.0) s' in
    let more = chars_at cs (q + len_utf8 c) u a.1 got.1 in
    let there : q + len_utf8 c + length (encodes cs) ≡ q + length (encode c ++ encodes cs) = omega (arith, length-append (encode c) (encodes cs), length-encode c) in
    let nb : is_nb_char (code t q) ≡ true = ap is_nb_char got.0.char ∙ a.0 in
    let next_is : next t q ≡ q + len_utf8 c = got.0.end in
    let chain : Many t is_nb_char (next t q) (q + len_utf8 c + length (encodes cs)) more.meaning =
    subst (λ w. Many t is_nb_char w (q + len_utf8 c + length (encodes cs)) more.meaning) (sym next_is) more.chars in
    let whole : Many t is_nb_char q (q + len_utf8 c + length (encodes cs)) (code t q ∷ [] ++ more.meaning) = step (one nb) chain in
    let quiet : Quiet t q (q + len_utf8 c) = quiet_char u got.0 (nb_not 10 c feed_no_nb a.0) (nb_not 13 c return_no_nb a.0) (nb_not 0xFEFF c mark_no_nb a.0) in
    record {
      meaning = code t q ∷ [] ++ more.meaning;
      chars = subst (λ w. Many t is_nb_char q w (code t q ∷ [] ++ more.meaning)) there whole;
      quiet = subst (λ w. Quiet t q w) there (quiet_join quiet more.quiet);
      rest = subst (λ w. Rest t w r) there more.rest;
    }

pub rest_chars : {t : List ℕ} (cs : List ℕ) (q : ℕ) {r : List ℕ} → IsUtf8 t → AllNb cs → Rest t q (encodes cs ++ r)
    → ((y : List ℕ) × Many t is_nb_char q (q + length (encodes cs)) y) × Rest t (q + length (encodes cs)) r
rest_chars cs q u a s = let at = chars_at cs q u a s in ((at.meaning, at.chars), at.rest)

pub rest_text : {t : List ℕ} (w : List ℕ) {q : ℕ} {r : List ℕ} → IsUtf8 t → IsLineText w → Rest t q (w ++ r) → TextAt t q (q + length w) r
rest_text {t} w {q} {r} u text s =
    let e : encodes text.chars ≡ w = text.bytes in
    subst (λ v. TextAt t q (q + length v) r) e (chars_at text.chars q u text.each (subst (λ v. Rest t q (v ++ r)) (sym e) s))

-- the text is covered if no forbidden line begins with it
pub text_clear : {t : List ℕ} {q j : ℕ} {r : List ℕ} → TextAt t q j r → (ForbiddenLine t q → ⊥) → Clear t q j
text_clear at n = clear_quiet n at.quiet

-- texts within a line
pub nb_append : (xs ys : List ℕ) → AllNb xs → AllNb ys → AllNb (xs ++ ys)
nb_append [] ys a b = b
nb_append (x ∷ xs) ys a b = (a.0, nb_append xs ys a.1 b)

pub line_nothing : IsLineText []
line_nothing = record { chars = []; bytes = refl; each = tt }

pub line_append : {x y : List ℕ} → IsLineText x → IsLineText y → IsLineText (x ++ y)
line_append {x} {y} a b =
    let first : encodes a.chars ≡ x = a.bytes in
    let second : encodes b.chars ≡ y = b.bytes in
    record {
      chars = a.chars ++ b.chars;
      bytes = encodes-append a.chars b.chars ∙ ap (λ w. w ++ encodes b.chars) first ∙ ap (λ w. x ++ w) second;
      each = nb_append a.chars b.chars a.each b.each;
    }

pub line_ascii : (c : ℕ) {x : List ℕ} → c < 128 → is_nb_char c ≡ true → IsLineText x → IsLineText (c ∷ x)
line_ascii c {x} l e a =
    let same : encode c ≡ c ∷ [] = encode_ascii c l in
    let bytes : encodes a.chars ≡ x = a.bytes in
    record {
      chars = c ∷ a.chars;
      bytes = ap (λ w. w ++ encodes a.chars) same ∙ ap (λ w. c ∷ w) bytes;
      each = (e, a.each);
    }

-- a break
zero_or : (n : ℕ) → (n ≡ 0) ⊎ (0 < n)
zero_or zero = inl refl
zero_or (suc n) = inr (omega arith)

pub rest_break : {t : List ℕ} {q : ℕ} {r : List ℕ} → IsUtf8 t → Rest t q (10 ∷ r) → Break t q (q + 1) × Rest t (q + 1) r
rest_break {t} {q} {r} u s =
    let got = rest_ascii 10 u (omega arith) (λ e. absurd (omega arith)) s in
    (lone_lf got.0.char (λ e. no_cr e got.0.char), got.1)
  where
    no_cr : code t (q - 1) ≡ 13 → code t q ≡ 10 → ⊥
    no_cr e f = ⊎_elim (λ (z : q ≡ 0). let same : q - 1 ≡ q = omega arith in let both : code t q ≡ 13 = ap (code t) (sym same) ∙ e in absurd (omega arith))
        (λ (z : 0 < q).
        let read = reads_byte t (q - 1) 13 u e (omega arith) in
        let same : q - 1 + 1 ≡ q = omega arith in
        s.clean (ap (before t) (sym same) ∙ read.back))
        (zero_or q)

-- the character after a written text
follows_nothing : {t : List ℕ} {q : ℕ} → IsAt t q [] → code t q ≡ no_char
follows_nothing {t} {q} s =
    let long : length (drop q t) ≡ 0 = ap length s.bytes in
    let last : q ≡ length t = omega (arith, length-drop q t, s.boundary.0) in
    ap (code t) last ∙ code-end t

pub follows_code : {t : List ℕ} {q : ℕ} {p : ℕ → Bool} {r : List ℕ} → IsUtf8 t → IsAt t q r → Follows p r
    → (code t q ≡ no_char) ⊎ (p (code t q) ≡ true)
follows_code u s nothing_follows = inl (follows_nothing s)
follows_code {p = p} u s (byte_follows {c = c} l e) = inr (ap p (is_at_ascii c u l s).0.char ∙ e)

pub follows_text : {r : List ℕ} → Follows is_after_name r → Follows is_after_text r
unfolding is_after_text
follows_text nothing_follows = nothing_follows
follows_text (byte_follows {c = c} l e) = byte_follows l (or_right (eqb c 58) (is_after_name c) e)

-- such a character is not part of a name, and begins no document marker
pub after_text_cases : (c : ℕ) → is_after_text c ≡ true → (c ≡ 58) ⊎ (is_after_name c ≡ true)
unfolding is_after_text
after_text_cases c e = ⊎_elim (λ (h : eqb c 58 ≡ true). inl (eqb-true c 58 h)) (λ (h : is_after_name c ≡ true). inr h) (or_cases (eqb c 58) (is_after_name c) e)

pub after_name_cases : (c : ℕ) → is_after_name c ≡ true → (c ≡ 32) ⊎ ((c ≡ 10) ⊎ ((c ≡ 44) ⊎ ((c ≡ 93) ⊎ (c ≡ 125))))
unfolding is_after_name
after_name_cases c e = grind (arith, nat_tests)

-- a text before one of these characters begins no forbidden line with its last ones
pub follows_not : {t : List ℕ} {q : ℕ} {r : List ℕ} → IsUtf8 t → IsAt t q r → Follows is_after_text r → (code t q ≢ 45) × (code t q ≢ 46)
follows_not {t} {q} u s f =
    ⊎_elim (λ (e : code t q ≡ no_char). ((λ h. omega arith), (λ h. omega arith)))
    (λ (e : is_after_text (code t q) ≡ true).
    ⊎_elim (λ (h : code t q ≡ 58). ((λ k. omega arith), (λ k. omega arith)))
    (λ (h : is_after_name (code t q) ≡ true). let cases = after_name_cases (code t q) h in ((λ k. omega (arith, cases)), (λ k. omega (arith, cases))))
    (after_text_cases (code t q) e))
    (follows_code u s f)
