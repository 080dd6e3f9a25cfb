-- Written text is derived again: characters, lines and the whole scalar, from the rest of the text after an offset.
use Rattle.std.proofs.Common.{◌≡◌, ◌≢◌, ℕ, zero, suc, ◌+◌, ◌-◌, ◌<◌, Bool, true, false, List, [], ◌∷◌, ◌++◌, length, map, take, drop, slice_range, replicate, refl, sym, ap, ◌∙◌, subst, arith, ⊎_elim, ◌⊎◌, inl, inr, append_assoc, length-append, length-drop, add-zero}
use Rattle.std.proofs.Math.Seq.{take-append_seam}
use Rattle.std.proofs.lemmas.Bool.{cases_Bool}
use Rattle.std.proofs.lemmas.Str.{len_utf8_bounds, length-encode}
use Rattle.std.specs.Str.{IsUtf8}
use lib.Utf8.{encode, encodes}
use Rattle.yf_chars.specs.Text.{code}
use Rattle.yf_chars.specs.Chain.{Chain}
use Rattle.yf_chars.specs.Chain.Chain.{done, step}
use Rattle.yf_lines.specs.Basic.{Break, is_marker}
use Rattle.yf_lines.specs.LineText.{IsLineText}
pub use Rattle.yf_lines.proofs.RestLemmas.{Rest, rest_start, rest_char, rest_ascii, rest_spaces, rest_chars, rest_break}
use Rattle.yf_block_scalar.specs.Body.{SpaceLine, EmptyLines, Ends, LineContent, Line}
use Rattle.yf_block_scalar.specs.Body.EmptyLines.{bare}
use Rattle.yf_block_scalar.specs.Body.Ends.{by_break, by_text}
use Rattle.yf_block_scalar.specs.Body.LineContent.{content}
use Rattle.yf_block_scalar.specs.Body.Line.{empty_line, content_line}
use Rattle.yf_block_scalar.specs.Content.{feeds, literal_after}
use Rattle.yf_block_scalar.specs.Written.{indented, AreLineTexts, EndsWithContent}
use Rattle.yf_lines.proofs.ClearLemmas.{marker_char}

-- a written content line
pub some_chars : (cs : List ℕ) → encodes cs ≢ [] → 0 < length (encodes cs)
some_chars [] n = absurd (n refl)
some_chars (c ∷ cs) n = omega (arith, length-append (encode c) (encodes cs), length-encode c, len_utf8_bounds c)

taken_back : (x r : List ℕ) (q n : ℕ) → n ≡ q + length x → take (n - q) (x ++ r) ≡ x
taken_back x r q n e =
    let long : n - q ≡ length x = omega arith in
    ap (λ w. take w (x ++ r)) long ∙ take-append_seam x r

pub space_marker : (t : List ℕ) (q : ℕ) → code t q ≡ 32 → is_marker t q ≡ false
space_marker t q e = ⊎_elim (λ (m : is_marker t q ≡ true).
    ⊎_elim (λ (h : code t q ≡ 45). absurd (omega arith)) (λ (h : code t q ≡ 46). absurd (omega arith)) (marker_char t q m))
    (λ (m : is_marker t q ≡ false). m) (cases_Bool (is_marker t q))

-- the end of a content line: open at the end of the text, or a break
pub data ContentLineEnd : Bool → List ℕ → List ℕ → Type 0 where
  open_after : ContentLineEnd true [] []
  break_after : {r : List ℕ} → ContentLineEnd false (10 ∷ r) r

record Ended (t : List ℕ) (h : ℕ) (o : Bool) (r : List ℕ) : Type 0 where
  place : ℕ
  ends : Ends t h place o
  rest : Rest t place r

ended : {t : List ℕ} {h : ℕ} {o : Bool} {r r' : List ℕ} → IsUtf8 t → ContentLineEnd o r r' → Rest t h r → Ended t h o r'
ended {t} {h} u open_after s =
    let long : length (drop h t) ≡ 0 = ap length s.bytes in
    let last : h ≡ length t = omega (arith, length-drop h t, s.boundary.0) in
    record { place = h; ends = by_text last; rest = s }
ended {t} {h} u break_after s = let got = rest_break u s in record { place = h + 1; ends = by_break got.0; rest = got.1 }

record Made (t : List ℕ) (k q : ℕ) (x : List ℕ) (o : Bool) (r : List ℕ) : Type 0 where
  place : ℕ
  line : LineContent t k q place x o
  rest : Rest t place r

pub indented_full : (k : ℕ) (x : List ℕ) → x ≢ [] → indented k x ≡ replicate k 32 ++ x
indented_full k [] n = absurd (n refl)
indented_full k (c ∷ x) n = refl

content_made : {t : List ℕ} {k q : ℕ} {x r r' : List ℕ} {o : Bool} → IsUtf8 t → 0 < k → IsLineText x → x ≢ [] → ContentLineEnd o r r'
    → Rest t q (indented k x ++ r) → Made t k q x o r'
content_made {t} {k} {q} {x} {r} {r'} {o} u pos text full b s =
    let bytes : encodes text.chars ≡ x = text.bytes in
    let shape : indented k x ++ r ≡ replicate k 32 ++ (encodes text.chars ++ r) =
    ap (λ w. w ++ r) (indented_full k x full) ∙ append_assoc (replicate k 32) x r ∙ ap (λ w. replicate k 32 ++ (w ++ r)) (sym bytes) in
    let s' : Rest t q (replicate k 32 ++ (encodes text.chars ++ r)) = subst (λ w. Rest t q w) shape s in
    let spaces = rest_spaces k q u s' in
    let chars = rest_chars text.chars (q + k) u text.each spaces.1 in
    let h : ℕ = q + k + length (encodes text.chars) in
    let end = ended u b chars.1 in
    let long : 0 < length (encodes text.chars) = some_chars text.chars (λ e. full (sym bytes ∙ e)) in
    let first : code t q ≡ 32 = ap (code t) (sym (add-zero q)) ∙ spaces.0.each 0 pos in
    let made : LineContent t k q end.place (slice_range t (q + k) h) o = content spaces.0 chars.0.1 (omega arith) end.ends (space_marker t q first) in
    let slice : slice_range t (q + k) h ≡ x =
    ap (λ w. take (h - (q + k)) w) spaces.1.bytes ∙ taken_back (encodes text.chars) r (q + k) h refl ∙ bytes in
    record { place = end.place; line = subst (λ w. LineContent t k q end.place w o) slice made; rest = end.rest }

-- a written empty line
pub empty_made : {t : List ℕ} {q : ℕ} {r : List ℕ} → IsUtf8 t → Rest t q (10 ∷ r) → SpaceLine t q 0 (q + 1) × Rest t (q + 1) r
empty_made {t} {q} u s =
    let got = rest_break u s in
    (record { spaces = record { each = λ m l. absurd (omega arith) }; ends = subst (λ w. Break t w (q + 1)) (sym (add-zero q)) got.0 }, got.1)

-- the written lines, the last of them a content line
pub record Lasts (t : List ℕ) (k q : ℕ) (ls : List (List ℕ)) (o : Bool) (r : List ℕ) : Type 0 where
  pub start : ℕ
  pub place : ℕ
  pub front : List (List ℕ)
  pub last : List ℕ
  pub chain : Chain (Line t k) q start front
  pub line : LineContent t k start place last o
  pub parts : ls ≡ front ++ last ∷ []
  pub rest : Rest t place r

lasts_more : {t : List ℕ} {k q h : ℕ} {x : List ℕ} {ls : List (List ℕ)} {o : Bool} {r : List ℕ} → Line t k q h (x ∷ []) → Lasts t k h ls o r → Lasts t k q (x ∷ ls) o r
lasts_more {x = x} l a = record {
  start = a.start;
  place = a.place;
  front = x ∷ a.front;
  last = a.last;
  chain = step l a.chain;
  line = a.line;
  parts = ap (λ w. x ∷ w) a.parts;
  rest = a.rest;
}

pub empty_or : (x : List ℕ) → (x ≡ []) ⊎ (x ≢ [])
empty_or [] = inl refl
empty_or (c ∷ x) = inr (λ e. let long : suc (length x) ≡ 0 = ap length e in absurd (omega arith))

-- the bytes after one line
pub after_line : (k : ℕ) (x y : List ℕ) (ls : List (List ℕ)) (post : List ℕ)
    → indented k x ++ (literal_after (map (indented k) (y ∷ ls)) ++ post) ≡ indented k x ++ (10 ∷ (indented k y ++ (literal_after (map (indented k) ls) ++ post)))
after_line k x y ls post = ap (λ w. indented k x ++ (10 ∷ w)) (append_assoc (indented k y) (literal_after (map (indented k) ls)) post)

pub lines_made : {t : List ℕ} {k : ℕ} {o : Bool} {post r : List ℕ} (ls : List (List ℕ)) (x : List ℕ) (q : ℕ) → IsUtf8 t → 0 < k → AreLineTexts (x ∷ ls)
    → EndsWithContent (x ∷ ls) → ContentLineEnd o post r → Rest t q (indented k x ++ (literal_after (map (indented k) ls) ++ post)) → Lasts t k q (x ∷ ls) o r
lines_made {t} {k} {o} {post} {r} [] x q u pos texts full b s =
    let made = content_made u pos texts.0 full b s in
    record { start = q; place = made.place; front = []; last = x; chain = done; line = made.line; parts = refl; rest = made.rest }
lines_made {t} {k} {o} {post} {r} (y ∷ ls) x q u pos texts full b s =
    let s' : Rest t q (indented k x ++ (10 ∷ (indented k y ++ (literal_after (map (indented k) ls) ++ post)))) = subst (λ w. Rest t q w) (after_line k x y ls post) s in
    ⊎_elim
    (λ (e : x ≡ []).
    let bare : Rest t q (10 ∷ (indented k y ++ (literal_after (map (indented k) ls) ++ post))) =
    subst (λ w. Rest t q (indented k w ++ (10 ∷ (indented k y ++ (literal_after (map (indented k) ls) ++ post))))) e s' in
    let got = empty_made u bare in
    let more = lines_made ls y (q + 1) u pos texts.1 full b got.1 in
    let line : Line t k q (q + 1) ([] ∷ []) = empty_line got.0 (omega arith) in
    lasts_more (subst (λ w. Line t k q (q + 1) (w ∷ [])) (sym e) line) more)
    (λ (n : x ≢ []).
    let made = content_made u pos texts.0 n break_after s' in
    let more = lines_made ls y made.place u pos texts.1 full b made.rest in
    lasts_more (content_line made.line) more)
    (empty_or x)

-- the written tail
tail_step : {t : List ℕ} {i j : ℕ} (c : ℕ) → SpaceLine t i 0 j → Chain (EmptyLines t) j (length t) (replicate c 0) → Chain (EmptyLines t) i (length t) (replicate (suc c) 0)
tail_step d a c = step (bare 0 a) c

pub tail_made : {t : List ℕ} (c q : ℕ) → IsUtf8 t → Rest t q (feeds c) → Chain (EmptyLines t) q (length t) (replicate c 0)
tail_made {t} zero q u s =
    let long : length (drop q t) ≡ 0 = ap length s.bytes in
    let last : q ≡ length t = omega (arith, length-drop q t, s.boundary.0) in
    subst (λ w. Chain (EmptyLines t) q w []) last done
tail_made {t} (suc c) q u s =
    let got = empty_made u s in
    tail_step c got.0 (tail_made c (q + 1) u got.1)
