-- Offsets on a line, and the number of characters before each, counted from the start of the line.
use Rattle.std.proofs.Common.{◌≡◌, ℕ, zero, suc, ◌+◌, ◌<◌, ◌≤◌, true, List, [], ◌∷◌, ◌++◌, length, replicate, refl, sym, ap, ◌∙◌, subst, arith, add-zero, append_assoc, length-append}
use Rattle.std.specs.Char.{len_utf8}
use Rattle.std.specs.Str.{IsUtf8}
use Rattle.std.proofs.lemmas.Str.{chars_from_encodes, chars-nil, length-encode}
use lib.Utf8.{encode, encodes}
use Rattle.yf_chars.specs.Chain.{Many}
use Rattle.yf_chars.specs.Chain.Chain.{done, step}
use Rattle.yf_chars.specs.Chain.One.{one}
use Rattle.yf_chars.specs.Class.{is_nb_char}
use Rattle.yf_chars.specs.Text.{code, next}
use Rattle.yf_chars.proofs.ChainLemmas.{chain_append}
use Rattle.yf_lines.specs.Basic.{LineStart}
use Rattle.yf_lines.specs.LineText.{AllNb, IsLineText}
use Rattle.yf_lines.specs.Rest.{Rest}
use Rattle.yf_lines.proofs.ClearLemmas.{Quiet, quiet_nothing, quiet_join}
use Rattle.yf_lines.proofs.RestLemmas.{line_ascii, line_nothing, rest_char, rest_text}
use Rattle.yf_forms.specs.Nodes.OneLine.{width}
use Rattle.yf_laws.proofs.Texts.LineUtf8.{line_utf8}
use Rattle.yf_forms.proofs.Texts.WidthLemmas.{width_head}
use Rattle.yf_chars.proofs.Tests.{below}
use Rattle.yf_chars.proofs.CharBounds.{visible_nb}
use Rattle.yf_laws.proofs.Writable.GapPasses.{no_return}

-- m characters are between the start of the line and the offset, and no line starts in them
pub record OnLine (t : List ℕ) (m i : ℕ) : Type 0 where
  pub line : ℕ
  pub start : LineStart t line
  pub before : List ℕ
  pub run : Many t is_nb_char line i before
  pub wide : length before ≡ m
  pub quiet : Quiet t line i

pub on_same : {t : List ℕ} {m n i j : ℕ} → m ≡ n → i ≡ j → OnLine t m i → OnLine t n j
on_same {t} {m} {n} {i} {j} e f a = subst (λ k. OnLine t n k) f (subst (λ k. OnLine t k i) e a)

pub line_begins : {t : List ℕ} {p : ℕ} → LineStart t p → OnLine t 0 p
line_begins {t} {p} s = record { line = p; start = s; before = []; run = done; wide = refl; quiet = quiet_nothing t p }

-- Characters in a row.

record Counted (t : List ℕ) (q j n : ℕ) : Type 0 where
  meaning : List ℕ
  run : Many t is_nb_char q j meaning
  count : length meaning ≡ n

counted : {t : List ℕ} (cs : List ℕ) (q : ℕ) (r : List ℕ) → IsUtf8 t → AllNb cs → Rest t q (encodes cs ++ r) → Counted t q (q + length (encodes cs)) (length cs)
counted {t} [] q r u a s = record { meaning = []; run = subst (λ w. Many t is_nb_char q w []) (sym (add-zero q)) done; count = refl }
counted {t} (c ∷ cs) q r u a s =
    let here : Rest t q (encode c ++ (encodes cs ++ r)) = subst (λ w. Rest t q w) (append_assoc (encode c) (encodes cs) r) s in
    let got = rest_char c u (no_return c a.0) here in
    let more = counted cs (q + len_utf8 c) r u a.1 got.1 in
    let there : q + len_utf8 c + length (encodes cs) ≡ q + length (encode c ++ encodes cs) = omega (arith, length-append (encode c) (encodes cs), length-encode c) in
    let nb : is_nb_char (code t q) ≡ true = ap is_nb_char got.0.char ∙ a.0 in
    let next_is : next t q ≡ q + len_utf8 c = got.0.end in
    let chain : Many t is_nb_char (next t q) (q + len_utf8 c + length (encodes cs)) more.meaning =
    subst (λ w. Many t is_nb_char w (q + len_utf8 c + length (encodes cs)) more.meaning) (sym next_is) more.run in
    let whole : Many t is_nb_char q (q + len_utf8 c + length (encodes cs)) (code t q ∷ [] ++ more.meaning) = step (one nb) chain in
    let count : length more.meaning ≡ length cs = more.count in
    record {
      meaning = code t q ∷ [] ++ more.meaning;
      run = subst (λ w. Many t is_nb_char q w (code t q ∷ [] ++ more.meaning)) there whole;
      count = ap suc count;
    }

line_width : {w : List ℕ} (text : IsLineText w) → width w ≡ length text.chars
line_width {w} text = sym (ap length (chars_from_encodes text.chars w (line_utf8 text) text.bytes))

-- a text within the line
pub on_more : {t : List ℕ} {m i : ℕ} (w r : List ℕ) → IsUtf8 t → IsLineText w → OnLine t m i → Rest t i (w ++ r) → OnLine t (m + width w) (i + length w)
on_more {t} {m} {i} w r u text a s =
    let e : encodes text.chars ≡ w = text.bytes in
    let at = rest_text w u text s in
    let run : Counted t i (i + length w) (length text.chars) =
    subst (λ v. Counted t i (i + length v) (length text.chars)) e (counted text.chars i r u text.each (subst (λ v. Rest t i (v ++ r)) (sym e) s)) in
    let first : length a.before ≡ m = a.wide in
    let second : length run.meaning ≡ length text.chars = run.count in
    let count : width w ≡ length text.chars = line_width text in
    record {
      line = a.line;
      start = a.start;
      before = a.before ++ run.meaning;
      run = chain_append a.run run.run;
      wide = omega (arith, length-append a.before run.meaning, first, second, count);
      quiet = quiet_join a.quiet at.quiet;
    }

-- a sign

one_char : (c : ℕ) → c < 128 → width (c ∷ []) ≡ 1
one_char c l = width_head c [] (below c 128 l) ∙ ap suc (ap length chars-nil)

pub bare_width : width [] + width (58 ∷ []) ≡ 1
bare_width = let none : width [] ≡ 0 = ap length chars-nil in let one : width (58 ∷ []) ≡ 1 = one_char 58 (omega arith) in omega (arith, none, one)

pub on_sign : {t : List ℕ} {m i : ℕ} (c : ℕ) (r : List ℕ) → IsUtf8 t → 32 ≤ c → c < 127 → OnLine t m i → Rest t i (c ∷ r) → OnLine t (m + 1) (i + 1)
on_sign {t} {m} {i} c r u l h a s =
    let one : width (c ∷ []) ≡ 1 = one_char c (omega (arith, h)) in
    on_same (omega (arith, one)) refl (on_more (c ∷ []) r u (line_ascii c (omega (arith, h)) (visible_nb c l h) line_nothing) a s)

pub on_spaces : {t : List ℕ} (n : ℕ) {m i : ℕ} (r : List ℕ) → IsUtf8 t → OnLine t m i → Rest t i (replicate n 32 ++ r) → OnLine t (m + n) (i + n)
on_spaces zero {m} {i} r u a s = on_same (sym (add-zero m)) (sym (add-zero i)) a
on_spaces {t} (suc n) {m} {i} r u a s =
    let next = rest_text (32 ∷ []) u (line_ascii 32 (omega arith) (visible_nb 32 (omega arith) (omega arith)) line_nothing) s in
    on_same (omega arith) (omega arith) (on_spaces n r u (on_sign 32 (replicate n 32 ++ r) u (omega arith) (omega arith) a s) next.rest)

-- the text of a row that begins a line
pub on_column : {t : List ℕ} {k : ℕ} (n : ℕ) (r : List ℕ) → IsUtf8 t → LineStart t k → Rest t k (replicate n 32 ++ r) → OnLine t n (k + n)
on_column n r u a s = on_same (omega arith) refl (on_spaces n r u (line_begins a) s)
