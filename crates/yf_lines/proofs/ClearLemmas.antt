-- No other line begins within a line, so no forbidden line does; and the bytes of a run of characters.
use Rattle.std.proofs.Common.{◌≡◌, ◌≢◌, ℕ, ◌+◌, ◌-◌, ◌<◌, ◌≤◌, true, false, List, [], ◌∷◌, ◌++◌, length, take, drop, refl, sym, ap, ◌∙◌, subst, inl, inr, ◌⊎◌, ⊎_elim, arith, append_assoc, append-nil, encode_utf8_all}
use Rattle.std.proofs.lemmas.Bool.{cases_eq, cases_lt, cases_Bool, true≢false}
use Rattle.std.proofs.lemmas.List.{take-append-drop, length-append, length-take-le, length-drop, drop-take}
use Rattle.std.proofs.Math.Seq.{drop-append_seam}
use Rattle.std.proofs.lemmas.Str.{encodes-append, IsCharBoundary-start, IsUtf8-between, encode_same}
use Rattle.std.specs.Str.{IsUtf8, IsCharBoundary}
use lib.Utf8.{encode, encodes}
use Rattle.yf_chars.specs.Text.{code, next, CharAt, no_char, begins}
use Rattle.yf_chars.specs.Class.{is_white}
use Rattle.yf_chars.specs.Chain.{Many}
use Rattle.yf_chars.specs.Chain.Chain.{done, step}
use Rattle.yf_chars.specs.Chain.One.{one}
use Rattle.yf_chars.proofs.TextLemmas.{reads_real, reads_byte, code-nowhere, boundary_from_begins, next-mark}
use Rattle.yf_lines.specs.Basic.{Break, LineStart, ForbiddenLine, Clear, is_marker}
use Rattle.yf_lines.specs.Basic.Break.{cr_lf, lone_cr, lone_lf}
use Rattle.yf_lines.proofs.BasicLemmas.{Before, line_start_view, break_end, break_forward, three_first, no_marker, white_below, white_cases, clear_join, clear_nothing}
use Rattle.yf_lines.proofs.BasicLemmas.Before.{nothing_before, break_before, mark_before}

-- the text after an offset with a character
rest_after : {t : List ℕ} {i c j : ℕ} → CharAt t i c j → drop i t ≡ encode c ++ drop j t
rest_after {t} {i} {c} {j} r =
    let within : i ≤ length t = omega (arith, r.later, r.within) in
    let whole : t ≡ take i t ++ (encode c ++ drop j t) =
    sym (take-append-drop j t) ∙ ap (λ w. w ++ drop j t) r.bytes ∙ append_assoc (take i t) (encode c) (drop j t) in
    let cut : drop (length (take i t)) (take i t ++ (encode c ++ drop j t)) ≡ encode c ++ drop j t = drop-append_seam (take i t) (encode c ++ drop j t) in
    ap (drop i) whole ∙ ap (λ k. drop k (take i t ++ (encode c ++ drop j t))) (sym (length-take-le i t within)) ∙ cut

reads_boundary : {t : List ℕ} {i c j : ℕ} → CharAt t i c j → IsCharBoundary t i
reads_boundary {t} {i} {c} r =
    ⊎_elim (λ (e : begins t i ≡ true). boundary_from_begins t i e)
    (λ (e : begins t i ≡ false). let same = code-nowhere t i e in let is = r.char in let low = r.below in absurd (omega arith))
    (cases_Bool (begins t i))

width_of : {t : List ℕ} {i c j : ℕ} → CharAt t i c j → i + length (encode c) ≡ j
width_of {t} {i} {c} {j} r =
    let within : i ≤ length t = omega (arith, r.later, r.within) in
    omega (arith, ap length r.bytes, length-append (take i t) (encode c), length-take-le i t within, length-take-le j t r.within)

too_short : {t : List ℕ} {i c j h : ℕ} (cs : List ℕ) → CharAt t i c j → i < h → h < j → encodes cs ≡ take (h - i) (drop i t) → ⊥
too_short {t} {i} {c} {j} {h} [] r l m e =
    let n : length (drop i t) ≡ length t - i = length-drop i t in
    let k : length (take (h - i) (drop i t)) ≡ h - i = length-take-le (h - i) (drop i t) (omega (arith, r.within)) in
    let z : 0 ≡ length (take (h - i) (drop i t)) = ap length e in
    omega arith
too_short {t} {i} {c} {j} {h} (d ∷ ds) r l m e =
    let n : length (drop i t) ≡ length t - i = length-drop i t in
    let k : length (take (h - i) (drop i t)) ≡ h - i = length-take-le (h - i) (drop i t) (omega (arith, r.within)) in
    let both : encode d ++ (encodes ds ++ drop (h - i) (drop i t)) ≡ encode c ++ drop j t =
    sym (append_assoc (encode d) (encodes ds) (drop (h - i) (drop i t))) ∙ ap (λ w. w ++ drop (h - i) (drop i t)) e
    ∙ take-append-drop (h - i) (drop i t) ∙ rest_after r in
    let same = encode_same d c (encodes ds ++ drop (h - i) (drop i t)) (drop j t) both in
    let z : length (encode d ++ encodes ds) ≡ length (take (h - i) (drop i t)) = ap length e in
    omega (arith, length-append (encode d) (encodes ds), width_of r, ap (λ w. length (encode w)) same.0)

-- no character begins within another one
pub no_boundary_inside : {t : List ℕ} {i c j h : ℕ} → IsUtf8 t → CharAt t i c j → i < h → h < j → IsCharBoundary t h → ⊥
no_boundary_inside {t} {i} {c} {j} {h} u r l m b =
    let part = IsUtf8-between t i h u (omega arith) (reads_boundary r) b in
    too_short part.0 r l m part.1.1

pub code_inside : {t : List ℕ} {i c j h : ℕ} → IsUtf8 t → CharAt t i c j → i < h → h < j → code t h ≡ no_char
code_inside {t} {h = h} u r l m =
    ⊎_elim (λ (e : begins t h ≡ true). absurd (no_boundary_inside u r l m (boundary_from_begins t h e)))
    (λ (e : begins t h ≡ false). code-nowhere t h e)
    (cases_Bool (begins t h))

-- a document marker begins with - or .
pub marker_char : (t : List ℕ) (i : ℕ) → is_marker t i ≡ true → (code t i ≡ 45) ⊎ (code t i ≡ 46)
marker_char t i m =
    ⊎_elim (λ (e : code t i ≡ 45). inl e)
    (λ (n : code t i ≢ 45).
    ⊎_elim (λ (e : code t i ≡ 46). inr e)
    (λ (k : code t i ≢ 46). absurd (true≢false (sym m ∙ no_marker t i (three_first t i 45 n) (three_first t i 46 k))))
    (cases_eq (code t i) 46))
    (cases_eq (code t i) 45)

pub not_forbidden : (t : List ℕ) (i : ℕ) → code t i ≢ 45 → code t i ≢ 46 → ForbiddenLine t i → ⊥
not_forbidden t i d n f = ⊎_elim d n (marker_char t i f.marker)

-- a character is covered if no forbidden line begins with it
pub clear_char : {t : List ℕ} {i c j : ℕ} → IsUtf8 t → CharAt t i c j → (ForbiddenLine t i → ⊥) → Clear t i j
clear_char {t} {i} {c} {j} u r n = record {
  none = λ h l m f. ⊎_elim
      (λ (e : i ≡ h). n (subst (λ k. ForbiddenLine t k) (sym e) f))
      (λ (o : i ≢ h). let inside = code_inside u r (omega arith) m in not_forbidden t h (λ e. omega arith) (λ e. omega arith) f)
      (cases_eq i h);
}

move : {t : List ℕ} {i j c : ℕ} → Break t i j → CharAt t (j - 1) c ((j - 1) + 1) → CharAt t (j - 1) c j
move {t} {j = j} {c = c} b r =
    let f = break_forward b in
    let same : (j - 1) + 1 ≡ j = omega arith in
    subst (λ k. CharAt t (j - 1) c k) same r

-- the text before the start of a line
pub line_start_after : {t : List ℕ} {j : ℕ} → IsUtf8 t → LineStart t j
    → (j ≡ 0) ⊎ ((k : ℕ) × (d : ℕ) × CharAt t k d j × ((d ≡ 10) ⊎ ((d ≡ 13) ⊎ (d ≡ 0xFEFF))))
line_start_after {t} {j} u s = go (line_start_view s) where
  go : Before t j → (j ≡ 0) ⊎ ((k : ℕ) × (d : ℕ) × CharAt t k d j × ((d ≡ 10) ⊎ ((d ≡ 13) ⊎ (d ≡ 0xFEFF))))
  go (nothing_before z) = inl z
  go (break_before i b) = ⊎_elim
      (λ (e : code t (j - 1) ≡ 10). inr (j - 1, 10, move b (reads_byte t (j - 1) 10 u e (omega arith)), inl refl))
      (λ (e : (code t (j - 1) ≡ 13) × (code t j ≢ 10)). inr (j - 1, 13, move b (reads_byte t (j - 1) 13 u e.0 (omega arith)), inr (inl refl)))
      (break_end b)
  go (mark_before i s' e q) =
      let r : CharAt t i (code t i) (next t i) = reads_real t i u (omega arith) in
      let to : next t i ≡ j = next-mark t i e ∙ q in
      inr (i, code t i, subst (λ k. CharAt t i (code t i) k) to r, inr (inr e))

-- no line begins after the first offset, up to the second
pub record Quiet (t : List ℕ) (i j : ℕ) : Type 0 where
  pub none : (h : ℕ) → i < h → h ≤ j → LineStart t h → ⊥

pub quiet_nothing : (t : List ℕ) (i : ℕ) → Quiet t i i
quiet_nothing t i = record { none = λ h l m s. absurd (omega arith) }

pub quiet_join : {t : List ℕ} {i j k : ℕ} → Quiet t i j → Quiet t j k → Quiet t i k
quiet_join {j = j} a b = record {
  none = λ h l m s. ⊎_elim (λ (f : j < h). b.none h f m s) (λ (f : h ≤ j). a.none h l f s) (cases_lt j h);
}

pub line_start_boundary : {t : List ℕ} {j : ℕ} → IsUtf8 t → LineStart t j → IsCharBoundary t j
line_start_boundary {t} {j} u s =
    ⊎_elim (λ (z : j ≡ 0). subst (λ k. IsCharBoundary t k) (sym z) (IsCharBoundary-start t u))
    (λ (w : (k : ℕ) × (d : ℕ) × CharAt t k d j × ((d ≡ 10) ⊎ ((d ≡ 13) ⊎ (d ≡ 0xFEFF)))). w.2.boundary)
    (line_start_after u s)

-- no line begins after a character other than a break or a mark
pub quiet_char : {t : List ℕ} {i c j : ℕ} → IsUtf8 t → CharAt t i c j → c ≢ 10 → c ≢ 13 → c ≢ 0xFEFF → Quiet t i j
quiet_char {t} {i} {c} {j} u r lf cr mark = record {
  none = λ h l m s. ⊎_elim
      (λ (e : h < j). no_boundary_inside u r l e (line_start_boundary u s))
      (λ (e : j ≤ h). let same : h ≡ j = omega arith in at_end r.later (line_start_after u (subst (λ k. LineStart t k) same s)))
      (cases_lt h j);
} where
  at_end : i < j → (j ≡ 0) ⊎ ((k : ℕ) × (d : ℕ) × CharAt t k d j × ((d ≡ 10) ⊎ ((d ≡ 13) ⊎ (d ≡ 0xFEFF)))) → ⊥
  at_end l (inl z) = omega arith
  at_end l (inr w) =
      let same : w.1 ≡ c = sym w.2.back ∙ r.back in
      ⊎_elim (λ (e : w.1 ≡ 10). lf (sym same ∙ e)) (λ (f : (w.1 ≡ 13) ⊎ (w.1 ≡ 0xFEFF)).
      ⊎_elim (λ (e : w.1 ≡ 13). cr (sym same ∙ e)) (λ (e : w.1 ≡ 0xFEFF). mark (sym same ∙ e)) f) w.3

-- a span within a line is covered if no forbidden line begins with it
pub clear_quiet : {t : List ℕ} {i j : ℕ} → (ForbiddenLine t i → ⊥) → Quiet t i j → Clear t i j
clear_quiet {t} {i} {j} n q = record {
  none = λ h l m f. ⊎_elim (λ (e : i ≡ h). n (subst (λ k. ForbiddenLine t k) (sym e) f))
      (λ (o : i ≢ h). q.none h (omega arith) (omega arith) f.start) (cases_eq i h);
}

-- white space stays within its line
quiet_white : {t : List ℕ} (i : ℕ) → IsUtf8 t → is_white (code t i) ≡ true → Quiet t i (next t i)
quiet_white {t} i u e =
    let low = white_below (code t i) e in
    let w = white_cases (code t i) e in
    quiet_char u (reads_real t i u (omega arith)) (λ q. omega (arith, w)) (λ q. omega (arith, w)) (λ q. omega (arith, w))

pub quiet_whites : {t : List ℕ} {i j : ℕ} {x : List ℕ} → IsUtf8 t → Many t is_white i j x → Quiet t i j
quiet_whites {t} {i} u done = quiet_nothing t i
quiet_whites {t} u (step (one {i = i} e) c) = quiet_join (quiet_white i u e) (quiet_whites u c)

-- the characters of a span are x
pub record Spelled (t : List ℕ) (i j : ℕ) (x : List ℕ) : Type 0 where
  pub order : i ≤ j
  pub bytes : take j t ≡ take i t ++ encode_utf8_all x

pub spelled_nothing : (t : List ℕ) (i : ℕ) → Spelled t i i []
spelled_nothing t i = record { order = omega arith; bytes = sym (append-nil (take i t)) }

pub spelled_join : {t : List ℕ} {i j k : ℕ} {x y : List ℕ} → Spelled t i j x → Spelled t j k y → Spelled t i k (x ++ y)
spelled_join {t} {i} {j} {k} {x} {y} a b = record {
  order = omega (arith, a.order, b.order);
  bytes = b.bytes ∙ ap (λ w. w ++ encode_utf8_all y) a.bytes ∙ append_assoc (take i t) (encode_utf8_all x) (encode_utf8_all y)
      ∙ ap (λ w. take i t ++ w) (sym (encodes-append x y));
}

pub spelled_char : {t : List ℕ} {i c j : ℕ} → CharAt t i c j → Spelled t i j (c ∷ [])
spelled_char {t} {i} {c} {j} r = record {
  order = omega (arith, r.later);
  bytes = r.bytes ∙ ap (λ w. take i t ++ w) (sym (append-nil (encode c)));
}

pub spelled_whites : {t : List ℕ} {i j : ℕ} {x : List ℕ} → IsUtf8 t → Many t is_white i j x → Spelled t i j x
spelled_whites {t} {i} u done = spelled_nothing t i
spelled_whites {t} u (step (one {i = i} e) c) =
    let low = white_below (code t i) e in
    spelled_join (spelled_char (reads_real t i u (omega arith))) (spelled_whites u c)

-- the bytes of a span are those of its characters
pub spelled_slice : {t : List ℕ} {i j : ℕ} {x : List ℕ} → j ≤ length t → Spelled t i j x → take (j - i) (drop i t) ≡ encode_utf8_all x
spelled_slice {t} {i} {j} {x} l s =
    let o = s.order in
    let whole : i + (j - i) ≡ j = omega arith in
    let front : length (take i t) ≡ i = length-take-le i t (omega arith) in
    let cut : drop (length (take i t)) (take i t ++ encode_utf8_all x) ≡ encode_utf8_all x = drop-append_seam (take i t) (encode_utf8_all x) in
    sym (drop-take i (j - i) t) ∙ ap (λ k. drop i (take k t)) whole ∙ ap (drop i) s.bytes
    ∙ ap (λ k. drop k (take i t ++ encode_utf8_all x)) (sym front) ∙ cut

pub clear_whites : {t : List ℕ} {i j : ℕ} {x : List ℕ} → IsUtf8 t → Many t is_white i j x → Clear t i j
clear_whites {t} {i} u done = clear_nothing t i
clear_whites {t} u (step (one {i = i} e) c) =
    let low = white_below (code t i) e in
    let w = white_cases (code t i) e in
    clear_join (clear_char u (reads_real t i u (omega arith)) (not_forbidden t i (λ q. omega (arith, w)) (λ q. omega (arith, w)))) (clear_whites u c)

clear_one : {t : List ℕ} {i : ℕ} → code t i < 45 → Clear t i (i + 1)
clear_one {t} {i} l = record {
  none = λ h a b f. let same : i ≡ h = omega arith in
      not_forbidden t i (λ e. omega arith) (λ e. omega arith) (subst (λ k. ForbiddenLine t k) (sym same) f);
}

pub clear_break : {t : List ℕ} {i j : ℕ} → Break t i j → Clear t i j
clear_break {t} (cr_lf {i = i} a b) =
    let two : (i + 1) + 1 ≡ i + 2 = omega arith in
    subst (λ k. Clear t i k) two (clear_join (clear_one (omega arith)) (clear_one (omega arith)))
clear_break (lone_cr a b) = clear_one (omega arith)
clear_break (lone_lf a b) = clear_one (omega arith)
