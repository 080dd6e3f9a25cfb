-- Laws of the basic structures: breaks, white space, starts of lines, document markers.
use Rattle.std.proofs.Common.{◌≡◌, ◌≢◌, ℕ, ◌+◌, ◌-◌, ◌<◌, ◌≤◌, Bool, true, false, List, length, get_or, refl, sym, ap, ◌∙◌, subst, inl, inr, ◌⊎◌, ⊎_elim, arith, eqb, MatchBool}
use Rattle.std.proofs.lemmas.Bool.{cases_eq, cases_lt, eq-eqb, ne_eqb, eqb-true}
use Rattle.std.specs.Str.{IsUtf8}
use Rattle.yf_chars.specs.Text.{code, next, CharAt, no_char}
use Rattle.yf_chars.specs.Class.{is_white, is_break_char, is_white_or_end}
use Rattle.yf_chars.specs.Chain.{Nowhere}
use Rattle.yf_chars.proofs.TextLemmas.{reads_real, next_ascii, next-mark, bytes_from_mark, mark_from_bytes, code-inside}
use Rattle.yf_lines.specs.Basic.{Break, LineStart, Clear, is_marker, is_three}
use Rattle.yf_lines.specs.Basic.Break.{cr_lf, lone_cr, lone_lf}
use Rattle.yf_lines.specs.Basic.LineStart.{at_text, after_break, after_mark}

-- white space
pub white_of_space : (c : ℕ) → c ≡ 32 → is_white c ≡ true
unfolding is_white
white_of_space c e = ap is_white e

pub white_only_tab : (c : ℕ) → c ≢ 32 → is_white c ≡ eqb c 9
unfolding is_white
white_only_tab c n = rw (ne_eqb c 32 n)

pub white_cases : (c : ℕ) → is_white c ≡ true → (c ≡ 32) ⊎ (c ≡ 9)
white_cases c e = ⊎_elim (λ (h : c ≡ 32). inl h) (λ (n : c ≢ 32). inr (eqb-true c 9 (sym (white_only_tab c n) ∙ e))) (cases_eq c 32)

pub white_below : (c : ℕ) → is_white c ≡ true → c < 128
white_below c e = ⊎_elim (λ (h : c ≡ 32). omega arith) (λ (h : c ≡ 9). omega arith) (white_cases c e)

pub reads_white : (t : List ℕ) (i : ℕ) → IsUtf8 t → is_white (code t i) ≡ true → CharAt t i (code t i) (i + 1)
reads_white t i u e =
    let low : code t i < 128 = white_below (code t i) e in
    subst (λ j. CharAt t i (code t i) j) (next_ascii t i low) (reads_real t i u (omega arith))

pub match_white : (t : List ℕ) (i : ℕ) (b : Bool) → IsUtf8 t → b ≡ is_white (code t i)
    → MatchBool b (CharAt t i (code t i) (i + 1)) (is_white (code t i) ≡ false)
match_white t i true u e = reads_white t i u (sym e)
match_white t i false u e = sym e

-- breaks
pub no_break_inside : (t : List ℕ) (i : ℕ) → code t i ≡ 10 → code t (i - 1) ≡ 13 → Nowhere (Break t i)
no_break_inside t i e p = record { none = λ j b. inside e p b } where
  inside : {j : ℕ} → code t i ≡ 10 → code t (i - 1) ≡ 13 → Break t i j → ⊥
  inside e p (cr_lf a b) = absurd (omega arith)
  inside e p (lone_cr a b) = absurd (omega arith)
  inside e p (lone_lf a b) = b p

pub no_break_here : (t : List ℕ) (i : ℕ) → code t i ≢ 13 → code t i ≢ 10 → Nowhere (Break t i)
no_break_here t i c l = record { none = λ j b. here c l b } where
  here : {j : ℕ} → code t i ≢ 13 → code t i ≢ 10 → Break t i j → ⊥
  here c l (cr_lf a b) = c a
  here c l (lone_cr a b) = c a
  here c l (lone_lf a b) = l a

pub break_char : {t : List ℕ} {i j : ℕ} → Break t i j → (code t i ≡ 13) ⊎ (code t i ≡ 10)
break_char (cr_lf a b) = inl a
break_char (lone_cr a b) = inl a
break_char (lone_lf a b) = inr a

pub break_forward : {t : List ℕ} {i j : ℕ} → Break t i j → i < j
break_forward (cr_lf a b) = omega arith
break_forward (lone_cr a b) = omega arith
break_forward (lone_lf a b) = omega arith

pub break_unique : {t : List ℕ} {i j k : ℕ} → Break t i j → Break t i k → j ≡ k
break_unique (cr_lf a b) (cr_lf c d) = refl
break_unique (cr_lf a b) (lone_cr c d) = absurd (d b)
break_unique (cr_lf a b) (lone_lf c d) = absurd (omega arith)
break_unique (lone_cr a b) (cr_lf c d) = absurd (b d)
break_unique (lone_cr a b) (lone_cr c d) = refl
break_unique (lone_cr a b) (lone_lf c d) = refl
break_unique (lone_lf a b) (cr_lf c d) = absurd (omega arith)
break_unique (lone_lf a b) (lone_cr c d) = refl
break_unique (lone_lf a b) (lone_lf c d) = refl

-- the end of a break, and a break from its end
pub break_from_lf : (t : List ℕ) (j : ℕ) → 0 < j → code t (j - 1) ≡ 10 → (i : ℕ) × Break t i j
break_from_lf t j l e =
    ⊎_elim
    (λ (c : code t (j - 1 - 1) ≡ 13).
    ⊎_elim
    (λ (one : j < 2).
    let d : j - 1 - 1 ≡ j - 1 = omega arith in
    let q : code t (j - 1) ≡ 13 = ap (code t) (sym d) ∙ c in absurd (omega arith))
    (λ (two : 2 ≤ j).
    let a : (j - 2) + 1 ≡ j - 1 = omega arith in
    let b : (j - 2) + 2 ≡ j = omega arith in
    let d : j - 1 - 1 ≡ j - 2 = omega arith in
    (j - 2, subst (λ k. Break t (j - 2) k) b (cr_lf (ap (code t) (sym d) ∙ c) (ap (code t) a ∙ e))))
    (cases_lt j 2))
    (λ (n : code t (j - 1 - 1) ≢ 13).
    let b : (j - 1) + 1 ≡ j = omega arith in
    (j - 1, subst (λ k. Break t (j - 1) k) b (lone_lf e n)))
    (cases_eq (code t (j - 1 - 1)) 13)

pub break_from_cr : (t : List ℕ) (j : ℕ) → 0 < j → code t (j - 1) ≡ 13 → code t j ≢ 10 → (i : ℕ) × Break t i j
break_from_cr t j l e n =
    let b : (j - 1) + 1 ≡ j = omega arith in
    (j - 1, subst (λ k. Break t (j - 1) k) b (lone_cr e (λ q. n (ap (code t) (sym b) ∙ q))))

pub break_end : {t : List ℕ} {i j : ℕ} → Break t i j → (code t (j - 1) ≡ 10) ⊎ ((code t (j - 1) ≡ 13) × (code t j ≢ 10))
break_end {t} (cr_lf {i = i} a b) = let e : (i + 2) - 1 ≡ i + 1 = omega arith in inl (ap (code t) e ∙ b)
break_end {t} (lone_cr {i = i} a b) = let e : (i + 1) - 1 ≡ i = omega arith in inr (ap (code t) e ∙ a, b)
break_end {t} (lone_lf {i = i} a b) = let e : (i + 1) - 1 ≡ i = omega arith in inl (ap (code t) e ∙ a)

pub no_break_end : (t : List ℕ) (j : ℕ) → code t (j - 1) ≢ 10 → (code t (j - 1) ≡ 13 → code t j ≢ 10 → ⊥) → (i : ℕ) → Break t i j → ⊥
no_break_end t j n m i b = ⊎_elim (λ (e : code t (j - 1) ≡ 10). n e) (λ (e : (code t (j - 1) ≡ 13) × (code t j ≢ 10)). m e.0 e.1) (break_end b)

-- the start of a line, by the text before it
pub data Before (t : List ℕ) (j : ℕ) : Type 0 where
  nothing_before : j ≡ 0 → Before t j
  break_before : (i : ℕ) → Break t i j → Before t j
  mark_before : (i : ℕ) → LineStart t i → code t i ≡ 0xFEFF → i + 3 ≡ j → Before t j

pub line_start_view : {t : List ℕ} {j : ℕ} → LineStart t j → Before t j
line_start_view at_text = nothing_before refl
line_start_view (after_break {i = i} b) = break_before i b
line_start_view {t} (after_mark {i = i} s e) = mark_before i s e (sym (next-mark t i e))

-- no break ends after a mark
no_break_after_mark : (t : List ℕ) (i j : ℕ) → IsUtf8 t → code t i ≡ 0xFEFF → i + 3 ≡ j → (h : ℕ) → Break t h j → ⊥
no_break_after_mark t i j u e s =
    let b = bytes_from_mark t i u e in
    let p : j - 1 ≡ i + 2 = omega arith in
    let inside : code t (j - 1) ≡ no_char = ap (code t) p ∙ code-inside t (i + 2) (omega (arith, b.3)) (omega (arith, b.3)) in
    no_break_end t j (λ q. absurd (omega arith)) (λ q _. absurd (omega arith))

-- removing a mark before the start of a line leaves the start of a line
pub start_before_mark : (t : List ℕ) (j : ℕ) → IsUtf8 t → 3 ≤ j → code t (j - 3) ≡ 0xFEFF → LineStart t j → LineStart t (j - 3)
start_before_mark t j u l e s = go (line_start_view s) where
  go : Before t j → LineStart t (j - 3)
  go (nothing_before z) = absurd (omega arith)
  go (break_before i b) = absurd (no_break_after_mark t (j - 3) j u e (omega arith) i b)
  go (mark_before i s' e' q) = let same : i ≡ j - 3 = omega arith in subst (λ k. LineStart t k) same s'

pub start_past_mark : (t : List ℕ) (j : ℕ) → 3 ≤ j → code t (j - 3) ≡ 0xFEFF → LineStart t (j - 3) → LineStart t j
start_past_mark t j l e s =
    let q : next t (j - 3) ≡ j = next-mark t (j - 3) e ∙ (omega arith) in
    subst (λ k. LineStart t k) q (after_mark s e)

pub no_start : (t : List ℕ) (j : ℕ) → j ≢ 0 → (3 ≤ j → code t (j - 3) ≢ 0xFEFF) → ((i : ℕ) → Break t i j → ⊥) → LineStart t j → ⊥
no_start t j z m b s = go (line_start_view s) where
  go : Before t j → ⊥
  go (nothing_before e) = z e
  go (break_before i d) = b i d
  go (mark_before i s' e q) = let same : i ≡ j - 3 = omega arith in m (omega arith) (ap (code t) (sym same) ∙ e)

-- white space, a break or the end of the text
pub ends_by_white : (c : ℕ) → is_white c ≡ true → is_white_or_end c ≡ true
unfolding is_white_or_end
ends_by_white c e = rw e

pub ends_by_code : (c d : ℕ) → c ≡ d → is_white_or_end d ≡ true → is_white_or_end c ≡ true
ends_by_code c d e h = ap is_white_or_end e ∙ h

pub ends_at_lf : is_white_or_end 10 ≡ true
unfolding is_white_or_end is_white is_break_char
ends_at_lf = refl

pub ends_at_cr : is_white_or_end 13 ≡ true
unfolding is_white_or_end is_white is_break_char
ends_at_cr = refl

pub ends_at_end : is_white_or_end no_char ≡ true
unfolding is_white_or_end is_white is_break_char
ends_at_end = refl

pub ends_not : (c : ℕ) → is_white c ≡ false → c ≢ 10 → c ≢ 13 → is_white_or_end c ≡ eqb c no_char
unfolding is_white_or_end is_break_char
ends_not c w l r = rw (w, ne_eqb c 10 l, ne_eqb c 13 r)

-- three of one character, test by test
pub three_all : (t : List ℕ) (i c : ℕ) → code t i ≡ c → code t (i + 1) ≡ c → is_three t i c ≡ eqb (code t (i + 2)) c
unfolding is_three
three_all t i c a b = rw (eq-eqb (code t i) c a, eq-eqb (code t (i + 1)) c b)

pub three_first : (t : List ℕ) (i c : ℕ) → code t i ≢ c → is_three t i c ≡ false
unfolding is_three
three_first t i c a = rw (ne_eqb (code t i) c a)

pub three_second : (t : List ℕ) (i c : ℕ) → code t i ≡ c → code t (i + 1) ≢ c → is_three t i c ≡ false
unfolding is_three
three_second t i c a b = rw (eq-eqb (code t i) c a, ne_eqb (code t (i + 1)) c b)

pub marker_of_dashes : (t : List ℕ) (i : ℕ) → is_three t i 45 ≡ true → is_marker t i ≡ is_white_or_end (code t (i + 3))
unfolding is_marker
marker_of_dashes t i e = rw e

pub marker_of_dots : (t : List ℕ) (i : ℕ) → is_three t i 45 ≡ false → is_three t i 46 ≡ true → is_marker t i ≡ is_white_or_end (code t (i + 3))
unfolding is_marker
marker_of_dots t i d e = rw (d, e)

pub no_marker : (t : List ℕ) (i : ℕ) → is_three t i 45 ≡ false → is_three t i 46 ≡ false → is_marker t i ≡ false
unfolding is_marker
no_marker t i d e = rw (d, e)

-- spans without a forbidden line
pub clear_join : {t : List ℕ} {i j k : ℕ} → Clear t i j → Clear t j k → Clear t i k
clear_join {t} {i} {j} {k} a b = record {
  none = λ h l m f.
      ⊎_elim (λ (left : h < j). a.none h l left f) (λ (right : j ≤ h). b.none h right m f) (cases_lt h j);
}

pub clear_front : {t : List ℕ} {i j k : ℕ} → j ≤ k → Clear t i k → Clear t i j
clear_front l c = record { none = λ h a b f. c.none h a (omega arith) f }

pub clear_back : {t : List ℕ} {i j k : ℕ} → i ≤ j → Clear t i k → Clear t j k
clear_back l c = record { none = λ h a b f. c.none h (omega arith) b f }

pub clear_nothing : (t : List ℕ) (i : ℕ) → Clear t i i
clear_nothing t i = record { none = λ h a b f. absurd (omega arith) }

pub match_mark : (t : List ℕ) (i : ℕ) → IsUtf8 t → i + 2 < length t → get_or t i 0 ≡ 239 → get_or t (i + 1) 0 ≡ 187
    → MatchBool (eqb (get_or t (i + 2) 0) 191) (code t i ≡ 0xFEFF) (code t i ≢ 0xFEFF)
match_mark t i u l a b =
    ⊎_elim
    (λ (e : get_or t (i + 2) 0 ≡ 191). rw (eq-eqb (get_or t (i + 2) 0) 191 e) (mark_from_bytes t i l a b e))
    (λ (n : get_or t (i + 2) 0 ≢ 191). rw (ne_eqb (get_or t (i + 2) 0) 191 n) (λ q. n (bytes_from_mark t i u q).3))
    (cases_eq (get_or t (i + 2) 0) 191)

pub match_start : (t : List ℕ) (j at : ℕ) (b : Bool) → MatchBool b ((i : ℕ) × Break t i j) ((i : ℕ) → Break t i j → ⊥)
    → (LineStart t j → LineStart t at) → (LineStart t at → LineStart t j) → j ≢ 0 → (3 ≤ j → code t (j - 3) ≢ 0xFEFF)
    → MatchBool b (LineStart t at) (LineStart t at → ⊥)
match_start t j at true m there back z k = there (after_break m.1)
match_start t j at false m there back z k = λ s. no_start t j z k m (back s)
