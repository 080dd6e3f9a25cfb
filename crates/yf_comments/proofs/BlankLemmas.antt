-- Going back over white space, breaks and byte order marks.
use Rattle.std.proofs.Common.{◌≡◌, ◌≢◌, ℕ, ◌+◌, ◌-◌, ◌<◌, ◌≤◌, Bool, true, false, ◌⊎◌, inl, inr, ⊎_elim, List, refl, sym, ap, ◌∙◌, subst, arith, true≢false, MatchBool}
use Rattle.std.proofs.lemmas.Bool.{cases_eq, cases_lt, cases_Bool, ne_eqb, eqb-true}
use Rattle.std.specs.Char.{len_utf8}
use Rattle.std.specs.Str.{IsUtf8}
use Rattle.yf_chars.specs.Text.{code, next, before, no_char}
use Rattle.yf_chars.specs.Class.{is_white, is_break_char}
use Rattle.yf_chars.proofs.TextLemmas.{reads_real, next_ascii, next_later, next-mark}
use Rattle.yf_lines.specs.Basic.{Break}
use Rattle.yf_lines.specs.Basic.Break.{cr_lf, lone_cr, lone_lf}
use Rattle.yf_lines.proofs.BasicLemmas.{white_below, break_forward, break_from_lf, break_from_cr}
use Rattle.yf_comments.specs.Comments.{is_gap, Blank, BlankBefore}
use Rattle.yf_comments.specs.Comments.Blank.{text_begins, break_ends, white_ends}
use Rattle.yf_comments.specs.Comments.BlankBefore.{blank_line, past_gap}
use Rattle.yf_chars.proofs.CharFacts.{feed_no_white, mark_no_white}

-- the characters of a gap
break_char_cases : (c : ℕ) → is_break_char c ≡ true → (c ≡ 10) ⊎ (c ≡ 13)
unfolding is_break_char
break_char_cases c e = ⊎_elim (λ (h : c ≡ 10). inl h) (λ (n : c ≢ 10). inr (eqb-true c 13 (rw (ne_eqb c 10 n) at e))) (cases_eq c 10)

pub gap_cases : (c : ℕ) → is_gap c ≡ true → ((is_white c ≡ true) ⊎ ((c ≡ 10) ⊎ (c ≡ 13))) ⊎ (c ≡ 0xFEFF)
unfolding is_gap
gap_cases c e =
    ⊎_elim (λ (w : is_white c ≡ true). inl (inl w))
    (λ (w : is_white c ≡ false). ⊎_elim (λ (b : is_break_char c ≡ true). inl (inr (break_char_cases c b)))
    (λ (b : is_break_char c ≡ false). inr (eqb-true c 0xFEFF (rw (w, b) at e)))
    (cases_Bool (is_break_char c)))
    (cases_Bool (is_white c))

pub gap_of_white : (c : ℕ) → is_white c ≡ true → is_gap c ≡ true
unfolding is_gap
gap_of_white c e = rw e

gap_of_char : (c d : ℕ) → c ≡ d → is_gap d ≡ true → is_gap c ≡ true
gap_of_char c d e h = ap is_gap e ∙ h

gap_lf : is_gap 10 ≡ true
unfolding is_gap is_white is_break_char
gap_lf = refl

gap_cr : is_gap 13 ≡ true
unfolding is_gap is_white is_break_char
gap_cr = refl

gap_mark : is_gap 0xFEFF ≡ true
unfolding is_gap is_white is_break_char
gap_mark = refl

pub gap_of_mark : (c : ℕ) → c ≡ 0xFEFF → is_gap c ≡ true
gap_of_mark c e = ap is_gap e ∙ gap_mark

pub gap_of_lf : (c : ℕ) → c ≡ 10 → is_gap c ≡ true
gap_of_lf c e = ap is_gap e ∙ gap_lf

pub gap_of_cr : (c : ℕ) → c ≡ 13 → is_gap c ≡ true
gap_of_cr c e = ap is_gap e ∙ gap_cr

pub gap_below : (c : ℕ) → is_gap c ≡ true → c < no_char
gap_below c e =
    ⊎_elim (λ (h : (is_white c ≡ true) ⊎ ((c ≡ 10) ⊎ (c ≡ 13))).
    ⊎_elim (λ (w : is_white c ≡ true). let l = white_below c w in omega arith)
    (λ (b : (c ≡ 10) ⊎ (c ≡ 13)). ⊎_elim (λ (l : c ≡ 10). omega arith) (λ (r : c ≡ 13). omega arith) b) h)
    (λ (m : c ≡ 0xFEFF). omega arith)
    (gap_cases c e)

pub white_not : (c d : ℕ) → is_white d ≡ false → is_white c ≡ true → c ≢ d
white_not c d f e s = true≢false (sym e ∙ ap is_white s ∙ f)

pub white_cr : is_white 13 ≡ false
unfolding is_white
white_cr = refl

-- two characters that end at one offset begin at one offset
pub same_place : (t : List ℕ) (i k : ℕ) → IsUtf8 t → code t i < no_char → code t k < no_char → next t i ≡ next t k → i ≡ k
unfolding next
same_place t i k u a b e =
    let r = reads_real t i u a in
    let s = reads_real t k u b in
    let same : code t i ≡ code t k = sym r.back ∙ ap (before t) e ∙ s.back in
    let l : len_utf8 (code t i) ≡ len_utf8 (code t k) = ap len_utf8 same in
    omega arith

-- the last character of a break
record Last (t : List ℕ) (i j : ℕ) : Type 0 where
  place : ℕ
  ends : next t place ≡ j
  char : (code t place ≡ 10) ⊎ (code t place ≡ 13)

break_last : {t : List ℕ} {i j : ℕ} → Break t i j → Last t i j
break_last {t} (cr_lf {i = i} a b) = record { place = i + 1; ends = next_ascii t (i + 1) (omega arith) ∙ omega arith; char = inl b }
break_last {t} (lone_cr {i = i} a b) = record { place = i; ends = next_ascii t i (omega arith); char = inr a }
break_last {t} (lone_lf {i = i} a b) = record { place = i; ends = next_ascii t i (omega arith); char = inl a }

last_below : {t : List ℕ} {i j : ℕ} → (b : Last t i j) → code t b.place < no_char
last_below b = ⊎_elim (λ (l : _ ≡ 10). omega arith) (λ (r : _ ≡ 13). omega arith) b.char

-- the start of the text, or the break or the white space that ends at a blank offset
pub data BlankView (t : List ℕ) (j : ℕ) : Type 0 where
  text_view : j ≡ 0 → BlankView t j
  break_view : (i : ℕ) → Break t i j → BlankView t j
  white_view : (i : ℕ) → Blank t i → is_white (code t i) ≡ true → next t i ≡ j → BlankView t j

pub blank_view : {t : List ℕ} {j : ℕ} → Blank t j → BlankView t j
blank_view text_begins = text_view refl
blank_view (break_ends {i = i} b) = break_view i b
blank_view (white_ends {i = i} b e) = white_view i b e refl

pub data BeforeView (t : List ℕ) (j : ℕ) : Type 0 where
  line_view : (i : ℕ) → Blank t i → Break t i j → BeforeView t j
  gap_view : (i : ℕ) → BlankBefore t i → is_gap (code t i) ≡ true → next t i ≡ j → BeforeView t j

pub before_view : {t : List ℕ} {j : ℕ} → BlankBefore t j → BeforeView t j
before_view (blank_line {i = i} b k) = line_view i b k
before_view (past_gap {i = i} b e) = gap_view i b e refl

-- no break ends between a CR and a LF
abbrev pub Outside : List ℕ → ℕ → Type 0
Outside t j = code t j ≡ 10 → code t (j - 1) ≢ 13

module _ (t : List ℕ) (u : IsUtf8 t) where
  -- no break ends at the end of another character than a break's
  pub not_last : {i j : ℕ} (q : ℕ) → code t q < no_char → next t q ≡ j → code t q ≢ 10 → code t q ≢ 13 → Break t i j → ⊥
  not_last q l e n m b =
      let a = break_last b in
      let same : a.place ≡ q = same_place t a.place q u (last_below a) l (a.ends ∙ sym e) in
      ⊎_elim (λ (h : code t a.place ≡ 10). n (ap (code t) (sym same) ∙ h)) (λ (h : code t a.place ≡ 13). m (ap (code t) (sym same) ∙ h)) a.char

  pub blank_past_white : {j : ℕ} (q : ℕ) → is_white (code t q) ≡ true → next t q ≡ j → Blank t j → Blank t q
  blank_past_white {j} q w e b = go (blank_view b) where
    go : BlankView t j → Blank t q
    go (text_view z) = let l = next_later t q in absurd (omega arith)
    go (break_view i k) = absurd (not_last q (omega (arith, white_below (code t q) w)) e (white_not _ 10 feed_no_white w) (white_not _ 13 white_cr w) k)
    go (white_view i c v f) =
        let same : i ≡ q = same_place t i q u (omega (arith, white_below (code t i) v)) (omega (arith, white_below (code t q) w)) (f ∙ sym e) in
        subst (λ k. Blank t k) same c

  pub before_past : {j : ℕ} (q : ℕ) → code t q < no_char → next t q ≡ j → code t q ≢ 10 → code t q ≢ 13 → BlankBefore t j → BlankBefore t q
  before_past {j} q l e n m b = go (before_view b) where
    go : BeforeView t j → BlankBefore t q
    go (line_view i c k) = absurd (not_last q l e n m k)
    go (gap_view i c v f) =
        let same : i ≡ q = same_place t i q u (gap_below (code t i) v) l (f ∙ sym e) in
        subst (λ k. BlankBefore t k) same c

  pub no_blank_past : {j : ℕ} (q : ℕ) → code t q ≡ 0xFEFF → next t q ≡ j → Blank t j → ⊥
  no_blank_past {j} q m e b = go (blank_view b) where
    go : BlankView t j → ⊥
    go (text_view z) = let l = next_later t q in absurd (omega arith)
    go (break_view i k) = not_last q (omega arith) e (omega arith) (omega arith) k
    go (white_view i c v f) =
        let same : i ≡ q = same_place t i q u (omega (arith, white_below (code t i) v)) (omega arith) (f ∙ sym e) in
        white_not _ 0xFEFF mark_no_white v (ap (code t) same ∙ m)

  -- no break ends inside a CR LF
  none_inside : {i k : ℕ} (h : ℕ) → code t h ≡ 13 → code t (h + 1) ≡ 10 → k ≡ h + 1 → Break t i k → ⊥
  none_inside h c l e (cr_lf {i = i} p q) = let s : i + 1 ≡ h = omega arith in let f = ap (code t) s in absurd (omega arith)
  none_inside h c l e (lone_cr {i = i} p q) = let s : i + 1 ≡ h + 1 = e in q (ap (code t) s ∙ l)
  none_inside h c l e (lone_lf {i = i} p q) = let s : i ≡ h = omega arith in let f = ap (code t) s in absurd (omega arith)

  -- no break begins at the LF of a CR LF
  none_second : {h j : ℕ} (i : ℕ) → code t i ≡ 13 → code t (i + 1) ≡ 10 → h ≡ i + 1 → Break t h j → ⊥
  none_second i c l e (cr_lf p q) = let f = ap (code t) e in absurd (omega arith)
  none_second i c l e (lone_cr p q) = let f = ap (code t) e in absurd (omega arith)
  none_second i c l e (lone_lf {i = h} p q) = let s : h - 1 ≡ i = omega arith in q (ap (code t) s ∙ c)

  inside : {i h j : ℕ} → i < h → Break t i j → Break t h j → ⊥
  inside l (cr_lf {i = i} p q) b = let f = break_forward b in none_second i p q (omega arith) b
  inside l (lone_cr p q) b = let f = break_forward b in absurd (omega arith)
  inside l (lone_lf p q) b = let f = break_forward b in absurd (omega arith)

  -- two breaks that end at one offset are equal
  pub start_unique : {i h j : ℕ} → Break t i j → Break t h j → i ≡ h
  start_unique {i} {h} {j} a b =
      ⊎_elim (λ (l : i < h). absurd (inside l a b))
      (λ (l : h ≤ i). ⊎_elim (λ (m : h < i). absurd (inside m b a)) (λ (m : i ≤ h). omega arith) (cases_lt h i))
      (cases_lt i h)

  -- from between a CR and a LF back over the CR
  over_cr : (h : ℕ) → code t h ≡ 13 → code t (h + 1) ≡ 10 → BlankBefore t (h + 1) → BlankBefore t h
  over_cr h c l d = go (before_view d) where
    go : BeforeView t (h + 1) → BlankBefore t h
    go (line_view i e k) = absurd (none_inside h c l refl k)
    go (gap_view i e v f) =
        let same : i ≡ h = same_place t i h u (gap_below (code t i) v) (omega arith) (f ∙ sym (next_ascii t h (omega arith))) in
        subst (λ k. BlankBefore t k) same e

  over_break : {h j : ℕ} → Break t h j → (i : ℕ) → BlankBefore t i → is_gap (code t i) ≡ true → next t i ≡ j → BlankBefore t h
  over_break (cr_lf {i = h} p q) i c v f =
      let e : next t (h + 1) ≡ h + 2 = next_ascii t (h + 1) (omega arith) ∙ omega arith in
      let same : i ≡ h + 1 = same_place t i (h + 1) u (gap_below (code t i) v) (omega arith) (f ∙ sym e) in
      over_cr h p q (subst (λ k. BlankBefore t k) same c)
  over_break (lone_cr {i = h} p q) i c v f =
      let same : i ≡ h = same_place t i h u (gap_below (code t i) v) (omega arith) (f ∙ sym (next_ascii t h (omega arith))) in
      subst (λ k. BlankBefore t k) same c
  over_break (lone_lf {i = h} p q) i c v f =
      let same : i ≡ h = same_place t i h u (gap_below (code t i) v) (omega arith) (f ∙ sym (next_ascii t h (omega arith))) in
      subst (λ k. BlankBefore t k) same c

  -- going back over a break
  pub past_break : {h j : ℕ} → Break t h j → BlankBefore t j → Blank t h ⊎ BlankBefore t h
  past_break {h} {j} b d = go (before_view d) where
    go : BeforeView t j → Blank t h ⊎ BlankBefore t h
    go (line_view i c k) = inl (subst (λ v. Blank t v) (start_unique k b) c)
    go (gap_view i c v f) = inr (over_break b i c v f)

  -- and over it from its other side
  pub on_break : {h j : ℕ} → Break t h j → BlankBefore t h → BlankBefore t j
  on_break (cr_lf {i = h} p q) d =
      let a : BlankBefore t (h + 1) = subst (λ k. BlankBefore t k) (next_ascii t h (omega arith)) (past_gap d (gap_of_char _ 13 p gap_cr)) in
      subst (λ k. BlankBefore t k) (next_ascii t (h + 1) (omega arith) ∙ omega arith) (past_gap a (gap_of_char _ 10 q gap_lf))
  on_break (lone_cr {i = h} p q) d = subst (λ k. BlankBefore t k) (next_ascii t h (omega arith)) (past_gap d (gap_of_char _ 13 p gap_cr))
  on_break (lone_lf {i = h} p q) d = subst (λ k. BlankBefore t k) (next_ascii t h (omega arith)) (past_gap d (gap_of_char _ 10 p gap_lf))

  pub outside_break : {h j : ℕ} → Break t h j → Outside t h
  outside_break (cr_lf p q) = λ e. absurd (omega arith)
  outside_break (lone_cr p q) = λ e. absurd (omega arith)
  outside_break (lone_lf p q) = λ e. q

  -- no gap ends at an offset if neither white space nor a mark nor a break does
  pub no_before : (j : ℕ) → is_white (code t (j - 1)) ≡ false → (3 ≤ j → code t (j - 3) ≢ 0xFEFF) → ((i : ℕ) → Break t i j → ⊥)
      → Outside t j → BlankBefore t j → ⊥
  no_before j w m b o d = go (before_view d) where
    at_char : (i : ℕ) → code t i < 128 → next t i ≡ j → (0 < j) × (j - 1 ≡ i)
    at_char i l f = let e = next_ascii t i l in (omega arith, omega arith)

    go : BeforeView t j → ⊥
    go (line_view i c k) = b i k
    go (gap_view i c v f) =
        ⊎_elim (λ (h : (is_white (code t i) ≡ true) ⊎ ((code t i ≡ 10) ⊎ (code t i ≡ 13))).
        ⊎_elim
        (λ (h : is_white (code t i) ≡ true). let a = at_char i (white_below (code t i) h) f in
        true≢false (sym h ∙ ap (λ k. is_white (code t k)) (sym a.1) ∙ w))
        (λ (h : (code t i ≡ 10) ⊎ (code t i ≡ 13)). ⊎_elim
        (λ (l : code t i ≡ 10). let a = at_char i (omega arith) f in
        let k = break_from_lf t j a.0 (ap (code t) a.1 ∙ l) in b k.0 k.1)
        (λ (l : code t i ≡ 13). let a = at_char i (omega arith) f in
        let k = break_from_cr t j a.0 (ap (code t) a.1 ∙ l) (λ e. o e (ap (code t) a.1 ∙ l)) in b k.0 k.1)
        h)
        h)
        (λ (h : code t i ≡ 0xFEFF). let e = next-mark t i h in
        let s : j - 3 ≡ i = omega arith in
        m (omega arith) (ap (code t) s ∙ h))
        (gap_cases (code t i) v)

  pub no_blank : (j : ℕ) → 0 < j → is_white (code t (j - 1)) ≡ false → ((i : ℕ) → Break t i j → ⊥) → Blank t j → ⊥
  no_blank j z w b d = go (blank_view d) where
    go : BlankView t j → ⊥
    go (text_view e) = absurd (omega arith)
    go (break_view i k) = b i k
    go (white_view i c v f) =
        let e = next_ascii t i (white_below (code t i) v) in
        let s : i ≡ j - 1 = omega arith in
        true≢false (sym v ∙ ap (λ k. is_white (code t k)) s ∙ w)

-- the walk back finds a blank line from j on; if blank is set, j itself may begin one
abbrev pub Ends : List ℕ → ℕ → Bool → Type 0
Ends t j true = Blank t j ⊎ BlankBefore t j
Ends t j false = BlankBefore t j

-- the walk back from i has come to j
pub record Walked (t : List ℕ) (i j : ℕ) (blank : Bool) : Type 0 where
  pub there : Ends t j blank → BlankBefore t i
  pub back : BlankBefore t i → Ends t j blank
  pub outside : Outside t j

module _ (t : List ℕ) (u : IsUtf8 t) (i j : ℕ) where
  char_before : (q : ℕ) → 0 < j → q ≡ j - 1 → code t q < 128 → next t q ≡ j
  char_before q z e l = next_ascii t q l ∙ omega arith

  pub walk_white : (b : Bool) → 0 < j → is_white (code t (j - 1)) ≡ true → Walked t i j b → Walked t i (j - 1) b
  walk_white b z w k = record { there = λ e. k.there (on b e); back = λ d. off b (k.back d); outside = λ e. absurd (white_not _ 10 feed_no_white w e) } where
    n : next t (j - 1) ≡ j
    n = char_before (j - 1) z refl (white_below (code t (j - 1)) w)

    on_gap : BlankBefore t (j - 1) → BlankBefore t j
    on_gap d = subst (λ v. BlankBefore t v) n (past_gap d (gap_of_white _ w))

    off_gap : BlankBefore t j → BlankBefore t (j - 1)
    off_gap d = before_past t u (j - 1) (omega (arith, white_below (code t (j - 1)) w)) n (white_not _ 10 feed_no_white w) (white_not _ 13 white_cr w) d

    on : (b : Bool) → Ends t (j - 1) b → Ends t j b
    on true (inl d) = inl (subst (λ v. Blank t v) n (white_ends d w))
    on true (inr d) = inr (on_gap d)
    on false d = on_gap d

    off : (b : Bool) → Ends t j b → Ends t (j - 1) b
    off true (inl d) = inl (blank_past_white t u (j - 1) w n d)
    off true (inr d) = inr (off_gap d)
    off false d = off_gap d

  pub walk_mark : (b : Bool) → 3 ≤ j → code t (j - 3) ≡ 0xFEFF → Walked t i j b → Walked t i (j - 3) false
  walk_mark b z m k = record { there = λ e. k.there (on b e); back = λ d. off b (k.back d); outside = λ e. absurd (omega arith) } where
    n : next t (j - 3) ≡ j
    n = next-mark t (j - 3) m ∙ omega arith

    on_gap : BlankBefore t (j - 3) → BlankBefore t j
    on_gap d = subst (λ v. BlankBefore t v) n (past_gap d (gap_of_char _ 0xFEFF m gap_mark))

    off_gap : BlankBefore t j → BlankBefore t (j - 3)
    off_gap d = before_past t u (j - 3) (omega arith) n (omega arith) (omega arith) d

    on : (b : Bool) → BlankBefore t (j - 3) → Ends t j b
    on true d = inr (on_gap d)
    on false d = on_gap d

    off : (b : Bool) → Ends t j b → BlankBefore t (j - 3)
    off true (inl d) = absurd (no_blank_past t u (j - 3) m n d)
    off true (inr d) = off_gap d
    off false d = off_gap d

  pub walk_break : (h : ℕ) → Break t h j → Walked t i j false → Walked t i h true
  walk_break h b k = record {
    there = λ e. k.there (⊎_elim (λ (d : Blank t h). blank_line d b) (λ (d : BlankBefore t h). on_break t u b d) e);
    back = λ d. past_break t u b (k.back d);
    outside = outside_break t u b;
  }

  pub walk_met : (h : ℕ) → Break t h j → Walked t i j true → BlankBefore t i
  walk_met h b k = k.there (inl (break_ends b))

  pub walk_none : (b : Bool) → 0 < j → is_white (code t (j - 1)) ≡ false → (3 ≤ j → code t (j - 3) ≢ 0xFEFF) → ((h : ℕ) → Break t h j → ⊥)
      → Walked t i j b → BlankBefore t i → ⊥
  walk_none true z w m n k d =
      ⊎_elim (λ (e : Blank t j). no_blank t u j z w n e) (λ (e : BlankBefore t j). no_before t u j w m n k.outside e) (k.back d)
  walk_none false z w m n k d = no_before t u j w m n k.outside (k.back d)

no_before_start : (t : List ℕ) → BlankBefore t 0 → ⊥
no_before_start t d = go (before_view d) where
  go : BeforeView t 0 → ⊥
  go (line_view i c k) = let f = break_forward k in absurd (omega arith)
  go (gap_view i c v f) = let l = next_later t i in absurd (omega arith)

pub walk_end : (t : List ℕ) (i j : ℕ) (b : Bool) → j ≡ 0 → Walked t i j b → MatchBool b (BlankBefore t i) (BlankBefore t i → ⊥)
walk_end t i j true e k = k.there (inl (subst (λ v. Blank t v) (sym e) text_begins))
walk_end t i j false e k = λ d. no_before_start t (subst (λ v. BlankBefore t v) e (k.back d))

-- the break that ends at an offset
pub break_of_two : (t : List ℕ) (j : ℕ) → 0 < j → code t (j - 2) ≡ 13 → code t (j - 1) ≡ 10 → Break t (j - 2) j
break_of_two t j z c l =
    ⊎_elim
    (λ (h : j < 2). let s : j - 2 ≡ j - 1 = omega arith in let e = ap (code t) s in absurd (omega arith))
    (λ (h : 2 ≤ j). let s : (j - 2) + 1 ≡ j - 1 = omega arith in
    let e : (j - 2) + 2 ≡ j = omega arith in
    subst (λ k. Break t (j - 2) k) e (cr_lf c (ap (code t) s ∙ l)))
    (cases_lt j 2)

pub break_of_lf : (t : List ℕ) (j : ℕ) → 0 < j → code t (j - 2) ≢ 13 → code t (j - 1) ≡ 10 → Break t (j - 1) j
break_of_lf t j z c l =
    let s : (j - 1) - 1 ≡ j - 2 = omega arith in
    let e : (j - 1) + 1 ≡ j = omega arith in
    subst (λ k. Break t (j - 1) k) e (lone_lf l (λ q. c (ap (code t) (sym s) ∙ q)))

pub break_of_cr : (t : List ℕ) (j : ℕ) → 0 < j → code t j ≢ 10 → code t (j - 1) ≡ 13 → Break t (j - 1) j
break_of_cr t j z c l =
    let e : (j - 1) + 1 ≡ j = omega arith in
    subst (λ k. Break t (j - 1) k) e (lone_cr l (λ q. c (ap (code t) (sym e) ∙ q)))

pub walk_start : (t : List ℕ) (i : ℕ) → Outside t i → Walked t i i false
walk_start t i o = record { there = λ d. d; back = λ d. d; outside = o }
