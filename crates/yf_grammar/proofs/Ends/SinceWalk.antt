-- The walk back from an offset to a floor over white space, breaks and marks, as long as it meets no blank line.
use Rattle.std.proofs.Common.{◌≡◌, ◌≢◌, ℕ, ◌+◌, ◌-◌, ◌<◌, ◌≤◌, Bool, true, false, ◌⊎◌, inl, inr, ⊎_elim, List, refl, sym, ap, ◌∙◌, subst, arith, true≢false}
use Rattle.std.proofs.lemmas.Bool.{cases_lt}
use Rattle.std.specs.Str.{IsUtf8}
use Rattle.yf_chars.specs.Text.{code, next, no_char}
use Rattle.yf_chars.specs.Class.{is_white}
use Rattle.yf_chars.proofs.TextLemmas.{next_ascii, next_later, next-mark}
use Rattle.yf_lines.specs.Basic.{Break}
use Rattle.yf_lines.specs.Basic.Break.{cr_lf, lone_cr, lone_lf}
use Rattle.yf_lines.proofs.BasicLemmas.{white_below, break_forward, break_end}
use Rattle.yf_comments.specs.Comments.{is_gap, Blank}
use Rattle.yf_comments.specs.Comments.Blank.{break_ends, white_ends}
use Rattle.yf_comments.proofs.BlankLemmas.{Outside, gap_of_white, gap_of_mark, gap_of_lf, gap_of_cr, gap_below, white_not, white_cr, same_place, BlankView, blank_view, text_view, break_view, white_view, not_last, blank_past_white, no_blank_past, no_blank, no_before, start_unique, outside_break}
use Rattle.yf_grammar.specs.Productions.ReadParts.{BlankSince, NotedSince}
use Rattle.yf_grammar.specs.Productions.ReadParts.BlankSince.{blank_line, past_gap}
use Rattle.yf_grammar.specs.Productions.ReadParts.NotedSince.{noted, not_noted}
use Rattle.yf_grammar.proofs.Ends.SinceKnown.{since_before}
use Rattle.yf_chars.proofs.CharFacts.{feed_no_white}

-- the walk back still has to find, from j on: a blank line, or, if white space and a break follow, a line that is blank
-- up to j
abbrev pub EndsSince : List ℕ → ℕ → ℕ → Bool → Type 0
EndsSince t floor j true = Blank t j ⊎ BlankSince t floor j
EndsSince t floor j false = BlankSince t floor j

-- the walk back from i has reached j
pub record WalkedSince (t : List ℕ) (floor i j : ℕ) (blank : Bool) : Type 0 where
  pub there : EndsSince t floor j blank → BlankSince t floor i
  pub back : BlankSince t floor i → EndsSince t floor j blank
  pub high : blank ≡ true → floor ≤ j
  pub begun : blank ≡ true → floor < i
  pub order : j ≤ i
  pub outside : Outside t j

pub since_later : {t : List ℕ} {floor j : ℕ} → BlankSince t floor j → floor < j
since_later (blank_line l b k) = let f = break_forward k in omega arith
since_later {t} (past_gap {i = i} b e) = let f = since_later b in let n = next_later t i in omega arith

-- a blank line ends there, or a gap after one does
since_cases : {P : Type 0} {t : List ℕ} {floor j : ℕ} → BlankSince t floor j → ((i : ℕ) → Blank t i → Break t i j → P)
    → ((i : ℕ) → BlankSince t floor i → is_gap (code t i) ≡ true → next t i ≡ j → P) → P
since_cases (blank_line {i = i} l b k) f g = f i b k
since_cases (past_gap {i = i} b e) f g = g i b e refl

-- no break ends between a CR and a LF
no_end_within : {t : List ℕ} {i j : ℕ} (h : ℕ) → code t h ≡ 13 → code t (h + 1) ≡ 10 → j ≡ h + 1 → Break t i j → ⊥
no_end_within {t} {j = j} h c l e k =
    let back : j - 1 ≡ h = omega arith in
    ⊎_elim
    (λ (z : code t (j - 1) ≡ 10). let y = ap (code t) back in omega arith)
    (λ (z : (code t (j - 1) ≡ 13) × (code t j ≢ 10)). z.1 (ap (code t) e ∙ l))
    (break_end k)

module _ (t : List ℕ) (u : IsUtf8 t) (floor : ℕ) where
  since_past : {j : ℕ} (q : ℕ) → code t q < no_char → next t q ≡ j → code t q ≢ 10 → code t q ≢ 13 → BlankSince t floor j → BlankSince t floor q
  since_past q l e n m b = since_cases b
      (λ i c k. absurd (not_last t u q l e n m k))
      (λ i c v f. subst (λ k. BlankSince t floor k) (same_place t i q u (gap_below (code t i) v) l (f ∙ sym e)) c)

  -- from between a CR and a LF back over the CR
  since_over_cr : (h : ℕ) → code t h ≡ 13 → code t (h + 1) ≡ 10 → BlankSince t floor (h + 1) → BlankSince t floor h
  since_over_cr h c l d = since_cases d
      (λ i e k. absurd (no_end_within h c l refl k))
      (λ i e v f. subst (λ k. BlankSince t floor k) (same_place t i h u (gap_below (code t i) v) (omega arith) (f ∙ sym (next_ascii t h (omega arith)))) e)

  since_over_break : {h j : ℕ} → Break t h j → (i : ℕ) → BlankSince t floor i → is_gap (code t i) ≡ true → next t i ≡ j → BlankSince t floor h
  since_over_break (cr_lf {i = h} p q) i c v f =
      let e : next t (h + 1) ≡ h + 2 = next_ascii t (h + 1) (omega arith) ∙ omega arith in
      since_over_cr h p q (subst (λ k. BlankSince t floor k) (same_place t i (h + 1) u (gap_below (code t i) v) (omega arith) (f ∙ sym e)) c)
  since_over_break (lone_cr {i = h} p q) i c v f =
      subst (λ k. BlankSince t floor k) (same_place t i h u (gap_below (code t i) v) (omega arith) (f ∙ sym (next_ascii t h (omega arith)))) c
  since_over_break (lone_lf {i = h} p q) i c v f =
      subst (λ k. BlankSince t floor k) (same_place t i h u (gap_below (code t i) v) (omega arith) (f ∙ sym (next_ascii t h (omega arith)))) c

  -- the walk back over a break, and further over it
  since_past_break : {h j : ℕ} → Break t h j → BlankSince t floor j → Blank t h ⊎ BlankSince t floor h
  since_past_break {h} b d = since_cases d
      (λ i c k. inl (subst (λ v. Blank t v) (start_unique t u k b) c))
      (λ i c v f. inr (since_over_break b i c v f))

  since_on_break : {h j : ℕ} → Break t h j → BlankSince t floor h → BlankSince t floor j
  since_on_break (cr_lf {i = h} p q) d =
      let a : BlankSince t floor (h + 1) = subst (λ k. BlankSince t floor k) (next_ascii t h (omega arith)) (past_gap d (gap_of_cr _ p)) in
      subst (λ k. BlankSince t floor k) (next_ascii t (h + 1) (omega arith) ∙ omega arith) (past_gap a (gap_of_lf _ q))
  since_on_break (lone_cr {i = h} p q) d = subst (λ k. BlankSince t floor k) (next_ascii t h (omega arith)) (past_gap d (gap_of_cr _ p))
  since_on_break (lone_lf {i = h} p q) d = subst (λ k. BlankSince t floor k) (next_ascii t h (omega arith)) (past_gap d (gap_of_lf _ p))

  -- a line is not blank up to between a CR and a LF
  no_blank_within : (h : ℕ) → code t h ≡ 13 → code t (h + 1) ≡ 10 → Blank t (h + 1) → ⊥
  no_blank_within h c l b = go (blank_view b) where
    go : BlankView t (h + 1) → ⊥
    go (text_view z) = omega arith
    go (break_view i k) = no_end_within h c l refl k
    go (white_view i d v f) =
        let same = same_place t i h u (omega (arith, white_below (code t i) v)) (omega arith) (f ∙ sym (next_ascii t h (omega arith))) in
        white_not _ 13 white_cr v (ap (code t) same ∙ c)

  -- a break that ends after an offset up to which a line is blank does not begin before it
  break_within : {h j : ℕ} → Blank t floor → floor < j → Break t h j → floor ≤ h
  break_within c l (cr_lf {i = h} p q) = ⊎_elim
      (λ (b : h < floor). let e : floor ≡ h + 1 = omega arith in absurd (no_blank_within h p q (subst (λ k. Blank t k) e c)))
      (λ (a : floor ≤ h). a)
      (cases_lt h floor)
  break_within c l (lone_cr p q) = omega arith
  break_within c l (lone_lf p q) = omega arith

  module _ (i j : ℕ) where
    pub since_white : (b : Bool) → floor < j → is_white (code t (j - 1)) ≡ true → WalkedSince t floor i j b → WalkedSince t floor i (j - 1) b
    since_white b z w k = record { there = λ e. k.there (on b e); back = λ d. off b (k.back d); high = λ e. omega arith; begun = λ e. k.begun e; order = let o = k.order in omega (arith, o); outside = λ e. absurd (white_not _ 10 feed_no_white w e) } where
      n : next t (j - 1) ≡ j
      n = next_ascii t (j - 1) (white_below (code t (j - 1)) w) ∙ omega arith

      on_gap : BlankSince t floor (j - 1) → BlankSince t floor j
      on_gap d = subst (λ v. BlankSince t floor v) n (past_gap d (gap_of_white _ w))

      off_gap : BlankSince t floor j → BlankSince t floor (j - 1)
      off_gap d = since_past (j - 1) (omega (arith, white_below (code t (j - 1)) w)) n (white_not _ 10 feed_no_white w) (white_not _ 13 white_cr w) d

      on : (b : Bool) → EndsSince t floor (j - 1) b → EndsSince t floor j b
      on true (inl d) = inl (subst (λ v. Blank t v) n (white_ends d w))
      on true (inr d) = inr (on_gap d)
      on false d = on_gap d

      off : (b : Bool) → EndsSince t floor j b → EndsSince t floor (j - 1) b
      off true (inl d) = inl (blank_past_white t u (j - 1) w n d)
      off true (inr d) = inr (off_gap d)
      off false d = off_gap d

    pub since_mark : (b : Bool) → 3 ≤ j → code t (j - 3) ≡ 0xFEFF → WalkedSince t floor i j b → WalkedSince t floor i (j - 3) false
    since_mark b z m k = record { there = λ e. k.there (on b e); back = λ d. off b (k.back d); high = λ e. absurd (true≢false (sym e)); begun = λ e. absurd (true≢false (sym e)); order = let o = k.order in omega (arith, o); outside = λ e. absurd (omega arith) } where
      n : next t (j - 3) ≡ j
      n = next-mark t (j - 3) m ∙ omega arith

      on_gap : BlankSince t floor (j - 3) → BlankSince t floor j
      on_gap d = subst (λ v. BlankSince t floor v) n (past_gap d (gap_of_mark _ m))

      off_gap : BlankSince t floor j → BlankSince t floor (j - 3)
      off_gap d = since_past (j - 3) (omega arith) n (omega arith) (omega arith) d

      on : (b : Bool) → BlankSince t floor (j - 3) → EndsSince t floor j b
      on true d = inr (on_gap d)
      on false d = on_gap d

      off : (b : Bool) → EndsSince t floor j b → BlankSince t floor (j - 3)
      off true (inl d) = absurd (no_blank_past t u (j - 3) m n d)
      off true (inr d) = off_gap d
      off false d = off_gap d

    pub since_break : (h : ℕ) → Break t h j → Blank t floor → floor < j → WalkedSince t floor i j false → WalkedSince t floor i h true
    since_break h b c l k =
        let w = break_within c l b in
        record {
          there = λ e. k.there (⊎_elim (λ (d : Blank t h). blank_line w d b) (λ (d : BlankSince t floor h). since_on_break b d) e);
          back = λ d. since_past_break b (k.back d);
          high = λ e. w;
          begun = λ e. let o = k.order in omega (arith, o, l);
          order = let o = k.order in let f = break_forward b in omega (arith, o, f);
          outside = outside_break t u b;
        }

    pub since_met : (h : ℕ) → Break t h j → WalkedSince t floor i j true → NotedSince t floor i true
    since_met h b k = noted (k.there (inl (break_ends b)))

    pub since_none : (b : Bool) → 0 < j → is_white (code t (j - 1)) ≡ false → (3 ≤ j → code t (j - 3) ≢ 0xFEFF) → ((h : ℕ) → Break t h j → ⊥)
        → WalkedSince t floor i j b → NotedSince t floor i false
    since_none true z w m n k =
        not_noted (λ d. ⊎_elim (λ (e : Blank t j). no_blank t u j z w n e) (λ (e : BlankSince t floor j). no_before t u j w m n k.outside (since_before e)) (k.back d))
    since_none false z w m n k = not_noted (λ d. no_before t u j w m n k.outside (since_before (k.back d)))

    -- the walk has reached the floor
    pub since_end : (b : Bool) → (floor < i → Blank t floor) → j ≤ floor → WalkedSince t floor i j b → NotedSince t floor i b
    since_end true c l k =
        let e : floor ≡ j = let h = k.high refl in omega arith in
        noted (k.there (inl (subst (λ v. Blank t v) e (c (k.begun refl)))))
    since_end false c l k = not_noted (λ d. let m = since_later (k.back d) in omega arith)

pub since_start : (t : List ℕ) (floor i : ℕ) → Outside t i → WalkedSince t floor i i false
since_start t floor i o = record { there = λ d. d; back = λ d. d; high = λ e. absurd (true≢false (sym e)); begun = λ e. absurd (true≢false (sym e)); order = omega arith; outside = o }
