-- Laws of lines: only one line begins at an offset, and the lines of a text are one list.
use Rattle.std.proofs.Common.{◌≡◌, ◌≢◌, ℕ, ◌+◌, ◌-◌, ◌<◌, ◌≤◌, true, false, List, [], ◌∷◌, length, refl, sym, ap, ◌∙◌, subst, inl, inr, ◌⊎◌, ⊎_elim, arith, true≢false, eqb}
use Rattle.std.proofs.lemmas.Bool.{cases_lt, cases_eq, ne_eqb, eqb-true}
use Rattle.std.proofs.lemmas.Str.{IsCharBoundary-end, IsCharBoundary-before_ascii}
use Rattle.std.specs.Str.{IsUtf8, IsCharBoundary}
use Rattle.yf_chars.specs.Text.{code, no_char}
use Rattle.yf_chars.specs.Class.{is_break_char}
use Rattle.yf_chars.specs.Chain.{Functional, Stuck, Nowhere}
use Rattle.yf_chars.proofs.BreakChars.{space_no_break}
use Rattle.yf_chars.proofs.TextLemmas.{within_from_code, code-past, byte_from_code, reads_byte}
use Rattle.yf_chars.proofs.ChainLemmas.{chain_chosen}
use Rattle.yf_lines.specs.declared.line.Line.{Line}
use Rattle.yf_lines.specs.Basic.{Break, Spaces}
use Rattle.yf_lines.specs.Basic.Break.{cr_lf, lone_cr, lone_lf}
use Rattle.yf_lines.specs.Lines.{NoBreakIn, LineEnd, SpacesFrom, IsLine, IsCutAt, OneLine, AreLines, Apart}
use Rattle.yf_lines.specs.Lines.LineEnd.{at_break, at_end}
use Rattle.yf_lines.specs.Lines.OneLine.{one_line}
use Rattle.yf_lines.proofs.BasicLemmas.{break_char, break_forward, break_unique, break_end}

-- the characters of a break
pub lf_breaks : (t : List ℕ) (i : ℕ) → code t i ≡ 10 → is_break_char (code t i) ≡ true
unfolding is_break_char
lf_breaks t i e = ap is_break_char e

pub cr_breaks : (t : List ℕ) (i : ℕ) → code t i ≡ 13 → is_break_char (code t i) ≡ true
unfolding is_break_char
cr_breaks t i e = ap is_break_char e

pub break_breaks : {t : List ℕ} {i j : ℕ} → Break t i j → is_break_char (code t i) ≡ true
break_breaks {t} {i} b = ⊎_elim (λ (e : code t i ≡ 13). cr_breaks t i e) (λ (e : code t i ≡ 10). lf_breaks t i e) (break_char b)

pub no_break_past : (t : List ℕ) (i : ℕ) → length t ≤ i → is_break_char (code t i) ≡ false
unfolding is_break_char
no_break_past t i l = ap is_break_char (code-past t i l)

pub break_within : {t : List ℕ} {i j : ℕ} → Break t i j → j ≤ length t
break_within {t = t} {i = i} (cr_lf a b) = let l = within_from_code t (i + 1) (omega arith) in omega arith
break_within {t = t} {i = i} (lone_cr a b) = let l = within_from_code t i (omega arith) in omega arith
break_within {t = t} {i = i} (lone_lf a b) = let l = within_from_code t i (omega arith) in omega arith

pub break_boundary : {t : List ℕ} {i j : ℕ} → IsUtf8 t → Break t i j → IsCharBoundary t j
break_boundary {t = t} {i = i} u (cr_lf a b) =
    let r = reads_byte t (i + 1) 10 u b (omega arith) in subst (λ k. IsCharBoundary t k) (omega arith) r.boundary
break_boundary {t = t} {i = i} u (lone_cr a b) = (reads_byte t i 13 u a (omega arith)).boundary
break_boundary {t = t} {i = i} u (lone_lf a b) = (reads_byte t i 10 u a (omega arith)).boundary

-- the end of a line's text
pub end_within : {t : List ℕ} {h j : ℕ} → LineEnd t h j → (h ≤ j) × (j ≤ length t)
end_within (at_break b) = let f = break_forward b in let w = break_within b in (omega arith, w)
end_within (at_end e) = (omega arith, omega arith)

end_char : {t : List ℕ} {h j : ℕ} → LineEnd t h j → (is_break_char (code t h) ≡ true) ⊎ (h ≡ length t)
end_char (at_break b) = inl (break_breaks b)
end_char (at_end e) = inr e

end_not_before : {t : List ℕ} {i h h' j j' : ℕ} → NoBreakIn t i h' → LineEnd t h' j' → i ≤ h → h < h' → LineEnd t h j → ⊥
end_not_before {t} {i} {h} {h'} n e' l s e =
    ⊎_elim (λ (b : is_break_char (code t h) ≡ true). true≢false (sym b ∙ n.none h l s))
    (λ (q : h ≡ length t). let w = end_within e' in absurd (omega (arith, w.0, w.1))) (end_char e)

same_end : {t : List ℕ} {i h h' j j' : ℕ} → NoBreakIn t i h → LineEnd t h j → NoBreakIn t i h' → LineEnd t h' j' → h ≡ h'
same_end {t} {i} {h} {h'} n e n' e' =
    ⊎_elim (λ (s : h < h'). absurd (end_not_before n' e' n.order s e))
    (λ (s : h' ≤ h). ⊎_elim (λ (q : h ≡ h'). q) (λ (q : h ≢ h'). absurd (end_not_before n e n'.order (omega arith) e')) (cases_eq h h'))
    (cases_lt h h')

end_of_text : {t : List ℕ} {h j k : ℕ} → Break t h j → h ≡ length t → j ≡ k
end_of_text {t} {h} b e = absurd (true≢false (sym (break_breaks b) ∙ no_break_past t h (omega arith)))

same_next : {t : List ℕ} {h j k : ℕ} → LineEnd t h j → LineEnd t h k → j ≡ k
same_next (at_break b) (at_break c) = break_unique b c
same_next (at_break b) (at_end e) = end_of_text b e
same_next (at_end e) (at_break c) = sym (end_of_text c e)
same_next (at_end e) (at_end f) = refl

no_fewer : {t : List ℕ} {i k k' : ℕ} → SpacesFrom t i k → SpacesFrom t i k' → k < k' → ⊥
no_fewer {k = k} a b l = a.stops (b.spaces.each k l)

pub same_indent : {t : List ℕ} {i k k' : ℕ} → SpacesFrom t i k → SpacesFrom t i k' → k ≡ k'
same_indent {k = k} {k' = k'} a b =
    ⊎_elim (λ (l : k < k'). absurd (no_fewer a b l))
    (λ (l : k' ≤ k). ⊎_elim (λ (q : k ≡ k'). q) (λ (q : k ≢ k'). absurd (no_fewer b a (omega arith))) (cases_eq k k'))
    (cases_lt k k')

-- the line of a step
pub record Made (t : List ℕ) (i j : ℕ) (x : List Line) : Type 0 where
  pub line : Line
  pub is : x ≡ line ∷ []
  pub start : line.start ≡ i
  pub next : line.next ≡ j
  pub made : IsLine t line

pub line_made : {t : List ℕ} {i j : ℕ} {x : List Line} → OneLine t i j x → Made t i j x
line_made (one_line {l} m) = record { line = l; is = refl; start = refl; next = refl; made = m }

abbrev pub line_by : ℕ → ℕ → ℕ → ℕ → Line
line_by i h j k = record { start = i; end = h; next = j; indent = k }

pub same_fields : (a b : Line) → a.start ≡ b.start → a.end ≡ b.end → a.next ≡ b.next → a.indent ≡ b.indent → a ≡ b
same_fields a b s e n d =
    ap (λ w. line_by w a.end a.next a.indent) s
    ∙ ap (λ w. line_by b.start w a.next a.indent) e
    ∙ ap (λ w. line_by b.start b.end w a.indent) n
    ∙ ap (λ w. line_by b.start b.end b.next w) d

-- the line that begins at an offset is the only one
pub same_line : (t : List ℕ) (a b : Line) → IsLine t a → IsLine t b → a.start ≡ b.start → a ≡ b
same_line t a b m n s =
    let u : NoBreakIn t b.start a.end = subst (λ i. NoBreakIn t i a.end) s m.unbroken in
    let d : SpacesFrom t b.start a.indent = subst (λ i. SpacesFrom t i a.indent) s m.indented in
    let e : a.end ≡ b.end = same_end u m.ends n.unbroken n.ends in
    let ends : LineEnd t b.end a.next = subst (λ h. LineEnd t h a.next) e m.ends in
    same_fields a b s e (same_next ends n.ends) (same_indent d n.indented)

same_made : {t : List ℕ} {i j k : ℕ} {x y : List Line} → Made t i j x → Made t i k y → (j ≡ k) × (x ≡ y)
same_made {t} {i} {j} {k} {x} {y} a b =
    let e : a.line ≡ b.line = same_line t a.line b.line a.made b.made (a.start ∙ sym b.start) in
    (sym a.next ∙ ap (λ l. l.next) e ∙ b.next, a.is ∙ ap (λ l. l ∷ []) e ∙ sym b.is)

pub line_functional : (t : List ℕ) → Functional (OneLine t)
line_functional t = record {
  one_end = λ a b. (same_made (line_made a) (line_made b)).0;
  one_meaning = λ a b. (same_made (line_made a) (line_made b)).1;
  forward = λ a. let m = line_made a in let o = m.made.order in omega (arith, m.start, m.next);
}

no_line_at_end : {t : List ℕ} {i j : ℕ} {x : List Line} → i ≡ length t → Made t i j x → ⊥
no_line_at_end e a = let w = end_within a.made.ends in let o = a.made.order in absurd (omega (arith, w.1, a.start))

pub lines_stuck : (t : List ℕ) → Stuck (OneLine t (length t))
lines_stuck t = record { none = λ j x s. no_line_at_end refl (line_made s) }

-- the lines of a text are one list
pub lines_unique : (t : List ℕ) (ls ms : List Line) → AreLines t ls → AreLines t ms → ls ≡ ms
lines_unique t ls ms a b = sym ((chain_chosen (line_functional t) a (lines_stuck t)).only ms b)

-- the steps of reading a line
pub breaks_only_cr : (c : ℕ) → c ≢ 10 → is_break_char c ≡ eqb c 13
unfolding is_break_char
breaks_only_cr c n = rw (ne_eqb c 10 n)

pub break_char_cases : (c : ℕ) → is_break_char c ≡ true → (c ≡ 13) ⊎ (c ≡ 10)
break_char_cases c b =
    ⊎_elim (λ (e : c ≡ 10). inr e) (λ (n : c ≢ 10). inl (eqb-true c 13 (sym (breaks_only_cr c n) ∙ b))) (cases_eq c 10)

pub unbroken_nothing : (t : List ℕ) (i : ℕ) → NoBreakIn t i i
unbroken_nothing t i = record { order = omega arith; none = λ h l s. absurd (omega arith) }

pub unbroken_more : {t : List ℕ} {i j : ℕ} → NoBreakIn t i j → is_break_char (code t j) ≡ false → NoBreakIn t i (j + 1)
unbroken_more {t} {i} {j} n e = record {
  order = omega (arith, n.order);
  none = λ h l s.
      ⊎_elim (λ (q : h ≡ j). ap (λ w. is_break_char (code t w)) q ∙ e)
      (λ (q : h ≢ j). n.none h l (omega arith)) (cases_eq h j);
}

pub unbroken_spaces : (t : List ℕ) (i h j : ℕ) → i ≤ h → Spaces t i (h - i) → NoBreakIn t h j → NoBreakIn t i j
unbroken_spaces t i h j o s n = record {
  order = omega (arith, n.order);
  none = λ m l k.
      ⊎_elim (λ (b : m < h). let e : i + (m - i) ≡ m = omega arith in space_no_break (code t m) (ap (code t) (sym e) ∙ s.each (m - i) (omega arith)))
      (λ (b : h ≤ m). n.none m b k) (cases_lt m h);
}

pub indented_to : (t : List ℕ) (i h : ℕ) → i ≤ h → Spaces t i (h - i) → code t h ≢ 32 → SpacesFrom t i (h - i)
indented_to t i h o s n = record { spaces = s; stops = λ e. n (ap (code t) (omega arith) ∙ e) }

break_at_cr : (t : List ℕ) (h : ℕ) → code t h ≡ 13 → Nowhere (Break t h) → ⊥
break_at_cr t h e n =
    ⊎_elim (λ (l : code t (h + 1) ≡ 10). n.none (h + 2) (cr_lf e l)) (λ (l : code t (h + 1) ≢ 10). n.none (h + 1) (lone_cr e l)) (cases_eq (code t (h + 1)) 10)

no_cr_before : (t : List ℕ) (i h : ℕ) → Apart t i → NoBreakIn t i h → code t h ≡ 10 → code t (h - 1) ≢ 13
no_cr_before t i h a n e p =
    ⊎_elim (λ (q : h ≡ i). a.no_cr (ap (code t) (sym q) ∙ e) (ap (λ w. code t (w - 1)) (sym q) ∙ p))
    (λ (q : h ≢ i). let o = n.order in true≢false (sym (cr_breaks t (h - 1) p) ∙ n.none (h - 1) (omega arith) (omega arith)))
    (cases_eq h i)

-- if no break begins at the first character of one, the text ends there
pub end_from_stop : (t : List ℕ) (i h : ℕ) → Apart t i → NoBreakIn t i h → (is_break_char (code t h) ≡ true) ⊎ (h ≡ length t)
    → Nowhere (Break t h) → h ≡ length t
end_from_stop t i h a n stop none =
    ⊎_elim
    (λ (b : is_break_char (code t h) ≡ true).
    ⊎_elim (λ (e : code t h ≡ 13). absurd (break_at_cr t h e none))
    (λ (e : code t h ≡ 10). absurd (none.none (h + 1) (lone_lf e (no_cr_before t i h a n e))))
    (break_char_cases (code t h) b))
    (λ (e : h ≡ length t). e) stop

-- no line begins within a CR LF
pub apart_at_start : (t : List ℕ) → Apart t 0
apart_at_start t = record { no_cr = λ e c. absurd (omega arith) }

pub apart_after_break : {t : List ℕ} {i j : ℕ} → Break t i j → Apart t j
apart_after_break {t} {i} {j} b = record {
  no_cr = λ e c. ⊎_elim (λ (l : code t (j - 1) ≡ 10). absurd (omega arith))
      (λ (r : (code t (j - 1) ≡ 13) × (code t j ≢ 10)). r.1 e) (break_end b);
}

pub apart_at_end : (t : List ℕ) (j : ℕ) → j ≡ length t → Apart t j
apart_at_end t j e = record { no_cr = λ l c. let n : code t j ≡ no_char = code-past t j (omega arith) in absurd (omega arith) }

-- the line from its parts: its spaces end at h, its text at m
module _ (t : List ℕ) (i h m : ℕ) (inside : i < length t) (order : i ≤ h) (spaces : Spaces t i (h - i)) (no_space : code t h ≢ 32) (rest : NoBreakIn t h m) where
  pub whole_line : NoBreakIn t i m
  whole_line = unbroken_spaces t i h m order spaces rest

  pub line_to_break : (j : ℕ) → Break t m j → OneLine t i j (line_by i m j (h - i) ∷ [])
  line_to_break j b =
      let f : m < j = break_forward b in
      let o : i ≤ m = whole_line.order in
      one_line {l = line_by i m j (h - i)} (record {
        order = omega arith;
        unbroken = whole_line;
        ends = at_break b;
        indented = indented_to t i h order spaces no_space;
      })

  pub line_to_end : m ≡ length t → OneLine t i m (line_by i m m (h - i) ∷ [])
  line_to_end e =
      one_line {l = line_by i m m (h - i)} (record {
        order = omega arith;
        unbroken = whole_line;
        ends = at_end e;
        indented = indented_to t i h order spaces no_space;
      })

-- the boundaries of a line
boundary_at_low : (t : List ℕ) (i : ℕ) → IsUtf8 t → code t i < 128 → IsCharBoundary t i
boundary_at_low t i u l =
    let b = byte_from_code t i u l in
    IsCharBoundary-before_ascii t i b.0 (omega (arith, b.1))

break_starts_low : {t : List ℕ} {i j : ℕ} → Break t i j → code t i < 128
break_starts_low {t} {i} b = ⊎_elim (λ (e : code t i ≡ 13). omega arith) (λ (e : code t i ≡ 10). omega arith) (break_char b)

end_cut : {t : List ℕ} {h j : ℕ} → IsUtf8 t → LineEnd t h j → IsCharBoundary t h
end_cut {t} {h} u (at_break b) = boundary_at_low t h u (break_starts_low b)
end_cut {t} u (at_end e) = subst (λ k. IsCharBoundary t k) (sym e) (IsCharBoundary-end t)

next_cut : {t : List ℕ} {h j : ℕ} → IsUtf8 t → LineEnd t h j → IsCharBoundary t j
next_cut u (at_break b) = break_boundary u b
next_cut {t} u (at_end e) = subst (λ k. IsCharBoundary t k) (sym e) (IsCharBoundary-end t)

pub line_cut : (t : List ℕ) (l : Line) → IsUtf8 t → IsLine t l → IsCharBoundary t l.start → IsCutAt t l
line_cut t l u m b = record { start = b; end = end_cut u m.ends; next = next_cut u m.ends }
