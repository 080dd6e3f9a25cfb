-- The lines of a block scalar: their number, and a walk over them.
use Rattle.std.proofs.Common.{◌≡◌, ℕ, ℤ, ◌+◌, ◌-◌, ◌<◌, ◌≤◌, true, false, List, [], Option, length, refl, sym, ap, ◌∙◌, subst, arith, ⊎_elim, true≢false}
use Rattle.std.proofs.lemmas.Bool.{cases_lt}
use Rattle.std.specs.Str.{IsUtf8}
use Rattle.yf_chars.specs.Chain.{Chain, Chosen, Nowhere}
use Rattle.yf_chars.specs.Chain.Chain.{done, step}
use Rattle.yf_chars.specs.Class.{is_break_char, is_white_or_end}
use Rattle.yf_chars.specs.Text.{code, no_char, CharAt}
use Rattle.yf_chars.proofs.TextLemmas.{code-past}
use Rattle.yf_lines.specs.Basic.{Break}
use Rattle.yf_lines.specs.Lines.{NoBreakIn, LineEnd, at_break, at_end, IsLine, OneLine, one_line}
use Rattle.yf_lines.specs.declared.line.Line.{Line}
use Rattle.yf_lines.proofs.BasicLemmas.{break_char, break_unique}
use Rattle.yf_lines.proofs.ClearLemmas.{code_inside}
use Rattle.yf_lines.proofs.LineLemmas.{break_breaks, end_within, no_break_past}
use Rattle.yf_comments.specs.Comment.{CommentValue}
use Rattle.yf_comments.specs.Comments.{Blank, break_ends, BreakOrEnd, LineRest}
use Rattle.yf_comments.specs.Comments.BreakOrEnd.{by_break, by_end}
use Rattle.yf_comments.specs.Comments.LineRest.{nothing, whites, comment}
use Rattle.yf_block_scalar.specs.Body.{Body, BodyValue, Trail}
use Rattle.yf_block_scalar.specs.Body.Trail.{comments, no_comment}
use Rattle.yf_block_scalar.specs.Body.Body.{indicated, detected, without_content}
use Rattle.yf_block_scalar.specs.Header.{BlockHeader, HeaderValue, Indicators}
use Rattle.yf_block_scalar.specs.Header.Indicators.{neither, digit_alone, sign_alone, digit_sign, sign_digit}
use Rattle.yf_block_scalar.specs.Header.BlockHeader.{block_header}
use Rattle.yf_block_scalar.specs.declared.header.Chomp.{Chomp}
use Rattle.yf_block_scalar.specs.declared.header.Chomp.TheVariants.{Strip, Clip, Keep}
use Rattle.yf_block_scalar.specs.declared.header.Header.{Header}
use Rattle.yf_block_scalar.proofs.HeaderLemmas.{Only, only_digit_sign, only_digit, only_sign_digit, only_sign, only_neither, stop_digit, stop_sign, rest_stop, marks_inside, header_chosen}
use Rattle.yf_block_scalar.proofs.LinesMade.{LinesTo, taken_lines, taken_all, blanks_one}
use Rattle.yf_grammar.specs.Productions.BlockScalar.{LinesBetween, reach}
use Rattle.yf_grammar.specs.Productions.BlockScalar.LinesBetween.{counted}
use Rattle.yf_block.specs.LookTests.{NotWithinBreak}
use Rattle.yf_block.specs.ScalarTied.{LinesLeft}
use Rattle.yf_block.proofs.Ends.LineHalts.{break_outside, ended_outside, rest_outside, outside_end}
use Rattle.yf_chars.proofs.CharFacts.{end_no_break}

-- each line has at least one byte
lines_width : {t : List ℕ} {i j : ℕ} {ls : List Line} → Chain (OneLine t) i j ls → length ls + i ≤ j
lines_width done = omega arith
lines_width (step {x = x} {y = y} (one_line {l = l} s) c) = let r = lines_width c in let o = s.order in omega (arith, r, o)

-- the lines of a scalar by its sign, and all its lines
pub record Reaching (t : List ℕ) (c : Chomp) (lines tail i j : ℕ) : Type 0 where
  pub end : ℕ
  pub between : LinesBetween t (reach c lines tail) i end
  pub within : lines + tail + i ≤ j

lines_to_width : {t : List ℕ} {i j n : ℕ} → LinesTo t i j n → n + i ≤ j
lines_to_width a = let w = lines_width a.chain in let c = a.counts in omega (arith, w, c)

reaching : {t : List ℕ} {lines tail i finish last j : ℕ} (c : Chomp) → LinesTo t i finish lines → LinesTo t i last (lines + tail) → last ≤ j → Reaching t c lines tail i j
reaching Strip a b l = record { end = _; between = counted a.chain a.counts; within = let w = lines_to_width b in omega (arith, w, l) }
reaching Clip a b l = record { end = _; between = counted a.chain a.counts; within = let w = lines_to_width b in omega (arith, w, l) }
reaching Keep a b l = record { end = _; between = counted b.chain b.counts; within = let w = lines_to_width b in omega (arith, w, l) }

lines_last : {t : List ℕ} {i j : ℕ} {ls : List Line} → Chain (OneLine t) i j ls → i ≤ length t → j ≤ length t
lines_last done w = w
lines_last (step (one_line s) c) w = lines_last c (end_within s.ends).1

pub body_between : {t : List ℕ} (u : IsUtf8 t) {n : ℤ} {h : Header} {i j : ℕ} {b : BodyValue} → Body t n h i j b → i ≤ length t → Reaching t h.chomp (length b.lines) b.tail i (length t)
body_between u {h = h} (indicated q a b) w = let all = taken_all u a in reaching h.chomp (taken_lines u a) all (lines_last all.chain w)
body_between u {h = h} (detected q d a b) w = let all = taken_all u a in reaching h.chomp (taken_lines u a) all (lines_last all.chain w)
body_between {t} u {h = h} {i = i} (without_content {widths = widths} q c d b) w =
    let none : LinesTo t i i 0 = record { lines = []; chain = done; counts = refl } in
    let blanks = blanks_one c in
    let all : LinesTo t i _ (0 + length widths) = record { lines = blanks.lines; chain = blanks.chain; counts = let e = blanks.counts in omega (arith, e) } in
    reaching h.chomp none all (lines_last all.chain w)

-- at the end of lines, a line begins or the text ends
pub lines_blank : {t : List ℕ} {i j : ℕ} {ls : List Line} → Chain (OneLine t) i j ls → (i < length t → Blank t i) → j < length t → Blank t j
lines_blank done f l = f l
lines_blank {t} (step (one_line s) c) f l = lines_blank c (ended s.ends) l where
  ended : {h k : ℕ} → LineEnd t h k → k < length t → Blank t k
  ended (at_break b) l = break_ends b
  ended (at_end e) l = absurd (omega (arith, e, l))

pub between_blank : {t : List ℕ} {count i j : ℕ} → LinesBetween t count i j → (i < length t → Blank t i) → j < length t → Blank t j
between_blank (counted c e) f l = lines_blank c f l

pub header_blank : {t : List ℕ} {i j : ℕ} {h : HeaderValue} → BlockHeader t i j h → j < length t → Blank t j
header_blank {t} (block_header s m r) l = rest r l where
  ended : {h k : ℕ} → BreakOrEnd t h k → k < length t → Blank t k
  ended (by_break b) l = break_ends b
  ended (by_end e) l = absurd (omega (arith, e, l))

  rest : {h k : ℕ} {x : List CommentValue} → LineRest t h k x → k < length t → Blank t k
  rest (nothing e) l = ended e l
  rest (whites w e) l = ended e l
  rest (comment w d e) l = ended e l

-- the walk: within a line, over its break, and at the end of the text
pub walk_begins : {t : List ℕ} {count at e : ℕ} → LinesBetween t count at e → LinesLeft t count at e
walk_begins {at = at} b = record { start = at; line = record { order = omega arith; none = λ h l m. absurd (omega (arith, l, m)) }; begins = λ z. refl; rest = b }

pub walk_over : {t : List ℕ} {place e : ℕ} → LinesLeft t 0 place e → place ≡ e
walk_over {t} {place} {e} w = sym (w.begins refl) ∙ none w.rest where
  none : {i : ℕ} → LinesBetween t 0 i e → i ≡ e
  none (counted done q) = refl
  none (counted (step (one_line {l = l} s) c) q) = absurd (omega (arith, q))

break_not_past : {t : List ℕ} {i j : ℕ} → length t ≤ i → Break t i j → ⊥
break_not_past {t} {i} l b = let z = code-past t i l in ⊎_elim (λ c. omega (arith, z, c)) (λ c. omega (arith, z, c)) (break_char b)

-- the line of the walk ends with the break at the offset
line_break_there : {t : List ℕ} {l : Line} {place next : ℕ} → IsLine t l → NoBreakIn t l.start place → Break t place next → l.next ≡ next
line_break_there {t} {l} {place} {next} s u b = go s.ends s.unbroken where
  go : {h k : ℕ} → LineEnd t h k → NoBreakIn t l.start h → k ≡ next
  go {h} (at_break {j = k} d) v = ⊎_elim
      (λ (x : h < place). absurd (true≢false (sym (break_breaks d) ∙ u.none h v.order x)))
      (λ (x : place ≤ h). ⊎_elim
      (λ (y : place < h). absurd (true≢false (sym (break_breaks b) ∙ v.none place u.order y)))
      (λ (y : h ≤ place). let same : h ≡ place = omega (arith, x, y) in break_unique (subst (λ (z : ℕ). Break t z k) same d) b)
      (cases_lt place h))
      (cases_lt h place)
  go {h} (at_end e) v = ⊎_elim
      (λ (x : place < h). absurd (true≢false (sym (break_breaks b) ∙ v.none place u.order x)))
      (λ (x : h ≤ place). absurd (break_not_past (omega (arith, e, x)) b))
      (cases_lt place h)

module _ {t : List ℕ} {left place e : ℕ} (w : LinesLeft t left place e) (some : 0 < left) where
  pub walk_line : {next : ℕ} → Break t place next → LinesLeft t (left - 1) next e
  walk_line {next} b = walk_begins (go w.rest w.line) where
    go : {i : ℕ} → LinesBetween t left i e → NoBreakIn t i place → LinesBetween t (left - 1) next e
    go (counted done q) u = absurd (omega (arith, q, some))
    go (counted (step {y = ls} (one_line {l = l} s) c) q) u = counted (subst (λ (z : ℕ). Chain (OneLine t) z e ls) (line_break_there s u b) c) (omega (arith, q))

  -- if no break begins there, the character is not one of a break
  quiet : Nowhere (Break t place) → is_break_char (code t place) ≡ false
  quiet n = go w.rest w.line where
    ended : (l : Line) {h k : ℕ} → LineEnd t h k → NoBreakIn t l.start h → NoBreakIn t l.start place → l.start ≤ place → is_break_char (code t place) ≡ false
    ended l {h = h} (at_break {j = k} d) v u o = ⊎_elim
        (λ (x : h < place). absurd (true≢false (sym (break_breaks d) ∙ u.none h v.order x)))
        (λ (x : place ≤ h). ⊎_elim
        (λ (y : place < h). v.none place o y)
        (λ (y : h ≤ place). let same : h ≡ place = omega (arith, x, y) in absurd (n.none k (subst (λ (z : ℕ). Break t z k) same d)))
        (cases_lt place h))
        (cases_lt h place)
    ended l {h = h} (at_end x) v u o = ⊎_elim
        (λ (y : place < h). v.none place o y)
        (λ (y : h ≤ place). no_break_past t place (omega (arith, x, y)))
        (cases_lt place h)

    go : {i : ℕ} → LinesBetween t left i e → NoBreakIn t i place → is_break_char (code t place) ≡ false
    go (counted done q) u = absurd (omega (arith, q, some))
    go (counted (step (one_line {l = l} s) c) q) u = ended l s.ends s.unbroken u u.order

  pub walk_within : {c next : ℕ} → IsUtf8 t → CharAt t place c next → Nowhere (Break t place) → LinesLeft t left next e
  walk_within {c} {next} u r n = record {
    start = w.start;
    line = record {
      order = let o = w.line.order in let l = r.later in omega (arith, o, l);
      none = λ h l m. ⊎_elim
          (λ (x : h < place). w.line.none h l x)
          (λ (x : place ≤ h). ⊎_elim
          (λ (y : place < h). ap is_break_char (code_inside u r y m) ∙ end_no_break)
          (λ (y : h ≤ place). let same : h ≡ place = omega (arith, x, y) in ap (λ (z : ℕ). is_break_char (code t z)) same ∙ quiet n)
          (cases_lt place h))
          (cases_lt h place);
    };
    begins = λ z. absurd (omega (arith, z, some));
    rest = w.rest;
  }

  -- over a run without breaks
  pub walk_run : {end : ℕ} → place ≤ end → ((h : ℕ) → place ≤ h → h < end → is_break_char (code t h) ≡ false) → LinesLeft t left end e
  walk_run o q = record {
    start = w.start;
    line = record {
      order = let l = w.line.order in omega (arith, o, l);
      none = λ h l m. ⊎_elim (λ (x : h < place). w.line.none h l x) (λ (x : place ≤ h). q h x m) (cases_lt h place);
    };
    begins = λ z. absurd (omega (arith, z, some));
    rest = w.rest;
  }

  pub walk_past : place ≡ length t → place ≡ e
  walk_past z = go w.rest w.line where
    go : {i : ℕ} → LinesBetween t left i e → NoBreakIn t i place → place ≡ e
    go (counted done q) u = absurd (omega (arith, q, some))
    go (counted (step (one_line {l = l} s) c) q) u = past s.ends s.unbroken c u where
      after : {h : ℕ} {ls : List Line} → h ≡ length t → Chain (OneLine t) h e ls → h ≡ e
      after x done = refl
      after x (step (one_line {l = m} y) d) = let o = y.order in let f = end_within y.ends in absurd (omega (arith, x, o, f))

      past : {h k : ℕ} {ls : List Line} → LineEnd t h k → NoBreakIn t l.start h → Chain (OneLine t) k e ls → NoBreakIn t l.start place → place ≡ e
      past {h} (at_break d) v c u = ⊎_elim
          (λ (x : h < place). absurd (true≢false (sym (break_breaks d) ∙ u.none h v.order x)))
          (λ (x : place ≤ h). absurd (break_not_past (omega (arith, z, x)) d))
          (cases_lt h place)
      past (at_end x) v c u = z ∙ sym x ∙ after x c

-- the end of lines is not within a break
lines_outside : {t : List ℕ} {i j : ℕ} {ls : List Line} → Chain (OneLine t) i j ls → NotWithinBreak t i → NotWithinBreak t j
lines_outside done n = n
lines_outside {t} (step (one_line s) c) n = lines_outside c (ended s.ends) where
  ended : {h k : ℕ} → LineEnd t h k → NotWithinBreak t k
  ended (at_break b) = break_outside b
  ended (at_end e) = ended_outside (by_end e)

header_outside : {t : List ℕ} {i j : ℕ} {h : HeaderValue} → BlockHeader t i j h → NotWithinBreak t j
header_outside (block_header s m r) = rest_outside r

trail_outside : {t : List ℕ} {k i j : ℕ} {x : List CommentValue} → IsUtf8 t → Trail t k i j x → NotWithinBreak t i → NotWithinBreak t j
trail_outside u (comments m l a e c) n = outside_end u c.derived
trail_outside u (no_comment f) n = n

pub body_outside : {t : List ℕ} (u : IsUtf8 t) {n : ℤ} {h : Header} {i p j : ℕ} {b : BodyValue} {head : HeaderValue} → BlockHeader t p i head → Body t n h i j b → NotWithinBreak t j
body_outside u w (indicated q a b) = trail_outside u b (lines_outside (taken_all u a).chain (header_outside w))
body_outside u w (detected q d a b) = trail_outside u b (lines_outside (taken_all u a).chain (header_outside w))
body_outside u w (without_content q c d b) = trail_outside u b (lines_outside (blanks_one c).chain (header_outside w))

-- a header is the longest one at its offset
only_of : {t : List ℕ} {i j : ℕ} {d : Option ℕ} {c : Chomp} → Indicators t i j d c → is_white_or_end (code t j) ≡ true → Only t i j d c
only_of neither s = only_neither (λ j d x. stop_digit x s) (λ j c x. stop_sign x s)
only_of (digit_alone x) s = only_digit x (λ j c y. stop_sign y s)
only_of (sign_alone y) s = only_sign y (λ j d x. stop_digit x s)
only_of (digit_sign x y) s = only_digit_sign x y
only_of (sign_digit y x) s = only_sign_digit y x

pub header_is_longest : {t : List ℕ} {i j : ℕ} {h : HeaderValue} → IsUtf8 t → BlockHeader t i j h → Chosen (BlockHeader t i) j h
header_is_longest u (block_header s m r) = header_chosen u s m (only_of m (rest_stop (marks_inside u s m) r)) r
