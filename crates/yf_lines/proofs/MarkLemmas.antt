-- Laws of the byte order marks at the start of a line, and of forbidden lines.
use Rattle.std.proofs.Common.{◌≡◌, ◌≢◌, ℕ, ◌+◌, ◌-◌, ◌<◌, ◌≤◌, Bool, true, false, ◌&&◌, ◌||◌, List, [], ◌∷◌, ◌++◌, length, get_or, sym, ap, ◌∙◌, subst, inl, inr, ◌⊎◌, ⊎_elim, arith, true≢false, eqb, MatchBool}
use Rattle.std.proofs.lemmas.Bool.{cases_lt, cases_eq, ne_eqb, eq-eqb, eqb-true, and_parts, or_cases}
use Rattle.std.specs.Str.{IsUtf8, IsCharBoundary}
use Rattle.yf_chars.specs.Text.{code, next, no_char}
use Rattle.yf_chars.specs.Class.{is_break_char, is_white_or_end}
use Rattle.yf_chars.specs.Chain.{One, Many}
use Rattle.yf_chars.specs.Chain.Chain.{done, step}
use Rattle.yf_chars.specs.Chain.One.{one}
use Rattle.yf_chars.proofs.TextLemmas.{code-past, next-mark, bytes_from_mark, reads_real}
use Rattle.yf_chars.proofs.ChainLemmas.{many_more, many_unique, chain_forward, one_functional}
use Rattle.yf_lines.specs.declared.line.Line.{Line}
use Rattle.yf_lines.specs.Basic.{Break, LineStart, ForbiddenLine, Clear, is_marker, is_three}
use Rattle.yf_lines.specs.Basic.Break.{cr_lf, lone_cr, lone_lf}
use Rattle.yf_lines.specs.Basic.LineStart.{at_text, after_break, after_mark}
use Rattle.yf_lines.specs.Lines.{LineEnd, IsLine, IsCutAt, Marks, IsForbiddenLine, is_mark}
use Rattle.yf_lines.specs.Lines.LineEnd.{at_break, at_end}
use Rattle.yf_lines.proofs.BasicLemmas.{break_char, break_end}
use Rattle.yf_lines.proofs.LineLemmas.{lf_breaks, cr_breaks, end_within}
use Rattle.yf_lines.proofs.ClearLemmas.{marker_char}

pub mark_code : (t : List ℕ) (i : ℕ) → is_mark (code t i) ≡ true → code t i ≡ 0xFEFF
mark_code t i e = eqb-true (code t i) 0xFEFF e

pub code_mark : (t : List ℕ) (i : ℕ) → code t i ≡ 0xFEFF → is_mark (code t i) ≡ true
code_mark t i e = eq-eqb (code t i) 0xFEFF e

pub no_mark : (t : List ℕ) (i : ℕ) → code t i ≢ 0xFEFF → is_mark (code t i) ≡ false
no_mark t i n = ne_eqb (code t i) 0xFEFF n

-- the marks so far, and one more
pub marks_more : (t : List ℕ) (i j : ℕ) (x : List ℕ) → Many t is_mark i j x → code t j ≡ 0xFEFF → Many t is_mark i (j + 3) (x ++ code t j ∷ [])
marks_more t i j x m e =
    subst (λ k. Many t is_mark i k (x ++ code t j ∷ [])) (next-mark t j e) (many_more t is_mark m (code_mark t j e))

pub marks_unique : (t : List ℕ) (i j k : ℕ) → Marks t i j → Marks t i k → j ≡ k
marks_unique t i j k a b = (many_unique t is_mark a.run a.stops b.run b.stops).0

pub marks_order : (t : List ℕ) (i j : ℕ) → Marks t i j → i ≤ j
marks_order t i j a = chain_forward (one_functional t is_mark) a.run

-- a boundary is not within a mark
pub not_in_mark : (t : List ℕ) (i e : ℕ) → IsUtf8 t → code t i ≡ 0xFEFF → IsCharBoundary t e → i < e → e < i + 3 → ⊥
not_in_mark t i e u m b l s =
    let bytes = bytes_from_mark t i u m in
    ⊎_elim
    (λ (q : e ≡ i + 1).
    let c : get_or t e 0 ≡ 187 = ap (λ w. get_or t w 0) q ∙ bytes.2 in
    let h : 192 ≤ get_or t e 0 = b.1 (omega (arith, bytes.0)) (omega arith) in absurd (omega arith))
    (λ (n : e ≢ i + 1).
    let q : e ≡ i + 2 = omega arith in
    let c : get_or t e 0 ≡ 191 = ap (λ w. get_or t w 0) q ∙ bytes.3 in
    let h : 192 ≤ get_or t e 0 = b.1 (omega (arith, bytes.0)) (omega arith) in absurd (omega arith))
    (cases_eq e (i + 1))

-- an offset after a mark of a line's start is the start of a line too
one_mark_start : {t : List ℕ} {i j : ℕ} {x : List ℕ} → LineStart t i → One t is_mark i j x → LineStart t j
one_mark_start {t} {i} s (one e) = after_mark s (mark_code t i e)

pub start_after_marks : {t : List ℕ} {i j : ℕ} {x : List ℕ} → LineStart t i → Many t is_mark i j x → LineStart t j
start_after_marks s done = s
start_after_marks s (step m c) = start_after_marks (one_mark_start s m) c

-- marks do not go past an offset without a mark
one_mark_stops : {t : List ℕ} {i j : ℕ} {x : List ℕ} (e : ℕ) → IsUtf8 t → IsCharBoundary t e → code t e ≢ 0xFEFF → i ≤ e → One t is_mark i j x → j ≤ e
one_mark_stops {t} {i} e u b n l (one m) =
    let c : code t i ≡ 0xFEFF = mark_code t i m in
    let w : next t i ≡ i + 3 = next-mark t i c in
    ⊎_elim (λ (q : i ≡ e). absurd (n (ap (code t) (sym q) ∙ c)))
    (λ (d : i ≢ e). ⊎_elim (λ (s : e < i + 3). absurd (not_in_mark t i e u c b (omega arith) s)) (λ (s : i + 3 ≤ e). omega arith) (cases_lt e (i + 3)))
    (cases_eq i e)

pub marks_stop : {t : List ℕ} {i j : ℕ} {x : List ℕ} (e : ℕ) → IsUtf8 t → IsCharBoundary t e → code t e ≢ 0xFEFF → i ≤ e → Many t is_mark i j x → j ≤ e
marks_stop e u b n l done = l
marks_stop e u b n l (step m c) = marks_stop e u b n (one_mark_stops e u b n l m) c

-- the character after a line's text is not a mark
pub end_no_mark : {t : List ℕ} {h j : ℕ} → LineEnd t h j → code t h ≢ 0xFEFF
end_no_mark {t} {h} (at_break b) e = ⊎_elim (λ (q : code t h ≡ 13). omega arith) (λ (q : code t h ≡ 10). omega arith) (break_char b)
end_no_mark {t} {h} (at_end q) e = let p : code t h ≡ no_char = code-past t h (omega arith) in absurd (omega arith)

-- no break ends within a line, after its start
inside_cr_lf : (t : List ℕ) (e h : ℕ) → code t e ≡ 13 → code t (e + 1) ≡ 10 → h ≡ e + 1
    → (code t (h - 1) ≡ 10) ⊎ ((code t (h - 1) ≡ 13) × (code t h ≢ 10)) → ⊥
inside_cr_lf t e h a b q (inl c) =
    let d : h - 1 ≡ e = omega arith in
    let x : code t (h - 1) ≡ 13 = ap (code t) d ∙ a in absurd (omega arith)
inside_cr_lf t e h a b q (inr c) = c.1 (ap (code t) q ∙ b)

inside_break : {t : List ℕ} {e n : ℕ} (h : ℕ) → Break t e n → e < h → h < n
    → (code t (h - 1) ≡ 10) ⊎ ((code t (h - 1) ≡ 13) × (code t h ≢ 10)) → ⊥
inside_break {t} h (cr_lf {i = e} a b) l s c = inside_cr_lf t e h a b (omega arith) c
inside_break h (lone_cr a b) l s c = absurd (omega arith)
inside_break h (lone_lf a b) l s c = absurd (omega arith)

inside_end : {t : List ℕ} {e n : ℕ} (h : ℕ) → LineEnd t e n → e < h → h < n
    → (code t (h - 1) ≡ 10) ⊎ ((code t (h - 1) ≡ 13) × (code t h ≢ 10)) → ⊥
inside_end h (at_end q) l s c = absurd (omega arith)
inside_end h (at_break b) l s c = inside_break h b l s c

pub ends_by_break : (t : List ℕ) (h : ℕ) → (code t (h - 1) ≡ 10) ⊎ ((code t (h - 1) ≡ 13) × (code t h ≢ 10)) → is_break_char (code t (h - 1)) ≡ true
ends_by_break t h (inl e) = lf_breaks t (h - 1) e
ends_by_break t h (inr e) = cr_breaks t (h - 1) e.0

-- within a line, a break ends only at its start
pub break_at_start : {t : List ℕ} {i h : ℕ} (l : Line) → IsLine t l → Break t i h → l.start ≤ h → h < l.next → l.start ≡ h
break_at_start {t} {i} {h} l m b o s =
    ⊎_elim (λ (q : l.start ≡ h). q)
    (λ (n : l.start ≢ h).
    let c = break_end b in
    ⊎_elim
    (λ (w : h - 1 < l.end). absurd (true≢false (sym (ends_by_break t h c) ∙ m.unbroken.none (h - 1) (omega arith) w)))
    (λ (w : l.end ≤ h - 1). absurd (inside_end h m.ends (omega arith) s c))
    (cases_lt (h - 1) l.end))
    (cases_eq l.start h)

-- the start of a line within a line is after marks of its start
pub start_in_line : {t : List ℕ} {h : ℕ} (l : Line) → IsUtf8 t → IsLine t l → IsCutAt t l → LineStart t h → l.start ≤ h → h < l.next
    → (x : List ℕ) × Many t is_mark l.start h x
start_in_line {t} l u m c at_text o s = let z : l.start ≡ 0 = omega arith in ([], subst (λ k. Many t is_mark k 0 []) (sym z) done)
start_in_line {t} {h} l u m c (after_break b) o s =
    let z : l.start ≡ h = break_at_start l m b o s in ([], subst (λ k. Many t is_mark k h []) (sym z) done)
start_in_line {t} {h} l u m c (after_mark {i = i} r e) o s =
    let w : next t i ≡ i + 3 = next-mark t i e in
    ⊎_elim
    (λ (q : l.start ≤ i).
    let before = start_in_line l u m c r q (omega arith) in
    (before.0 ++ code t i ∷ [], many_more t is_mark before.1 (code_mark t i e)))
    (λ (q : i < l.start).
    let z : l.start ≡ next t i =
    ⊎_elim (λ (d : l.start < i + 3). absurd (not_in_mark t i l.start u e c.start q d)) (λ (d : i + 3 ≤ l.start). omega arith) (cases_lt l.start (i + 3)) in
    ([], subst (λ k. Many t is_mark k (next t i) []) (sym z) done))
    (⊎_elim (λ (q : i < l.start). inr q) (λ (q : l.start ≤ i). inl q) (cases_lt i l.start))

-- a document marker begins with - or .
pub three_code : (t : List ℕ) (i c : ℕ) → is_three t i c ≡ true → code t i ≡ c
unfolding is_three
three_code t i c e = eqb-true (code t i) c (and_parts (eqb (code t i) c) (eqb (code t (i + 1)) c && eqb (code t (i + 2)) c) e).0

pub marker_no_mark : (t : List ℕ) (i : ℕ) → is_marker t i ≡ true → code t i ≢ 0xFEFF
marker_no_mark t i e q = ⊎_elim (λ (c : code t i ≡ 45). omega arith) (λ (c : code t i ≡ 46). omega arith) (marker_char t i e)

marker_not_at_end : {t : List ℕ} {h j : ℕ} → LineEnd t h j → is_marker t h ≡ true → ⊥
marker_not_at_end {t} {h} (at_break b) e =
    ⊎_elim
    (λ (q : code t h ≡ 13). ⊎_elim (λ (c : code t h ≡ 45). omega arith) (λ (c : code t h ≡ 46). omega arith) (marker_char t h e))
    (λ (q : code t h ≡ 10). ⊎_elim (λ (c : code t h ≡ 45). omega arith) (λ (c : code t h ≡ 46). omega arith) (marker_char t h e))
    (break_char b)
marker_not_at_end {t} {h} (at_end q) e =
    let p : code t h ≡ no_char = code-past t h (omega arith) in
    ⊎_elim (λ (c : code t h ≡ 45). omega arith) (λ (c : code t h ≡ 46). omega arith) (marker_char t h e)

-- a forbidden line begins within a line if and only if the line's marks end before a document marker
pub forbidden_within : (t : List ℕ) (l : Line) → IsUtf8 t → IsLine t l → IsCutAt t l → LineStart t l.start → IsForbiddenLine t l.start
    → (h : ℕ) × (l.start ≤ h) × (h < l.next) × ForbiddenLine t h
forbidden_within t l u m c s f =
    let o : l.start ≤ f.at = marks_order t l.start f.at f.follows in
    let e : f.at ≤ l.end = marks_stop l.end u c.end (end_no_mark m.ends) m.unbroken.order f.follows.run in
    let n : l.end ≤ l.next = (end_within m.ends).0 in
    let d : f.at ≢ l.end = λ q. marker_not_at_end m.ends (ap (is_marker t) (sym q) ∙ f.marker) in
    (f.at, o, omega arith, record { start = start_after_marks s f.follows.run; marker = f.marker })

pub forbidden_from : (t : List ℕ) (l : Line) (h : ℕ) → IsUtf8 t → IsLine t l → IsCutAt t l → l.start ≤ h → h < l.next → ForbiddenLine t h
    → IsForbiddenLine t l.start
forbidden_from t l h u m c o s f =
    let run = start_in_line l u m c f.start o s in
    record {
      at = h;
      follows = record { marks = run.0; run = run.1; stops = no_mark t h (marker_no_mark t h f.marker) };
      marker = f.marker;
    }

pub match_forbidden : (t : List ℕ) (l : Line) (b : Bool) → IsUtf8 t → IsLine t l → IsCutAt t l → LineStart t l.start
    → MatchBool b (IsForbiddenLine t l.start) (IsForbiddenLine t l.start → ⊥)
    → MatchBool b ((h : ℕ) × (l.start ≤ h) × (h < l.next) × ForbiddenLine t h) (Clear t l.start l.next)
match_forbidden t l true u m c s f = forbidden_within t l u m c s f
match_forbidden t l false u m c s f = record { none = λ h o e g. f (forbidden_from t l h u m c o e g) }

-- the result of a test at the end of the marks
pub match_marker : (t : List ℕ) (i j : ℕ) (b : Bool) → Marks t i j → b ≡ is_marker t j → MatchBool b (IsForbiddenLine t i) (IsForbiddenLine t i → ⊥)
match_marker t i j true a e = record { at = j; follows = a; marker = sym e }
match_marker t i j false a e = λ f. true≢false (sym f.marker ∙ ap (is_marker t) (marks_unique t i f.at j f.follows a) ∙ sym e)

pub mark_boundary : (t : List ℕ) (i : ℕ) → IsUtf8 t → code t i ≡ 0xFEFF → IsCharBoundary t (i + 3)
mark_boundary t i u e = subst (λ k. IsCharBoundary t k) (next-mark t i e) (reads_real t i u (omega arith)).boundary

pub mark_within : (t : List ℕ) (i : ℕ) → IsUtf8 t → code t i ≡ 0xFEFF → i + 3 ≤ length t
mark_within t i u e = (mark_boundary t i u e).0
