-- The lines of a layout, each with its text: those of rows, with the comments that trail them and the lines of block
-- scalars, and those between rows. They are the lines of the text.
use Rattle.std.proofs.Common.{◌≡◌, ◌≢◌, ℕ, zero, suc, ◌+◌, ◌<◌, ◌≤◌, ◌⊎◌, inl, inr, ⊎_elim, true, false, true≢false, List, [], ◌∷◌, ◌++◌, length, drop, replicate, Some, refl, sym, ap, ◌∙◌, subst, arith, append_assoc, length-append, length-drop}
use Rattle.std.specs.Prelude.{slice_get}
use Rattle.std.specs.Str.{IsUtf8}
use Rattle.std.proofs.lemmas.Bool.{cases_eq, cases_lt}
use Rattle.std.proofs.lemmas.Option.{same_Some}
use Rattle.yf_chars.specs.Chain.{Many}
use Rattle.yf_chars.specs.Chain.Chain.{done, step}
use Rattle.yf_chars.specs.Chain.One.{one}
use Rattle.yf_chars.specs.Class.{is_break_char, is_nb_char}
use Rattle.yf_chars.specs.Text.{code, next, no_char}
use Rattle.yf_chars.proofs.CharBounds.{nb_below}
use Rattle.yf_chars.proofs.TextLemmas.{reads_real}
use Rattle.yf_lines.specs.declared.line.Line.{Line}
use Rattle.yf_lines.specs.Basic.{Break}
use Rattle.yf_lines.specs.LineText.{IsLineText}
use Rattle.yf_lines.specs.Lines.{IsLine, NoBreakIn}
use Rattle.yf_lines.specs.Lines.LineEnd.{at_break}
use Rattle.yf_lines.proofs.ClearLemmas.{code_inside}
use Rattle.yf_lines.proofs.LineLemmas.{break_char_cases, end_within, same_line}
use Rattle.yf_lines.proofs.RestLemmas.{Rest, rest_ascii, rest_text, rest_break}
use Rattle.yf_lines.proofs.TableLemmas.{Follow}
use Rattle.yf_comments.specs.GapLines.{GapLine, blank, remark, gap_then}
use Rattle.yf_laws.specs.Layouts.Decorated.{Deco, first, after, trails_then, body_then, lines_then}
use Rattle.yf_print.specs.Layouts.Rows.{Row}
use Rattle.yf_laws.proofs.Derived.ClearRows.{trails_bytes, trails_are}
use Rattle.yf_laws.proofs.Derived.RowsUtf8.{AreLines, no_line, line_more}
use Rattle.yf_chars.proofs.Tests.{not_true, no_item}
use Rattle.yf_chars.proofs.CharFacts.{feed_no_nb, return_no_nb}
use Rattle.yf_block_scalar.proofs.PlacedLemmas.{rest_end}

-- The texts of the lines.

-- between two rows
abbrev pub gap_lines : List GapLine → List (List ℕ)
gap_lines [] = []
gap_lines (blank ∷ gs) = [] ∷ gap_lines gs
gap_lines (remark column text ∷ gs) = (replicate column 32 ++ text) ∷ gap_lines gs

-- the line that a row begins, with the comments that trail it
abbrev pub own_line : Row → Deco → List ℕ
own_line x d = replicate x.column 32 ++ (x.text ++ trails_bytes d.trails)

abbrev pub row_lines : List Row → List Deco → List (List ℕ)
row_lines [] ds = []
row_lines (x ∷ xs) ds = own_line x (first ds) ∷ (x.body ++ (gap_lines (first ds).gap ++ row_lines xs (after ds)))

pub body_append : (xs ys : List (List ℕ)) (r : List ℕ) → body_then (xs ++ ys) r ≡ body_then xs (body_then ys r)
body_append [] ys r = refl
body_append (x ∷ xs) ys r = ap (λ z. x ++ (10 ∷ z)) (body_append xs ys r)

pub gap_is : (gap : List GapLine) (r : List ℕ) → gap_then gap r ≡ body_then (gap_lines gap) r
gap_is [] r = refl
gap_is (blank ∷ gs) r = ap (λ z. 10 ∷ z) (gap_is gs r)
gap_is (remark column text ∷ gs) r =
    ap (λ z. replicate column 32 ++ (text ++ (10 ∷ z))) (gap_is gs r) ∙ sym (append_assoc (replicate column 32) text (10 ∷ body_then (gap_lines gs) r))

pub rows_are : (xs : List Row) (ds : List Deco) (r : List ℕ) → lines_then xs ds r ≡ body_then (row_lines xs ds) r
rows_are [] ds r = refl
rows_are (x ∷ xs) ds r =
    let d : Deco = first ds in
    let rest : List (List ℕ) = gap_lines d.gap ++ row_lines xs (after ds) in
    let inner : body_then x.body (gap_then d.gap (lines_then xs (after ds) r)) ≡ body_then (x.body ++ rest) r =
    ap (λ z. body_then x.body z) (gap_is d.gap (lines_then xs (after ds) r) ∙ (ap (λ z. body_then (gap_lines d.gap) z) (rows_are xs (after ds) r) ∙ sym (body_append (gap_lines d.gap) (row_lines xs (after ds)) r)))
    ∙ sym (body_append x.body rest r) in
    ap (λ z. replicate x.column 32 ++ (x.text ++ trails_then d.trails (10 ∷ z))) inner
    ∙ (ap (λ z. replicate x.column 32 ++ (x.text ++ z)) (trails_are d.trails (10 ∷ body_then (x.body ++ rest) r))
    ∙ (ap (λ z. replicate x.column 32 ++ z) (sym (append_assoc x.text (trails_bytes d.trails) (10 ∷ body_then (x.body ++ rest) r)))
    ∙ sym (append_assoc (replicate x.column 32) (x.text ++ trails_bytes d.trails) (10 ∷ body_then (x.body ++ rest) r))))

-- all lines, from the first on
abbrev pub laid_lines : List GapLine → List Row → List Deco → List (List ℕ)
laid_lines gap xs ds = gap_lines gap ++ row_lines xs ds

pub layout_is : (gap : List GapLine) (xs : List Row) (ds : List Deco) → gap_then gap (lines_then xs ds []) ≡ body_then (laid_lines gap xs ds) []
layout_is gap xs ds =
    gap_is gap (lines_then xs ds []) ∙ (ap (λ z. body_then (gap_lines gap) z) (rows_are xs ds []) ∙ sym (body_append (gap_lines gap) (row_lines xs ds) []))

-- The lines of a text.

-- a line with this text, which a line feed ends, and what follows it
pub record LineIs (t : List ℕ) (l : Line) (x : List ℕ) : Type 0 where
  pub follows : List ℕ
  pub there : Rest t l.start (x ++ (10 ∷ follows))
  pub text : IsLineText x
  pub end : l.end ≡ l.start + length x
  pub next : l.next ≡ l.end + 1

pub data LinesAre (t : List ℕ) : List Line → List (List ℕ) → Type 0 where
  no_lines : LinesAre t [] []
  more_lines : {l : Line} {ls : List Line} {x : List ℕ} {xs : List (List ℕ)} (a : LineIs t l x) → a.follows ≡ body_then xs [] → LinesAre t ls xs → LinesAre t (l ∷ ls) (x ∷ xs)

-- each offset within characters of a line is at one of them, or inside one
pub nb_there : {t : List ℕ} {i j : ℕ} {x : List ℕ} → IsUtf8 t → Many t is_nb_char i j x → (h : ℕ) → i ≤ h → h < j → (is_nb_char (code t h) ≡ true) ⊎ (code t h ≡ no_char)
nb_there u done h l m = absurd (omega (arith, l, m))
nb_there {t} {i = i} u (step (one e) c) h l m =
    ⊎_elim (λ (q : h ≡ i). inl (ap (λ k. is_nb_char (code t k)) q ∙ e))
    (λ (q : h ≢ i). ⊎_elim (λ (n : h < next t i). inr (code_inside u (reads_real t i u (nb_below (code t i) e)) (omega (arith, l, q)) n))
    (λ (n : next t i ≤ h). nb_there u c h n m) (cases_lt h (next t i)))
    (cases_eq h i)

-- such an offset is not at a character that isn't an nb-char
pub nb_no : (c d : ℕ) → c < no_char → is_nb_char c ≡ false → (is_nb_char d ≡ true) ⊎ (d ≡ no_char) → d ≢ c
nb_no c d l n a e = ⊎_elim (λ (b : is_nb_char d ≡ true). true≢false (sym b ∙ (ap is_nb_char e ∙ n))) (λ (b : d ≡ no_char). omega (arith, l, b, e)) a

no_break_there : (c : ℕ) → c ≢ 10 → c ≢ 13 → is_break_char c ≡ true → ⊥
no_break_there c n m e = ⊎_elim (λ (q : c ≡ 13). m q) (λ (q : c ≡ 10). n q) (break_char_cases c e)

text_unbroken : {t : List ℕ} {i j : ℕ} {x : List ℕ} → IsUtf8 t → i ≤ j → Many t is_nb_char i j x → NoBreakIn t i j
text_unbroken {t} u o c = record {
  order = o;
  none = λ h l m.
      let a = nb_there u c h l m in
      not_true (is_break_char (code t h)) (no_break_there (code t h) (nb_no 10 (code t h) (omega arith) feed_no_nb a) (nb_no 13 (code t h) (omega arith) return_no_nb a));
}

pub before_text_end : {t : List ℕ} {q : ℕ} (x r : List ℕ) → Rest t q (x ++ (10 ∷ r)) → q < length t
before_text_end {t} {q} x r s =
    let some : length (drop q t) ≡ length (x ++ (10 ∷ r)) = ap length s.bytes in
    omega (arith, some, length-drop q t, length-append x (10 ∷ r))

-- the line that begins with a text
pub line_is : {t : List ℕ} (l : Line) (x r : List ℕ) → IsUtf8 t → IsLineText x → IsLine t l → Rest t l.start (x ++ (10 ∷ r)) → (a : LineIs t l x) × (a.follows ≡ r)
line_is {t} l x r u a m s =
    let at = rest_text x u a s in
    let end = rest_break u at.rest in
    let made : Line = record { start = l.start; end = l.start + length x; next = l.start + length x + 1; indent = l.indent } in
    let line : IsLine t made = record { order = omega arith; unbroken = text_unbroken u (omega arith) at.chars; ends = at_break end.0; indented = m.indented } in
    let same : l ≡ made = same_line t l made m line refl in
    (record { follows = r; there = s; text = a; end = ap (λ (w : Line). w.end) same; next = ap (λ (w : Line). w.next) same ∙ ap (λ k. k + 1) (sym (ap (λ (w : Line). w.end) same)) }, refl)

-- the lines of a text from an offset to its end are those that are read there
pub lines_are : {t : List ℕ} {xs : List (List ℕ)} (ls : List Line) {q : ℕ} → IsUtf8 t → AreLines xs → Follow t q (length t) ls → Rest t q (body_then xs []) → LinesAre t ls xs
lines_are [] u no_line f s = no_lines
lines_are (l ∷ ls) u no_line f s =
    let o = f.1.order in let w = end_within f.1.ends in
    absurd (let e = rest_end s in omega (arith, f.0, o, w.1, e))
lines_are [] u (line_more {x = x} {xs = xs} a more) f s = absurd (let l = before_text_end x (body_then xs []) s in omega (arith, l, f))
lines_are {t} (l ∷ ls) {q} u (line_more {x = x} {xs = xs} a more) f s =
    let here : Rest t l.start (x ++ (10 ∷ body_then xs [])) = subst (λ k. Rest t k (x ++ (10 ∷ body_then xs []))) (sym f.0) s in
    let one = line_is l x (body_then xs []) u a f.1 here in
    let at = rest_text x u a here in
    let end = rest_break u at.rest in
    let there : l.start + length x + 1 ≡ l.next = sym (one.0.next ∙ ap (λ k. k + 1) one.0.end) in
    more_lines one.0 one.1 (lines_are ls u more f.2 (subst (λ k. Rest t k (body_then xs [])) there end.1))

-- its characters, and the line feed after them
pub line_char : {t : List ℕ} {l : Line} {x : List ℕ} → IsUtf8 t → LineIs t l x → (h : ℕ) → l.start ≤ h → h < l.end → (is_nb_char (code t h) ≡ true) ⊎ (code t h ≡ no_char)
line_char {x = x} u a h l m =
    let at = rest_text x u a.text a.there in
    let end = a.end in
    nb_there u at.chars h l (omega (arith, m, end))

pub line_break : {t : List ℕ} {l : Line} {x : List ℕ} → IsUtf8 t → LineIs t l x → Break t l.end l.next
line_break {t} {l} {x} u a =
    let at = rest_text x u a.text a.there in
    let end : Break t (l.start + length x) (l.start + length x + 1) = (rest_break u at.rest).0 in
    subst (λ k. Break t l.end k) (sym a.next) (subst (λ k. Break t k (k + 1)) (sym a.end) end)

pub line_feed : {t : List ℕ} {l : Line} {x : List ℕ} → IsUtf8 t → LineIs t l x → code t l.end ≡ 10
line_feed {t} {l} {x} u a =
    let at = rest_text x u a.text a.there in
    ap (code t) a.end ∙ (rest_ascii 10 u (omega arith) (λ e. absurd (omega arith)) at.rest).0.char

-- the text of the line at an index
pub record LineText (t : List ℕ) (xs : List (List ℕ)) (k : ℕ) (l : Line) : Type 0 where
  pub text : List ℕ
  pub among : slice_get xs k ≡ Some text
  pub is : LineIs t l text

pub line_text : {t : List ℕ} {ls : List Line} {xs : List (List ℕ)} (k : ℕ) (l : Line) → LinesAre t ls xs → slice_get ls k ≡ Some l → LineText t xs k l
line_text k l no_lines e = absurd (no_item k l e)
line_text {t} zero l (more_lines {l = m} {x = x} {xs = xs} a f more) e = subst (λ w. LineText t (x ∷ xs) 0 w) (same_Some _ _ e) (record { text = x; among = refl; is = a })
line_text (suc k) l (more_lines a f more) e = let r = line_text k l more e in record { text = r.text; among = r.among; is = r.is }
