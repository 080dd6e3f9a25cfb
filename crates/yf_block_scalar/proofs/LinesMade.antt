-- The lines of a block scalar are lines of the text, one for one.
use Rattle.std.proofs.Common.{◌≡◌, ◌≢◌, ℕ, zero, suc, ◌+◌, ◌-◌, ◌<◌, ◌≤◌, Bool, false, List, [], ◌∷◌, ◌++◌, length, length-append, refl, sym, ap, ◌∙◌, ⊎_elim, arith}
use Rattle.std.proofs.lemmas.Bool.{cases_eq, cases_lt}
use Rattle.std.specs.Str.{IsUtf8}
use Rattle.yf_chars.specs.Text.{code, CharAt}
use Rattle.yf_chars.specs.Class.{is_nb_char, is_break_char}
use Rattle.yf_chars.specs.Chain.{Chain, Many}
use Rattle.yf_chars.specs.Chain.Chain.{done, step}
use Rattle.yf_chars.specs.Chain.One.{one}
use Rattle.yf_chars.proofs.BreakChars.{nb_no_break, space_no_break}
use Rattle.yf_chars.proofs.ChainLemmas.{chain_append, chain_one}
use Rattle.yf_chars.proofs.TextLemmas.{reads_real, code-end}
use Rattle.yf_chars.proofs.CharBounds.{nb_below}
use Rattle.yf_lines.specs.Basic.{Spaces, Break}
use Rattle.yf_lines.specs.Lines.{NoBreakIn, OneLine}
use Rattle.yf_lines.specs.declared.line.Line.{Line as TextLine}
use Rattle.yf_lines.proofs.BasicLemmas.{break_forward, break_char}
use Rattle.yf_lines.proofs.ClearLemmas.{code_inside}
use Rattle.yf_lines.proofs.LineLemmas.{break_within, line_to_break, line_to_end, unbroken_nothing}
use Rattle.yf_block_scalar.specs.Body.{SpaceLine, EmptyLines, Ends, LineContent, Line, Lines, LinesTaken}
use Rattle.yf_block_scalar.specs.Body.EmptyLines.{bare}
use Rattle.yf_block_scalar.specs.Body.Ends.{by_break, by_text}
use Rattle.yf_block_scalar.specs.Body.LineContent.{content}
use Rattle.yf_block_scalar.specs.Body.Lines.{no_content, up_to}
use Rattle.yf_block_scalar.specs.Body.Line.{empty_line, content_line}
use Rattle.yf_chars.proofs.CharFacts.{end_no_break}

-- `count` lines of the text are from i to j
pub record LinesTo (t : List ℕ) (i j count : ℕ) : Type 0 where
  pub lines : List TextLine
  pub chain : Chain (OneLine t) i j lines
  pub counts : length lines ≡ count

-- spans without a break
unbroken_join : {t : List ℕ} {i j k : ℕ} → NoBreakIn t i j → NoBreakIn t j k → NoBreakIn t i k
unbroken_join {j = j} a b = record {
  order = let x = a.order in let y = b.order in omega arith;
  none = λ h l m. ⊎_elim (λ (f : h < j). a.none h l f) (λ (f : j ≤ h). b.none h f m) (cases_lt h j);
}

unbroken_char : {t : List ℕ} {i c j : ℕ} → IsUtf8 t → CharAt t i c j → is_break_char c ≡ false → NoBreakIn t i j
unbroken_char {t} {i} {c} {j} u r e = record {
  order = let l = r.later in omega arith;
  none = λ h l m. ⊎_elim (λ (f : i ≡ h). ap (λ k. is_break_char (code t k)) (sym f) ∙ ap is_break_char r.char ∙ e)
      (λ (n : i ≢ h). ap is_break_char (code_inside u r (omega arith) m) ∙ end_no_break) (cases_eq i h);
}

pub unbroken_nb : {t : List ℕ} {i j : ℕ} {x : List ℕ} → IsUtf8 t → Many t is_nb_char i j x → NoBreakIn t i j
unbroken_nb {i = i} u done = unbroken_nothing _ i
unbroken_nb {t} u (step (one {i = i} e) m) = unbroken_join (unbroken_char u (reads_real t i u (nb_below (code t i) e)) (nb_no_break (code t i) e)) (unbroken_nb u m)

unbroken_spaces : {t : List ℕ} {i k : ℕ} → Spaces t i k → NoBreakIn t i (i + k)
unbroken_spaces {t} {i} {k} s = record {
  order = omega arith;
  none = λ h l m. let same : i + (h - i) ≡ h = omega arith in
      space_no_break (code t h) (ap (code t) (sym same) ∙ s.each (h - i) (omega arith));
}

-- the end of the spaces that begin a line
record SpacesTo (t : List ℕ) (i m : ℕ) : Type 0 where
  pub stop : ℕ
  pub from : i ≤ stop
  pub to : stop ≤ m
  pub spaces : Spaces t i (stop - i)
  pub other : code t stop ≢ 32

spaces_to : {t : List ℕ} (n i h m : ℕ) → i ≤ h → h ≤ m → m ≤ h + n → Spaces t i (h - i) → code t m ≢ 32 → SpacesTo t i m
spaces_to zero i h m a b c s e = let same : m ≡ h = omega arith in record { stop = h; from = a; to = b; spaces = s; other = λ q. e (ap (code _) same ∙ q) }
spaces_to {t} (suc n) i h m a b c s e =
    ⊎_elim
    (λ (q : code t h ≡ 32).
    ⊎_elim (λ (z : m ≡ h). absurd (e (ap (code t) z ∙ q)))
    (λ (z : m ≢ h).
    let more : Spaces t i (h + 1 - i) = record {
      each = λ w l.
          ⊎_elim (λ (f : w < h - i). s.each w f) (λ (f : h - i ≤ w). let same : i + w ≡ h = omega arith in ap (code t) same ∙ q) (cases_lt w (h - i));
    } in
    spaces_to n i (h + 1) m (omega arith) (omega arith) (omega arith) more e)
    (cases_eq m h))
    (λ (q : code t h ≢ 32). record { stop = h; from = a; to = b; spaces = s; other = q })
    (cases_eq (code t h) 32)

after_spaces : {t : List ℕ} {i h m : ℕ} → i ≤ h → h ≤ m → NoBreakIn t i m → NoBreakIn t h m
after_spaces l k a = record { order = k; none = λ p f g. a.none p (omega arith) g }

-- a line up to its break is one line of the text
break_line : {t : List ℕ} {i m j : ℕ} → NoBreakIn t i m → Break t m j → LinesTo t i j 1
break_line {t} {i} {m} {j} a b =
    let order = a.order in
    let forward = break_forward b in
    let within = break_within b in
    let other : code t m ≢ 32 = λ q. ⊎_elim (λ (f : code t m ≡ 13). omega arith) (λ (f : code t m ≡ 10). omega arith) (break_char b) in
    let s = spaces_to (m - i) i i m (omega arith) order (omega arith) (record { each = λ w l. absurd (omega arith) }) other in
    record { lines = _; chain = chain_one (line_to_break t i s.stop m (omega arith) s.from s.spaces s.other (after_spaces s.from s.to a) j b); counts = refl }

pub lines_join : {t : List ℕ} {i h j a b : ℕ} (c : ℕ) → LinesTo t i h a → LinesTo t h j b → c ≡ a + b → LinesTo t i j c
lines_join c x y e = record {
  lines = x.lines ++ y.lines;
  chain = chain_append x.chain y.chain;
  counts = omega (arith, length-append x.lines y.lines, x.counts, y.counts);
}

pub lines_none : {t : List ℕ} (i : ℕ) → LinesTo t i i 0
lines_none i = record { lines = []; chain = done; counts = refl }

space_line_one : {t : List ℕ} {i m j : ℕ} → SpaceLine t i m j → LinesTo t i j 1
space_line_one a = break_line (unbroken_spaces a.spaces) a.ends

-- the last line of the text may have no break
end_line : {t : List ℕ} {i m : ℕ} → i < m → NoBreakIn t i m → m ≡ length t → LinesTo t i m 1
end_line {t} {i} {m} l a e =
    let other : code t m ≢ 32 = λ q. let end = ap (code t) e ∙ code-end t in omega arith in
    let s = spaces_to (m - i) i i m (omega arith) (omega arith) (omega arith) (record { each = λ w f. absurd (omega arith) }) other in
    record { lines = _; chain = chain_one (line_to_end t i s.stop m (omega arith) s.from s.spaces s.other (after_spaces s.from s.to a) e); counts = refl }

content_one : {t : List ℕ} {k i j : ℕ} {x : List ℕ} {o : Bool} → IsUtf8 t → LineContent t k i j x o → LinesTo t i j 1
content_one {t} u c = go c where
  ended : {i h j : ℕ} {o : Bool} → i < h → NoBreakIn t i h → Ends t h j o → LinesTo t i j 1
  ended l a (by_break b) = break_line a b
  ended l a (by_text e) = end_line l a e

  go : {k i j : ℕ} {x : List ℕ} {o : Bool} → LineContent t k i j x o → LinesTo t i j 1
  go (content s m l e n) = ended (omega arith) (unbroken_join (unbroken_spaces s) (unbroken_nb u m)) e

pub content_lines : {t : List ℕ} {k i j : ℕ} {ls : List (List ℕ)} → IsUtf8 t → Chain (Line t k) i j ls → LinesTo t i j (length ls)
content_lines {i = i} u done = lines_none i
content_lines u (step (empty_line a l) c) = lines_join (suc _) (space_line_one a) (content_lines u c) (omega arith)
content_lines u (step (content_line d) c) = lines_join (suc _) (content_one u d) (content_lines u c) (omega arith)

pub all_lines : {t : List ℕ} {k i j : ℕ} {ls : List (List ℕ)} {o : Bool} → IsUtf8 t → Lines t k i j ls o → LinesTo t i j (length ls)
all_lines {i = i} u no_content = lines_none i
all_lines u (up_to {ls = ls} {x = x} c d) = lines_join (length (ls ++ x ∷ [])) (content_lines u c) (content_one u d) (length-append ls (x ∷ []))

pub blanks_one : {t : List ℕ} {i j : ℕ} {widths : List ℕ} → Chain (EmptyLines t) i j widths → LinesTo t i j (length widths)
blanks_one {i = i} done = lines_none i
blanks_one (step (bare m a) c) = let more = blanks_one c in lines_join (suc _) (space_line_one a) more (omega arith)

-- the lines of a scalar: up to the last content line, and with the empty lines after it
pub taken_lines : {t : List ℕ} {k i j count : ℕ} {ls : List (List ℕ)} {o : Bool} → IsUtf8 t → (a : LinesTaken t k i ls o count j) → LinesTo t i a.end (length ls)
taken_lines u a = all_lines u a.lines

pub taken_all : {t : List ℕ} {k i j count : ℕ} {ls : List (List ℕ)} {o : Bool} → IsUtf8 t → LinesTaken t k i ls o count j → LinesTo t i j (length ls + count)
taken_all {count = count} {ls = ls} u a = lines_join (length ls + count) (all_lines u a.lines) (blanks_one a.tail.lines) (omega (arith, a.tail.counts))
