-- Laws of folded line breaks: the lines of a fold are unique up to its content.
use Rattle.std.proofs.Common.{◌≡◌, ◌≢◌, ℕ, zero, suc, ◌+◌, ◌-◌, ◌<◌, ◌≤◌, ℤ, pos, ◌<ℤ◌, false, List, [], ◌∷◌, ◌++◌, refl, sym, ap, ◌∙◌, subst, ⊎_elim, arith, add-zero, add-one}
use Rattle.std.proofs.lemmas.Bool.{cases_eq, cases_lt, true≢false}
use Rattle.std.proofs.lemmas.Int.{ints}
use Rattle.std.specs.Str.{IsUtf8}
use Rattle.yf_chars.specs.declared.context.Ctx.TheVariants.{FlowIn}
use Rattle.yf_chars.specs.Text.{code, next}
use Rattle.yf_chars.specs.Class.{is_white}
use Rattle.yf_chars.specs.Chain.{Chain, Many, Functional, Stuck, Nowhere}
use Rattle.yf_chars.specs.Chain.Chain.{done, step}
use Rattle.yf_chars.proofs.ChainLemmas.{chain_append, many_unique, many_more, stuck_unique, chain_forward, one_functional}
use Rattle.yf_chars.proofs.TextLemmas.{next_ascii}
use Rattle.yf_lines.proofs.ClearLemmas.{clear_whites, clear_break}
use Rattle.yf_lines.proofs.BasicLemmas.{clear_join, clear_nothing}
use Rattle.yf_lines.specs.Basic.{Clear, Break, Spaces, Indent, IndentLess, SeparateInLine, FlowPrefix, LinePrefix, Empty, FoldedBreak, FlowFolded}
use Rattle.yf_lines.specs.Basic.Indent.{exactly}
use Rattle.yf_lines.specs.Basic.IndentLess.{fewer}
use Rattle.yf_lines.specs.Basic.SeparateInLine.{by_whites, at_start}
use Rattle.yf_lines.specs.Basic.FlowPrefix.{indented, set_off}
use Rattle.yf_lines.specs.Basic.LinePrefix.{in_block, in_flow}
use Rattle.yf_lines.specs.Basic.Empty.{prefixed, shorter}
use Rattle.yf_lines.specs.Basic.FoldedBreak.{trimmed, as_space}
use Rattle.yf_lines.specs.Basic.FlowFolded.{at_break, past_whites}
use Rattle.yf_lines.specs.Fold.{FoldsTo, FoldLines, ContentAt, line_feeds, fold_of}
use Rattle.yf_lines.proofs.BasicLemmas.{white_of_space, break_char, break_forward, break_unique}

-- some run of white space
abbrev pub Whites : List ℕ → ℕ → ℕ → Type 0
Whites t i j = (x : List ℕ) × Many t is_white i j x

whites_of_spaces : (t : List ℕ) (i k : ℕ) → Spaces t i k → Whites t i (i + k)
whites_of_spaces t i zero s = rw (add-zero i) ([], done)
whites_of_spaces t i (suc k) s =
    let front = whites_of_spaces t i k (record { each = λ m l. s.each m (omega arith) }) in
    let e : code t (i + k) ≡ 32 = s.each k (omega arith) in
    let n : next t (i + k) ≡ i + suc k = next_ascii t (i + k) (omega arith) ∙ (omega arith) in
    (front.0 ++ code t (i + k) ∷ [], subst (λ j. Many t is_white i j (front.0 ++ code t (i + k) ∷ [])) n (many_more t is_white front.1 (white_of_space (code t (i + k)) e)))

whites_append : {t : List ℕ} {i j k : ℕ} → Whites t i j → Whites t j k → Whites t i k
whites_append a b = (a.0 ++ b.0, chain_append a.1 b.1)

whites_of_separation : {t : List ℕ} {i j : ℕ} → SeparateInLine t i j → Whites t i j
whites_of_separation (by_whites {x = x} w l) = (x, w)
whites_of_separation (at_start s) = ([], done)

whites_of_indent : {t : List ℕ} {n : ℤ} {i j : ℕ} → Indent t n i j → Whites t i j
whites_of_indent {t} (exactly {i = i} k e s) = whites_of_spaces t i k s

whites_of_less : {t : List ℕ} {n : ℤ} {i j : ℕ} → IndentLess t n i j → Whites t i j
whites_of_less {t} (fewer {i = i} k e s) = whites_of_spaces t i k s

pub whites_of_prefix : {t : List ℕ} {n : ℤ} {i j : ℕ} → FlowPrefix t n i j → Whites t i j
whites_of_prefix (indented d) = whites_of_indent d
whites_of_prefix (set_off d s) = whites_append (whites_of_indent d) (whites_of_separation s)

whites_of_line : {t : List ℕ} {n : ℤ} {i j : ℕ} → LinePrefix t n FlowIn i j → Whites t i j
whites_of_line (in_block e d) = whites_of_indent d
whites_of_line (in_flow e p) = whites_of_prefix p

-- white space ends before another character
whites_end : {t : List ℕ} {i j k : ℕ} → Whites t i j → is_white (code t j) ≡ false → Whites t i k → is_white (code t k) ≡ false → j ≡ k
whites_end {t} a e b f = (many_unique t is_white a.1 e b.1 f).0

white_no_cr : (c : ℕ) → c ≡ 13 → is_white c ≡ false
unfolding is_white
white_no_cr c e = ap is_white e

white_no_lf : (c : ℕ) → c ≡ 10 → is_white c ≡ false
unfolding is_white
white_no_lf c e = ap is_white e

pub break_no_white : {t : List ℕ} {i j : ℕ} → Break t i j → is_white (code t i) ≡ false
break_no_white {t} {i} b = ⊎_elim (λ (e : code t i ≡ 13). white_no_cr (code t i) e) (λ (e : code t i ≡ 10). white_no_lf (code t i) e) (break_char b)

-- an empty line: white space and a break
record EmptyParts (t : List ℕ) (i j : ℕ) (x : List ℕ) : Type 0 where
  pub at : ℕ
  pub whites : Whites t i at
  pub ends : Break t at j
  pub text : x ≡ 10 ∷ []

empty_parts : {t : List ℕ} {n : ℤ} {i j : ℕ} {x : List ℕ} → Empty t n FlowIn i j x → EmptyParts t i j x
empty_parts (prefixed {h = h} p b) = record { at = h; whites = whites_of_line p; ends = b; text = refl }
empty_parts (shorter {h = h} p b) = record { at = h; whites = whites_of_less p; ends = b; text = refl }

same_break : {t : List ℕ} {i j k : ℕ} {x y : List ℕ} (p : EmptyParts t i j x) (q : EmptyParts t i k y) → p.at ≡ q.at
same_break p q = whites_end p.whites (break_no_white p.ends) q.whites (break_no_white q.ends)

empty_end : {t : List ℕ} {n : ℤ} {i j k : ℕ} {x y : List ℕ} → Empty t n FlowIn i j x → Empty t n FlowIn i k y → j ≡ k
empty_end {t} {k = k} a b =
    let p = empty_parts a in let q = empty_parts b in
    break_unique p.ends (subst (λ h. Break t h k) (sym (same_break p q)) q.ends)

empty_forward : {t : List ℕ} {n : ℤ} {i j : ℕ} {x : List ℕ} → Empty t n FlowIn i j x → i < j
empty_forward {t} a =
    let p = empty_parts a in
    let f = chain_forward (one_functional t is_white) p.whites.1 in
    let g = break_forward p.ends in omega arith

pub empty_functional : (t : List ℕ) (n : ℤ) → Functional (Empty t n FlowIn)
empty_functional t n = record {
  one_end = λ a b. empty_end a b;
  one_meaning = λ a b. (empty_parts a).text ∙ sym (empty_parts b).text;
  forward = λ a. empty_forward a;
}

-- a line with content is not empty
content_stuck : {t : List ℕ} {n : ℤ} {i j : ℕ} → ContentAt t n i j → Stuck (Empty t n FlowIn i)
content_stuck {t} {n} {i} {j} c = record { none = λ k x e. go (empty_parts e) } where
  go : {k : ℕ} {x : List ℕ} → EmptyParts t i k x → ⊥
  go {k} p =
      let same : p.at ≡ j = whites_end p.whites (break_no_white p.ends) (whites_of_prefix c.prefix) c.no_white in
      c.no_break.none k (subst (λ h. Break t h k) same p.ends)

content_end : {t : List ℕ} {n : ℤ} {i j k : ℕ} → ContentAt t n i j → ContentAt t n i k → j ≡ k
content_end a b = whites_end (whites_of_prefix a.prefix) a.no_white (whites_of_prefix b.prefix) b.no_white

-- the lines of a fold are unique
pub lines_unique : {t : List ℕ} {n : ℤ} {i j k : ℕ} {x y : List ℕ} → FoldLines t n i j x → FoldLines t n i k y → (j ≡ k) × (x ≡ y)
lines_unique {t} {n} {k = k} a b =
    let same = stuck_unique (empty_functional t n) a.empties (content_stuck a.content) b.empties (content_stuck b.content) in
    (content_end a.content (subst (λ l. ContentAt t n l k) (sym same.0) b.content), same.1)

-- a fold: white space, a break, and lines
record FoldParts (t : List ℕ) (n : ℤ) (i j : ℕ) (x : List ℕ) : Type 0 where
  pub at : ℕ
  pub whites : Whites t i at
  pub line : ℕ
  pub ends : Break t at line
  pub feeds : List ℕ
  pub lines : FoldLines t n line j feeds
  pub text : x ≡ fold_of feeds

record FoldedParts (t : List ℕ) (n : ℤ) (i j : ℕ) (x : List ℕ) : Type 0 where
  pub line : ℕ
  pub ends : Break t i line
  pub feeds : List ℕ
  pub empties : Chain (Empty t n FlowIn) line j feeds
  pub text : x ≡ fold_of feeds

-- the first empty line makes the text no space
fold_of_lines : {t : List ℕ} {n : ℤ} {i j : ℕ} {x : List ℕ} (y : List ℕ) → Empty t n FlowIn i j x → x ++ y ≡ fold_of (x ++ y)
fold_of_lines y e = let p = empty_parts e in rw p.text refl

folded_parts : {t : List ℕ} {n : ℤ} {i j : ℕ} {x : List ℕ} → FoldedBreak t n FlowIn i j x → FoldedParts t n i j x
folded_parts (trimmed {h = h} {x = x} {y = y} b e c) = record { line = h; ends = b; feeds = x ++ y; empties = step e c; text = fold_of_lines y e }
folded_parts (as_space {j = j} b) = record { line = j; ends = b; feeds = []; empties = done; text = refl }

fold_parts : {t : List ℕ} {n : ℤ} {i j : ℕ} {x : List ℕ} → FoldsTo t n i j x → FoldParts t n i j x
fold_parts {t} {n} {i} {j} {x} f = go f.folded f.no_white f.no_break where
  go : {i j : ℕ} {x : List ℕ} → FlowFolded t n i j x → is_white (code t j) ≡ false → Nowhere (Break t j) → FoldParts t n i j x
  go (at_break {i = i} {h = h} d p) w b =
      let parts = folded_parts d in
      record {
        at = i;
        whites = ([], done);
        line = parts.line;
        ends = parts.ends;
        feeds = parts.feeds;
        text = parts.text;
        lines = record { line = h; empties = parts.empties; content = record { prefix = p; no_white = w; no_break = b } };
      }
  go (past_whites {g = g} {h = h} s d p) w b =
      let parts = folded_parts d in
      record {
        at = g;
        whites = whites_of_separation s;
        line = parts.line;
        ends = parts.ends;
        feeds = parts.feeds;
        text = parts.text;
        lines = record { line = h; empties = parts.empties; content = record { prefix = p; no_white = w; no_break = b } };
      }

folds_unique : {t : List ℕ} {n : ℤ} {i j k : ℕ} {x y : List ℕ} → FoldsTo t n i j x → FoldsTo t n i k y → (j ≡ k) × (x ≡ y)
folds_unique {t} {n} {i} {j} {k} {x} {y} a b =
    let p = fold_parts a in
    let q = fold_parts b in
    let at : p.at ≡ q.at = whites_end p.whites (break_no_white p.ends) q.whites (break_no_white q.ends) in
    let line : p.line ≡ q.line = break_unique p.ends (subst (λ h. Break t h q.line) (sym at) q.ends) in
    let same = lines_unique p.lines (subst (λ h. FoldLines t n h k q.feeds) (sym line) q.lines) in
    (same.0, p.text ∙ ap fold_of same.1 ∙ sym q.text)

pub folds_forward : {t : List ℕ} {n : ℤ} {i j : ℕ} {x : List ℕ} → FoldsTo t n i j x → i < j
folds_forward {t} {n} a =
    let p = fold_parts a in
    let f = chain_forward (one_functional t is_white) p.whites.1 in
    let g = break_forward p.ends in
    let h = chain_forward (empty_functional t n) p.lines.empties in
    let l = chain_forward (one_functional t is_white) (whites_of_prefix p.lines.content.prefix).1 in
    omega arith

pub folds_functional : (t : List ℕ) (n : ℤ) → Functional (FoldsTo t n)
folds_functional t n = record {
  one_end = λ a b. (folds_unique a b).0;
  one_meaning = λ a b. (folds_unique a b).1;
  forward = λ a. folds_forward a;
}

-- a fold is found
folded_found : {t : List ℕ} {n : ℤ} {i h j : ℕ} {x : List ℕ} → Break t i h → Chain (Empty t n FlowIn) h j x → FoldedBreak t n FlowIn i j (fold_of x)
folded_found b done = as_space b
folded_found b (step {x = x} {y = y} e c) = rw (← fold_of_lines y e) (trimmed b e c)

pub fold_found : {t : List ℕ} {n : ℤ} {i g h j : ℕ} {x : List ℕ} → Whites t i g → Break t g h → FoldLines t n h j x → FoldsTo t n i j (fold_of x)
fold_found {t} {n} {i} {g} {h} {j} {x} w b l = record { folded = go w; no_white = l.content.no_white; no_break = l.content.no_break } where
  go : Whites t i g → FlowFolded t n i j (fold_of x)
  go w = ⊎_elim
      (λ (e : g ≡ i). at_break (folded_found (subst (λ k. Break t k h) e b) l.empties) l.content.prefix)
      (λ (e : g ≢ i).
      let f = chain_forward (one_functional t is_white) w.1 in
      past_whites (by_whites w.1 (omega arith)) (folded_found b l.empties) l.content.prefix)
      (cases_eq g i)

pub no_fold_break : {t : List ℕ} {n : ℤ} {i g : ℕ} → Whites t i g → is_white (code t g) ≡ false → Nowhere (Break t g) → Stuck (FoldsTo t n i)
no_fold_break {t} {n} {i} {g} w e b = record { none = λ j x f. go (fold_parts f) } where
  go : {j : ℕ} {x : List ℕ} → FoldParts t n i j x → ⊥
  go p =
      let same : p.at ≡ g = whites_end p.whites (break_no_white p.ends) w e in
      b.none p.line (subst (λ h. Break t h p.line) same p.ends)

pub no_fold_lines : {t : List ℕ} {n : ℤ} {i g h : ℕ} → Whites t i g → Break t g h → Stuck (FoldLines t n h) → Stuck (FoldsTo t n i)
no_fold_lines {t} {n} {i} {g} {h} w b s = record { none = λ j x f. go (fold_parts f) } where
  go : {j : ℕ} {x : List ℕ} → FoldParts t n i j x → ⊥
  go {j} p =
      let at : p.at ≡ g = whites_end p.whites (break_no_white p.ends) w (break_no_white b) in
      let line : p.line ≡ h = break_unique (subst (λ k. Break t k p.line) at p.ends) b in
      s.none j p.feeds (subst (λ k. FoldLines t n k j p.feeds) line p.lines)

negative : {n : ℤ} (k : ℕ) → n <ℤ pos 0 → n ≡ pos k → ⊥
negative k l e = omega (arith, ints)

less_pos : {k w : ℕ} → k < w → pos k <ℤ pos w
less_pos l = omega (arith, ints)

pub no_fold_indent : {t : List ℕ} {n : ℤ} {i : ℕ} → n <ℤ pos 0 → Stuck (FoldsTo t n i)
no_fold_indent {t} {n} {i} l = record { none = λ j x f. go (fold_parts f) } where
  none : {i j : ℕ} → Indent t n i j → ⊥
  none (exactly k e s) = negative k l e

  first : {i j : ℕ} → FlowPrefix t n i j → ⊥
  first (indented d) = none d
  first (set_off d s) = none d

  go : {j : ℕ} {x : List ℕ} → FoldParts t n i j x → ⊥
  go p = first p.lines.content.prefix

-- the lines after the break are found, or not
pub lines_found : {t : List ℕ} {n : ℤ} {i k j : ℕ} {x : List ℕ} → Chain (Empty t n FlowIn) i k x → ContentAt t n k j → FoldLines t n i j x
lines_found {k = k} c d = record { line = k; empties = c; content = d }

pub no_lines : {t : List ℕ} {n : ℤ} {i k : ℕ} {x : List ℕ} → Chain (Empty t n FlowIn) i k x → Stuck (Empty t n FlowIn k)
    → ((j : ℕ) → ContentAt t n k j → ⊥) → Stuck (FoldLines t n i)
no_lines {t} {n} {i} {k} c s d = record { none = λ j y l. go l } where
  go : {j : ℕ} {y : List ℕ} → FoldLines t n i j y → ⊥
  go {j} l =
      let same = stuck_unique (empty_functional t n) l.empties (content_stuck l.content) c s in
      d j (subst (λ h. ContentAt t n h j) same.0 l.content)

pub feeds_more : (k : ℕ) → line_feeds k ++ 10 ∷ [] ≡ line_feeds (k + 1)
feeds_more k = rw add-one (go k) where
  go : (k : ℕ) → line_feeds k ++ 10 ∷ [] ≡ line_feeds (suc k)
  go zero = refl
  go (suc k) = ap (λ w. 10 ∷ w) (go k)

-- spaces, by their number
spaces_front : {t : List ℕ} {i m w : ℕ} → Spaces t i m → w ≤ m → Spaces t i w
spaces_front s l = record { each = λ k h. s.each k (omega arith) }

spaces_rest : (t : List ℕ) (i m w : ℕ) → Spaces t i m → w ≤ m → Spaces t (i + w) (m - w)
spaces_rest t i m w s l = record {
  each = λ k h. let e = s.each (w + k) (omega arith) in let q : i + w + k ≡ i + (w + k) = omega arith in ap (code t) q ∙ e;
}

pub indent_width : {w k : ℕ} → pos w ≡ pos k → w ≡ k
indent_width e = cc

pub prefix_found : {t : List ℕ} {i j e w : ℕ} → Spaces t i (j - i) → i ≤ j → w ≤ j - i → Whites t j e → FlowPrefix t (pos w) i e
prefix_found {t} {i} {j} {e} {w} s o l x =
    let rest : Whites t (i + w) ((i + w) + ((j - i) - w)) = whites_of_spaces t (i + w) ((j - i) - w) (spaces_rest t i (j - i) w s l) in
    let q : (i + w) + ((j - i) - w) ≡ j = omega arith in
    let all : Whites t (i + w) e = whites_append (subst (λ k. Whites t (i + w) k) q rest) x in
    let f = chain_forward (one_functional t is_white) all.1 in
    let front : Indent t (pos w) i (i + w) = exactly w refl (spaces_front s l) in
    ⊎_elim (λ (d : i + w ≡ e). subst (λ k. FlowPrefix t (pos w) i k) d (indented front))
    (λ (d : i + w ≢ e). set_off front (by_whites all.1 (omega arith)))
    (cases_eq (i + w) e)

no_indent : {t : List ℕ} {i j h w : ℕ} → Spaces t i (j - i) → i ≤ j → code t j ≢ 32 → j - i < w → Indent t (pos w) i h → ⊥
no_indent {t} {i} {j} s o n l (exactly k e d) =
    let q : i + (j - i) ≡ j = omega arith in
    let f = indent_width e in
    n (ap (code t) (sym q) ∙ d.each (j - i) (omega arith))

no_prefix : {t : List ℕ} {i j h w : ℕ} → Spaces t i (j - i) → i ≤ j → code t j ≢ 32 → j - i < w → FlowPrefix t (pos w) i h → ⊥
no_prefix s o n l (indented d) = no_indent s o n l d
no_prefix s o n l (set_off d x) = no_indent s o n l d

pub no_content : {t : List ℕ} {i j w : ℕ} → Spaces t i (j - i) → i ≤ j → code t j ≢ 32 → j - i < w → (h : ℕ) → ContentAt t (pos w) i h → ⊥
no_content s o n l h c = no_prefix s o n l c.prefix

line_whites : {t : List ℕ} {i j e : ℕ} → Spaces t i (j - i) → i ≤ j → Whites t j e → Whites t i e
line_whites {t} {i} {j} s o x =
    let q : i + (j - i) ≡ j = omega arith in
    whites_append (subst (λ k. Whites t i k) q (whites_of_spaces t i (j - i) s)) x

pub ends_early : {t : List ℕ} {i j e k w : ℕ} → Spaces t i (j - i) → i ≤ j → Whites t j e → is_white (code t e) ≡ false → Break t e k
    → (h : ℕ) → ContentAt t (pos w) i h → ⊥
ends_early {t} {e = e} {k = k} s o x n b h c =
    let same : e ≡ h = whites_end (line_whites s o x) n (whites_of_prefix c.prefix) c.no_white in
    c.no_break.none k (subst (λ m. Break t m k) same b)

pub not_empty : {t : List ℕ} {i j e : ℕ} {n : ℤ} → Spaces t i (j - i) → i ≤ j → Whites t j e → is_white (code t e) ≡ false → Nowhere (Break t e)
    → Stuck (Empty t n FlowIn i)
not_empty {t} {i} {j} {e} s o x n b = record { none = λ k y d. go (empty_parts d) } where
  go : {k : ℕ} {y : List ℕ} → EmptyParts t i k y → ⊥
  go {k} p =
      let same : p.at ≡ e = whites_end p.whites (break_no_white p.ends) (line_whites s o x) n in
      b.none k (subst (λ h. Break t h k) same p.ends)

-- a tab before the indentation is full
pub tab_early : {t : List ℕ} {i j e w : ℕ} → Spaces t i (j - i) → i ≤ j → code t j ≢ 32 → j - i < w → Whites t j e → is_white (code t e) ≡ false
    → e ≢ j → Stuck (Empty t (pos w) FlowIn i)
tab_early {t} {i} {j} {e} {w} s o n l x f d = record { none = λ k y a. go a } where
  short : {h k : ℕ} → IndentLess t (pos w) i h → Break t h k → ⊥
  short (fewer m a r) b =
      let same : i + m ≡ e = whites_end (whites_of_spaces t i m r) (break_no_white b) (line_whites s o x) f in
      let g = chain_forward (one_functional t is_white) x.1 in
      let q : i + (j - i) ≡ j = omega arith in
      ⊎_elim (λ (h : j - i < m). n (ap (code t) (sym q) ∙ r.each (j - i) h)) (λ (h : m ≤ j - i). d (omega arith)) (cases_lt (j - i) m)

  go : {k : ℕ} {y : List ℕ} → Empty t (pos w) FlowIn i k y → ⊥
  go (prefixed (in_block a p) b) = absurd (true≢false (sym a))
  go (prefixed (in_flow a p) b) = no_prefix s o n l p
  go (shorter p b) = short p b

pub empty_full : {t : List ℕ} {i j e k w : ℕ} → Spaces t i (j - i) → i ≤ j → w ≤ j - i → Whites t j e → Break t e k → Empty t (pos w) FlowIn i k (10 ∷ [])
empty_full s o l x b = prefixed (in_flow refl (prefix_found s o l x)) b

pub empty_short : {t : List ℕ} {i j e k w : ℕ} → Spaces t i (j - i) → i ≤ j → j - i < w → e ≡ j → Break t e k → Empty t (pos w) FlowIn i k (10 ∷ [])
empty_short {t} {i} {j} {e} {k} {w} s o l d b =
    let q : i + (j - i) ≡ j = omega arith in
    let b' : Break t (i + (j - i)) k = subst (λ h. Break t h k) (d ∙ sym q) b in
    shorter (fewer (j - i) (less_pos l) s) b'

-- a fold covers only white space and breaks
clear_empties : {t : List ℕ} {n : ℤ} {i j : ℕ} {x : List ℕ} → IsUtf8 t → Chain (Empty t n FlowIn) i j x → Clear t i j
clear_empties {t} {i = i} u done = clear_nothing t i
clear_empties u (step e c) =
    let p = empty_parts e in
    clear_join (clear_join (clear_whites u p.whites.1) (clear_break p.ends)) (clear_empties u c)

pub clear_fold : {t : List ℕ} {n : ℤ} {i j : ℕ} {x : List ℕ} → IsUtf8 t → FoldsTo t n i j x → Clear t i j
clear_fold u f =
    let p = fold_parts f in
    clear_join (clear_join (clear_join (clear_whites u p.whites.1) (clear_break p.ends)) (clear_empties u p.lines.empties))
    (clear_whites u (whites_of_prefix p.lines.content.prefix).1)

-- the line after a fold, and the white space at its start
last_break : {t : List ℕ} {n : ℤ} {i j : ℕ} {x : List ℕ} → (g : ℕ) × Break t g i → Chain (Empty t n FlowIn) i j x → (h : ℕ) × Break t h j
last_break b done = b
last_break b (step e c) = let p = empty_parts e in last_break (p.at, p.ends) c

pub record FoldLine (t : List ℕ) (j : ℕ) : Type 0 where
  pub line : ℕ
  pub from : ℕ
  pub ends : Break t from line
  pub blank : List ℕ
  pub whites : Many t is_white line j blank

pub fold_line : {t : List ℕ} {n : ℤ} {i j : ℕ} {x : List ℕ} → FoldsTo t n i j x → FoldLine t j
fold_line f =
    let p = fold_parts f in
    let b = last_break (p.at, p.ends) p.lines.empties in
    let w = whites_of_prefix p.lines.content.prefix in
    record { line = p.lines.line; from = b.0; ends = b.1; blank = w.0; whites = w.1 }

-- there is no fold if a character other than a break follows the white space
pub fold_not_item : {t : List ℕ} {n : ℤ} {i h j : ℕ} {w x : List ℕ} → Many t is_white i h w → Nowhere (Break t h) → is_white (code t h) ≡ false
    → FoldsTo t n i j x → ⊥
fold_not_item {t} {i = i} {h = h} {w = w} m b e f = (no_fold_break (w, m) e b).none _ _ f

-- a fold ends after its start
pub fold_order : {t : List ℕ} {n : ℤ} {i j : ℕ} {x : List ℕ} → FlowFolded t n i j x → i ≤ j
fold_order {t} {n} (at_break {h = h} d p) =
    let parts = folded_parts d in
    let f = break_forward parts.ends in
    let g = chain_forward (empty_functional t n) parts.empties in
    let l = chain_forward (one_functional t is_white) (whites_of_prefix p).1 in omega arith
fold_order {t} {n} (past_whites s d p) =
    let parts = folded_parts d in
    let k = chain_forward (one_functional t is_white) (whites_of_separation s).1 in
    let f = break_forward parts.ends in
    let g = chain_forward (empty_functional t n) parts.empties in
    let l = chain_forward (one_functional t is_white) (whites_of_prefix p).1 in omega arith

-- the lines after a break cover only white space and breaks
pub clear_lines : {t : List ℕ} {n : ℤ} {i j : ℕ} {x : List ℕ} → IsUtf8 t → FoldLines t n i j x → Clear t i j
clear_lines u l = clear_join (clear_empties u l.empties) (clear_whites u (whites_of_prefix l.content.prefix).1)
