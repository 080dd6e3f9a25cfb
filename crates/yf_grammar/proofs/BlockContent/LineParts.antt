-- The longest part of a line's end, with comment lines, at which all nodes may end: all of it, or all but its last line
-- if they may not end after it. A line's end of one line has no shorter part.
use Rattle.std.proofs.Common.{◌≡◌, ◌≢◌, ℕ, ◌+◌, ◌<◌, ◌≤◌, true, ⊎_elim, List, [], ◌++◌, length, refl, sym, ap, ◌∙◌, subst, arith, true≢false, append-nil}
use Rattle.std.proofs.lemmas.Bool.{cases_lt, cases_eq}
use Rattle.std.proofs.lemmas.Bool.Decides.{nat_tests}
use Rattle.std.specs.Str.{IsUtf8}
use Rattle.yf_chars.specs.Text.{code, no_char}
use Rattle.yf_chars.specs.Class.{is_nb_char, is_break_char, is_printable, is_between}
use Rattle.yf_chars.specs.Chain.{Chain, Many, Chosen, Stuck}
use Rattle.yf_chars.specs.Chain.Chain.{done, step}
use Rattle.yf_chars.specs.Chain.One.{one}
use Rattle.yf_chars.proofs.BreakChars.{nb_no_break}
use Rattle.yf_chars.proofs.TextLemmas.{code-past}
use Rattle.yf_chars.proofs.ChainLemmas.{chain_more, chain_forward, one_functional, chain_meet, Meets}
use Rattle.yf_chars.proofs.ChainLemmas.Meets.{goes_on, falls_short}
use Rattle.yf_lines.specs.Basic.{Break, LineStart}
use Rattle.yf_lines.specs.Basic.Break.{cr_lf, lone_cr, lone_lf}
use Rattle.yf_lines.proofs.BasicLemmas.{break_char, break_forward, break_unique}
use Rattle.yf_lines.proofs.LineLemmas.{break_breaks}
use Rattle.yf_comments.specs.Comment.{CommentValue}
use Rattle.yf_comments.specs.Comments.{CommentText, BreakOrEnd, LineRest, LineEnd, Row}
use Rattle.yf_comments.specs.Comments.CommentText.{comment_text}
use Rattle.yf_comments.specs.Comments.BreakOrEnd.{by_break, by_end}
use Rattle.yf_comments.specs.Comments.LineRest.{nothing, whites, comment}
use Rattle.yf_comments.specs.Comments.LineEnd.{past_rest, from_start}
use Rattle.yf_comments.proofs.LineEndLemmas.{line_end_rows, lines_rows, rows_line_end}
use Rattle.yf_comments.proofs.RowLemmas.{row_functional, rest_at_end, rest_moves}
use Rattle.yf_grammar.specs.Productions.Grammar.{ColonLine}
use Rattle.yf_grammar.specs.Productions.Grammar.MaySeparateInLine.{separated_in_line}
use Rattle.yf_grammar.specs.BlockReader.Halts.{NoColonAt, MayEnd}
use Rattle.yf_grammar.specs.FlowReader.Parser.{OnOneLine}
use Rattle.yf_grammar.proofs.BlockOutcomes.BlockClaims.{line_still, colon_line}
use Rattle.yf_grammar.proofs.Ends.Forward.{in_line_forward}
use Rattle.yf_grammar.proofs.FlowReader.KeyLines.{may_in_line, char_at, sign_at, line_join, line_none}
use Rattle.yf_grammar.proofs.BlockContent.PlainCut.{LastLine, last_line_one, allowed_all}
use Rattle.yf_chars.proofs.CharBounds.{nb_below}

-- the characters of a row before its end
record RowEnd (t : List ℕ) (i k : ℕ) : Type 0 where
  pub at : ℕ
  pub order : i ≤ at
  pub line : OnOneLine t i at
  pub ends : BreakOrEnd t at k

module _ {t : List ℕ} (u : IsUtf8 t) where
  nb_line : {i j : ℕ} {x : List ℕ} → Many t is_nb_char i j x → OnOneLine t i j
  nb_line {i} done = line_none t i
  nb_line (step (one {i = i} e) c) = line_join (char_at t i u (nb_below (code t i) e) (nb_no_break (code t i) e)) (nb_line c)

  text_line : {i j : ℕ} {x : List CommentValue} → CommentText t i j x → OnOneLine t i j
  text_line (comment_text {i = i} e m n) = line_join (sign_at t i 35 e (λ q. omega arith) (λ q. omega arith)) (nb_line m)

  text_forward : {i j : ℕ} {x : List CommentValue} → CommentText t i j x → i ≤ j
  text_forward (comment_text e m n) = let f = chain_forward (one_functional t is_nb_char) m in omega arith

  rest_end : {i k : ℕ} {x : List CommentValue} → LineRest t i k x → RowEnd t i k
  rest_end {i} (nothing e) = record { at = i; order = omega arith; line = line_none t i; ends = e }
  rest_end (whites {h = h} s e) = record { at = h; order = in_line_forward s; line = may_in_line u (separated_in_line s); ends = e }
  rest_end (comment {k = g} s d e) = record { at = g; order = (let a = in_line_forward s in let b = text_forward d in omega arith); line = line_join (may_in_line u (separated_in_line s)) (text_line d); ends = e }

  break_short : {i j : ℕ} → Break t i j → j ≤ i + 2
  break_short (cr_lf a b) = omega arith
  break_short (lone_cr a b) = omega arith
  break_short (lone_lf a b) = omega arith

  break_inside : {g h : ℕ} → Break t g h → g < length t
  break_inside {g} b = ⊎_elim (λ (l : g < length t). l)
      (λ (l : length t ≤ g). let c = code-past t g l in ⊎_elim (λ (e : code t g ≡ 13). absurd (omega arith)) (λ (e : code t g ≡ 10). absurd (omega arith)) (break_char b)) (cases_lt g (length t))

  -- a break in a row ends it
  end_last : {e k g h : ℕ} → BreakOrEnd t e k → e ≤ g → Break t g h → k ≤ h
  end_last {e} {k} {g} {h} (by_break b) l d = ⊎_elim
      (λ (q : e ≡ g). let s = break_unique (subst (λ w. Break t w k) q b) d in omega arith)
      (λ (q : e ≢ g). let m = break_short b in let n = break_forward d in omega arith)
      (cases_eq e g)
  end_last (by_end e) l d = let m = break_inside d in absurd (omega arith)

  pub row_last : {i k g h : ℕ} {x : List CommentValue} → LineRest t i k x → i ≤ g → Break t g h → k ≤ h
  row_last {k = k} {g = g} {h = h} r l d =
      let e = rest_end r in
      ⊎_elim
      (λ (q : g < e.at). absurd (true≢false (sym (break_breaks d) ∙ e.line.each g l q)))
      (λ (q : e.at ≤ g). end_last e.ends q d)
      (cases_lt g e.at)

-- rows, split before the last one
data LastRow (t : List ℕ) (i k : ℕ) (x : List CommentValue) : Type 0 where
  no_row : i ≡ k → LastRow t i k x
  row_after : {j : ℕ} {y z : List CommentValue} → Chain (Row t) i j y → Row t j k z → LastRow t i k x

module _ {t : List ℕ} where
  last_after : {i j h k : ℕ} {x y z w : List CommentValue} → Chain (Row t) i j y → Row t j h z → Chain (Row t) h k w → LastRow t i k x
  last_after c r done = row_after c r
  last_after c r (step s d) = last_after (chain_more c r) s d

  last_row : {i k : ℕ} {x : List CommentValue} → Chain (Row t) i k x → LastRow t i k x
  last_row done = no_row refl
  last_row (step r c) = last_after done r c

  -- rows with one end mean one list of comments
  rows_still : {i j : ℕ} {x : List CommentValue} → Chain (Row t) i j x → j ≤ i → x ≡ []
  rows_still done l = refl
  rows_still (step r c) l = let f = r.later in let g = chain_forward row_functional c in absurd (omega arith)

  rows_one : {i j : ℕ} {x y : List CommentValue} → Chain (Row t) i j x → Chain (Row t) i j y → y ≡ x
  rows_one {j = j} a b = go (chain_meet row_functional a b) where
    go : {x y : List CommentValue} → Meets (Row t) j j x y → y ≡ x
    go {x} (goes_on z d e) = e ∙ ap (λ w. x ++ w) (rows_still d (omega arith)) ∙ append-nil x
    go {y = y} (falls_short z d e) = sym (e ∙ ap (λ w. y ++ w) (rows_still d (omega arith)) ∙ append-nil y)

  -- no run of rows ends inside a row
  none_before : {j k m : ℕ} {v z : List CommentValue} → Row t j k z → Chain (Row t) j m v → m < k → m ≤ j
  none_before r done q = omega arith
  none_before r (step s c) q = let a = row_functional.one_end r s in let f = chain_forward row_functional c in absurd (omega arith)

  upto_row : {j k m : ℕ} {x y z : List CommentValue} → Row t j k z → Meets (Row t) j m x y → m < k → m ≤ j
  upto_row r (falls_short w d e) l = chain_forward row_functional d
  upto_row r (goes_on w d e) l = none_before r d l

  upto : {i j k m : ℕ} {x y z : List CommentValue} → Chain (Row t) i j x → Row t j k z → Chain (Row t) i m y → m < k → m ≤ j
  upto c r d l = upto_row r (chain_meet row_functional c d) l

module _ {t : List ℕ} (u : IsUtf8 t) where
  -- a row before another one ends with a break
  break_of_row : {h j k : ℕ} {x y : List CommentValue} → Row t h j x → Row t j k y → (g : ℕ) × (h ≤ g) × Break t g j
  break_of_row {h} {j} r s = let e = rest_end u r.rest in go e.order e.ends where
    go : {g : ℕ} → h ≤ g → BreakOrEnd t g j → (g : ℕ) × (h ≤ g) × Break t g j
    go {g} l (by_break b) = (g, l, b)
    go l (by_end q) = absurd (rest_at_end s.rest q s.later)

  rows_break : {i j k : ℕ} {x y : List CommentValue} → Chain (Row t) i j x → i < j → Row t j k y → (g : ℕ) × (i ≤ g) × Break t g j
  rows_break {i} {j} {k} {y = y} c l s = go (last_row c) l s where
    go : {x : List CommentValue} → LastRow t i j x → i < j → Row t j k y → (g : ℕ) × (i ≤ g) × Break t g j
    go (no_row e) l s = absurd (omega arith)
    go (row_after d r) l s = let b = break_of_row r s in let f = chain_forward row_functional d in let g = b.1 in (b.0, omega arith, b.2)

  last_of_rows : {i j k : ℕ} {x y : List CommentValue} → Chain (Row t) i j x → i < j → Row t j k y → LastLine t i k j
  last_of_rows c l r = let b = rows_break c l r in record { from = b.0; ends = b.2; first = b.1; inside = r.later; last = λ g h a d. row_last u r.rest a d }

  row_within : {i j : ℕ} {x : List CommentValue} → Row t i j x → i < length t
  row_within {i} {j} r = let e = rest_end u r.rest in go e.order e.ends r.later where
    go : {g : ℕ} → i ≤ g → BreakOrEnd t g j → i < j → i < length t
    go l (by_break b) m = let f = break_inside u b in omega arith
    go l (by_end q) m = omega arith

module _ {t : List ℕ} where
  -- a comment line has no `:` of an entry
  row_no_colon : {j k m : ℕ} {x : List CommentValue} → Row t j k x → ColonLine t m j → ⊥
  row_no_colon {k = k} {x = x} r c = (line_still (colon_line c)).none k x r

  -- inside a line, before the end of the text, a line's end is not empty
  end_goes_on : {i m : ℕ} {x : List CommentValue} → (LineStart t i → ⊥) → LineEnd t i m x → i < length t → i < m
  end_goes_on n (past_rest r c) l = let a = rest_moves r l in let f = chain_forward row_functional (lines_rows c) in omega arith
  end_goes_on n (from_start s c) l = absurd (n s)

-- the end of a line without its last line
pub record LinesWithoutLast (t ws : List ℕ) (i j : ℕ) : Type 0 where
  pub comments : List CommentValue
  pub best : Chosen (MayEnd t ws i) j comments

module _ {t : List ℕ} (u : IsUtf8 t) {ws : List ℕ} {i k : ℕ} {ds : List CommentValue} (inside : LineStart t i → ⊥) (all : Chosen (LineEnd t i) k ds) (owed : NoColonAt t k ws → ⊥) where
  -- each other offset at which all nodes may end is before the whole end
  shorter : {m : ℕ} {es : List CommentValue} → MayEnd t ws i m es → m < k
  shorter {m} {es} e = ⊎_elim (λ (l : m < k). l)
      (λ (l : k ≤ m). let f = all.longest m es e.line in let same : m ≡ k = omega arith in absurd (owed (subst (λ w. NoColonAt t w ws) same e.allowed)))
      (cases_lt m k)

  first_row_stuck : {z : List CommentValue} → Row t i k z → Stuck (MayEnd t ws i)
  first_row_stuck r = record {
    none = λ m es e.
        let l = shorter e in
        let f = none_before r (line_end_rows e.line) l in
        let h = end_goes_on inside e.line (row_within u r) in
        absurd (omega arith);
  }

  pub lines_without_last : {j : ℕ} → LastLine t i k j → LinesWithoutLast t ws i j
  lines_without_last {j} a = go (last_row (line_end_rows all.derived)) where
    made : {m : ℕ} {y z : List CommentValue} → Chain (Row t) i m y → i < m → Row t m k z → LinesWithoutLast t ws i m
    made {m} {y} c l r =
        let line = rows_line_end c l in
        record {
          comments = y;
          best = record {
            derived = record { line = line; allowed = allowed_all (λ w q. row_no_colon r q) ws };
            longest = λ p es e. upto c r (line_end_rows e.line) (shorter e);
            only = λ es e. rows_one c (line_end_rows e.line);
          };
        }

    go : {x : List CommentValue} → LastRow t i k x → LinesWithoutLast t ws i j
    go (no_row e) = let f = a.first in let g = break_forward a.ends in let h = a.inside in absurd (omega arith)
    go (row_after {j = m} c r) = ⊎_elim
        (λ (l : i < m). subst (λ w. LinesWithoutLast t ws i w) (last_line_one (last_of_rows u c l r) a) (made c l r))
        (λ (l : m ≤ i).
        let f = chain_forward row_functional c in
        let same : m ≡ i = omega arith in
        let g = break_forward a.ends in
        let h = a.first in
        let n = a.inside in
        let q = row_last u r.rest (omega arith) a.ends in
        absurd (omega arith))
        (cases_lt i m)

  pub one_line_alone : ((j : ℕ) → LastLine t i k j → ⊥) → Stuck (MayEnd t ws i)
  one_line_alone none = go (last_row (line_end_rows all.derived)) where
    go : {x : List CommentValue} → LastRow t i k x → Stuck (MayEnd t ws i)
    go (no_row e) = record { none = λ m es q. let l = shorter q in let f = chain_forward row_functional (line_end_rows q.line) in absurd (omega arith) }
    go (row_after {j = m} {z = z} c r) = ⊎_elim
        (λ (l : i < m). absurd (none m (last_of_rows u c l r)))
        (λ (l : m ≤ i).
        let f = chain_forward row_functional c in
        let same : m ≡ i = omega arith in
        first_row_stuck (subst (λ w. Row t w k z) same r))
        (cases_lt i m)
