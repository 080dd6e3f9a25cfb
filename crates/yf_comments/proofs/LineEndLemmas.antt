-- A line's end with comment lines is a chain of rests of lines that hold a character, so the greedy one is the longest.
use Rattle.std.proofs.Common.{◌≡◌, ℕ, ◌<◌, ◌≤◌, ◌⊎◌, ⊎_elim, List, [], ◌++◌, length, refl, sym, ap, ◌∙◌, subst, arith, append_assoc, append-nil}
use Rattle.std.proofs.lemmas.Bool.{cases_lt}
use Rattle.yf_chars.specs.Chain.{Chain, Stuck, Chosen}
use Rattle.yf_chars.specs.Chain.Chain.{done, step}
use Rattle.yf_chars.proofs.ChainLemmas.{chain_more, chain_chosen}
use Rattle.yf_lines.specs.Basic.{LineStart}
use Rattle.yf_lines.specs.Basic.SeparateInLine.{at_start}
use Rattle.yf_comments.specs.Comment.{CommentValue}
use Rattle.yf_comments.specs.Comments.{LineRest, CommentLine, LineEnd, Row, RowsKept}
use Rattle.yf_comments.specs.Comments.LineRest.{nothing, whites, comment}
use Rattle.yf_comments.specs.Comments.CommentLine.{whites_line, comment_line}
use Rattle.yf_comments.specs.Comments.LineEnd.{past_rest, from_start}
use Rattle.yf_comments.proofs.RowLemmas.{end_next, rest_still, rest_at_end, rest_moves, row_functional}

module _ {t : List ℕ} where
  line_rest : {i j : ℕ} {x : List CommentValue} → CommentLine t i j x → LineRest t i j x
  line_rest (whites_line s e) = whites s e
  line_rest (comment_line s c e) = comment s c e

  -- at the start of a line the rest of the line is a comment line
  pub rest_line : {i j : ℕ} {x : List CommentValue} → LineStart t i → LineRest t i j x → CommentLine t i j x
  rest_line l (nothing e) = whites_line (at_start l) e
  rest_line l (whites s e) = whites_line s e
  rest_line l (comment s c e) = comment_line s c e

  -- after it a line begins or the text ends
  pub rest_next : {i j : ℕ} {x : List CommentValue} → LineRest t i j x → LineStart t j ⊎ (j ≡ length t)
  rest_next (nothing e) = end_next e
  rest_next (whites s e) = end_next e
  rest_next (comment s c e) = end_next e

  rest_rows : {i h j : ℕ} {x y : List CommentValue} → LineRest t i h x → Chain (Row t) h j y → Chain (Row t) i j (x ++ y)
  rest_rows {i} {h} {j} {x} {y} r c = ⊎_elim
      (λ (l : i < h). step (record { rest = r; later = l }) c)
      (λ (l : h ≤ i). let f = rest_still r l in
      let c' : Chain (Row t) i j y = subst (λ v. Chain (Row t) v j y) f.0 c in
      rw f.1 c')
      (cases_lt i h)

  pub lines_rows : {i j : ℕ} {x : List CommentValue} → Chain (CommentLine t) i j x → Chain (Row t) i j x
  lines_rows done = done
  lines_rows (step s c) = rest_rows (line_rest s) (lines_rows c)

  pub line_end_rows : {i j : ℕ} {x : List CommentValue} → LineEnd t i j x → Chain (Row t) i j x
  line_end_rows (past_rest r c) = rest_rows r (lines_rows c)
  line_end_rows (from_start s c) = lines_rows c

  -- at the end of the text nothing follows
  pub rows_ended : {i j : ℕ} {x : List CommentValue} → Chain (Row t) i j x → i ≡ length t → (i ≡ j) × (x ≡ [])
  rows_ended done e = (refl, refl)
  rows_ended (step r c) e = absurd (rest_at_end r.rest e r.later)

  lines_ended : {i j : ℕ} {x : List CommentValue} → i ≡ length t → Chain (Row t) i j x → Chain (CommentLine t) i j x
  lines_ended e done = done
  lines_ended e (step r c) = absurd (rest_at_end r.rest e r.later)

  pub rows_lines : {i j : ℕ} {x : List CommentValue} → LineStart t i → Chain (Row t) i j x → Chain (CommentLine t) i j x
  rows_lines l done = done
  rows_lines l (step {h = h} r c) = step (rest_line l r.rest)
      (⊎_elim (λ (s : LineStart t h). rows_lines s c) (λ (e : h ≡ length t). lines_ended e c) (rest_next r.rest))

  pub rows_line_end : {i j : ℕ} {x : List CommentValue} → Chain (Row t) i j x → i < j → LineEnd t i j x
  rows_line_end done l = absurd (omega arith)
  rows_line_end (step {h = h} r c) l = past_rest r.rest
      (⊎_elim (λ (s : LineStart t h). rows_lines s c) (λ (e : h ≡ length t). lines_ended e c) (rest_next r.rest))

  pub row_stuck : {i : ℕ} → Stuck (LineRest t i) → Stuck (Row t i)
  row_stuck s = record { none = λ j x r. s.none j x r.rest }

  pub row_stuck_end : {i : ℕ} → i ≡ length t → Stuck (Row t i)
  row_stuck_end e = record { none = λ j x r. rest_at_end r.rest e r.later }

  pub line_end_chosen : {i j : ℕ} {x : List CommentValue} → LineEnd t i j x → Stuck (Row t j) → Chosen (LineEnd t i) j x
  line_end_chosen d s =
      let c = chain_chosen row_functional (line_end_rows d) s in
      record {
        derived = d;
        longest = λ k y e. c.longest k y (line_end_rows e);
        only = λ y e. c.only y (line_end_rows e);
      }

  nowhere_to_end : {i j : ℕ} {x : List CommentValue} → (LineStart t i → ⊥) → Stuck (LineRest t i) → LineEnd t i j x → ⊥
  nowhere_to_end n s (past_rest {h = h} {x = x} r c) = s.none h x r
  nowhere_to_end n s (from_start l c) = n l

  pub line_end_stuck : {i : ℕ} → (LineStart t i → ⊥) → Stuck (LineRest t i) → Stuck (LineEnd t i)
  line_end_stuck n s = record { none = λ j x d. nowhere_to_end n s d }

-- the comments that a reader has kept, and how it continues
pub kept_none : (t : List ℕ) (i : ℕ) (a : List CommentValue) → RowsKept t i i a a
kept_none t i a = record { more = []; rows = done; list = sym (append-nil a) }

pub kept_more : {t : List ℕ} {i j k : ℕ} {a b c : List CommentValue} → RowsKept t i j a b → j < length t
    → (x : List CommentValue) × LineRest t j k x × (c ≡ b ++ x) → RowsKept t i k a c
kept_more {a = a} k l f = record {
  more = k.more ++ f.0;
  rows = chain_more k.rows (record { rest = f.1; later = rest_moves f.1 l });
  list = f.2 ∙ ap (λ v. v ++ f.0) k.list ∙ append_assoc a k.more f.0;
}

pub next_starts : {t : List ℕ} {i j : ℕ} {x : List CommentValue} → LineRest t i j x → j < length t → LineStart t j
next_starts {t} {j = j} r l = ⊎_elim (λ (s : LineStart t j). s) (λ (e : j ≡ length t). absurd (omega arith)) (rest_next r)

rows_after : {t : List ℕ} {i j : ℕ} {x : List CommentValue} → LineStart t i ⊎ (i ≡ length t) → Chain (Row t) i j x → Chain (CommentLine t) i j x
rows_after {t} {i} s c = ⊎_elim (λ (l : LineStart t i). rows_lines l c) (λ (e : i ≡ length t). lines_ended e c) s

pub line_end_from : {t : List ℕ} {i h j : ℕ} {a b c : List CommentValue} → a ≡ [] → (x : List CommentValue) × LineRest t i h x × (b ≡ a ++ x)
    → RowsKept t h j b c → Stuck (Row t j) → Chosen (LineEnd t i) j c
line_end_from {t} {i} {h} {j} {a} {b} {c} n f k s =
    let d : LineEnd t i j (f.0 ++ k.more) = past_rest f.1 (rows_after (rest_next f.1) k.rows) in
    let e : f.0 ++ k.more ≡ c = sym (k.list ∙ ap (λ v. v ++ k.more) (f.2 ∙ ap (λ v. v ++ f.0) n)) in
    subst (λ v. Chosen (LineEnd t i) j v) e (line_end_chosen d s)

pub line_end_start : {t : List ℕ} {i : ℕ} {b : List CommentValue} → LineStart t i → Stuck (LineRest t i) → b ≡ [] → Chosen (LineEnd t i) i b
line_end_start {t} {i} l s e = subst (λ v. Chosen (LineEnd t i) i v) (sym e) (line_end_chosen (from_start l done) (row_stuck s))
