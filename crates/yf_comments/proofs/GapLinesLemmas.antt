-- Blank lines and comments that are written are comment lines.
use Rattle.std.proofs.Common.{◌≡◌, ◌≢◌, ℕ, zero, suc, ◌+◌, ⊎_elim, List, [], ◌∷◌, ◌++◌, length, map, slice_range, refl, sym, ap, ◌∙◌, subst, arith, add-zero}
use Rattle.std.proofs.lemmas.Bool.{cases_eq}
use Rattle.std.specs.Str.{IsUtf8}
use Rattle.yf_chars.specs.Text.{code, next}
use Rattle.yf_chars.specs.Class.{is_white}
use Rattle.yf_chars.specs.Chain.{Chain, Many}
use Rattle.yf_chars.specs.Chain.Chain.{done, step}
use Rattle.yf_chars.specs.Chain.One.{one}
use Rattle.yf_chars.proofs.TextLemmas.{next_ascii}
use Rattle.yf_lines.specs.Basic.{Spaces, LineStart, SeparateInLine}
use Rattle.yf_lines.specs.Basic.LineStart.{after_break}
use Rattle.yf_lines.specs.Basic.SeparateInLine.{by_whites, at_start}
use Rattle.yf_lines.proofs.BasicLemmas.{white_of_space}
use Rattle.yf_lines.proofs.RestLemmas.{Rest, rest_is_at, rest_spaces, rest_ascii, rest_text, rest_break, slice_back}
use Rattle.yf_comments.specs.Comment.{CommentValue}
use Rattle.yf_comments.specs.Comments.{CommentText, CommentLine}
use Rattle.yf_comments.specs.Comments.CommentText.{comment_text}
use Rattle.yf_comments.specs.Comments.BreakOrEnd.{by_break}
use Rattle.yf_comments.specs.Comments.CommentLine.{whites_line, comment_line}
use Rattle.yf_comments.specs.GapLines.{GapLine, blank, remark, gap_then, IsRemark, AreGapLines, remarks_of}
use Rattle.yf_comments.proofs.NoteKnown.{note_known}

-- the texts of comments
abbrev pub texts : List CommentValue → List (List ℕ)
texts cs = map (λ c. c.text) cs

pub texts_append : (xs ys : List CommentValue) → texts (xs ++ ys) ≡ texts xs ++ texts ys
texts_append [] ys = refl
texts_append (x ∷ xs) ys = ap (λ w. x.text ∷ w) (texts_append xs ys)

-- spaces are white space
pub spaces_whites : {t : List ℕ} (k q : ℕ) → Spaces t q k → (x : List ℕ) × Many t is_white q (q + k) x
spaces_whites {t} zero q s = ([], subst (λ j. Many t is_white q j []) (sym (add-zero q)) done)
spaces_whites {t} (suc k) q s =
    let here : code t q ≡ 32 = ap (code t) (sym (add-zero q)) ∙ s.each 0 (omega arith) in
    let place : next t q ≡ q + 1 = next_ascii t q (omega arith) in
    let tail : Spaces t (q + 1) k = record { each = λ m l. let there : q + 1 + m ≡ q + suc m = omega arith in ap (code t) there ∙ s.each (suc m) (omega arith) } in
    let more = spaces_whites k (q + 1) tail in
    let end : q + 1 + k ≡ q + suc k = omega arith in
    let rest : Many t is_white (next t q) (q + 1 + k) more.0 = subst (λ j. Many t is_white j (q + 1 + k) more.0) (sym place) more.1 in
    (code t q ∷ more.0, subst (λ j. Many t is_white q j (code t q ∷ more.0)) end (step (one (white_of_space (code t q) here)) rest))

pub spaces_in_line : {t : List ℕ} (k q : ℕ) → LineStart t q → Spaces t q k → SeparateInLine t q (q + k)
spaces_in_line {t} k q l s =
    ⊎_elim (λ (z : 0 ≡ k). let end : q ≡ q + k = omega arith in subst (λ j. SeparateInLine t q j) end (at_start l))
    (λ (n : 0 ≢ k). by_whites (spaces_whites k q s).1 (omega arith)) (cases_eq 0 k)

-- a comment's text, and its break
pub record RemarkAt (t : List ℕ) (q : ℕ) (text r : List ℕ) : Type 0 where
  pub end : ℕ
  pub notes : List CommentValue
  pub comment : CommentText t q end notes
  pub rest : Rest t end r
  pub is : texts notes ≡ text ∷ []

pub remark_at : {t : List ℕ} {text : List ℕ} (r : List ℕ) {q : ℕ} → IsUtf8 t → IsRemark text → Rest t q (text ++ r) → RemarkAt t q text r
remark_at {t} {text} r {q} u m s =
    let follows : List ℕ = m.follows in
    let whole : Rest t q (35 ∷ (m.follows ++ r)) = subst (λ w. Rest t q (w ++ r)) m.is s in
    let hash = rest_ascii 35 u (omega arith) (λ e. absurd (omega arith)) whole in
    let at = rest_text m.follows u m.line hash.1 in
    let note = note_known t q u in
    let end : q + 1 + length m.follows ≡ q + length text = omega (arith, ap length m.is) in
    record {
      end = q + 1 + length m.follows;
      notes = _;
      comment = comment_text hash.0.char at.chars note.1;
      rest = at.rest;
      is = ap (λ w. w ∷ []) (ap (slice_range t q) end ∙ slice_back text r (rest_is_at s));
    }

-- the lines of a gap, from the start of a line
pub record GapAt (t : List ℕ) (q : ℕ) (gap : List GapLine) (r : List ℕ) : Type 0 where
  pub place : ℕ
  pub comments : List CommentValue
  pub lines : Chain (CommentLine t) q place comments
  pub start : LineStart t place
  pub rest : Rest t place r
  pub is : texts comments ≡ remarks_of gap

pub gap_at : {t : List ℕ} (gap : List GapLine) (r : List ℕ) {q : ℕ} → IsUtf8 t → AreGapLines gap → LineStart t q → Rest t q (gap_then gap r) → GapAt t q gap r
gap_at [] r {q} u a l s = record { place = q; comments = []; lines = done; start = l; rest = s; is = refl }
gap_at {t} (blank ∷ gs) r {q} u a l s =
    let end = rest_break u s in
    let more = gap_at gs r u a (after_break end.0) end.1 in
    record {
      place = more.place;
      comments = more.comments;
      lines = step (whites_line (at_start l) (by_break end.0)) more.lines;
      start = more.start;
      rest = more.rest;
      is = more.is;
    }
gap_at {t} (remark column text ∷ gs) r {q} u a l s =
    let spaces = rest_spaces column q u s in
    let at = remark_at (10 ∷ gap_then gs r) u a.0 spaces.1 in
    let end = rest_break u at.rest in
    let more = gap_at gs r u a.1 (after_break end.0) end.1 in
    record {
      place = more.place;
      comments = at.notes ++ more.comments;
      lines = step (comment_line (spaces_in_line column q l spaces.0) at.comment (by_break end.0)) more.lines;
      start = more.start;
      rest = more.rest;
      is = texts_append at.notes more.comments ∙ ap (λ w. w ++ texts more.comments) at.is ∙ ap (λ w. text ∷ w) more.is;
    }
