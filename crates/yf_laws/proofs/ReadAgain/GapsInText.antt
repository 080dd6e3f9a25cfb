-- The lines of a gap in a text, each comment at its offset; no blank line is before what follows a comment.
use Rattle.std.proofs.Common.{Some, ◌≡◌, ℕ, suc, ◌+◌, ◌<◌, ◌≤◌, false, true≢false, ⊎_elim, List, [], ◌∷◌, ◌++◌, length, refl, sym, ap, ◌∙◌, subst, arith}
use Rattle.std.proofs.lemmas.Bool.{cases_eq}
use Rattle.std.specs.Str.{IsUtf8}
use Rattle.yf_chars.specs.Chain.{Chain}
use Rattle.yf_chars.specs.Chain.Chain.{done, step}
use Rattle.yf_chars.specs.Class.{is_white, is_break_char}
use Rattle.yf_chars.specs.Text.{code, next}
use Rattle.yf_chars.proofs.TextLemmas.{next_ascii, next_later}
use Rattle.yf_lines.specs.Basic.{Break, LineStart, Spaces}
use Rattle.yf_lines.specs.Basic.LineStart.{after_break}
use Rattle.yf_lines.specs.Basic.SeparateInLine.{at_start}
use Rattle.yf_lines.proofs.BasicLemmas.{break_forward, white_below}
use Rattle.yf_lines.proofs.ClearLemmas.{Quiet}
use Rattle.yf_lines.proofs.RestLemmas.{Rest, rest_break, rest_spaces, rest_text}
use Rattle.yf_comments.specs.Comment.{CommentValue}
use Rattle.yf_comments.specs.Comments.{Blank, BlankBefore, CommentLine, CommentText, is_gap}
use Rattle.yf_comments.specs.Comments.Blank.{text_begins, break_ends, white_ends}
use Rattle.yf_comments.specs.Comments.BreakOrEnd.{by_break}
use Rattle.yf_comments.specs.Comments.CommentLine.{whites_line, comment_line}
use Rattle.yf_comments.specs.Comments.CommentText.{comment_text}
use Rattle.yf_comments.specs.GapLines.{GapLine, blank, remark, gap_then, AreGapLines, IsRemark, remarks_of}
use Rattle.yf_comments.proofs.BlankLemmas.{past_break}
use Rattle.yf_comments.proofs.GapLinesLemmas.{texts, remark_at, spaces_in_line}
use Rattle.yf_comments.proofs.RowLemmas.{hash_white}
use Rattle.yf_grammar.specs.Productions.ReadParts.{BlankSince}
use Rattle.yf_grammar.specs.Productions.ReadParts.BlankSince.{blank_line, past_gap}
use Rattle.yf_grammar.proofs.Ends.SinceKnown.{since_zero}
use Rattle.yf_stream.proofs.BlankNotes.FloorLemmas.{since_over}
use Rattle.yf_print.specs.Layouts.SourceColumns.{own_column}
use Rattle.yf_laws.proofs.Columns.SourceColumns.{column_break}
use Rattle.yf_laws.proofs.Derived.ClearRows.{remark_line, place_of_rest}

-- the lines from i on, with the comments on them, up to j
pub data GapIsAt (t : List ℕ) : ℕ → List GapLine → List CommentValue → ℕ → Type 0 where
  gap_over : {i : ℕ} → GapIsAt t i [] [] i
  blank_is_at : {i j : ℕ} {gs : List GapLine} {cs : List CommentValue} → Break t i (i + 1) → GapIsAt t (i + 1) gs cs j → GapIsAt t i (blank ∷ gs) cs j
  remark_is_at : {i k j column : ℕ} {text : List ℕ} {gs : List GapLine} {c : CommentValue} {cs : List CommentValue} → own_column t i ≡ Some 0 → Spaces t i column → c.offset ≡ i + column → c.text ≡ text → i + column < k → Blank t k
      → (BlankBefore t k → ⊥) → GapIsAt t k gs cs j → GapIsAt t i (remark column text ∷ gs) (c ∷ cs) j

pub gap_order : {t : List ℕ} {i j : ℕ} {gs : List GapLine} {cs : List CommentValue} → GapIsAt t i gs cs j → i ≤ j
gap_order gap_over = omega arith
gap_order (blank_is_at b a) = let l = gap_order a in omega (arith, l)
gap_order (remark_is_at w s e f l b n a) = let m = gap_order a in omega (arith, l, m)

-- After a comment.

-- no line begins between two offsets
none_since : {t : List ℕ} {p j : ℕ} → ((h : ℕ) → p < h → h ≤ j → LineStart t h → ⊥) → BlankSince t p j → ⊥
none_since f (blank_line {j = j} l b k) = f j (let m = break_forward k in omega (arith, l, m)) (omega arith) (after_break k)
none_since {t} f (past_gap {i = i} d e) = let m = next_later t i in none_since (λ h l n s. f h l (omega (arith, m, n)) s) d

no_blank_from : {t : List ℕ} {p j : ℕ} → is_white (code t p) ≡ false → ((h : ℕ) → p < h → h ≤ j → LineStart t h → ⊥) → p < j → Blank t j → ⊥
no_blank_from w f l text_begins = omega (arith, l)
no_blank_from w f l (break_ends {j = j} b) = f j l (omega arith) (after_break b)
no_blank_from {t} {p} w f l (white_ends {i = i} b e) =
    let place : next t i ≡ i + 1 = next_ascii t i (white_below (code t i) e) in
    ⊎_elim (λ (same : p ≡ i). true≢false (sym e ∙ (ap (λ k. is_white (code t k)) (sym same) ∙ w)))
    (λ (n : p ≡ i → ⊥). no_blank_from w (λ h m k s. f h m (omega (arith, k, place)) s) (omega (arith, l, place, n)) b) (cases_eq p i)

hash_solid : (c : ℕ) → c ≡ 35 → is_gap c ≡ false
unfolding is_gap is_white is_break_char
hash_solid c e = ap is_gap e

-- a `#` is on the line that a break ends
pub none_after : {t : List ℕ} {p k j : ℕ} → IsUtf8 t → code t p ≡ 35 → Quiet t p k → p < k → Break t k j → BlankBefore t j → ⊥
none_after {t} {p} {k} {j} u e q l b d =
    ⊎_elim (λ (z : Blank t k). no_blank_from (hash_white (code t p) e) q.none l z)
    (λ (z : BlankBefore t k). none_since q.none (since_over u p (omega (arith, e)) (hash_solid (code t p) e) (omega arith) l (since_zero z)))
    (past_break t u b d)

-- Lines of a gap.

-- the only comment of a comment's text
record OneNote (t : List ℕ) (i : ℕ) (cs : List CommentValue) : Type 0 where
  note : CommentValue
  are : cs ≡ note ∷ []
  offset : note.offset ≡ i
  sign : code t i ≡ 35

one_note : {t : List ℕ} {i j : ℕ} {cs : List CommentValue} → CommentText t i j cs → OneNote t i cs
one_note (comment_text e m n) = record { note = _; are = refl; offset = refl; sign = e }

-- a comment and its break
pub record NoteAt (t : List ℕ) (q : ℕ) (text r : List ℕ) : Type 0 where
  pub end : ℕ
  pub place : ℕ
  pub note : CommentValue
  pub comment : CommentText t q end (note ∷ [])
  pub break : Break t end place
  pub offset : note.offset ≡ q
  pub is : note.text ≡ text
  pub rest : Rest t place r
  pub later : q < place
  pub none : BlankBefore t place → ⊥

pub note_at : {t : List ℕ} {text : List ℕ} (r : List ℕ) {q : ℕ} → IsUtf8 t → IsRemark text → Rest t q (text ++ (10 ∷ r)) → NoteAt t q text r
note_at {t} {text} r {q} u m s =
    let at = remark_at (10 ∷ r) u m s in
    let one = one_note at.comment in
    let line = rest_text text u (remark_line m) s in
    let same : q + length text ≡ at.end = place_of_rest line.rest at.rest in
    let some : length text ≡ suc (length m.follows) = ap length m.is in
    let quiet : Quiet t q at.end = subst (λ k. Quiet t q k) same line.quiet in
    let end = rest_break u at.rest in
    let texts_are : texts (one.note ∷ []) ≡ text ∷ [] = ap texts (sym one.are) ∙ at.is in
    record {
      end = at.end;
      place = at.end + 1;
      note = one.note;
      comment = subst (λ z. CommentText t q at.end z) one.are at.comment;
      break = end.0;
      offset = one.offset;
      is = let e : one.note.text ≡ text = cc in e;
      rest = end.1;
      later = omega (arith, same, some);
      none = none_after u one.sign quiet (omega (arith, same, some)) end.0;
    }

-- from the start of a line
pub record GapPlaced (t : List ℕ) (q : ℕ) (gap : List GapLine) (r : List ℕ) : Type 0 where
  pub place : ℕ
  pub comments : List CommentValue
  pub lines : Chain (CommentLine t) q place comments
  pub start : LineStart t place
  pub rest : Rest t place r
  pub is : texts comments ≡ remarks_of gap
  pub is_there : GapIsAt t q gap comments place

pub gap_placed : {t : List ℕ} (gap : List GapLine) (r : List ℕ) {q : ℕ} → IsUtf8 t → AreGapLines gap → LineStart t q → own_column t q ≡ Some 0 → Rest t q (gap_then gap r) → GapPlaced t q gap r
gap_placed [] r {q} u a l w s = record { place = q; comments = []; lines = done; start = l; rest = s; is = refl; is_there = gap_over }
gap_placed (blank ∷ gs) r {q} u a l w s =
    let end = rest_break u s in
    let more = gap_placed gs r u a (after_break end.0) (column_break is_white end.0) end.1 in
    record {
      place = more.place;
      comments = more.comments;
      lines = step (whites_line (at_start l) (by_break end.0)) more.lines;
      start = more.start;
      rest = more.rest;
      is = more.is;
      is_there = blank_is_at end.0 more.is_there;
    }
gap_placed (remark column text ∷ gs) r {q} u a l w s =
    let spaces = rest_spaces column q u s in
    let at = note_at (gap_then gs r) u a.0 spaces.1 in
    let more = gap_placed gs r u a.1 (after_break at.break) (column_break is_white at.break) at.rest in
    record {
      place = more.place;
      comments = at.note ∷ more.comments;
      lines = step (comment_line (spaces_in_line column q l spaces.0) at.comment (by_break at.break)) more.lines;
      start = more.start;
      rest = more.rest;
      is = ap (λ z. z ∷ texts more.comments) at.is ∙ ap (λ z. text ∷ z) more.is;
      is_there = remark_is_at w spaces.0 at.offset at.is at.later (break_ends at.break) at.none more.is_there;
    }
