-- A whole block scalar among other lines: its header, comment and lines, and the text after them.
use Rattle.std.proofs.Common.{◌≡◌, ℕ, ℤ, ◌+◌, ◌-◌, ◌<◌, ◌≤◌, Bool, false, List, [], ◌∷◌, ◌++◌, length, map, Option, Some, None, refl, ap, ◌∙◌, subst, arith}
use Rattle.std.specs.Str.{IsUtf8}
use Rattle.yf_lines.specs.Basic.SeparateInLine.{by_whites}
use Rattle.yf_lines.proofs.RestLemmas.{Rest, rest_spaces, rest_break}
use Rattle.yf_comments.specs.Comment.{CommentValue}
use Rattle.yf_comments.specs.Comments.{LineRest}
use Rattle.yf_comments.specs.Comments.LineRest.{nothing, comment}
use Rattle.yf_comments.specs.Comments.BreakOrEnd.{by_break}
use Rattle.yf_comments.specs.GapLines.{GapLine, blank, remark, gap_then, AreGapLines, AllLeft, remarks_of}
use Rattle.yf_comments.proofs.GapLinesLemmas.{texts, spaces_whites, remark_at}
use Rattle.yf_block_scalar.specs.declared.header.Header.{Header}
use Rattle.yf_block_scalar.specs.declared.header.Chomp.{Chomp}
use Rattle.yf_block_scalar.specs.declared.header.Chomp.TheVariants.{Strip, Clip, Keep}
use Rattle.yf_block_scalar.specs.Body.{Body, BodyValue, base, first_noted, is_gap_tail, LinesTaken, Trail}
use Rattle.yf_block_scalar.specs.Body.Body.{indicated, detected}
use Rattle.yf_block_scalar.specs.Content.{feeds, literal_after, content_of}
use Rattle.yf_block_scalar.specs.Header.{BlockHeader, HeaderValue}
use Rattle.yf_block_scalar.specs.Header.BlockHeader.{block_header}
use Rattle.yf_block_scalar.specs.Placed.{lines_then, trail_then, IsTrail, trail_texts, Below, KeptGap, scalar_then}
use Rattle.yf_block_scalar.specs.Written.{indented, AreLineTexts, EndsWithContent, StartsUnspaced}
use Rattle.yf_block_scalar.proofs.DerivedLemmas.{style_made, signed_made, digit_of, detected_made, deep_enough}
use Rattle.yf_block_scalar.proofs.LinesMade.{LinesTo, taken_lines, taken_all}
use Rattle.yf_block_scalar.proofs.PlacedLemmas.{blanks_of, lines_shape, ScalarLinesTo, reached}

-- the end of the header's line
record TrailAt (t : List ℕ) (q : ℕ) (o : Option (List ℕ)) (r : List ℕ) : Type 0 where
  pub place : ℕ
  pub notes : List CommentValue
  pub line : LineRest t q place notes
  pub rest : Rest t place r
  pub is : texts notes ≡ trail_texts o

trail_at : {t : List ℕ} (o : Option (List ℕ)) (r : List ℕ) {q : ℕ} → IsUtf8 t → IsTrail o → Rest t q (trail_then o r) → TrailAt t q o r
trail_at None r {q} u a s = let end = rest_break u s in record { place = q + 1; notes = []; line = nothing (by_break end.0); rest = end.1; is = refl }
trail_at {t} (Some text) r {q} u a s =
    let spaces = rest_spaces 2 q u s in
    let at = remark_at (10 ∷ r) u a spaces.1 in
    let end = rest_break u at.rest in
    record {
      place = at.end + 1;
      notes = at.notes;
      line = comment (by_whites (spaces_whites 2 q spaces.0).1 (omega arith)) at.comment (by_break end.0);
      rest = end.1;
      is = at.is;
    }

-- blank lines after a scalar are content only if it keeps its final breaks
same_kept : (f : Bool) (d e : Option ℕ) (c : Chomp) (x : List ℕ) (ls : List (List ℕ)) (count : ℕ) (gap : List GapLine) → KeptGap c gap
    → content_of (record { folded = f; digit = d; chomp = c }) (x ∷ ls) (count + blanks_of gap) false ≡ content_of (record { folded = f; digit = e; chomp = c }) (x ∷ ls) count false
same_kept f d e Strip x ls count gap k = refl
same_kept f d e Clip x ls count gap k = refl
same_kept f d e Keep x ls count [] k =
    let none : count + 0 ≡ count = omega arith in
    ap (λ n. content_of (record { folded = f; digit = d; chomp = Keep }) (x ∷ ls) n false) none
same_kept f d e Keep x ls count (blank ∷ gs) k = absurd k
same_kept f d e Keep x ls count (remark column text ∷ gs) k =
    let none : count + 0 ≡ count = omega arith in
    ap (λ n. content_of (record { folded = f; digit = d; chomp = Keep }) (x ∷ ls) n false) none

texts_noted : (b : Bool) (cs : List CommentValue) → texts (first_noted b cs) ≡ texts cs
texts_noted b [] = refl
texts_noted b (c ∷ cs) = refl

-- the scalar at an offset: its content, and the comments in it and after it; it ends at the start of r
pub record PlacedAt (t : List ℕ) (n : ℤ) (h : Header) (ls : List (List ℕ)) (count : ℕ) (comments : List (List ℕ)) (q : ℕ) (r : List ℕ) : Type 0 where
  pub start : ℕ
  pub place : ℕ
  pub header : HeaderValue
  pub body : BodyValue
  pub head : BlockHeader t q start header
  pub rest : Body t n header.header start place body
  pub folded : header.header.folded ≡ h.folded
  pub chomp : header.header.chomp ≡ h.chomp
  pub lines : body.lines ≡ ls
  pub content : content_of header.header body.lines body.tail body.open_end ≡ content_of h ls count false
  pub is : texts header.comments ++ texts body.comments ≡ comments
  -- the end of its last content line, and the empty lines after it
  pub finish : ℕ
  pub to_finish : LinesTo t start finish (length body.lines)
  pub last : ℕ
  pub to_last : LinesTo t start last (length body.lines + body.tail)
  pub follows : Rest t place r

body_placed : {t : List ℕ} {q : ℕ} {r : List ℕ} (n : ℤ) (column : ℕ) (d : Option ℕ) (f : Bool) (c : Chomp) (x : List ℕ) (ls : List (List ℕ)) (count : ℕ) (gap : List GapLine)
    → IsUtf8 t → base n < column → AreLineTexts (x ∷ ls) → (d ≡ None → StartsUnspaced (x ∷ ls))
    → Rest t q (lines_then column (x ∷ ls) (feeds count ++ gap_then gap r)) → (a : ScalarLinesTo t column q (x ∷ ls) count gap r)
    → Body t n (record { folded = f; digit = digit_of d (column - base n); chomp = c }) q a.place
    (record { lines = x ∷ ls; open_end = false; tail = count + blanks_of gap; comments = first_noted (is_gap_tail c (count + blanks_of gap)) a.notes })
body_placed {t} {q} {r} n column None f c x ls count gap u right lines first s a =
    let shaped : Rest t q (indented column x ++ (literal_after (map (indented column) ls) ++ (10 ∷ (feeds count ++ gap_then gap r)))) =
    subst (λ w. Rest t q w) (lines_shape column x ls (feeds count ++ gap_then gap r)) s in
    detected refl (detected_made (10 ∷ (feeds count ++ gap_then gap r)) ls x q u (omega arith) (deep_enough n column right) lines (first refl) shaped) a.taken a.trail
body_placed {t} {q} n column (Some e) f c x ls count gap u right lines first s a =
    let same : column ≡ base n + (column - base n) = omega arith in
    indicated refl (subst (λ w. LinesTaken t w q (x ∷ ls) false (count + blanks_of gap) a.end) same a.taken) (subst (λ w. Trail t w a.end a.place a.notes) same a.trail)

pub placed : {t : List ℕ} (n : ℤ) (column : ℕ) (h : Header) (trail : Option (List ℕ)) (lines : List (List ℕ)) (count : ℕ) (gap : List GapLine) {r : List ℕ} {q : ℕ}
    → IsUtf8 t → base n < column → column ≤ base n + 9 → AreLineTexts lines → EndsWithContent lines → (h.digit ≡ None → StartsUnspaced lines)
    → IsTrail trail → AreGapLines gap → AllLeft column gap → KeptGap h.chomp gap → Below column r
    → Rest t q (scalar_then h (column - base n) trail column lines count (gap_then gap r))
    → PlacedAt t n h lines count (trail_texts trail ++ remarks_of gap) q r
placed {t} n column h trail [] count gap u right near lines last first noted a left kept below s = absurd last
placed {t} n column h trail (x ∷ ls) count gap {r} {q} u right near lines last first noted a left kept below s =
    let w : ℕ = column - base n in
    let style = style_made h.folded q u s in
    let signed = signed_made h.digit h.chomp w (q + 1) u (omega arith) (omega arith) style.2 style.1 in
    let line = trail_at trail (lines_then column (x ∷ ls) (feeds count ++ gap_then gap r)) u noted signed.rest in
    let all : ScalarLinesTo t column line.place (x ∷ ls) count gap r = reached x ls count gap line.place u (omega arith) lines last a left below line.rest in
    record {
      start = line.place;
      place = all.place;
      header = record { header = record { folded = h.folded; digit = digit_of h.digit w; chomp = h.chomp }; comments = line.notes };
      body = record { lines = x ∷ ls; open_end = false; tail = count + blanks_of gap; comments = first_noted (is_gap_tail h.chomp (count + blanks_of gap)) all.notes };
      head = block_header style.0 signed.marks line.line;
      rest = body_placed n column h.digit h.folded h.chomp x ls count gap u right lines first line.rest all;
      folded = refl;
      chomp = refl;
      lines = refl;
      content = same_kept h.folded (digit_of h.digit w) h.digit h.chomp x ls count gap kept;
      is = ap (λ z. texts line.notes ++ z) (texts_noted (is_gap_tail h.chomp (count + blanks_of gap)) all.notes ∙ all.is) ∙ ap (λ z. z ++ remarks_of gap) line.is;
      finish = all.taken.end;
      to_finish = taken_lines u all.taken;
      last = all.end;
      to_last = taken_all u all.taken;
      follows = all.rest;
    }
