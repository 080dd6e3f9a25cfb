-- What a row carries after its text is the end of a line with those comments; how such conditions and comments are
-- split among rows.
use Rattle.std.proofs.Common.{◌≡◌, ℕ, ◌+◌, List, [], ◌∷◌, ◌++◌, refl, sym, ap, ◌∙◌, subst, arith, append_assoc}
use Rattle.std.specs.Str.{IsUtf8}
use Rattle.yf_lines.specs.Basic.{LineStart}
use Rattle.yf_lines.specs.Basic.LineStart.{after_break}
use Rattle.yf_lines.specs.Basic.SeparateInLine.{by_whites}
use Rattle.yf_lines.specs.LineText.{Follows, is_after_name}
use Rattle.yf_lines.specs.LineText.Follows.{byte_follows}
use Rattle.yf_lines.proofs.RestLemmas.{Rest, rest_spaces, rest_break}
use Rattle.yf_comments.specs.Comment.{CommentValue}
use Rattle.yf_comments.specs.Comments.{LineRest, LineEnd}
use Rattle.yf_comments.specs.Comments.BreakOrEnd.{by_break}
use Rattle.yf_comments.specs.Comments.LineEnd.{past_rest}
use Rattle.yf_comments.specs.Comments.LineRest.{nothing, comment}
use Rattle.yf_comments.proofs.GapLinesLemmas.{texts, texts_append, spaces_whites, remark_at, gap_at}
use Rattle.yf_laws.specs.Layouts.RowComments.{AreTrails, IsDeco, AreDecos, nothing_carried, one_carried, carried_texts, comments_in, CalmBody, Calm}
use Rattle.yf_laws.specs.Layouts.Decorated.{Deco, first, after, past, trails_then, end_then, lines_then}
use Rattle.yf_print.specs.Layouts.Rows.{Row}
use Rattle.yf_laws.proofs.Derived.DecoratedLemmas.{lines_append}

-- The end of a line.

pub record TrailsAt (t : List ℕ) (q : ℕ) (xs : List (List ℕ)) (r : List ℕ) : Type 0 where
  pub place : ℕ
  pub notes : List CommentValue
  pub line : LineRest t q place notes
  pub start : LineStart t place
  pub rest : Rest t place r
  pub is : texts notes ≡ xs

pub trails_at : {t : List ℕ} (xs : List (List ℕ)) (r : List ℕ) {q : ℕ} → IsUtf8 t → AreTrails xs → Rest t q (trails_then xs (10 ∷ r)) → TrailsAt t q xs r
trails_at [] r {q} u a s =
    let end = rest_break u s in
    record { place = q + 1; notes = []; line = nothing (by_break end.0); start = after_break end.0; rest = end.1; is = refl }
trails_at {t} (x ∷ []) r {q} u a s =
    let spaces = rest_spaces 2 q u s in
    let at = remark_at (10 ∷ r) u a spaces.1 in
    let end = rest_break u at.rest in
    record {
      place = at.end + 1;
      notes = at.notes;
      line = comment (by_whites (spaces_whites 2 q spaces.0).1 (omega arith)) at.comment (by_break end.0);
      start = after_break end.0;
      rest = end.1;
      is = at.is;
    }
trails_at (x ∷ y ∷ zs) r u a s = absurd a

-- from the end of a row's text to the start of the next line that isn't a comment
pub record RowEnd (t : List ℕ) (q : ℕ) (d : Deco) (r : List ℕ) : Type 0 where
  pub place : ℕ
  pub comments : List CommentValue
  pub end : LineEnd t q place comments
  pub start : LineStart t place
  pub rest : Rest t place r
  pub is : texts comments ≡ carried_texts d

pub row_end : {t : List ℕ} (d : Deco) (r : List ℕ) {q : ℕ} → IsUtf8 t → IsDeco d → Rest t q (end_then d [] r) → RowEnd t q d r
row_end d r u a s =
    let line = trails_at d.trails _ u a.trails s in
    let gap = gap_at d.gap r u a.gap line.start line.rest in
    record {
      place = gap.place;
      comments = line.notes ++ gap.comments;
      end = past_rest line.line gap.lines;
      start = gap.start;
      rest = gap.rest;
      is = texts_append line.notes gap.comments ∙ (ap (λ z. z ++ texts gap.comments) line.is ∙ ap (λ z. d.trails ++ z) gap.is);
    }

-- a space or a break is after a row's text
trails_follow : (xs : List (List ℕ)) (r : List ℕ) → Follows is_after_name (trails_then xs (10 ∷ r))
unfolding is_after_name
trails_follow [] r = byte_follows (omega arith) refl
trails_follow (x ∷ xs) r = byte_follows (omega arith) refl

pub end_follows : (d : Deco) (body : List (List ℕ)) (r : List ℕ) → Follows is_after_name (end_then d body r)
end_follows d body r = trails_follow d.trails _

-- What the first row carries, and those after it.

pub first_deco : {ds : List Deco} → AreDecos ds → IsDeco (first ds)
first_deco nothing_carried = record { trails = tt; gap = tt }
first_deco (one_carried a b) = a

pub after_decos : {ds : List Deco} → AreDecos ds → AreDecos (after ds)
after_decos nothing_carried = nothing_carried
after_decos (one_carried a b) = b

pub past_decos : (xs : List Row) {ds : List Deco} → AreDecos ds → AreDecos (past xs ds)
past_decos [] a = a
past_decos (x ∷ xs) a = past_decos xs (after_decos a)

-- Rows in sequence.

pub comments_append : (xs ys : List Row) (ds : List Deco) → comments_in (xs ++ ys) ds ≡ comments_in xs ds ++ comments_in ys (past xs ds)
comments_append [] ys ds = refl
comments_append (x ∷ xs) ys ds =
    ap (λ z. carried_texts (first ds) ++ z) (comments_append xs ys (after ds)) ∙ sym (append_assoc (carried_texts (first ds)) (comments_in xs (after ds)) (comments_in ys (past xs (after ds))))

pub calm_append : (xs ys : List Row) (ds : List Deco) (r : List ℕ) → Calm (xs ++ ys) ds r → Calm xs ds (lines_then ys (past xs ds) r) × Calm ys (past xs ds) r
calm_append [] ys ds r c = (tt, c)
calm_append (x ∷ xs) ys ds r c =
    let more = calm_append xs ys (after ds) r c.1 in
    ((subst (λ z. CalmBody x.body x.lines x.ending (first ds).gap z) (lines_append xs ys (after ds) r) c.0, more.0), more.1)
