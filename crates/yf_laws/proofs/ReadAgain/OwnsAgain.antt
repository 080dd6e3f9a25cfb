-- The comments after each row of a laid-out text, as they are read: row by row, with the notes on blank lines before
-- them.
use Rattle.std.proofs.Common.{◌≡◌, ℕ, ◌≤◌, List, [], ◌∷◌, ◌++◌, refl, sym, ap, ◌∙◌, arith, append-nil}
use Rattle.std.specs.Str.{IsUtf8}
use Rattle.yf_lines.specs.Rest.{Rest}
use Rattle.yf_lines.proofs.RestLemmas.{rest_spaces}
use Rattle.yf_comments.specs.Comment.{CommentValue}
use Rattle.yf_comments.proofs.GapLinesLemmas.{texts}
use Rattle.yf_grammar.proofs.Documents.CommentOrder.{ascend_order}
use Rattle.yf_events.specs.Event.{EventInText}
use Rattle.yf_stream.specs.ReadingOf.{NotedComments, no_comment, one_comment}
use Rattle.yf_laws.specs.Layouts.RowComments.{AreDecos}
use Rattle.yf_laws.specs.Layouts.Decorated.{Deco, comments_left, decos_of, inline_then, lines_then}
use Rattle.yf_laws.specs.Layouts.Layout.{Source}
use Rattle.yf_print.specs.Layouts.Rows.{Row}
use Rattle.yf_laws.proofs.ReadAgain.CarriedAgain.{Owns, last_owns, row_owns, all_of}
use Rattle.yf_laws.proofs.SameReading.CommentsCut.{each_none, each_more, Under, upward_of}
use Rattle.yf_laws.proofs.RowNodes.PlacedRows.{PlacedRow, RowsIn, last_row, row_before}
use Rattle.yf_laws.proofs.RowNodes.QuietPlaces.{ascend_under}
use Rattle.yf_laws.proofs.Derived.RowEnds.{first_deco, after_decos}
use Rattle.yf_laws.proofs.ReadAgain.RowExtents.{RowExtent, extent_noted, extent_of}
use Rattle.yf_laws.proofs.Derived.RowsUtf8.{RowLines, row_more}
use Rattle.yf_print.specs.Layouts.KeptColumns.{Columns}
use Rattle.yf_laws.proofs.SameReading.SourceOffsets.{noted_upward}

-- there are as many rows as decorations
pub data Beside : List Row → List Deco → Type 0 where
  none_beside : Beside [] []
  one_beside : {x : Row} {xs : List Row} {d : Deco} {ds : List Deco} → Beside xs ds → Beside (x ∷ xs) (d ∷ ds)

pub decos_beside : (g : Columns) (c : Source) (comments : List CommentValue) (rows : List Row) → Beside rows (decos_of g c comments rows)
decos_beside g c comments [] = none_beside
decos_beside g c comments (row ∷ rows) = one_beside (decos_beside g c (comments_left row comments) rows)

-- the extents of the comments after each row
pub data RowExtents (t : List ℕ) : List PlacedRow → List Deco → List (List CommentValue) → Type 0 where
  last_extent : {p : PlacedRow} {d : Deco} {own : List CommentValue} {j : ℕ} → RowExtent t d p own j → RowExtents t (p ∷ []) (d ∷ []) (own ∷ [])
  row_extent : {p o : PlacedRow} {ps : List PlacedRow} {d : Deco} {ds : List Deco} {own : List CommentValue} {owns : List (List CommentValue)} {k : ℕ} → RowExtent t d p own k → k ≤ o.from
      → RowExtents t (o ∷ ps) ds owns → RowExtents t (p ∷ o ∷ ps) (d ∷ ds) (own ∷ owns)

pub record RowsOwn (t : List ℕ) (ps : List PlacedRow) (ds : List Deco) (i : ℕ) (cs : List CommentValue) (j : ℕ) : Type 0 where
  pub owns : List (List CommentValue)
  pub are : cs ≡ all_of owns
  pub each : Owns ps ds i owns j
  pub extents : RowExtents t ps ds owns

-- one more row
extent_before : {t : List ℕ} {p : PlacedRow} {ps : List PlacedRow} {d : Deco} {ds : List Deco} {own : List CommentValue} {owns : List (List CommentValue)} {k l j : ℕ} → RowExtent t d p own k → k ≤ l → Owns ps ds l owns j → RowExtents t ps ds owns
    → RowExtents t (p ∷ ps) (d ∷ ds) (own ∷ owns)
extent_before a n (last_owns f l m up u is) more = row_extent a (omega (arith, n, f)) more
extent_before a n (row_owns f l m up u is o others) more = row_extent a (omega (arith, n, f)) more

pub rows_own : {t : List ℕ} {xs : List Row} {ps : List PlacedRow} {ds : List Deco} {i j : ℕ} {cs : List CommentValue} {r : List ℕ} → IsUtf8 t → Beside xs ds → RowLines xs → AreDecos ds → Rest t i (inline_then xs ds r)
    → RowsIn t xs ps ds i cs j r → RowsOwn t ps ds i cs j
rows_own u none_beside lines fit w a = elim a [ ]
rows_own u (one_beside {d = d} none_beside) (row_more text seen body more) fit w (last_row {j = j} {own = own} {r = r} at e rest) =
    record {
      owns = own ∷ [];
      are = sym (append-nil own);
      each = last_owns at.from at.order (ascend_order e.ascend) (upward_of e.ascend) (ascend_under e.ascend) e.is;
      extents = last_extent (extent_of u d r text seen (first_deco fit) at e w);
    }
rows_own u (one_beside {d = d} (one_beside {d = f} {ds = ds} b)) (row_more text seen body more) fit w (row_before {y = y} {xs = xs} {k = k} {own = own} {r = r} at e rest others) =
    let spaces = rest_spaces y.column k u rest in
    let further = rows_own u (one_beside b) more (after_decos fit) spaces.1 others in
    record {
      owns = own ∷ further.owns;
      are = ap (λ z. own ++ z) further.are;
      each = row_owns at.from at.order (ascend_order e.ascend) (upward_of e.ascend) (ascend_under e.ascend) e.is (omega arith) further.each;
      extents = extent_before {k = k} (extent_of u d (lines_then (y ∷ xs) (f ∷ ds) r) text seen (first_deco fit) at e w) (omega arith) further.each further.extents;
    }

-- with the notes on blank lines

pub record NotedParts (t : List ℕ) (es : List EventInText) (xs ys noted : List CommentValue) : Type 0 where
  pub one : List CommentValue
  pub two : List CommentValue
  pub are : noted ≡ one ++ two
  pub first : NotedComments t es xs one
  pub second : NotedComments t es ys two

pub noted_parts : {t : List ℕ} {es : List EventInText} {ys noted : List CommentValue} (xs : List CommentValue) → NotedComments t es (xs ++ ys) noted → NotedParts t es xs ys noted
noted_parts {noted = noted} [] a = record { one = []; two = noted; are = refl; first = no_comment; second = a }
noted_parts (x ∷ xs) (one_comment {b = b} n a) =
    let w = noted_parts xs a in
    let here : CommentValue = record x { blank_before = b } in
    record { one = here ∷ w.one; two = w.two; are = ap (λ z. here ∷ z) w.are; first = one_comment n w.first; second = w.second }

pub noted_under : {t : List ℕ} {es : List EventInText} {k : ℕ} {xs ys : List CommentValue} → Under k xs → NotedComments t es xs ys → Under k ys
noted_under each_none no_comment = each_none
noted_under (each_more l u) (one_comment n a) = each_more l (noted_under u a)

pub noted_texts : {t : List ℕ} {es : List EventInText} {xs ys : List CommentValue} → NotedComments t es xs ys → texts ys ≡ texts xs
noted_texts no_comment = refl
noted_texts (one_comment {c = c} n a) = ap (λ z. c.text ∷ z) (noted_texts a)

pub record OwnsNoted (v : List ℕ) (ps : List PlacedRow) (ds : List Deco) (i j : ℕ) (noted : List CommentValue) : Type 0 where
  pub owns : List (List CommentValue)
  pub are : noted ≡ all_of owns
  pub each : Owns ps ds i owns j
  pub extents : RowExtents v ps ds owns

pub owns_noted : {t v : List ℕ} {es : List EventInText} {ps : List PlacedRow} {ds : List Deco} {i j : ℕ} {owns : List (List CommentValue)} {noted : List CommentValue} → Owns ps ds i owns j → RowExtents v ps ds owns
    → NotedComments t es (all_of owns) noted → OwnsNoted v ps ds i j noted
owns_noted {t} {es = es} (last_owns {own = own} f l m up u is) (last_extent a) n =
    let w = noted_parts own n in
    let none : w.two ≡ [] = nothing w.second in
    record {
      owns = w.one ∷ [];
      are = w.are ∙ ap (λ z. w.one ++ z) none;
      each = last_owns f l m (noted_upward up w.first) (noted_under u w.first) (noted_texts w.first ∙ is);
      extents = last_extent (extent_noted a w.first);
    } where
      nothing : {ys : List CommentValue} → NotedComments t es [] ys → ys ≡ []
      nothing no_comment = refl
owns_noted (row_owns f l m up u is o more) (last_extent a) n = elim more [ ]
owns_noted (row_owns {own = own} f l m up u is o more) (row_extent {k = k} a near extents) n =
    let w = noted_parts own n in
    let rest = owns_noted more extents w.second in
    record {
      owns = w.one ∷ rest.owns;
      are = w.are ∙ ap (λ z. w.one ++ z) rest.are;
      each = row_owns f l m (noted_upward up w.first) (noted_under u w.first) (noted_texts w.first ∙ is) o rest.each;
      extents = row_extent {k = k} (extent_noted a w.first) near rest.extents;
    }
