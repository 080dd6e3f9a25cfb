-- The rows of a laid-out text, row by row: as they were laid out, with what each carried, as they are found, and as
-- they are in the text.
use Rattle.std.proofs.Common.{◌≡◌, ℕ, max, ◌<◌, ◌≤◌, Bool, true, false, List, [], ◌∷◌, ◌++◌, flat_map, length, Option, Some, None, refl, sym, ap, ◌∙◌, subst, arith}
use Rattle.std.specs.Prelude.{◌&&◌, filter, is_some, nat_lt, option_to_list}
use Rattle.std.specs.List.{list_any}
use Rattle.yf_comments.specs.Comment.{CommentValue}
use Rattle.yf_comments.specs.GapLines.{remarks_of}
use Rattle.yf_events.specs.declared.event.Span.{Span}
use Rattle.yf_laws.specs.Layouts.RowComments.{AreDecos, AreTrails}
use Rattle.yf_laws.specs.Layouts.Decorated.{Deco, blank_if, comments_left, decos_of, gap_of}
use Rattle.yf_laws.specs.Layouts.Layout.{Source, may_be_blank_after, precedes_item, trailing}
use Rattle.yf_forms.specs.Nodes.Lines.{trimmed}
use Rattle.yf_laws.specs.Layouts.RowShapes.{RowShape, shape_of}
use Rattle.yf_print.specs.Layouts.Rows.{Row, Ending}
use Rattle.yf_laws.proofs.SecondRun.AlikeLemmas.{shapes}
use Rattle.yf_laws.proofs.ReadAgain.CarriedAgain.{NextTied, bare_next, items_next}
use Rattle.yf_laws.proofs.SameReading.CommentsCut.{In, Each, each_none, each_more, drop_all}
use Rattle.yf_laws.proofs.ReadAgain.GapsAgain.{gap_at_end, gap_with, trimmed_twice}
use Rattle.yf_laws.proofs.RowNodes.PlacedRows.{Inside, none_inside, one_inside, PlacedRow}
use Rattle.yf_laws.proofs.SameReading.PrintSteps.{trimmed_texts}
use Rattle.yf_laws.proofs.Derived.RowEnds.{first_deco, after_decos}
use Rattle.yf_laws.proofs.SameReading.RowFlow.{greatest, precedes_greatest}
use Rattle.yf_laws.proofs.Trails.RowTrails.{trail_of}
use Rattle.yf_laws.proofs.ReadAgain.TrailAgain.{LaidRow}
use Rattle.yf_print.specs.Layouts.KeptColumns.{Columns, is_before_first}
use Rattle.std.proofs.lemmas.Bool.Decides.{nat_tests}

-- A row x as it was laid out, as it is found, and as it is in the text: of a node, or before the node of a document.
-- The item of a document is on the first of its rows, and no comment is between.
pub data Tie (cs : List CommentValue) (x row : Row) (p : PlacedRow) : Type 0 where
  node_tie : row.items ≡ p.items → row.leaves ≡ p.leaves → (p.items ≡ [] → x.items ≡ []) → Tie cs x row p
  start_tie : (start : ℕ) → row.items ≡ start ∷ [] → row.leaves ≡ [] → p.leaves ≡ [] → row.key_comment ≡ None → p.from ≤ start → ((b : CommentValue) → In b cs → p.upto ≤ b.offset → start ≤ b.offset) → Tie cs x row p
  head_tie : row.items ≡ [] → x.items ≡ [] → row.leaves ≡ [] → p.leaves ≡ [] → row.key_comment ≡ None → Tie cs x row p

pub data Ties (cs : List CommentValue) : List Row → List Row → List PlacedRow → Type 0 where
  no_ties : Ties cs [] [] []
  a_tie : {x row : Row} {xs rows : List Row} {p : PlacedRow} {ps : List PlacedRow} → Tie cs x row p → Ties cs xs rows ps → Ties cs (x ∷ xs) (row ∷ rows) (p ∷ ps)

pub tie_leaves : {cs : List CommentValue} {x row : Row} {p : PlacedRow} → Tie cs x row p → row.leaves ≡ p.leaves
tie_leaves (node_tie a b c) = b
tie_leaves (start_tie s a b c d e f) = b ∙ sym c
tie_leaves (head_tie a b c d e) = c ∙ sym d

-- What each row carried.

-- rows that were laid out, and the rows found for them
pub data LaidRows (g : Columns) : List Row → List Row → List Deco → Type 0 where
  none_laid : LaidRows g [] [] []
  last_laid : {x row : Row} {d : Deco} (hs : List CommentValue) → LaidRow d row → d.gap ≡ gap_with g row.ending 0 hs false → LaidRows g (x ∷ []) (row ∷ []) (d ∷ [])
  row_laid : {x y row next : Row} {xs rows : List Row} {d : Deco} {ds : List Deco} (hs : List CommentValue) (b : Bool) → LaidRow d row → d.gap ≡ gap_with g row.ending next.column hs b → (y.items ≡ [] → remarks_of d.gap ≡ [])
      → LaidRows g (y ∷ xs) (next ∷ rows) ds → LaidRows g (x ∷ y ∷ xs) (row ∷ next ∷ rows) (d ∷ ds)

no_leaves : (ls : List Span) → length ls ≡ 0 → ls ≡ []
no_leaves [] e = refl
no_leaves (s ∷ ss) e = absurd (omega (arith, e))

none_of : {o : Option CommentValue} (v : Option CommentValue) → is_some v ≡ is_some o → o ≡ None → v ≡ None
none_of None e f = refl
none_of (Some c) e f = absurd (let g : true ≡ false = e ∙ ap is_some f in cc)

texts_none : (c : CommentValue) (cs : List CommentValue) → trimmed_texts (c ∷ cs) ≡ [] → ⊥
texts_none c cs e = absurd cc

text_stays : (cs : List CommentValue) (x : List ℕ) → trimmed_texts cs ≡ x ∷ [] → trimmed x ≡ x
text_stays [] x e = absurd cc
text_stays (c ∷ cs) x e = let f : trimmed c.text ≡ x = cc in ap trimmed (sym f) ∙ (trimmed_twice c.text ∙ f)

row_is_laid : (m : Source) (d : Deco) (x row : Row) → d.trails ≡ trimmed_texts (trailing m x) → AreTrails d.trails → length x.leaves ≡ length row.leaves → is_some x.key_comment ≡ is_some row.key_comment → LaidRow d row
row_is_laid m d x row e fit count key = record {
  keyless = λ f. none_of row.key_comment (sym key) (unkeyed x.key_comment refl f);
  bare = λ f g.
      let leaves : x.leaves ≡ [] = no_leaves x.leaves (count ∙ ap length f) in
      let keyed : x.key_comment ≡ None = none_of x.key_comment key g in
      e ∙ (ap (λ o. trimmed_texts (option_to_list o ++ flat_map (trail_of m) x.leaves)) keyed ∙ ap (λ ls. trimmed_texts (flat_map (trail_of m) ls)) leaves);
  stays = λ y f. text_stays (trailing m x) y (sym e ∙ f);
  fits = fit;
} where
  unkeyed : (o : Option CommentValue) → x.key_comment ≡ o → d.trails ≡ [] → x.key_comment ≡ None
  unkeyed None f g = f
  unkeyed (Some v) f g = absurd (texts_none v (flat_map (trail_of m) x.leaves) (ap (λ o. trimmed_texts (option_to_list o ++ flat_map (trail_of m) x.leaves)) (sym f) ∙ (sym e ∙ g)))

pub none_precedes : (x : Row) (cs : List CommentValue) → x.items ≡ [] → filter (precedes_item x) cs ≡ []
none_precedes x cs e = drop_all (precedes_item x) (each_not cs) where
  each_not : (cs : List CommentValue) → Each (λ d. precedes_item x d ≡ false) cs
  each_not [] = each_none
  each_not (c ∷ cs) = each_more (ap (λ z. list_any (λ i. nat_lt c.offset i) z) e) (each_not cs)

no_blank_remarks : (b : Bool) → remarks_of (blank_if b) ≡ []
no_blank_remarks true = refl
no_blank_remarks false = refl

pub bare_gap : (g : Columns) (e : Ending) (column : ℕ) (hs : List CommentValue) (b : Bool) → hs ≡ [] → remarks_of (gap_with g e column hs b) ≡ []
bare_gap g e column hs b f = ap (λ z. remarks_of (gap_with g e column z b)) f ∙ no_blank_remarks (may_be_blank_after e && b)

abbrev pub first_shape : RowShape → List RowShape → RowShape
first_shape other [] = other
first_shape other (s ∷ ss) = s

abbrev pub other_shapes : List RowShape → List RowShape
other_shapes [] = []
other_shapes (s ∷ ss) = ss

pub laid_rows : (g : Columns) (m : Source) (comments : List CommentValue) (xs rows : List Row) → shapes xs ≡ shapes rows → AreDecos (decos_of g m comments xs) → LaidRows g xs rows (decos_of g m comments xs)
laid_rows g m comments [] [] e a = none_laid
laid_rows g m comments [] (row ∷ rows) e a = absurd cc
laid_rows g m comments (x ∷ xs) [] e a = absurd cc
laid_rows g m comments (x ∷ []) (row ∷ []) e a =
    let left : List CommentValue = comments_left x comments in
    let d : Deco = record { trails = trimmed_texts (trailing m x); gap = gap_of g x.ending left [] } in
    let one : shape_of x ≡ shape_of row = ap (first_shape (shape_of x)) e in
    last_laid left (row_is_laid m d x row refl (first_deco a).trails (ap (λ (s : RowShape). s.leaves) one) (ap (λ (s : RowShape). s.is_commented) one))
    (gap_at_end g x.ending left ∙ ap (λ z. gap_with g z 0 left false) (ap (λ (s : RowShape). s.ending) one))
laid_rows g m comments (x ∷ []) (row ∷ next ∷ rows) e a = absurd cc
laid_rows g m comments (x ∷ y ∷ xs) (row ∷ []) e a = absurd cc
laid_rows g m comments (x ∷ y ∷ xs) (row ∷ next ∷ rows) e a =
    let left : List CommentValue = comments_left x comments in
    let here : List CommentValue = filter (precedes_item y) left in
    let d : Deco = record { trails = trimmed_texts (trailing m x); gap = gap_of g x.ending left (y ∷ xs) } in
    let one : shape_of x ≡ shape_of row = ap (first_shape (shape_of x)) e in
    let two : shape_of y ≡ shape_of next = ap (λ z. first_shape (shape_of y) (other_shapes z)) e in
    row_laid here y.blank_before (row_is_laid m d x row refl (first_deco a).trails (ap (λ (s : RowShape). s.leaves) one) (ap (λ (s : RowShape). s.is_commented) one))
    (ap (λ z. gap_with g z y.column here y.blank_before) (ap (λ (s : RowShape). s.ending) one) ∙ ap (λ z. gap_with g row.ending z here y.blank_before) (ap (λ (s : RowShape). s.column) two))
    (λ f. bare_gap g x.ending y.column here y.blank_before (none_precedes y left f))
    (laid_rows g m left (y ∷ xs) (next ∷ rows) (ap other_shapes e) (after_decos a))

-- The side of a comment to the items of the next row.

greatest_upto : {i j : ℕ} {is : List ℕ} → Inside i j is → greatest is ≤ j
greatest_upto none_inside = omega arith
greatest_upto (one_inside l m a) = let n = greatest_upto a in omega (arith, m, n)

greatest_from : {i j a : ℕ} {is : List ℕ} → Inside i j (a ∷ is) → i ≤ greatest (a ∷ is)
greatest_from (one_inside l m a) = omega (arith, l)

before_below : (items : List ℕ) (i offset : ℕ) (is : List ℕ) → items ≡ i ∷ is → offset < i → is_before_first items offset ≡ true
before_below items i offset is e l = ap (λ z. is_before_first z offset) e ∙ below offset i l where
  below : (m n : ℕ) → m < n → nat_lt m n ≡ true
  below m n k = grind (arith, nat_tests)

inside_first : {i j a : ℕ} {is : List ℕ} → Inside i j (a ∷ is) → i ≤ a
inside_first (one_inside l m a) = l

pub next_tied : {cs : List CommentValue} {x row : Row} {p : PlacedRow} {d : Deco} → Tie cs x row p → Inside p.from p.upto p.items → (x.items ≡ [] → remarks_of d.gap ≡ []) → NextTied cs row p d
next_tied {cs} {row = row} {p = p} {d = d} (node_tie a b c) inside f = go p.items refl where
  go : (is : List ℕ) → p.items ≡ is → NextTied cs row p d
  go [] e = bare_next (a ∙ e) (f (c e))
  go (i ∷ is) e =
      let here : Inside p.from p.upto (i ∷ is) = subst (λ z. Inside p.from p.upto z) e inside in
      let same : greatest row.items ≡ greatest (i ∷ is) = ap greatest (a ∙ e) in
      let low : p.from ≤ greatest (i ∷ is) = greatest_from here in
      let high : greatest (i ∷ is) ≤ p.upto = greatest_upto here in
      items_next (greatest row.items) (λ b. precedes_greatest row.items b.offset) (λ b z. let first = inside_first here in before_below row.items i b.offset is (a ∙ e) (omega (arith, z, first))) (omega (arith, same, low)) (λ b j l. omega (arith, same, high, l))
next_tied {row = row} (start_tie start a b c d l g) inside f =
    let same : greatest row.items ≡ max start 0 = ap greatest a in
    items_next (greatest row.items) (λ v. precedes_greatest row.items v.offset) (λ v z. before_below row.items start v.offset [] a (omega (arith, z, l))) (omega (arith, same, l)) (λ v j m. let n : start ≤ v.offset = g v j m in omega (arith, same, n))
next_tied (head_tie a b c d e) inside f = bare_next a (f b)
