-- Rows that fit the comments: the leaves of each are among its items, no comment is between its first leaf and its last
-- item, and the comment that trails its key is the first after an item on it and before the leaves of the next row.
use Rattle.std.proofs.Common.{◌≡◌, ◌≢◌, ℕ, max, ◌<◌, ◌≤◌, Bool, true, false, true≢false, List, [], ◌∷◌, ◌++◌, Some, None, refl, sym, ap, ◌∙◌, subst, arith, ◌⊎◌, inl, inr, ⊎_elim}
use Rattle.std.specs.Prelude.{find, replicate, if◌then◌else◌}
use Rattle.std.proofs.lemmas.Bool.{and_from, cases_lt}
use Rattle.yf_comments.specs.Comment.{CommentValue}
use Rattle.yf_events.specs.declared.event.Span.{Span}
use Rattle.yf_forms.specs.NormalForms.Normal.{last_start}
use Rattle.yf_print.specs.Layouts.Rows.{Row, joined, begun_at}
use Rattle.yf_laws.proofs.Writable.StillLeaves.{between}
use Rattle.yf_laws.proofs.SameReading.CommentsCut.{In, in_first, in_rest}
use Rattle.yf_laws.proofs.SameReading.ItemsOrder.{items_on, sub_after, sub_join, sub_twice, rises_greatest}
use Rattle.yf_laws.proofs.OfTexts.MarksOrder.{Rises, no_place, a_place}
use Rattle.yf_laws.proofs.SameReading.QuietTrees.{Free}
use Rattle.yf_laws.proofs.SameReading.RowFlow.{Sub, sub_none, sub_take, sub_skip, sub_one_below, sub_one_from, greatest}
use Rattle.yf_laws.proofs.SameReading.StartsBefore.{AllFrom, none_later, one_later, later_join, later_from}
use Rattle.yf_laws.proofs.Derived.StepsInText.{starts_of, starts_append}
use Rattle.yf_chars.proofs.Tests.{below}

-- Items on a line, and the leaves that begin at some of them.
pub record LineFits (cs : List CommentValue) (is ss : List ℕ) : Type 0 where
  pub among : Sub ss is
  pub still : (d : CommentValue) → In d cs → d.offset < greatest is → AllFrom d.offset ss

pub one_fits : {cs : List CommentValue} (n : ℕ) → LineFits cs (n ∷ []) (n ∷ [])
one_fits n = record { among = sub_take sub_none; still = λ d i l. one_later (omega (arith, l)) none_later }

pub none_fits : {cs : List CommentValue} (is : List ℕ) → LineFits cs is []
none_fits is = record { among = sub_none; still = λ d i l. none_later }

greatest_append : (xs ys : List ℕ) → greatest (xs ++ ys) ≡ max (greatest xs) (greatest ys)
greatest_append [] ys = omega arith
greatest_append (x ∷ xs) ys = let e : greatest (xs ++ ys) ≡ max (greatest xs) (greatest ys) = greatest_append xs ys in omega (arith, e)

pub rises_from : {i j : ℕ} {ms : List ℕ} → Rises i ms j → AllFrom i ms
rises_from (no_place l) = none_later
rises_from (a_place l a) = one_later l (later_from l (rises_from a))

pub record RisesApart (i j : ℕ) (xs ys : List ℕ) : Type 0 where
  pub middle : ℕ
  pub one : Rises i xs middle
  pub two : Rises middle ys j

pub rises_apart : {i j : ℕ} (xs ys : List ℕ) → Rises i (xs ++ ys) j → RisesApart i j xs ys
rises_apart {i} [] ys a = record { middle = i; one = no_place (omega arith); two = a }
rises_apart (x ∷ xs) ys (a_place l a) = let w = rises_apart xs ys a in record { middle = w.middle; one = a_place l w.one; two = w.two }

-- after items without a leaf
pub after_fits : {cs : List CommentValue} {i m j : ℕ} {ss : List ℕ} (heads is : List ℕ) → Rises i heads m → Rises m is j → LineFits cs is ss → LineFits cs (heads ++ is) ss
after_fits {cs} {ss = ss} heads [] a b f = record { among = sub_after heads f.among; still = λ d i l. go f.among } where
  go : {n : ℕ} {rs : List ℕ} → Sub rs [] → AllFrom n rs
  go sub_none = none_later
after_fits heads (y ∷ ys) a (a_place l b) f =
    let low : greatest heads ≤ _ = rises_greatest a in
    let all : greatest (heads ++ (y ∷ ys)) ≡ max (greatest heads) (max y (greatest ys)) = greatest_append heads (y ∷ ys) in
    record { among = sub_after heads f.among; still = λ d i m. f.still d i (omega (arith, low, all, m, l)) }

-- the first of some comments that pass a test
pub not_found : (p : CommentValue → Bool) (d : CommentValue) {cs : List CommentValue} → find p cs ≡ None → In d cs → p d ≡ false
not_found p d e (in_first {cs = cs}) = go (p d) e where
  go : (b : Bool) → (if b then Some d else find p cs) ≡ None → b ≡ false
  go true f = absurd cc
  go false f = refl
not_found p d e (in_rest {c = c} {cs = cs} i) = not_found p d (go (p c) e) i where
  go : (b : Bool) → (if b then Some c else find p cs) ≡ None → find p cs ≡ None
  go true f = absurd cc
  go false f = f

pub last_among : (o : ℕ) (k : Span) (ks : List Span) → Sub (last_start o (k ∷ ks) ∷ []) (starts_of (k ∷ ks))
last_among o k [] = sub_take sub_none
last_among o k (l ∷ ks) = sub_skip (last_among k.start l ks)

-- a key and its value, with no comment between their leaves
module _ {cs : List CommentValue} {is js : List ℕ} (o : ℕ) (s : Span) (vs : List Span) where
  pub beside_fits : {i m j : ℕ} (ks : List Span) → LineFits cs is (starts_of ks) → LineFits cs js (starts_of (s ∷ vs)) → Rises i is m → Rises m js j
      → ((n : ℕ) → Sub (n ∷ []) (starts_of ks) → Free cs n) → Free cs s.start → find (between (last_start o ks) s.start) cs ≡ None → LineFits cs (is ++ js) (starts_of (ks ++ (s ∷ vs)))
  beside_fits {i} {m} {j} ks k v a b free apart none = record {
    among = subst (λ w. Sub w (is ++ js)) (sym (starts_append ks (s ∷ vs))) (sub_join k.among v.among);
    still = λ d x l. subst (λ w. AllFrom d.offset w) (sym (starts_append ks (s ∷ vs))) (later_join (keys d x (v.still d x (top d l)) ks k free none) (v.still d x (top d l)));
  } where
    front : Sub (s.start ∷ []) js
    front = sub_twice (sub_take sub_none) v.among

    top : (d : CommentValue) → d.offset < greatest (is ++ js) → d.offset < greatest js
    top d l =
        let low : greatest is ≤ m = rises_greatest a in
        let all : greatest (is ++ js) ≡ max (greatest is) (greatest js) = greatest_append is js in
        let first : m ≤ s.start = sub_one_from front (rises_from b) in
        let last : s.start ≤ greatest js = sub_one_below front in
        omega (arith, low, all, first, last, l)

    keys : (d : CommentValue) → In d cs → AllFrom d.offset (starts_of (s ∷ vs)) → (ks : List Span) → LineFits cs is (starts_of ks) → ((n : ℕ) → Sub (n ∷ []) (starts_of ks) → Free cs n)
        → find (between (last_start o ks) s.start) cs ≡ None → AllFrom d.offset (starts_of ks)
    keys d x later [] k free none = none_later
    keys d x (one_later l later) (r ∷ rs) k free none =
        let last : ℕ = last_start o (r ∷ rs) in
        let here : Sub (last ∷ []) (starts_of (r ∷ rs)) = last_among o r rs in
        let high : last ≤ greatest is = sub_one_below (sub_twice here k.among) in
        ⊎_elim (λ (w : d.offset < last). k.still d x (omega (arith, w, high)))
        (λ (w : last ≤ d.offset).
        let one : d.offset ≢ last = free last here d x in
        let two : d.offset ≢ s.start = apart d x in
        absurd (true≢false (sym (and_from _ _ (below last d.offset (omega (arith, w, one))) (below d.offset s.start (omega (arith, l, two)))) ∙ not_found (between last s.start) d none x)))
        (cases_lt d.offset last)

-- The comment that trails the key of a row is after an item on the row and before the leaves of the next one.
pub data KeyFits (cs : List CommentValue) (row : Row) : List Row → Type 0 where
  no_key : {rows : List Row} → row.key_comment ≡ None → KeyFits cs row rows
  a_key : {next : Row} {rows : List Row} (e : CommentValue) (a : ℕ) (s : Span) (ss : List Span) → row.key_comment ≡ Some e → Sub (a ∷ []) row.items → Free cs a
      → Sub (a ∷ []) (starts_of row.leaves) ⊎ ((row.leaves ≡ []) × (greatest row.items ≤ a)) → next.leaves ≡ s ∷ ss → find (between a s.start) cs ≡ Some e → KeyFits cs row (next ∷ rows)

pub data RowsFit (cs : List CommentValue) : List Row → Type 0 where
  no_rows_fit : RowsFit cs []
  row_fits : {row : Row} {rows : List Row} → LineFits cs row.items (starts_of row.leaves) → KeyFits cs row rows → RowsFit cs rows → RowsFit cs (row ∷ rows)

key_before : {cs : List CommentValue} {row : Row} {xs : List Row} (ys : List Row) → KeyFits cs row xs → KeyFits cs row (xs ++ ys)
key_before ys (no_key q) = no_key q
key_before ys (a_key e a s ss q i f w n g) = a_key e a s ss q i f w n g

pub fit_append : {cs : List CommentValue} {xs ys : List Row} → RowsFit cs xs → RowsFit cs ys → RowsFit cs (xs ++ ys)
fit_append no_rows_fit b = b
fit_append {ys = ys} (row_fits f k a) b = row_fits f (key_before ys k) (fit_append a b)

pub as_leaves : {cs : List CommentValue} {is : List ℕ} {xs ys : List Span} → xs ≡ ys → LineFits cs is (starts_of ys) → LineFits cs is (starts_of xs)
as_leaves {cs} {is} e f = subst (λ w. LineFits cs is (starts_of w)) (sym e) f

-- after a sign, which has no leaf
pub sign_fits : {cs : List CommentValue} {i m j : ℕ} (head : Row) (n : ℕ) (xs : List Row) → head.leaves ≡ [] → head.key_comment ≡ None → Rises i head.items m → Rises m (items_on xs) j → RowsFit cs xs
    → RowsFit cs (joined head n xs)
sign_fits head n [] e q a b f = row_fits (as_leaves e (none_fits head.items)) (no_key q) no_rows_fit
sign_fits {cs} {i} {m} {j} head n (x ∷ xs) e q a b (row_fits f k more) =
    let parts = rises_apart x.items (items_on xs) b in
    row_fits (as_leaves same (after_fits head.items x.items a parts.one f)) (key k) more where
      same : head.leaves ++ x.leaves ≡ x.leaves
      same = ap (λ w. w ++ x.leaves) e

      low : greatest head.items ≤ m
      low = rises_greatest a

      top : (r : ℕ) → Sub (r ∷ []) x.items → greatest x.items ≤ r → greatest (head.items ++ x.items) ≤ r
      top r s l =
          let all : greatest (head.items ++ x.items) ≡ max (greatest head.items) (greatest x.items) = greatest_append head.items x.items in
          let parts = rises_apart x.items (items_on xs) b in
          let from : m ≤ r = sub_one_from s (rises_from parts.one) in
          omega (arith, low, all, from, l)

      key : {zs : List Row} → KeyFits cs x zs → KeyFits cs (record { column = head.column; text = head.text ++ (replicate n 32 ++ x.text); starts = head.starts ++ x.starts; items = head.items ++ x.items; leaves = head.leaves ++ x.leaves; key_comment = x.key_comment; blank_before = head.blank_before; begins = head.begins; ending = x.ending; body = x.body; lines = x.lines }) zs
      key (no_key r) = no_key r
      key (a_key d r s ss z w free at next g) =
          a_key d r s ss z (sub_after head.items w) free
          (⊎_elim (λ (v : Sub (r ∷ []) (starts_of x.leaves)). inl (subst (λ ls. Sub (r ∷ []) (starts_of ls)) (sym same) v))
          (λ (v : (x.leaves ≡ []) × (greatest x.items ≤ r)). inr (same ∙ v.0, top r w v.1)) at) next g

-- if the document begins on the first of them
pub begun_fits : {cs : List CommentValue} {start j : ℕ} (rs : List Row) → Rises start (items_on rs) j → RowsFit cs rs → RowsFit cs (begun_at start rs)
begun_fits [] b no_rows_fit = no_rows_fit
begun_fits {cs} {start} (x ∷ xs) b (row_fits f k more) =
    let parts = rises_apart x.items (items_on xs) b in
    row_fits (after_fits {i = start} (start ∷ []) x.items (a_place {k = start} (omega arith) (no_place (omega arith))) parts.one f) (key k) more where
      top : (r : ℕ) → Sub (r ∷ []) x.items → greatest x.items ≤ r → greatest (start ∷ x.items) ≤ r
      top r s l =
          let parts = rises_apart x.items (items_on xs) b in
          let from : start ≤ r = sub_one_from s (rises_from parts.one) in
          omega (arith, from, l)

      key : {zs : List Row} → KeyFits cs x zs → KeyFits cs (record x { items = start ∷ x.items; begins = true }) zs
      key (no_key r) = no_key r
      key (a_key d r s ss z w free at next g) = a_key d r s ss z (sub_skip w) free (⊎_elim (λ (v : Sub (r ∷ []) (starts_of x.leaves)). inl v) (λ (v : (x.leaves ≡ []) × (greatest x.items ≤ r)). inr (v.0, top r w v.1)) at) next g
