-- Rows in a text: for each the items and leaves between its start and the end of its text, and the comments after it.
use Rattle.std.proofs.Common.{◌≡◌, ℕ, ◌+◌, ◌<◌, ◌≤◌, Bool, List, [], ◌∷◌, ◌++◌, length, replicate, refl, sym, ap, ◌∙◌, subst, arith, append_assoc, length-append}
use Rattle.std.specs.Prelude.{is_some}
use Rattle.std.proofs.lemmas.List.{length-replicate}
use Rattle.yf_chars.specs.Chain.{Chain}
use Rattle.yf_lines.specs.Basic.{LineStart}
use Rattle.yf_lines.specs.Rest.{Rest}
use Rattle.yf_comments.specs.Comment.{CommentValue}
use Rattle.yf_comments.specs.Comments.{Blank, LineEnd, LineRest, Row as CommentRow}
use Rattle.yf_comments.proofs.GapLinesLemmas.{texts}
use Rattle.yf_block_scalar.specs.Body.{first_noted}
use Rattle.yf_events.specs.declared.event.Span.{Span}
use Rattle.yf_grammar.proofs.Documents.CommentOrder.{Ascend}
use Rattle.yf_stream.proofs.Offsets.BrokenEnds.{Broken}
use Rattle.yf_laws.specs.Layouts.RowComments.{carried_texts}
use Rattle.yf_laws.specs.Layouts.Decorated.{Deco, first, after, past, gap_then, lines_then}
use Rattle.yf_print.specs.Layouts.Rows.{Row, joined}
use Rattle.yf_laws.proofs.Derived.DecoratedLemmas.{lines_append}
use Rattle.yf_laws.proofs.Derived.StepsInText.{starts_of, starts_append}

-- offsets between two offsets
pub data Inside (i j : ℕ) : List ℕ → Type 0 where
  none_inside : Inside i j []
  one_inside : {x : ℕ} {xs : List ℕ} → i ≤ x → x ≤ j → Inside i j xs → Inside i j (x ∷ xs)

pub inside_join : {i j : ℕ} {xs ys : List ℕ} → Inside i j xs → Inside i j ys → Inside i j (xs ++ ys)
inside_join none_inside b = b
inside_join (one_inside l m a) b = one_inside l m (inside_join a b)

pub inside_wider : {h i j k : ℕ} {xs : List ℕ} → h ≤ i → j ≤ k → Inside i j xs → Inside h k xs
inside_wider l m none_inside = none_inside
inside_wider l m (one_inside n o a) = one_inside (omega (arith, l, n)) (omega (arith, m, o)) (inside_wider l m a)

-- a row in a text: the items and leaves that are found on it, whether a comment trails its key, its column, its start,
-- and an offset by which all its items and leaves have begun
pub record PlacedRow : Type 0 where
  pub items : List ℕ
  pub leaves : List Span
  pub commented : Bool
  pub column : ℕ
  pub from : ℕ
  pub upto : ℕ

-- a row that is found to begin at i
pub record AtRow (x : Row) (i : ℕ) (p : PlacedRow) : Type 0 where
  pub from : p.from ≡ i
  pub order : i ≤ p.upto
  pub size : x.body ≡ [] → p.upto ≡ i + length x.text
  pub items : Inside i p.upto p.items
  pub leaves : Inside i p.upto (starts_of p.leaves)
  pub commented : is_some x.key_comment ≡ p.commented
  pub bare : p.items ≡ [] → x.items ≡ []
  pub column : x.column ≡ p.column

pub never_bare : {a : ℕ} {xs ys : List ℕ} → a ∷ xs ≡ [] → ys ≡ []
never_bare e = absurd cc

-- leaves with characters, that end before an offset
pub data LeavesTo (n : ℕ) : List Span → Type 0 where
  no_leaf_to : LeavesTo n []
  leaf_to : {s : Span} {ss : List Span} → s.start < s.end → s.end ≤ n → LeavesTo n ss → LeavesTo n (s ∷ ss)

pub leaves_to_join : {n : ℕ} {xs ys : List Span} → LeavesTo n xs → LeavesTo n ys → LeavesTo n (xs ++ ys)
leaves_to_join no_leaf_to b = b
leaves_to_join (leaf_to l m a) b = leaf_to l m (leaves_to_join a b)

pub leaves_to_wider : {m n : ℕ} {ss : List Span} → m ≤ n → LeavesTo m ss → LeavesTo n ss
leaves_to_wider l no_leaf_to = no_leaf_to
leaves_to_wider l (leaf_to m n a) = leaf_to m (omega (arith, l, n)) (leaves_to_wider l a)

-- the end of the last of these leaves
pub data LastEnd : List Span → ℕ → Type 0 where
  last_end : {s : Span} → LastEnd (s ∷ []) s.end
  later_end : {s : Span} {ss : List Span} {e : ℕ} → LastEnd ss e → LastEnd (s ∷ ss) e

pub last_end_after : {ys : List Span} {e : ℕ} (xs : List Span) → LastEnd ys e → LastEnd (xs ++ ys) e
last_end_after [] a = a
last_end_after (x ∷ xs) a = later_end (last_end_after xs a)

-- The comments after a row with these lines of a literal or folded scalar, or without lines. With such lines, the
-- comments on the line of the scalar's header are before its end, and the others from its end on.
pub data OwnTail (t : List ℕ) (body : List (List ℕ)) (d : Deco) (p : PlacedRow) (own : List CommentValue) (place : ℕ) : Type 0 where
  after_line : body ≡ [] → LineEnd t p.upto place own → LeavesTo p.upto p.leaves → OwnTail t body d p own place
  after_scalar : {near far : List CommentValue} {h start e : ℕ} {z : List ℕ} (b : Bool) → (body ≡ [] → ⊥) → own ≡ near ++ first_noted b far → texts near ≡ d.trails → p.upto ≤ h → LineRest t h start near → start ≤ e
      → p.upto ≤ e → LeavesTo e p.leaves → LastEnd p.leaves e → Blank t e → Broken t e → Rest t e (gap_then d.gap z) → Rest t place z → Chain (CommentRow t) e place far → OwnTail t body d p own place

-- the comments after a row, up to the next line that isn't a comment
pub record EndsRow (t : List ℕ) (body : List (List ℕ)) (d : Deco) (p : PlacedRow) (own : List CommentValue) (place : ℕ) : Type 0 where
  pub ascend : Ascend t p.upto own place
  pub is : texts own ≡ carried_texts d
  pub start : LineStart t place
  pub tail : OwnTail t body d p own place

-- rows, the first of which begins at i, with the comments after them, up to j
pub data RowsIn (t : List ℕ) : List Row → List PlacedRow → List Deco → ℕ → List CommentValue → ℕ → List ℕ → Type 0 where
  last_row : {x : Row} {p : PlacedRow} {ds : List Deco} {i j : ℕ} {own : List CommentValue} {r : List ℕ} → AtRow x i p → EndsRow t x.body (first ds) p own j → Rest t j r
      → RowsIn t (x ∷ []) (p ∷ []) ds i own j r
  row_before : {x y : Row} {xs : List Row} {p : PlacedRow} {ps : List PlacedRow} {ds : List Deco} {i k j : ℕ} {own cs : List CommentValue} {r : List ℕ} → AtRow x i p
      → EndsRow t x.body (first ds) p own k → Rest t k (lines_then (y ∷ xs) (after ds) r) → RowsIn t (y ∷ xs) ps (after ds) (k + y.column) cs j r
      → RowsIn t (x ∷ y ∷ xs) (p ∷ ps) ds i (own ++ cs) j r

-- Rows in sequence.

rows_in_before : {t : List ℕ} {rs : List Row} {ps qs : List PlacedRow} {y : Row} {ys : List Row} {ds : List Deco} {i k j : ℕ} {cs es : List CommentValue} {z r : List ℕ} → RowsIn t rs ps ds i cs k z
    → z ≡ lines_then (y ∷ ys) (past rs ds) r → RowsIn t (y ∷ ys) qs (past rs ds) (k + y.column) es j r → RowsIn t (rs ++ (y ∷ ys)) (ps ++ qs) ds i (cs ++ es) j r
rows_in_before {t} (last_row {j = j} a e w) same b = row_before a e (subst (λ v. Rest t j v) same w) b
rows_in_before {t} {qs = qs} {y = y} {ys = ys} {i = i} {j = j} {es = es} {r = r} (row_before {x = x} {y = z} {xs = xs} {p = p} {ps = ps} {ds = ds} {k = k} {own = own} {cs = cs} {r = s} a e w more) same b =
    let text : lines_then (z ∷ xs) (after ds) s ≡ lines_then ((z ∷ xs) ++ (y ∷ ys)) (after ds) r =
    ap (λ v. lines_then (z ∷ xs) (after ds) v) same ∙ sym (lines_append (z ∷ xs) (y ∷ ys) (after ds) r) in
    subst (λ v. RowsIn t ((x ∷ z ∷ xs) ++ (y ∷ ys)) (p ∷ (ps ++ qs)) ds i v j r) (sym (append_assoc own cs es))
    (row_before a e (subst (λ v. Rest t k v) text w) (rows_in_before more same b))

pub rows_in_append : {t : List ℕ} {rs : List Row} {ps qs : List PlacedRow} {y : Row} {ys : List Row} {ds : List Deco} {i k j : ℕ} {cs es : List CommentValue} {r : List ℕ}
    → RowsIn t rs ps ds i cs k (lines_then (y ∷ ys) (past rs ds) r) → RowsIn t (y ∷ ys) qs (past rs ds) (k + y.column) es j r → RowsIn t (rs ++ (y ∷ ys)) (ps ++ qs) ds i (cs ++ es) j r
rows_in_append a b = rows_in_before a refl b

-- On the line of a sign or key that begins at q.

abbrev pub joined_placed : List ℕ → List Span → ℕ → ℕ → PlacedRow → PlacedRow
joined_placed items leaves column q p = record { items = items ++ p.items; leaves = leaves ++ p.leaves; commented = p.commented; column = column; from = q; upto = p.upto }

joined_size : (text more : List ℕ) (n : ℕ) → length (text ++ (replicate n 32 ++ more)) ≡ length text + n + length more
joined_size text more n =
    let spaces : List ℕ = replicate n 32 in
    let three : length spaces ≡ n = length-replicate n 32 in
    length-append text (spaces ++ more) ∙ (ap (λ z. length text + z) (length-append spaces more ∙ ap (λ z. z + length more) three) ∙ omega arith)

at_joined : {y : Row} {p : PlacedRow} {i : ℕ} (head : Row) (ys : List Row) (n q a : ℕ) (items : List ℕ) (leaves : List Span) → i ≡ q + length head.text + n → Inside q i (a ∷ items) → Inside q i (starts_of leaves)
    → AtRow y i p → (x : Row) (xs : List Row) → joined head n (y ∷ ys) ≡ x ∷ xs → AtRow x q (joined_placed (a ∷ items) leaves head.column q p)
at_joined {y} {p} {i} head ys n q a items leaves e f g at x xs same =
    let here : record {
      column = head.column;
      text = head.text ++ (replicate n 32 ++ y.text);
      starts = head.starts ++ y.starts;
      items = head.items ++ y.items;
      leaves = head.leaves ++ y.leaves;
      key_comment = y.key_comment;
      blank_before = head.blank_before;
      begins = head.begins;
      ending = y.ending;
      body = y.body;
      lines = y.lines;
    } ≡ x = ap (first_row x) same in
    subst (λ z. AtRow z q (joined_placed (a ∷ items) leaves head.column q p)) here (record {
      from = refl;
      order = let o = at.order in omega (arith, e, o);
      size = λ z. let s = at.size z in let l = joined_size head.text y.text n in omega (arith, e, s, l);
      items = inside_join (inside_wider (omega arith) at.order f) (inside_wider (omega (arith, e)) (omega arith) at.items);
      leaves = subst (λ z. Inside q p.upto z) (sym (starts_append leaves p.leaves)) (inside_join (inside_wider (omega arith) at.order g) (inside_wider (omega (arith, e)) (omega arith) at.leaves));
      commented = at.commented;
      bare = λ z. never_bare z;
      column = refl;
    }) where
      first_row : Row → List Row → Row
      first_row other [] = other
      first_row other (r ∷ rs) = r

at_upto : {x : Row} {i : ℕ} {p : PlacedRow} → AtRow x i p → i ≤ p.upto
at_upto at = at.order

ends_joined : {t : List ℕ} {body : List (List ℕ)} {d : Deco} {p : PlacedRow} {own : List CommentValue} {place : ℕ} (m q : ℕ) (items : List ℕ) (leaves : List Span) → LeavesTo p.upto leaves → EndsRow t body d p own place
    → EndsRow t body d (joined_placed items leaves m q p) own place
ends_joined {t} {body} {d} {p} {own} {place} m q items leaves l e = record { ascend = e.ascend; is = e.is; start = e.start; tail = go e.tail } where
  go : OwnTail t body d p own place → OwnTail t body d (joined_placed items leaves m q p) own place
  go (after_line none a b) = after_line none a (leaves_to_join l b)
  go (after_scalar b some are is m rest n w a last blank broken from to rows) =
      after_scalar b some are is m rest n w (leaves_to_join (leaves_to_wider w l) a) (last_end_after leaves last) blank broken from to rows

pub rows_joined : {t : List ℕ} {y : Row} {ys : List Row} {p : PlacedRow} {ps : List PlacedRow} {ds : List Deco} {i j : ℕ} {cs : List CommentValue} {r : List ℕ} (head : Row) (n q a : ℕ) (items : List ℕ) (leaves : List Span)
    → i ≡ q + length head.text + n → Inside q i (a ∷ items) → Inside q i (starts_of leaves) → LeavesTo i leaves → RowsIn t (y ∷ ys) (p ∷ ps) ds i cs j r
    → RowsIn t (joined head n (y ∷ ys)) (joined_placed (a ∷ items) leaves head.column q p ∷ ps) ds q cs j r
rows_joined {y = y} {ys = ys} head n q a items leaves e f g h (last_row at end w) =
    last_row (at_joined head ys n q a items leaves e f g at _ _ refl) (ends_joined head.column q (a ∷ items) leaves (leaves_to_wider (at_upto at) h) end) w
rows_joined {y = y} {ys = ys} head n q a items leaves e f g h (row_before at end w more) =
    row_before (at_joined head ys n q a items leaves e f g at _ _ refl) (ends_joined head.column q (a ∷ items) leaves (leaves_to_wider (at_upto at) h) end) w more
