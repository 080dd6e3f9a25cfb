-- No comment of a text is between the start of a laid-out row and the offset by which its items have begun; and the
-- comment that trails a key is between it and the next row.
use Rattle.std.proofs.Common.{◌≡◌, ◌≢◌, ℕ, ◌<◌, ◌≤◌, true, List, [], ◌∷◌, ◌++◌, map, flat_map, Option, Some, None, refl, sym, ap, ◌∙◌, subst, arith, append_assoc, ◌⊎◌, inl, inr, true≢false}
use Rattle.std.specs.Prelude.{is_some, option_to_list}
use Rattle.yf_comments.specs.Comment.{CommentValue}
use Rattle.yf_comments.proofs.GapLinesLemmas.{texts}
use Rattle.yf_comments.specs.GapLines.{remarks_of}
use Rattle.yf_grammar.proofs.Documents.CommentOrder.{Ascend, no_more, one_more, ascend_order}
use Rattle.yf_events.specs.Event.{EventInText}
use Rattle.yf_stream.specs.ReadingOf.{NotedComments, no_comment, one_comment}
use Rattle.yf_laws.specs.Layouts.RowComments.{carried_texts}
use Rattle.yf_laws.specs.Layouts.Decorated.{Deco, first, after, comments_left, decos_of}
use Rattle.yf_laws.specs.Layouts.Layout.{Source, first_comment, trailing_leaf}
use Rattle.yf_forms.specs.Nodes.Lines.{trimmed}
use Rattle.yf_print.specs.Layouts.Rows.{Row}
use Rattle.yf_laws.proofs.SameReading.CommentsCut.{In, in_first, in_rest, in_after, in_before, Each, each_none, each_more, each_map, each_join, Under, Over}
use Rattle.yf_laws.proofs.RowNodes.PlacedRows.{PlacedRow, RowsIn, last_row, row_before}
use Rattle.yf_print.specs.Layouts.KeptColumns.{Columns}

-- before or after an offset

ascend_over : {t : List ℕ} {i j : ℕ} {cs : List CommentValue} (h : ℕ) → h ≤ i → Ascend t i cs j → Over h cs
ascend_over h l (no_more m) = each_none
ascend_over h l (one_more m s a) = each_more (omega (arith, l, m)) (ascend_over h (omega (arith, l, m)) a)

pub ascend_under : {t : List ℕ} {i j : ℕ} {cs : List CommentValue} → Ascend t i cs j → Under j cs
ascend_under (no_more m) = each_none
ascend_under (one_more m s a) = each_more (let o = ascend_order a in omega (arith, o)) (ascend_under a)

pub under_more : {h k : ℕ} {cs : List CommentValue} → h ≤ k → Under h cs → Under k cs
under_more l a = each_map (λ d i m. omega (arith, l, m)) a

over_less : {h k : ℕ} {cs : List CommentValue} → k ≤ h → Over h cs → Over k cs
over_less l a = each_map (λ d i m. omega (arith, l, m)) a

-- each comment is before the row, or after the offset by which its items have begun
abbrev pub Quiet : List CommentValue → PlacedRow → Type 0
Quiet cs p = Each (λ d. (d.offset < p.from) ⊎ (p.upto ≤ d.offset)) cs

pub data AllQuiet (cs : List CommentValue) : List PlacedRow → Type 0 where
  quiet_none : AllQuiet cs []
  quiet_row : {p : PlacedRow} {ps : List PlacedRow} → Quiet cs p → AllQuiet cs ps → AllQuiet cs (p ∷ ps)

-- the comment that trails the row's key is before the next row
pub data TrailsTo (cs : List CommentValue) (p : PlacedRow) : List PlacedRow → Type 0 where
  trails_nothing : TrailsTo cs p []
  trails_to : {n : PlacedRow} {ns : List PlacedRow} (d : CommentValue) → In d cs → p.upto ≤ d.offset → d.offset < n.from → TrailsTo cs p (n ∷ ns)

pub data Linked (cs : List CommentValue) : List PlacedRow → Type 0 where
  linked_none : Linked cs []
  linked_row : {p : PlacedRow} {ps : List PlacedRow} → (p.commented ≡ true → TrailsTo cs p ps) → Linked cs ps → Linked cs (p ∷ ps)

-- Rows in a text.

rows_over : {t : List ℕ} {xs : List Row} {ps : List PlacedRow} {ds : List Deco} {i j : ℕ} {cs : List CommentValue} {r : List ℕ} (h : ℕ) → h ≤ i → RowsIn t xs ps ds i cs j r → Over h cs
rows_over h l (last_row at e w) = let o = at.order in ascend_over h (omega (arith, l, o)) e.ascend
rows_over h l (row_before at e w more) =
    let o = at.order in
    let k = ascend_order e.ascend in
    each_join (ascend_over h (omega (arith, l, o)) e.ascend) (rows_over h (omega (arith, l, o, k)) more)

rows_order : {t : List ℕ} {xs : List Row} {ps : List PlacedRow} {ds : List Deco} {i j : ℕ} {cs : List CommentValue} {r : List ℕ} → RowsIn t xs ps ds i cs j r → i ≤ j
rows_order (last_row at e w) = let o = at.order in let k = ascend_order e.ascend in omega (arith, o, k)
rows_order (row_before at e w more) = let o = at.order in let k = ascend_order e.ascend in let m = rows_order more in omega (arith, o, k, m)

quiet_of : {before own rest : List CommentValue} (p : PlacedRow) → Under p.from before → Over p.upto own → Over p.upto rest → Quiet (before ++ (own ++ rest)) p
quiet_of p a b c = each_join (each_map (λ d i m. inl m) a) (each_join (each_map (λ d i m. inr m) b) (each_map (λ d i m. inr m) c))

-- with the comments before them, and those after them
pub rows_quiet : {t : List ℕ} {xs : List Row} {ps : List PlacedRow} {ds : List Deco} {i j : ℕ} {cs : List CommentValue} {r : List ℕ} (before rest : List CommentValue) → Under i before → Over j rest
    → RowsIn t xs ps ds i cs j r → AllQuiet (before ++ (cs ++ rest)) ps
rows_quiet before rest a b (last_row {p = p} at e w) =
    let k = ascend_order e.ascend in
    quiet_row (quiet_of p (subst (λ h. Under h before) (sym at.from) a) (ascend_over p.upto (omega arith) e.ascend) (over_less k b)) quiet_none
rows_quiet {i = i} {j = j} before rest a b (row_before {p = p} {ps = ps} {k = k} {own = own} {cs = cs} at e w more) =
    let o = at.order in
    let n = ascend_order e.ascend in
    let m = rows_order more in
    let inner : AllQuiet ((before ++ own) ++ (cs ++ rest)) ps = rows_quiet (before ++ own) rest (each_join (under_more (omega (arith, o, n)) a) (under_more (omega arith) (ascend_under e.ascend))) b more in
    let same : (before ++ own) ++ (cs ++ rest) ≡ before ++ ((own ++ cs) ++ rest) =
    append_assoc before own (cs ++ rest) ∙ ap (λ z. before ++ z) (sym (append_assoc own cs rest)) in
    subst (λ z. AllQuiet z (p ∷ ps)) same (quiet_row
    (subst (λ z. Quiet z p) (sym (append_assoc before own (cs ++ rest))) (quiet_of p (subst (λ h. Under h before) (sym at.from) a) (ascend_over p.upto (omega arith) e.ascend)
    (each_join (over_less (omega (arith, n)) (rows_over k (omega arith) more)) (over_less (omega (arith, n, m)) b)))) inner)

-- a row with a comment that trails its key carries a comment
pub data Carries : List Row → List Deco → Type 0 where
  carries_none : {ds : List Deco} → Carries [] ds
  carries_row : {x : Row} {xs : List Row} {ds : List Deco} → (is_some x.key_comment ≡ true → (first ds).trails ≢ []) → Carries xs (after ds) → Carries (x ∷ xs) ds

pub decos_carry : (g : Columns) (c : Source) (comments : List CommentValue) (rows : List Row) → Carries rows (decos_of g c comments rows)
decos_carry g c comments [] = carries_none
decos_carry g c comments (row ∷ rows) = carries_row (λ e f. go row.key_comment refl e f) (decos_carry g c (comments_left row comments) rows) where
  some_text : {x : List ℕ} {xs : List (List ℕ)} → x ∷ xs ≡ [] → ⊥
  some_text e = absurd cc

  go : (o : Option CommentValue) → row.key_comment ≡ o → is_some row.key_comment ≡ true → (first (decos_of g c comments (row ∷ rows))).trails ≡ [] → ⊥
  go None e f g = absurd (true≢false (sym f ∙ ap is_some e))
  go (Some d) e f g = some_text (ap (λ z. map (λ (v : CommentValue). trimmed v.text) (option_to_list z ++ flat_map (λ leaf. trailing_leaf c leaf (first_comment c leaf)) row.leaves)) (sym e) ∙ g)

data FirstAt (i : ℕ) : List PlacedRow → Type 0 where
  first_at : {n : PlacedRow} {ns : List PlacedRow} → n.from ≡ i → FirstAt i (n ∷ ns)

rows_first : {t : List ℕ} {xs : List Row} {ps : List PlacedRow} {ds : List Deco} {i j : ℕ} {cs : List CommentValue} {r : List ℕ} → RowsIn t xs ps ds i cs j r → FirstAt i ps
rows_first (last_row at e w) = first_at at.from
rows_first (row_before at e w more) = first_at at.from

in_middle : {d : CommentValue} {own : List CommentValue} (before cs rest : List CommentValue) → In d own → In d (before ++ ((own ++ cs) ++ rest))
in_middle before cs rest a = in_after before (in_before rest (in_before cs a))

trail_found : {t : List ℕ} {p : PlacedRow} {ps : List PlacedRow} {own : List CommentValue} {k i : ℕ} (ds : List Deco) (before cs rest : List CommentValue) → (first ds).trails ≢ [] → Ascend t p.upto own k
    → texts own ≡ carried_texts (first ds) → k ≤ i → FirstAt i ps → TrailsTo (before ++ ((own ++ cs) ++ rest)) p ps
trail_found ds before cs rest some (no_more m) is l f = absurd (empty (first ds).trails some is) where
  empty : (xs : List (List ℕ)) → xs ≢ [] → [] ≡ xs ++ remarks_of (first ds).gap → ⊥
  empty [] n e = n refl
  empty (x ∷ xs) n e = absurd cc
trail_found ds before cs rest some (one_more {c = c} m s a) is l (first_at {n = n} e) =
    let o = ascend_order a in trails_to c (in_middle before cs rest in_first) m (omega (arith, o, l, e))

pub rows_linked : {t : List ℕ} {xs : List Row} {ps : List PlacedRow} {ds : List Deco} {i j : ℕ} {cs : List CommentValue} {r : List ℕ} (before rest : List CommentValue) → Carries xs ds → RowsIn t xs ps ds i cs j r
    → Linked (before ++ (cs ++ rest)) ps
rows_linked before rest carries_none a = elim a [ ]
rows_linked before rest (carries_row c more) (last_row at e w) = linked_row (λ z. trails_nothing) linked_none
rows_linked before rest (carries_row c others) (row_before {x = x} {p = p} {ps = ps} {ds = ds} {k = k} {own = own} {cs = cs} at e w more) =
    let inner : Linked ((before ++ own) ++ (cs ++ rest)) ps = rows_linked (before ++ own) rest others more in
    let same : (before ++ own) ++ (cs ++ rest) ≡ before ++ ((own ++ cs) ++ rest) =
    append_assoc before own (cs ++ rest) ∙ ap (λ z. before ++ z) (sym (append_assoc own cs rest)) in
    linked_row (λ z. trail_found ds before cs rest (c (at.commented ∙ z)) e.ascend e.is (omega arith) (rows_first more)) (subst (λ z. Linked z ps) same inner)

-- Parts of rows.

pub quiet_left : {cs : List CommentValue} (xs ys : List PlacedRow) → AllQuiet cs (xs ++ ys) → AllQuiet cs xs
quiet_left [] ys a = quiet_none
quiet_left (x ∷ xs) ys (quiet_row q a) = quiet_row q (quiet_left xs ys a)

pub quiet_right : {cs : List CommentValue} (xs ys : List PlacedRow) → AllQuiet cs (xs ++ ys) → AllQuiet cs ys
quiet_right [] ys a = a
quiet_right (x ∷ xs) ys (quiet_row q a) = quiet_right xs ys a

trails_left : {cs : List CommentValue} {p : PlacedRow} (xs ys : List PlacedRow) → TrailsTo cs p (xs ++ ys) → TrailsTo cs p xs
trails_left [] ys a = trails_nothing
trails_left (x ∷ xs) ys (trails_to d i l m) = trails_to d i l m

pub linked_left : {cs : List CommentValue} (xs ys : List PlacedRow) → Linked cs (xs ++ ys) → Linked cs xs
linked_left [] ys a = linked_none
linked_left (x ∷ xs) ys (linked_row f a) = linked_row (λ e. trails_left xs ys (f e)) (linked_left xs ys a)

pub linked_right : {cs : List CommentValue} (xs ys : List PlacedRow) → Linked cs (xs ++ ys) → Linked cs ys
linked_right [] ys a = a
linked_right (x ∷ xs) ys (linked_row f a) = linked_right xs ys a

-- Notes on comments don't move them.

quiet_noted : {t : List ℕ} {es : List EventInText} {x y : List CommentValue} (p : PlacedRow) → NotedComments t es x y → Quiet x p → Quiet y p
quiet_noted p no_comment each_none = each_none
quiet_noted p (one_comment m a) (each_more e b) = each_more e (quiet_noted p a b)

pub quiet_offsets : {t : List ℕ} {es : List EventInText} {x y : List CommentValue} {ps : List PlacedRow} → NotedComments t es x y → AllQuiet x ps → AllQuiet y ps
quiet_offsets n quiet_none = quiet_none
quiet_offsets n (quiet_row {p = p} q a) = quiet_row (quiet_noted p n q) (quiet_offsets n a)

record InNoted (d : CommentValue) (y : List CommentValue) : Type 0 where
  other : CommentValue
  is_in : In other y
  same : other.offset ≡ d.offset

in_noted : {t : List ℕ} {es : List EventInText} {x y : List CommentValue} {d : CommentValue} → NotedComments t es x y → In d x → InNoted d y
in_noted no_comment i = elim i [ ]
in_noted (one_comment m a) in_first = record { other = _; is_in = in_first; same = refl }
in_noted (one_comment m a) (in_rest i) = let w = in_noted a i in record { other = w.other; is_in = in_rest w.is_in; same = w.same }

trails_offsets : {t : List ℕ} {es : List EventInText} {x y : List CommentValue} {p : PlacedRow} {ps : List PlacedRow} → NotedComments t es x y → TrailsTo x p ps → TrailsTo y p ps
trails_offsets n trails_nothing = trails_nothing
trails_offsets n (trails_to d i l m) = let w = in_noted n i in let e = w.same in trails_to w.other w.is_in (omega (arith, l, e)) (omega (arith, m, e))

pub linked_offsets : {t : List ℕ} {es : List EventInText} {x y : List CommentValue} {ps : List PlacedRow} → NotedComments t es x y → Linked x ps → Linked y ps
linked_offsets n linked_none = linked_none
linked_offsets n (linked_row f a) = linked_row (λ e. trails_offsets n (f e)) (linked_offsets n a)
