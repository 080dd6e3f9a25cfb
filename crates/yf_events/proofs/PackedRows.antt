-- Rows and their table: a table that has grown changes nothing in the rows before it.
use Rattle.std.proofs.Common.{◌≡◌, ℕ, zero, suc, ◌+◌, ◌<◌, ◌≤◌, Bool, true, false, List, [], ◌∷◌, ◌++◌, Option, Some, None, length, map, take, drop, get_or, refl, sym, ap, ◌∙◌, subst, arith, append-nil, length-append}
use Rattle.std.proofs.Math.ListN.{set}
use Rattle.std.specs.Prelude.{slice_get}
use Rattle.std.proofs.lemmas.Option.{slice_get_within}
use Rattle.std.proofs.lemmas.List.{map-append, take-map, drop-map, length-map}
use Rattle.yf_events.specs.BareScalar.{bare_scalar}
use Rattle.yf_events.specs.Event.{EventValue, EventInText, scalar_node, with_entry}
use Rattle.yf_events.specs.Edit.{edited, span_to, with_colon}
use Rattle.yf_events.specs.Packed.{TableGrown, InTable, kept_none, kept_at, Lacks, RowOf, RowsFit, entry_at, folded_in, keyed, more_at, moved_on, props_in, row_value, row_with, shape_value, shifted, span_at, text_in, text_or}
use Rattle.yf_events.specs.Tags.{written_tag}
use Rattle.yf_props.specs.Props.{PropsValue, TagValue, no_props}
use Rattle.yf_events.specs.declared.event.Entry.{Entry}
use Rattle.yf_events.specs.declared.event.ScalarStyle.{ScalarStyle}
use Rattle.yf_events.specs.declared.event.Span.{Span}
use Rattle.yf_events.specs.declared.packed.Begins.{Begins}
use Rattle.yf_events.specs.declared.packed.Begins.TheVariants.{Nothing, Item, ItemAfterBlank, Keyed, KeyedAfterBlank}
use Rattle.yf_events.specs.declared.packed.More.{More}
use Rattle.yf_events.specs.declared.packed.PackedEvent.{PackedEvent}

got_before : {X : Type 0} (xs ys : List X) (k : ℕ) → k < length xs → slice_get (xs ++ ys) k ≡ slice_get xs k
got_before [] ys k l = absurd (omega arith)
got_before (x ∷ xs) ys zero l = refl
got_before (x ∷ xs) ys (suc k) l = got_before xs ys k (omega arith)

got_after : {X : Type 0} (xs ys : List X) (k n : ℕ) → n ≡ k + length xs → slice_get (xs ++ ys) n ≡ slice_get ys k
got_after [] ys k n e = ap (slice_get ys) (omega (arith, e))
got_after (x ∷ xs) ys k zero e = absurd (omega (arith, e))
got_after (x ∷ xs) ys k (suc n) e = got_after xs ys k n (omega (arith, e))

more_before : (old added : List More) (k : ℕ) → k ≤ length old → more_at (old ++ added) k ≡ more_at old k
more_before old added zero l = refl
more_before old added (suc k) l = got_before old added k (omega arith)

more_after : (old added : List More) (k : ℕ) → more_at (old ++ added) (moved_on (length old) k) ≡ more_at added k
more_after old added zero = refl
more_after old added (suc k) =
    let e : suc k + length old ≡ suc (k + length old) = omega arith in
    ap (more_at (old ++ added)) e ∙ got_after old added k (k + length old) refl

-- a table that has grown

grown_more : (old new : List More) → TableGrown old new → (k : ℕ) → k ≤ length old → more_at new k ≡ more_at old k
grown_more old new g k l = ap (λ w. more_at w k) g.is ∙ more_before old g.added k l

grown_longer : (old new : List More) → TableGrown old new → length old ≤ length new
grown_longer old new g = omega (arith, ap length g.is, length-append old g.added)

pub grown_fits : (old new : List More) (rows : List PackedEvent) → TableGrown old new → RowsFit old rows → RowsFit new rows
grown_fits old new [] g f = omega arith
grown_fits old new (r ∷ rows) g f = (omega (arith, grown_longer old new g, f.0), grown_fits old new rows g f.1)

pub grown_rows : (old new : List More) (rows : List PackedEvent) → TableGrown old new → RowsFit old rows → map (row_value new) rows ≡ map (row_value old) rows
grown_rows old new [] g f = refl
grown_rows old new (r ∷ rows) g f =
    ap (λ m. row_with r m ∷ map (row_value new) rows) (grown_more old new g r.more f.0)
    ∙ ap (λ w. row_value old r ∷ w) (grown_rows old new rows g f.1)

pub grown_seen : (old new : List More) (rows : List PackedEvent) (vs : List EventInText) → TableGrown old new → RowsFit old rows
    → map (row_value old) rows ≡ vs → map (row_value new) rows ≡ vs
grown_seen old new rows vs g f seen = grown_rows old new rows g f ∙ seen

-- a table that stays
pub same_table : (more : List More) → TableGrown more more
same_table more = record { added = []; is = sym (append-nil more) }

-- parts of rows that fit

pub fits_append : (more : List More) (xs ys : List PackedEvent) → RowsFit more xs → RowsFit more ys → RowsFit more (xs ++ ys)
fits_append more [] ys f g = g
fits_append more (x ∷ xs) ys f g = (f.0, fits_append more xs ys f.1 g)

pub fits_take : (more : List More) (n : ℕ) (xs : List PackedEvent) → RowsFit more xs → RowsFit more (take n xs)
fits_take more zero xs f = omega arith
fits_take more (suc n) [] f = f
fits_take more (suc n) (x ∷ xs) f = (f.0, fits_take more n xs f.1)

pub fits_drop : (more : List More) (n : ℕ) (xs : List PackedEvent) → RowsFit more xs → RowsFit more (drop n xs)
fits_drop more zero xs f = f
fits_drop more (suc n) [] f = f
fits_drop more (suc n) (x ∷ xs) f = fits_drop more n xs f.1

pub fits_set : (more : List More) (xs : List PackedEvent) (i : ℕ) (r new : PackedEvent) → i < length xs → r ≡ get_or xs i r → new.more ≡ r.more
    → RowsFit more xs → RowsFit more (set xs i new)
fits_set more [] i r new l is same f = absurd (omega arith)
fits_set more (x ∷ xs) zero r new l is same f = (subst (λ k. k ≤ length more) (sym (same ∙ ap (λ w. w.more) is)) f.0, f.1)
fits_set more (x ∷ xs) (suc i) r new l is same f = (f.0, fits_set more xs i r new (omega arith) is same f.1)

-- unchanged rows, and one more row

pub same_fits : (old new : List More) (rows after : List PackedEvent) → after ≡ rows → TableGrown old new → RowsFit old rows → RowsFit new after
same_fits old new rows after is g f = subst (RowsFit new) (sym is) (grown_fits old new rows g f)

pub same_seen : (old new : List More) (rows after : List PackedEvent) (vs : List EventInText) → after ≡ rows → TableGrown old new → RowsFit old rows
    → map (row_value old) rows ≡ vs → map (row_value new) after ≡ vs
same_seen old new rows after vs is g f seen = ap (map (row_value new)) is ∙ grown_seen old new rows vs g f seen

pub push_fits : (old new : List More) (rows after : List PackedEvent) (r : PackedEvent) (v : EventInText) → after ≡ rows ++ r ∷ [] → TableGrown old new → RowsFit old rows
    → RowOf new r v → RowsFit new after
push_fits old new rows after r v is g f row =
    subst (RowsFit new) (sym is) (fits_append new rows (r ∷ []) (grown_fits old new rows g f) (row.fits, omega arith))

pub push_seen : (old new : List More) (rows after : List PackedEvent) (r : PackedEvent) (v : EventInText) (vs : List EventInText) → after ≡ rows ++ r ∷ [] → TableGrown old new
    → RowsFit old rows → RowOf new r v → map (row_value old) rows ≡ vs → map (row_value new) after ≡ vs ++ v ∷ []
push_seen old new rows after r v vs is g f row seen =
    ap (map (row_value new)) is
    ∙ map-append (row_value new) rows (r ∷ [])
    ∙ ap (λ w. w ++ row_value new r ∷ []) (grown_seen old new rows vs g f seen)
    ∙ ap (λ w. vs ++ w ∷ []) row.is

pub insert_fits : (old new : List More) (rows after : List PackedEvent) (i : ℕ) (r : PackedEvent) (v : EventInText) → after ≡ take i rows ++ r ∷ drop i rows → TableGrown old new
    → RowsFit old rows → RowOf new r v → RowsFit new after
insert_fits old new rows after i r v is g f row =
    let all : RowsFit new rows = grown_fits old new rows g f in
    subst (RowsFit new) (sym is) (fits_append new (take i rows) (r ∷ drop i rows) (fits_take new i rows all) (row.fits, fits_drop new i rows all))

pub insert_seen : (old new : List More) (rows after : List PackedEvent) (i : ℕ) (r : PackedEvent) (v : EventInText) (vs : List EventInText) → after ≡ take i rows ++ r ∷ drop i rows
    → TableGrown old new → RowsFit old rows → RowOf new r v → map (row_value old) rows ≡ vs → map (row_value new) after ≡ take i vs ++ v ∷ drop i vs
insert_seen old new rows after i r v vs is g f row seen =
    ap (map (row_value new)) is
    ∙ map-append (row_value new) (take i rows) (r ∷ drop i rows)
    ∙ ap (λ w. w ++ row_value new r ∷ map (row_value new) (drop i rows)) (sym (take-map (row_value new) i rows))
    ∙ ap (λ w. take i (map (row_value new) rows) ++ row_value new r ∷ w) (sym (drop-map (row_value new) i rows))
    ∙ ap (λ w. take i w ++ row_value new r ∷ drop i w) (grown_seen old new rows vs g f seen)
    ∙ ap (λ w. take i vs ++ w ∷ drop i vs) row.is

pub truncate_fits : (more : List More) (rows after : List PackedEvent) (n : ℕ) → after ≡ take n rows → RowsFit more rows → RowsFit more after
truncate_fits more rows after n is f = subst (RowsFit more) (sym is) (fits_take more n rows f)

pub truncate_seen : (more : List More) (rows after : List PackedEvent) (vs : List EventInText) (n : ℕ) → after ≡ take n rows → map (row_value more) rows ≡ vs
    → map (row_value more) after ≡ take n vs
truncate_seen more rows after vs n is seen = ap (map (row_value more)) is ∙ sym (take-map (row_value more) n rows) ∙ ap (take n) seen

-- a row that is changed

edited_set : (more : List More) (f : EventInText → EventInText) (rows : List PackedEvent) (i : ℕ) (r new : PackedEvent) → i < length rows → r ≡ get_or rows i r
    → row_value more new ≡ f (row_value more r) → map (row_value more) (set rows i new) ≡ edited f i (map (row_value more) rows)
edited_set more f [] i r new l is e = absurd (omega arith)
edited_set more f (x ∷ rows) zero r new l is e =
    ap (λ w. w ∷ map (row_value more) rows) (e ∙ ap (λ w. f (row_value more w)) is)
edited_set more f (x ∷ rows) (suc i) r new l is e = ap (λ w. row_value more x ∷ w) (edited_set more f rows i r new (omega arith) is e)

pub edited_seen : (more : List More) (f : EventInText → EventInText) (rows : List PackedEvent) (vs : List EventInText) (i : ℕ) (r new : PackedEvent) → i < length rows → r ≡ get_or rows i r
    → row_value more new ≡ f (row_value more r) → map (row_value more) rows ≡ vs → map (row_value more) (set rows i new) ≡ edited f i vs
edited_seen more f rows vs i r new l is e seen = edited_set more f rows i r new l is e ∙ ap (edited f i) seen

pub edited_past : (f : EventInText → EventInText) (vs : List EventInText) (i : ℕ) → length vs ≤ i → edited f i vs ≡ vs
edited_past f [] i l = refl
edited_past f (v ∷ vs) zero l = absurd (omega arith)
edited_past f (v ∷ vs) (suc i) l = ap (λ w. v ∷ w) (edited_past f vs i (omega arith))

pub past_seen : (more : List More) (f : EventInText → EventInText) (rows : List PackedEvent) (vs : List EventInText) (i : ℕ) → length rows ≤ i
    → map (row_value more) rows ≡ vs → vs ≡ edited f i vs
past_seen more f rows vs i l seen = sym (edited_past f vs i (omega (arith, ap length seen, length-map rows (row_value more), l)))

pub length-edited : (f : EventInText → EventInText) (i : ℕ) (vs : List EventInText) → length (edited f i vs) ≡ length vs
length-edited f i [] = refl
length-edited f zero (v ∷ vs) = refl
length-edited f (suc i) (v ∷ vs) = ap suc (length-edited f i vs)

pub with_entry_is : (i : ℕ) (vs : List EventInText) (entry : Entry) → with_entry vs i entry ≡ edited (λ e. record e { entry = Some entry }) i vs
with_entry_is i [] entry = refl
with_entry_is zero (v ∷ vs) entry = refl
with_entry_is (suc i) (v ∷ vs) entry = ap (λ w. v ∷ w) (with_entry_is i vs entry)

-- the row of an event that is added

-- a row, by its parts in the table
abbrev row_from : PackedEvent → PropsValue → List ℕ → Option ℕ → List (List ℕ) → EventInText
row_from r props text tag_offset folded =
    record { event = shape_value r.shape props text; span = span_at r.placed r.start r.end; tag_offset = tag_offset; entry = entry_at r.begins r.entry r.colon; folded = folded }

lacking : (r : PackedEvent) (m : More) → Lacks m → row_with r None ≡ row_with r (Some m)
lacking r m l =
    ap (λ p. row_from r p (text_in None r.text.now) None []) (sym l.props)
    ∙ ap (λ t. row_from r (props_in (Some m)) (text_or r.text.now t) None []) (sym l.text)
    ∙ ap (λ o. row_from r (props_in (Some m)) (text_in (Some m) r.text.now) o []) (sym l.tag_offset)
    ∙ ap (λ w. row_from r (props_in (Some m)) (text_in (Some m) r.text.now) m.tag_offset w) (sym l.folded)

kept_more : (more : List More) (k : ℕ) (m : More) → InTable more k m → (k ≤ length more) × ((r : PackedEvent) → r.more ≡ k → row_value more r ≡ row_with r (Some m))
kept_more more zero m (kept_none lacks) = (omega arith, λ r is. ap (λ k. row_with r (more_at more k)) is ∙ lacking r m lacks)
kept_more more (suc k) m (kept_at at) =
    (omega (arith, slice_get_within more k m at), λ r is. ap (λ k. row_with r (more_at more k)) is ∙ ap (row_with r) at)

pub made : (more : List More) (r : PackedEvent) (m : More) (v : EventInText) → InTable more r.more m → row_with r (Some m) ≡ v → RowOf more r v
made more r m v kept is =
    let k = kept_more more r.more m kept in
    record { fits = k.0; is = k.1 r refl ∙ is }

-- the rows of another list, after those of a list with this table

moved_fit : (old added : List More) (k : ℕ) → k ≤ length added → moved_on (length old) k ≤ length (old ++ added)
moved_fit old added zero l = omega arith
moved_fit old added (suc k) l = omega (arith, length-append old added)

pub moved_fits : (old added : List More) (rows : List PackedEvent) → RowsFit added rows → RowsFit (old ++ added) (map (shifted (length old)) rows)
moved_fits old added [] f = omega arith
moved_fits old added (r ∷ rows) f = (moved_fit old added r.more f.0, moved_fits old added rows f.1)

pub moved_rows : (old added : List More) (rows : List PackedEvent) → map (row_value (old ++ added)) (map (shifted (length old)) rows) ≡ map (row_value added) rows
moved_rows old added [] = refl
moved_rows old added (r ∷ rows) =
    ap (λ m. row_with r m ∷ map (row_value (old ++ added)) (map (shifted (length old)) rows)) (more_after old added r.more)
    ∙ ap (λ w. row_value added r ∷ w) (moved_rows old added rows)

-- one part of the event at an index

part_at : {X : Type 0} (part : EventInText → X) (more : List More) (rows : List PackedEvent) (i : ℕ) (r : PackedEvent) → i < length rows → r ≡ get_or rows i r
    → slice_get (map part (map (row_value more) rows)) i ≡ Some (part (row_value more r))
part_at part more [] i r l is = absurd (omega arith)
part_at part more (x ∷ rows) zero r l is = ap (λ w. Some (part (row_value more w))) (sym is)
part_at part more (x ∷ rows) (suc i) r l is = part_at part more rows i r (omega arith) is

pub seen_at : {X : Type 0} (part : EventInText → X) (more : List More) (rows : List PackedEvent) (vs : List EventInText) (i : ℕ) (r : PackedEvent) → i < length vs → r ≡ get_or rows i r
    → map (row_value more) rows ≡ vs → slice_get (map part vs) i ≡ Some (part (row_value more r))
seen_at part more rows vs i r l is seen =
    ap (λ w. slice_get (map part w) i) (sym seen) ∙ part_at part more rows i r (omega (arith, ap length seen, length-map rows (row_value more), l)) is

-- the parts that were put into the table

pub got_last : {X : Type 0} (xs : List X) (x : X) → slice_get (xs ++ x ∷ []) (length xs) ≡ Some x
got_last [] x = refl
got_last (y ∷ xs) x = got_last xs x

pub stored : (old new : List More) (m : More) (n : ℕ) → new ≡ old ++ m ∷ [] → n ≡ length new → InTable new n m
stored old new m n is len =
    let e : suc (length old) ≡ n = omega (arith, ap length is, length-append old (m ∷ [])) in
    subst (λ k. InTable new k m) e (kept_at (ap (λ w. slice_get w (length old)) is ∙ got_last old m))

pub not_stored : (more : List More) (m : More) → Lacks m → InTable more 0 m
not_stored more m lacks = kept_none lacks

pub moved : (by k n : ℕ) → (k ≡ 0 → ⊥) → n ≡ k + by → n ≡ moved_on by k
moved by zero n h e = absurd (h refl)
moved by (suc k) n h e = e

pub event_seen : (more lent : List More) (rows : List PackedEvent) (vs : List EventInText) (i : ℕ) (r : PackedEvent) (m : Option More) (e : EventValue) → i < length vs
    → r ≡ get_or rows i r → map (row_value more) rows ≡ vs → lent ≡ more → m ≡ more_at lent r.more → e ≡ shape_value r.shape (props_in m) (text_in m r.text.now)
    → slice_get (map (λ w. w.event) vs) i ≡ Some e
event_seen more lent rows vs i r m e l is seen same at event =
    seen_at (λ w. w.event) more rows vs i r l is seen
    ∙ ap Some (sym (event ∙ ap (λ w. shape_value r.shape (props_in w) (text_in w r.text.now)) (at ∙ ap (λ w. more_at w r.more) same)))

-- the event of a row that has nothing in the table
pub alone_seen : (more : List More) (rows : List PackedEvent) (vs : List EventInText) (i : ℕ) (r : PackedEvent) → i < length vs → r ≡ get_or rows i r
    → map (row_value more) rows ≡ vs → r.more ≡ 0 → slice_get (map (λ w. w.event) vs) i ≡ Some (shape_value r.shape no_props r.text.now)
alone_seen more rows vs i r l is seen alone =
    seen_at (λ w. w.event) more rows vs i r l is seen
    ∙ ap (λ n. Some (shape_value r.shape (props_in (more_at more n)) (text_in (more_at more n) r.text.now))) alone

pub tag_seen : (more lent : List More) (rows : List PackedEvent) (vs : List EventInText) (i : ℕ) (r : PackedEvent) (m : Option More) (tag : Option TagValue) → i < length vs
    → r ≡ get_or rows i r → map (row_value more) rows ≡ vs → lent ≡ more → m ≡ more_at lent r.more → tag ≡ written_tag (shape_value r.shape (props_in m) (text_in m r.text.now))
    → slice_get (map (λ w. written_tag w.event) vs) i ≡ Some tag
tag_seen more lent rows vs i r m tag l is seen same at written =
    seen_at (λ w. written_tag w.event) more rows vs i r l is seen
    ∙ ap Some (sym (written ∙ ap (λ w. written_tag (shape_value r.shape (props_in w) (text_in w r.text.now))) (at ∙ ap (λ w. more_at w r.more) same)))

pub folded_seen : (more lent : List More) (rows : List PackedEvent) (vs : List EventInText) (i : ℕ) (r : PackedEvent) (m : Option More) (lines : List (List ℕ)) → i < length vs
    → r ≡ get_or rows i r → map (row_value more) rows ≡ vs → lent ≡ more → m ≡ more_at lent r.more → lines ≡ folded_in m
    → slice_get (map (λ w. w.folded) vs) i ≡ Some lines
folded_seen more lent rows vs i r m lines l is seen same at folded =
    seen_at (λ w. w.folded) more rows vs i r l is seen ∙ ap Some (sym (folded ∙ ap folded_in (at ∙ ap (λ w. more_at w r.more) same)))

-- a `:`, an end and an entry of a row

pub keyed_is : (b : Begins) (start colon k : ℕ) → entry_at (keyed b) start k ≡ with_colon k (entry_at b start colon)
keyed_is Nothing start colon k = refl
keyed_is Item start colon k = refl
keyed_is ItemAfterBlank start colon k = refl
keyed_is Keyed start colon k = refl
keyed_is KeyedAfterBlank start colon k = refl

pub ended_is : (b : Bool) (start end k : ℕ) → span_at b start k ≡ span_to k (span_at b start end)
ended_is false start end k = refl
ended_is true start end k = refl

-- all rows of another list

pub moved_by : (others moved : List PackedEvent) (by n : ℕ) → moved ≡ map (shifted by) others → by ≡ n → moved ≡ map (shifted n) others
moved_by others moved by n m e = m ∙ ap (λ k. map (shifted k) others) e

pub append_fits : (old added table : List More) (rows others moved after : List PackedEvent) → table ≡ old ++ added → moved ≡ map (shifted (length old)) others
    → after ≡ rows ++ moved → RowsFit old rows → RowsFit added others → RowsFit table after
append_fits old added table rows others moved after t m is f g =
    let grown : TableGrown old table = record { added = added; is = t } in
    let fits : RowsFit table moved = subst (RowsFit table) (sym m) (subst (λ w. RowsFit w (map (shifted (length old)) others)) (sym t) (moved_fits old added others g)) in
    subst (RowsFit table) (sym is) (fits_append table rows moved (grown_fits old table rows grown f) fits)

pub append_seen : (old added table : List More) (rows others moved after : List PackedEvent) (vs ws : List EventInText) → table ≡ old ++ added
    → moved ≡ map (shifted (length old)) others → after ≡ rows ++ moved → RowsFit old rows → map (row_value old) rows ≡ vs → map (row_value added) others ≡ ws
    → map (row_value table) after ≡ vs ++ ws
append_seen old added table rows others moved after vs ws t m is f seen other =
    let grown : TableGrown old table = record { added = added; is = t } in
    let second : map (row_value table) moved ≡ ws = ap (map (row_value table)) m ∙ ap (λ w. map (row_value w) (map (shifted (length old)) others)) t ∙ moved_rows old added others ∙ other in
    ap (map (row_value table)) is
    ∙ map-append (row_value table) rows moved
    ∙ ap (λ w. w ++ map (row_value table) moved) (grown_seen old table rows vs grown f seen)
    ∙ ap (λ w. vs ++ w) second

pub rows_long : (more : List More) (rows : List PackedEvent) (vs : List EventInText) (i : ℕ) → map (row_value more) rows ≡ vs → i < length vs → i < length rows
rows_long more rows vs i seen l = omega (arith, ap length seen, length-map rows (row_value more), l)

abbrev placed : EventValue → Option Span → Option ℕ → Option Entry → List (List ℕ) → EventInText
placed event span tag_offset entry folded = record { event = event; span = span; tag_offset = tag_offset; entry = entry; folded = folded }

pub placed_is : (event event' : EventValue) (span span' : Option Span) (entry entry' : Option Entry) (tag_offset : Option ℕ) (folded : List (List ℕ))
    → event ≡ event' → span ≡ span' → entry ≡ entry'
    → placed event span tag_offset entry folded ≡ placed event' span' tag_offset entry' folded
placed_is event event' span span' entry entry' tag_offset folded a b c =
    ap (λ w. placed w span tag_offset entry folded) a ∙ ap (λ w. placed event' w tag_offset entry folded) b ∙ ap (λ w. placed event' span' tag_offset w folded) c

pub scalar_made : (style : ScalarStyle) (text : List ℕ) (a b start end : ℕ) (entry entry' : Option Entry) → a ≡ start → b ≡ end → entry ≡ entry'
    → placed (scalar_node no_props style text) (span_at true a b) None entry [] ≡ bare_scalar style text start end entry'
scalar_made style text a b start end entry entry' p q e =
    placed_is _ _ _ _ _ _ None [] refl (ap (λ w. span_at true w b) p ∙ ap (λ w. span_at true start w) q) e
