-- A row that gets another form, and its new entry of the table.
use Rattle.std.proofs.Common.{◌≡◌, ℕ, zero, suc, ◌<◌, ◌≤◌, Bool, true, false, List, [], ◌∷◌, Option, Some, None, length, map, get_or, refl, sym, ap, ◌∙◌, ◌++◌, ◌==◌, slice_get, length-append, subst, arith}
use Rattle.std.proofs.Math.ListN.{set}
use Rattle.std.proofs.lemmas.Bool.{eqb-true, false≢true}
use Rattle.std.proofs.lemmas.List.{length-map}
use Rattle.std.specs.Borrow.{Bor}
use Rattle.yf_props.specs.Props.{PropsValue}
use Rattle.yf_events.specs.Event.{EventValue, EventInText}
use Rattle.yf_events.specs.Edit.{edited}
use Rattle.yf_events.specs.EventForms.{LinesDropped, formed, is_folded, is_folded_shape, lined, lines_if, shape_formed, with_form}
use Rattle.yf_events.specs.Packed.{TableGrown, RowsFit, entry_at, folded_in, more_at, props_in, row_value, row_with, shape_value, span_at, tag_offset_in, text_in}
use Rattle.yf_events.proofs.PackedRows.{edited_seen, got_last, grown_fits, grown_rows, grown_seen}
use Rattle.yf_events.specs.declared.event.Entry.{Entry}
use Rattle.yf_events.specs.declared.event.ScalarStyle.{ScalarStyle}
use Rattle.yf_events.specs.declared.event.ScalarStyle.TheVariants.{Plain, Single, Double, Literal, Folded}
use Rattle.yf_events.specs.declared.event.Span.{Span}
use Rattle.yf_events.specs.declared.packed.More.{More}
use Rattle.yf_events.specs.declared.packed.PackedEvent.{PackedEvent}
use Rattle.yf_events.specs.declared.packed.Shape.{Shape}
use Rattle.yf_events.specs.declared.packed.Shape.TheVariants.{StreamStart, StreamEnd, DocStart, DocEnd, SeqStart, SeqEnd, MapStart, MapEnd, Scalar, Alias}

event_formed : (flow : Bool) (style : ScalarStyle) (s : Shape) (props : PropsValue) (text : List ℕ)
    → shape_value (shape_formed flow style s) props text ≡ with_form flow style (shape_value s props text)
event_formed flow style StreamStart props text = refl
event_formed flow style StreamEnd props text = refl
event_formed flow style (DocStart explicit) props text = refl
event_formed flow style (DocEnd explicit) props text = refl
event_formed flow style (SeqStart b) props text = refl
event_formed flow style SeqEnd props text = refl
event_formed flow style (MapStart b) props text = refl
event_formed flow style MapEnd props text = refl
event_formed flow style (Scalar old) props text = refl
event_formed flow style Alias props text = refl

folded_is : (s : Shape) (props : PropsValue) (text : List ℕ) → is_folded_shape s ≡ is_folded (shape_value s props text)
folded_is StreamStart props text = refl
folded_is StreamEnd props text = refl
folded_is (DocStart explicit) props text = refl
folded_is (DocEnd explicit) props text = refl
folded_is (SeqStart b) props text = refl
folded_is SeqEnd props text = refl
folded_is (MapStart b) props text = refl
folded_is MapEnd props text = refl
folded_is (Scalar Plain) props text = refl
folded_is (Scalar Single) props text = refl
folded_is (Scalar Double) props text = refl
folded_is (Scalar Literal) props text = refl
folded_is (Scalar Folded) props text = refl
folded_is Alias props text = refl

lined_folded : (keeps : Bool) (m : Option More) → folded_in (lined keeps m) ≡ lines_if keeps (folded_in m)
lined_folded true m = refl
lined_folded false None = refl
lined_folded false (Some m) = refl

lined_props : (keeps : Bool) (m : Option More) → props_in (lined keeps m) ≡ props_in m
lined_props true m = refl
lined_props false None = refl
lined_props false (Some m) = refl

lined_text : (keeps : Bool) (m : Option More) (part : List ℕ) → text_in (lined keeps m) part ≡ text_in m part
lined_text true m part = refl
lined_text false None part = refl
lined_text false (Some m) part = refl

lined_tag : (keeps : Bool) (m : Option More) → tag_offset_in (lined keeps m) ≡ tag_offset_in m
lined_tag true m = refl
lined_tag false None = refl
lined_tag false (Some m) = refl

abbrev placed : EventValue → Option Span → Option ℕ → Option Entry → List (List ℕ) → EventInText
placed event span tag_offset entry folded = record { event = event; span = span; tag_offset = tag_offset; entry = entry; folded = folded }

-- the row with the other shape and its parts in the table
row_formed : (flow : Bool) (style : ScalarStyle) (r : PackedEvent) (m : Option More) (n : ℕ) (s : Shape) (keeps : Bool)
    → s ≡ shape_formed flow style r.shape → keeps ≡ is_folded_shape s
    → row_with (record r { shape = s; more = n }) (lined keeps m) ≡ formed flow style (row_with r m)
row_formed flow style r m n s keeps e k =
    ap (λ w. placed w (span_at r.placed r.start r.end) (tag_offset_in (lined keeps m)) (entry_at r.begins r.entry r.colon) (folded_in (lined keeps m))) event
    ∙ ap (λ w. placed after (span_at r.placed r.start r.end) w (entry_at r.begins r.entry r.colon) (folded_in (lined keeps m))) (lined_tag keeps m)
    ∙ ap (λ w. placed after (span_at r.placed r.start r.end) (tag_offset_in m) (entry_at r.begins r.entry r.colon) w)
    (lined_folded keeps m ∙ ap (λ w. lines_if w (folded_in m)) kept) where
      text : List ℕ
      text = text_in m r.text.now

      after : EventValue
      after = with_form flow style (shape_value r.shape (props_in m) text)

      formed_event : shape_value s (props_in m) text ≡ after
      formed_event = ap (λ w. shape_value w (props_in m) text) e ∙ event_formed flow style r.shape (props_in m) text

      event : shape_value s (props_in (lined keeps m)) (text_in (lined keeps m) r.text.now) ≡ after
      event =
          ap (λ w. shape_value s w (text_in (lined keeps m) r.text.now)) (lined_props keeps m)
          ∙ ap (λ w. shape_value s (props_in m) w) (lined_text keeps m r.text.now)
          ∙ formed_event

      kept : keeps ≡ is_folded after
      kept = k ∙ folded_is s (props_in m) text ∙ ap is_folded formed_event

-- the row in the list

set_fits : (more : List More) (xs : List PackedEvent) (i : ℕ) (new : PackedEvent) → new.more ≤ length more → RowsFit more xs → RowsFit more (set xs i new)
set_fits more [] i new l f = f
set_fits more (x ∷ xs) zero new l f = (l, f.1)
set_fits more (x ∷ xs) (suc i) new l f = (f.0, set_fits more xs i new l f.1)

pub formed_fits : (old new : List More) (rows : List PackedEvent) (i : ℕ) (r : PackedEvent) (s : Shape) (n : ℕ) (keeps : Bool)
    → TableGrown old new → RowsFit old rows → LinesDropped old new keeps r.more n → RowsFit new (set rows i (record r { shape = s; more = n }))
formed_fits old new rows i r s n keeps g f lines = set_fits new rows i (record r { shape = s; more = n }) lines.fits (grown_fits old new rows g f)

fit_at : (more : List More) (rows : List PackedEvent) (i : ℕ) (r : PackedEvent) → i < length rows → r ≡ get_or rows i r → RowsFit more rows → r.more ≤ length more
fit_at more [] i r l is f = absurd (omega arith)
fit_at more (x ∷ rows) zero r l is f = subst (λ w. w.more ≤ length more) (sym is) f.0
fit_at more (x ∷ rows) (suc i) r l is f = fit_at more rows i r (omega arith) is f.1

-- the number of a row is in the table, or 0
pub number_fits : (more : List More) (rows : List PackedEvent) (vs : List EventInText) (i : ℕ) (r : PackedEvent) → map (row_value more) rows ≡ vs → i < length vs
    → r ≡ get_or rows i r → RowsFit more rows → r.more ≤ length more
number_fits more rows vs i r seen l is f = fit_at more rows i r (omega (arith, ap length seen, length-map rows (row_value more), l)) is f

-- the row at an index is unique
pub one_row : (rows : List PackedEvent) (i : ℕ) (r q : PackedEvent) → i < length rows → r ≡ get_or rows i r → q ≡ get_or rows i q → r ≡ q
one_row [] i r q l a b = absurd (omega arith)
one_row (x ∷ rows) zero r q l a b = a ∙ sym b
one_row (x ∷ rows) (suc i) r q l a b = one_row rows i r q (omega arith) a b

same_row : (old new : List More) (r : PackedEvent) → TableGrown old new → r.more ≤ length old → row_value new r ≡ row_value old r
same_row old new r g l = ap (λ vs. get_or vs 0 (row_value old r)) (grown_rows old new (r ∷ []) g (l, omega arith))

pub formed_seen : (old new : List More) (flow : Bool) (style : ScalarStyle) (rows : List PackedEvent) (vs : List EventInText) (i : ℕ) (r : PackedEvent) (s : Shape) (n : ℕ) (keeps : Bool)
    → TableGrown old new → RowsFit old rows → LinesDropped old new keeps r.more n → s ≡ shape_formed flow style r.shape → keeps ≡ is_folded_shape s
    → i < length vs → r ≡ get_or rows i r → map (row_value old) rows ≡ vs
    → map (row_value new) (set rows i (record r { shape = s; more = n })) ≡ edited (formed flow style) i vs
formed_seen old new flow style rows vs i r s n keeps g f lines e k l is seen =
    let long : i < length rows = omega (arith, ap length seen, length-map rows (row_value old), l) in
    edited_seen new (formed flow style) rows vs i r (record r { shape = s; more = n }) long is
    (ap (row_with (record r { shape = s; more = n })) lines.is
    ∙ row_formed flow style r (more_at old r.more) n s keeps e k
    ∙ ap (formed flow style) (sym (same_row old new r g (fit_at old rows i r long is f)))) (grown_seen old new rows vs g f seen)

-- an entry that keeps its lines, has none, or is put into the table again without them

pub lines_kept : (more : List More) (keeps : Bool) (number : ℕ) → keeps ≡ true → number ≤ length more → LinesDropped more more keeps number number
lines_kept more true number e l = record { fits = l; is = refl }
lines_kept more false number e l = absurd (false≢true e)

pub no_lines : (lent : List (Bor (List ℕ))) (lines : List (List ℕ)) (empty : Bool) → map (λ line. line.now) lent ≡ lines → empty ≡ (length lent == 0)
    → empty ≡ true → lines ≡ []
no_lines [] lines empty e is t = sym e
no_lines (x ∷ lent) lines empty e is t = absurd (omega (arith, eqb-true (suc (length lent)) 0 (sym is ∙ t)))

bare_already : (keeps : Bool) (m : Option More) → folded_in m ≡ [] → m ≡ lined keeps m
bare_already true m e = refl
bare_already false None e = refl
bare_already false (Some m) e = ap (λ w. Some (record m { folded = w })) e

pub lines_absent : (lent more : List More) (keeps : Bool) (number : ℕ) (m : Option More) → lent ≡ more → m ≡ more_at lent number → folded_in m ≡ []
    → number ≤ length more → LinesDropped more more keeps number number
lines_absent lent more keeps number m same is e l =
    let at : m ≡ more_at more number = is ∙ ap (λ w. more_at w number) same in
    record { fits = l; is = subst (λ w. w ≡ lined keeps w) at (bare_already keeps m e) }

pub lines_taken : (lent old new : List More) (keeps : Bool) (number n : ℕ) (m : Option More) (more bare : More) → lent ≡ old → m ≡ more_at lent number → m ≡ Some more
    → bare ≡ record more { folded = [] } → new ≡ old ++ bare ∷ [] → keeps ≡ false → n ≡ length new → LinesDropped old new keeps number n
lines_taken lent old new true number n m more bare same at is bared added k len = absurd (false≢true (sym k))
lines_taken lent old new false number n m more bare same at is bared added k len =
    let here : suc (length old) ≡ n = omega (arith, len, ap length added, length-append old (bare ∷ [])) in
    record {
      fits = omega (arith, len);
      is =
          ap (more_at new) (sym here) ∙ ap (λ w. slice_get w (length old)) added ∙ got_last old bare ∙ ap Some bared
          ∙ ap (lined false) (sym is ∙ at ∙ ap (λ w. more_at w number) same);
    }
