-- The comments after each row of a laid-out text, and the next row, note whether a blank line was printed before them.
use Rattle.std.proofs.Common.{◌≡◌, ℕ, zero, suc, ◌+◌, ◌<◌, ◌≤◌, Bool, false, List, [], ◌∷◌, ◌++◌, drop, length, refl, sym, ap, ◌∙◌, subst, arith, append-nil}
use Rattle.std.proofs.lemmas.List.{length-map}
use Rattle.std.specs.Prelude.{filter}
use Rattle.std.specs.Str.{IsUtf8}
use Rattle.yf_lines.specs.Basic.{Spaces}
use Rattle.yf_lines.specs.Rest.{Rest}
use Rattle.yf_lines.proofs.RestLemmas.{rest_spaces}
use Rattle.yf_comments.specs.Comment.{CommentValue}
use Rattle.yf_comments.specs.GapLines.{GapLine}
use Rattle.yf_comments.proofs.GapLinesLemmas.{texts}
use Rattle.yf_block_scalar.specs.Body.{first_noted}
use Rattle.yf_events.specs.Event.{EventInText}
use Rattle.yf_events.specs.declared.event.Span.{Span}
use Rattle.yf_grammar.proofs.Documents.CommentOrder.{ascend_order}
use Rattle.yf_grammar.proofs.Ends.SinceKnown.{since_before}
use Rattle.yf_grammar.proofs.Ends.SinceWalk.{since_later}
use Rattle.yf_grammar.specs.Productions.ReadParts.{BlankSince, NotedSince}
use Rattle.yf_stream.specs.ReadingOf.{NotedComments, floor_at, no_comment, one_comment}
use Rattle.yf_stream.proofs.BlankNotes.FloorWalk.{end_later, end_taken}
use Rattle.yf_laws.specs.Layouts.RowComments.{AreDecos, one_carried}
use Rattle.yf_laws.specs.Layouts.Decorated.{Deco, comments_left, decos_of, inline_then}
use Rattle.yf_laws.specs.Layouts.Layout.{Source, may_be_blank_after, precedes_item}
use Rattle.yf_laws.specs.Layouts.RowShapes.{shape_of}
use Rattle.yf_print.specs.Layouts.Rows.{Ending, Row}
use Rattle.yf_laws.proofs.SecondRun.AlikeLemmas.{shapes}
use Rattle.yf_laws.proofs.ReadAgain.AllBlanks.{AllBlanks, last_blanks, row_blanks}
use Rattle.yf_laws.proofs.ReadAgain.CarriedAgain.{Owns, last_owns, row_owns, all_of, standing_of}
use Rattle.yf_laws.proofs.ReadAgain.GapsAgain.{Blanks, gap_at_end, gap_with}
use Rattle.yf_laws.proofs.ReadAgain.GapNotes.{HeadNote, bare_head, NotedOver, none_over, one_over, gap_noted}
use Rattle.yf_laws.proofs.ReadAgain.GapsInText.{GapIsAt, gap_over, blank_is_at, remark_is_at, gap_order}
use Rattle.yf_laws.proofs.OutputLines.HeldLemmas.{BodiesHeld}
use Rattle.yf_laws.proofs.RowNodes.PlacedRows.{AtRow, EndsRow, LastEnd, last_end, later_end, OwnTail, after_line, after_scalar, PlacedRow, RowsIn, last_row, row_before}
use Rattle.yf_laws.proofs.ReadAgain.RowGaps.{Renoted, as_they_are, first_so, RowGap, row_gap}
use Rattle.yf_laws.proofs.ReadAgain.RowNotes.{RowNotes, no_row_notes, note_kept, note_moved, pick}
use Rattle.yf_print.specs.Layouts.KeptColumns.{Columns}

-- Notes of comments.

pub noted_gap : {t : List ℕ} {es : List EventInText} {f i j : ℕ} {gs : List GapLine} {cs ns : List CommentValue} → GapIsAt t i gs cs j → ((o : ℕ) → i ≤ o → o < j → floor_at o 0 es ≡ f) → NotedComments t es cs ns → NotedOver t f cs ns
noted_gap gap_over f no_comment = none_over
noted_gap (blank_is_at b a) f n = noted_gap a (λ o l m. f o (omega (arith, l)) m) n
noted_gap {t} (remark_is_at {column = column} v s q e m z none a) f (one_comment {c = c} {b = b} n ns) =
    let l = gap_order a in
    one_over (subst (λ w. NotedSince t w c.offset b) (f c.offset (omega (arith, q)) (omega (arith, q, m, l))) n) (noted_gap a (λ o k w. f o (omega (arith, m, k)) w) ns)

first_as : {t : List ℕ} {es : List EventInText} {ns : List CommentValue} (b : Bool) (cs : List CommentValue) → NotedComments t es (first_noted b cs) ns → NotedComments t es cs ns
first_as b [] n = n
first_as b (c ∷ cs) (one_comment n m) = one_comment n m

as_noted : {t : List ℕ} {es : List EventInText} {cs ds ns : List CommentValue} → Renoted cs ds → NotedComments t es ds ns → NotedComments t es cs ns
as_noted as_they_are n = n
as_noted (first_so {cs = cs} b) n = first_as b cs n

noted_drop : {t : List ℕ} {es : List EventInText} {cs ns : List CommentValue} (k : ℕ) → NotedComments t es cs ns → NotedComments t es (drop k cs) (drop k ns)
noted_drop zero no_comment = no_comment
noted_drop zero (one_comment n m) = one_comment n m
noted_drop (suc k) no_comment = no_comment
noted_drop (suc k) (one_comment n m) = noted_drop k m

pub noted_split : {t : List ℕ} {es : List EventInText} {ys ms : List CommentValue} (xs ns : List CommentValue) → length xs ≡ length ns → NotedComments t es (xs ++ ys) (ns ++ ms) → NotedComments t es xs ns × NotedComments t es ys ms
noted_split [] [] e n = (no_comment, n)
noted_split [] (k ∷ ns) e n = absurd (omega (arith, e))
noted_split (x ∷ xs) [] e n = absurd (omega (arith, e))
noted_split (x ∷ xs) (k ∷ ns) e (one_comment n m) = let w = noted_split xs ns (omega (arith, e)) m in (one_comment n w.0, w.1)

pub as_many : (xs ns : List CommentValue) {ws : List (List ℕ)} → texts xs ≡ ws → texts ns ≡ ws → length xs ≡ length ns
as_many xs ns e f =
    sym (length-map xs (λ (c : CommentValue). c.text)) ∙ (ap length (e ∙ sym f) ∙ length-map ns (λ (c : CommentValue). c.text))

-- Ends of block scalars.

abbrev pub AllOver : ℕ → List ℕ → Type 0
AllOver o [] = Unit {0}
AllOver o (g ∷ gs) = (o < g) × AllOver o gs

pub pick_early : (o f : ℕ) (gs : List ℕ) → AllOver o gs → pick o f gs ≡ f
pick_early o f [] a = refl
pick_early o f (g ∷ gs) a = ap (λ z. pick o z gs) (end_later o f g a.0) ∙ pick_early o f gs a.1

one_end : {ls : List Span} {a b : ℕ} → LastEnd ls a → LastEnd ls b → a ≡ b
one_end last_end last_end = refl
one_end last_end (later_end b) = elim b [ ]
one_end (later_end a) last_end = elim a [ ]
one_end (later_end a) (later_end b) = one_end a b

same_body : (x y : Row) → shape_of x ≡ shape_of y → x.body ≡ y.body
same_body x y e = ap (λ s. s.body) e

same_ending : (x y : Row) → shape_of x ≡ shape_of y → x.ending ≡ y.ending
same_ending x y e = ap (λ s. s.ending) e

-- a block scalar on a row ends after its start
moved_after : {t : List ℕ} {x : Row} {i k g : ℕ} {p : PlacedRow} {d : Deco} {own : List CommentValue} (y : Row) → AtRow x i p → EndsRow t x.body d p own k → shape_of x ≡ shape_of y → (y.body ≡ [] → ⊥) → LastEnd p.leaves g → i ≤ g
moved_after {t} {x} {i} {k} {g} {p} {d} {own} y at end e some last = by end.tail where
  by : OwnTail t x.body d p own k → i ≤ g
  by (after_line bare line leaves) = absurd (some (sym (same_body x y e) ∙ bare))
  by (after_scalar b n is trail h line l m leaves there clear broken rest ended rows) = let o = at.order in omega (arith, o, m, one_end last there)

pub ends_over : {t : List ℕ} {f i j o : ℕ} {xs ys : List Row} {ps : List PlacedRow} {ds : List Deco} {cs : List CommentValue} {r : List ℕ} {gs : List ℕ} → RowsIn t xs ps ds i cs j r → RowNotes t f ps xs ys gs → shapes xs ≡ shapes ys → o < i
    → AllOver o gs
ends_over (last_row at end w) (note_kept h e no_row_notes) s l = tt
ends_over (last_row {x = x} at end w) (note_moved {y = y} h n last no_row_notes) s l =
    let same : shape_of x ≡ shape_of y = cc in
    let m = moved_after {x = x} y at end same n last in
    (omega (arith, l, m), tt)
ends_over (row_before {x = x} {y = next} {xs = xs} at end w more) (note_kept {y = y} {ys = ys} h e rest) s l =
    let others : shapes (next ∷ xs) ≡ shapes ys = cc in
    let m = at.order in
    let n = ascend_order end.ascend in
    ends_over more rest others (omega (arith, l, m, n))
ends_over {f = f} (row_before {x = x} {y = next} {xs = xs} at end w more) (note_moved {g = e} {y = y} {ys = ys} h some last rest) s l =
    let same : shape_of x ≡ shape_of y = cc in
    let others : shapes (next ∷ xs) ≡ shapes ys = cc in
    let m = at.order in
    let n = ascend_order end.ascend in
    let k = moved_after {x = x} y at end same some last in
    (omega (arith, l, k), ends_over {f = e} more rest others (omega (arith, l, m, n)))

-- One row.

-- f is the floor for what follows it
record Floored (t : List ℕ) (es : List EventInText) (f gap place : ℕ) : Type 0 where
  low : f ≤ gap
  none : BlankSince t f gap → ⊥
  at : (o : ℕ) → gap ≤ o → o < place → floor_at o 0 es ≡ f

row_noted : (h : Columns) {t : List ℕ} {es : List EventInText} {f place : ℕ} {body : List (List ℕ)} {d : Deco} {p : PlacedRow} {own ns : List CommentValue} (e to : Ending) (column : ℕ) (hs : List CommentValue) (a : Bool) → IsUtf8 t → (g : RowGap t body d p own place)
    → Floored t es f g.gap place → NotedComments t es own ns → e ≡ to → d.gap ≡ gap_with h e column hs a → (k : ℕ) → Spaces t place k → (b : Bool) → HeadNote t f (place + k) a b → Blanks t (may_be_blank_after to) false d.gap (standing_of d ns) b
row_noted h {t} {es} {f} {place} {d = d} {ns = ns} e to column hs a u g w notes same shape k s b head =
    let over : NotedOver t f g.comments (standing_of d ns) = noted_gap g.is_there w.at (as_noted g.same (noted_drop (length d.trails) notes)) in
    let here : Blanks t (may_be_blank_after e) false (gap_with h e column hs a) (standing_of d ns) b =
    gap_noted h e column hs a u (subst (λ z. GapIsAt t g.gap z g.comments place) shape g.is_there) g.blank w.low w.none over k s head in
    subst (λ z. Blanks t (may_be_blank_after z) false d.gap (standing_of d ns) b) same (subst (λ z. Blanks t (may_be_blank_after e) false z (standing_of d ns) b) (sym shape) here)

-- without a block scalar, and with one
kept_floor : {t : List ℕ} {es : List EventInText} {f i place : ℕ} {body : List (List ℕ)} {d : Deco} {p : PlacedRow} {own : List CommentValue} (gs : List ℕ) (g : RowGap t body d p own place) → i ≤ p.upto → body ≡ [] → f ≤ i
    → ((o : ℕ) → i ≤ o → floor_at o 0 es ≡ pick o f gs) → ((o : ℕ) → o < place → AllOver o gs) → Floored t es f g.gap place
kept_floor {f = f} gs g order bare low at over =
    let from = g.from in
    record {
      low = omega (arith, order, low, from);
      none = λ d. g.none bare (since_before d);
      at = λ o l m. at o (omega (arith, order, from, l)) ∙ pick_early o f gs (over o m);
    }

moved_floor : {t : List ℕ} {es : List EventInText} {i place e : ℕ} {body : List (List ℕ)} {d : Deco} {p : PlacedRow} {own : List CommentValue} (f : ℕ) (gs : List ℕ) (g : RowGap t body d p own place) → i ≤ p.upto → e ≡ g.gap
    → ((o : ℕ) → i ≤ o → floor_at o 0 es ≡ pick o f (e ∷ gs)) → ((o : ℕ) → o < place → AllOver o gs) → Floored t es e g.gap place
moved_floor {e = e} f gs g order same at over =
    let from = g.from in
    record {
      low = omega (arith, same);
      none = λ d. let l = since_later d in omega (arith, l, same);
      at = λ o l m. at o (omega (arith, order, from, l)) ∙ (ap (λ z. pick o z gs) (end_taken o f e (omega (arith, same, l))) ∙ pick_early o e gs (over o m));
    }

-- Rows.

pub rows_from : {t : List ℕ} {xs : List Row} {p : PlacedRow} {ps : List PlacedRow} {ds : List Deco} {i j : ℕ} {cs : List CommentValue} {r : List ℕ} → RowsIn t xs (p ∷ ps) ds i cs j r → p.from ≡ i
rows_from (last_row at end w) = at.from
rows_from (row_before at end w more) = at.from

data FirstNote (t : List ℕ) (f : ℕ) : List PlacedRow → Row → List Row → Type 0 where
  first_note : {p : PlacedRow} {ps : List PlacedRow} {x y : Row} {ys : List Row} → HeadNote t f p.from x.blank_before y.blank_before → FirstNote t f (p ∷ ps) x (y ∷ ys)

first_of : {t : List ℕ} {f : ℕ} {ps : List PlacedRow} {x : Row} {xs ys : List Row} {gs : List ℕ} → RowNotes t f ps (x ∷ xs) ys gs → FirstNote t f ps x ys
first_of (note_kept h e a) = first_note h
first_of (note_moved h n l a) = first_note h

add_row : {t : List ℕ} {f i j : ℕ} {next y : Row} {xs ys : List Row} {ps : List PlacedRow} {d : Deco} {ds es : List Deco} {own : List CommentValue} {owns : List (List CommentValue)} {cs : List CommentValue} {r : List ℕ} → FirstNote t f ps next ys
    → RowsIn t xs ps es i cs j r → ((b : Bool) → HeadNote t f i next.blank_before b → Blanks t (may_be_blank_after y.ending) false d.gap (standing_of d own) b) → AllBlanks t ys ds owns → AllBlanks t (y ∷ ys) (d ∷ ds) (own ∷ owns)
add_row {t} {f} {next = next} (first_note {y = after} h) rows blanks more = row_blanks (blanks after.blank_before (subst (λ z. HeadNote t f z next.blank_before after.blank_before) (rows_from rows) h)) more

-- the gaps as they were laid out
pub data GapForms (g : Columns) : List Row → List Deco → Type 0 where
  no_form : GapForms g [] []
  last_form : {x : Row} {d : Deco} (hs : List CommentValue) → d.gap ≡ gap_with g x.ending 0 hs false → GapForms g (x ∷ []) (d ∷ [])
  next_form : {x y : Row} {xs : List Row} {d : Deco} {ds : List Deco} (hs : List CommentValue) → d.gap ≡ gap_with g x.ending y.column hs y.blank_before → GapForms g (y ∷ xs) ds → GapForms g (x ∷ y ∷ xs) (d ∷ ds)

pub gap_forms : (g : Columns) (c : Source) (comments : List CommentValue) (xs : List Row) → GapForms g xs (decos_of g c comments xs)
gap_forms g c comments [] = no_form
gap_forms g c comments (x ∷ []) = last_form (comments_left x comments) (gap_at_end g x.ending (comments_left x comments))
gap_forms g c comments (x ∷ y ∷ xs) = next_form (filter (precedes_item y) (comments_left x comments)) refl (gap_forms g c (comments_left x comments) (y ∷ xs))

module _ (columns : Columns) {t : List ℕ} (u : IsUtf8 t) (es hs : List EventInText) where
  pub rows_blanks : {f i j a b : ℕ} {xs ys : List Row} {ps : List PlacedRow} {cs : List CommentValue} {owns : List (List CommentValue)} {ds : List Deco} {r : List ℕ} {gs : List ℕ} → RowsIn t xs ps ds i cs j r → GapForms columns xs ds
      → AreDecos ds → BodiesHeld t hs xs ds r → Rest t i (inline_then xs ds r) → RowNotes t f ps xs ys gs → shapes xs ≡ shapes ys → f ≤ i
      → ((o : ℕ) → i ≤ o → floor_at o 0 es ≡ pick o f gs) → Owns ps ds a owns b → NotedComments t es cs (all_of owns) → AllBlanks t ys ds owns
  rows_blanks {f} (last_row {x = x} {own = own} at end w) (last_form comments shape) (one_carried d none) held begin (note_kept {y = y} h bare no_row_notes) s low floor (last_owns {own = ns} m l n up v is) notes =
      let same : shape_of x ≡ shape_of y = cc in
      let g = row_gap u d at end held.0.seen begin w in
      let floored = kept_floor [] g at.order (same_body x y same ∙ bare) low floor (λ o k. tt) in
      let mine : NotedComments t es own ns = subst (λ z. NotedComments t es own z) (append-nil ns) notes in
      last_blanks (row_noted columns x.ending y.ending 0 comments false u g floored mine (same_ending x y same) shape 0
      (record { each = λ k z. absurd (omega (arith, z)) }) false bare_head)
  rows_blanks {f} (last_row {x = x} {own = own} at end w) (last_form comments shape) (one_carried d none) held begin (note_moved {y = y} h some last no_row_notes) s low floor (last_owns {own = ns} m l n up v is) notes =
      let same : shape_of x ≡ shape_of y = cc in
      let g = row_gap u d at end held.0.seen begin w in
      let floored = moved_floor f [] g at.order (one_end last (g.last (λ z. some (sym (same_body x y same) ∙ z)))) floor (λ o k. tt) in
      let mine : NotedComments t es own ns = subst (λ z. NotedComments t es own z) (append-nil ns) notes in
      last_blanks (row_noted columns x.ending y.ending 0 comments false u g floored mine (same_ending x y same) shape 0
      (record { each = λ k z. absurd (omega (arith, z)) }) false bare_head)
  rows_blanks (last_row at end w) forms decos held begin notes s low floor (row_owns m l n up v is k more) noted = elim more [ ]
  rows_blanks {f} (row_before {x = x} {y = next} {xs = xs} {k = place} {own = own} at end w more) (next_form comments shape forms) (one_carried d others) held begin (note_kept {y = y} {ys = ys} {gs = gs} h bare rest) s low floor
      (row_owns {own = ns} {owns = owns} m l n up v is k owned) notes =
      let same : shape_of x ≡ shape_of y = cc in
      let after : shapes (next ∷ xs) ≡ shapes ys = cc in
      let g = row_gap u d at end held.0.seen begin w in
      let spaces = rest_spaces next.column place u w in
      let order = at.order in
      let follows = ascend_order end.ascend in
      let over : (o : ℕ) → o < place → AllOver o gs = λ o b. ends_over more rest after (omega (arith, b)) in
      let floored = kept_floor gs g order (same_body x y same ∙ bare) low floor over in
      let split = noted_split own ns (as_many own ns end.is is) notes in
      add_row {y = y} (first_of rest) more
      (λ b head. row_noted columns x.ending y.ending next.column comments next.blank_before u g floored split.0 (same_ending x y same) shape next.column spaces.0 b head)
      (rows_blanks more forms others held.1 spaces.1 rest after (omega (arith, low, order, follows)) (λ o b. floor o (omega (arith, order, follows, b))) owned split.1)
  rows_blanks {f} (row_before {x = x} {y = next} {xs = xs} {k = place} {own = own} at end w more) (next_form comments shape forms) (one_carried d others) held begin (note_moved {g = e} {y = y} {ys = ys} {gs = gs} h some last rest) s low floor
      (row_owns {own = ns} {owns = owns} m l n up v is k owned) notes =
      let same : shape_of x ≡ shape_of y = cc in
      let after : shapes (next ∷ xs) ≡ shapes ys = cc in
      let g = row_gap u d at end held.0.seen begin w in
      let spaces = rest_spaces next.column place u w in
      let order = at.order in
      let follows = ascend_order end.ascend in
      let from = g.from in
      let ended : e ≡ g.gap = one_end last (g.last (λ z. some (sym (same_body x y same) ∙ z))) in
      let inside = gap_order g.is_there in
      let over : (o : ℕ) → o < place → AllOver o gs = λ o b. ends_over more rest after (omega (arith, b)) in
      let floored : Floored t es e g.gap place = moved_floor f gs g order ended floor over in
      let split = noted_split own ns (as_many own ns end.is is) notes in
      let later : (o : ℕ) → place + next.column ≤ o → floor_at o 0 es ≡ pick o e gs =
      λ o b. floor o (omega (arith, order, follows, b)) ∙ ap (λ z. pick o z gs) (end_taken o f e (omega (arith, ended, inside, b))) in
      add_row {y = y} (first_of rest) more
      (λ b head. row_noted columns x.ending y.ending next.column comments next.blank_before u g floored split.0 (same_ending x y same) shape next.column spaces.0 b head)
      (rows_blanks {f = e} more forms others held.1 spaces.1 rest after (omega (arith, ended, inside)) later owned split.1)
  rows_blanks (row_before at end w more) forms decos held begin notes s low floor (last_owns m l n up v is) noted = elim more [ ]
