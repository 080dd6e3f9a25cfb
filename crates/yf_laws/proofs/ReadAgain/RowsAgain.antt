-- What the rows of a reading carry, if the first comment after each row trails it or none does, and the others are
-- before what begins on the next row.
use Rattle.std.proofs.Common.{◌≡◌, ℕ, ◌+◌, ◌≤◌, Bool, true, false, List, Some, [], ◌∷◌, ◌++◌, refl, sym, ap, ◌∙◌, subst, arith, cond, append_assoc, append-nil}
use Rattle.std.specs.Prelude.{not, ◌||◌, ◌==◌, filter, if◌then◌else◌}
use Rattle.std.proofs.lemmas.List.Elements.{filter-append}
use Rattle.yf_comments.specs.Comment.{CommentValue}
use Rattle.yf_laws.specs.Layouts.Decorated.{Deco, GapLine, comments_left, decos_of, gap_of}
use Rattle.yf_laws.specs.Layouts.Layout.{Source, is_among, may_be_blank_after, precedes_item, trailing}
use Rattle.yf_print.specs.Layouts.Rows.{Row, Ending}
use Rattle.yf_laws.proofs.SameReading.CommentsCut.{Each, each_at, each_map, each_none, each_more, Under, Over, Upward, upward_none, upward_more, upward_over, keep_all, drop_all, none_below, none_above, among_join, own_of}
use Rattle.yf_laws.proofs.ReadAgain.GapsAgain.{Blanks, gap_again, gap_at_end, gap_with}
use Rattle.yf_laws.proofs.SameReading.PrintSteps.{trimmed_texts}
use Rattle.yf_print.specs.Layouts.KeptColumns.{Columns, after_row, beginning, column_above, columns_if, is_before_first, is_bodyless, keeps_blocks}
use Rattle.yf_print.specs.Layouts.SourceColumns.{own_column}
use Rattle.yf_print.specs.Layouts.CommentColumns.{Beginning, begins_document, comment_column}
use Rattle.yf_print.specs.declared.open_blocks.OpenBlock.{OpenBlock}
use Rattle.yf_forms.specs.declared.style.Style.{Style}
use Rattle.yf_laws.proofs.OutputLines.ColumnsHold.{GapHolds, WalkFrom, walk_above, walk_past}
use Rattle.yf_laws.proofs.RowNodes.QuietPlaces.{under_more}
use Rattle.yf_forms.proofs.Decide.LeafLemmas.{same as itself}

-- Two lists of comments as one.

pub data Merged : List CommentValue → List CommentValue → List CommentValue → Type 0 where
  none_merged : Merged [] [] []
  one_trails : {e : CommentValue} {ts hs cs : List CommentValue} → Merged ts hs cs → Merged (e ∷ ts) hs (e ∷ cs)
  one_is_at : {h : CommentValue} {ts hs cs : List CommentValue} → Merged ts hs cs → Merged ts (h ∷ hs) (h ∷ cs)

pub merged_stand : (xs : List CommentValue) {ts hs cs : List CommentValue} → Merged ts hs cs → Merged ts (xs ++ hs) (xs ++ cs)
merged_stand [] m = m
merged_stand (x ∷ xs) m = one_is_at (merged_stand xs m)

under_one : {h : ℕ} {gone : List CommentValue} (e : CommentValue) → h ≤ e.offset → Under h gone → Under (e.offset + 1) (gone ++ (e ∷ []))
under_one e l each_none = each_more {d = e} (omega arith) each_none
under_one e l (each_more {d = d} m a) = each_more (omega (arith, l, m)) (under_one e l a)

-- those that trail are among the comments
merged_over : {h : ℕ} {ts hs cs : List CommentValue} → Merged ts hs cs → Over h cs → Over h ts
merged_over none_merged a = each_none
merged_over (one_trails m) (each_more l a) = each_more l (merged_over m a)
merged_over (one_is_at m) (each_more l a) = merged_over m a

-- the others are left if the ones that trail are removed
pub merged_own : {i : ℕ} {ts hs cs : List CommentValue} (gone : List CommentValue) → Under i gone → Upward i cs → Merged ts hs cs → filter (own_of (gone ++ ts)) cs ≡ hs
merged_own gone u upward_none none_merged = refl
merged_own gone u (upward_more {c = e} {cs = cs} l a) (one_trails {ts = ts} {hs = hs} m) =
    let own : CommentValue → Bool = own_of (gone ++ (e ∷ ts)) in
    let here : is_among (gone ++ (e ∷ ts)) e ≡ true =
    among_join gone (e ∷ ts) e ∙ (ap (λ b. b || ((e.offset == e.offset) || is_among ts e)) (none_below e l u) ∙ ap (λ b. b || is_among ts e) (itself e.offset)) in
    ap (λ b. cond (not b) (e ∷ filter own cs) (filter own cs)) here
    ∙ (ap (λ z. filter (own_of z) cs) (sym (append_assoc gone (e ∷ []) ts)) ∙ merged_own (gone ++ (e ∷ [])) (under_one e l u) a m)
merged_own gone u (upward_more {c = h} {cs = cs} l a) (one_is_at {ts = ts} {hs = hs} m) =
    let own : CommentValue → Bool = own_of (gone ++ ts) in
    let here : is_among (gone ++ ts) h ≡ false =
    among_join gone ts h ∙ (ap (λ b. b || is_among ts h) (none_below h l u) ∙ none_above h (omega arith) (merged_over m (upward_over (h.offset + 1) (omega arith) a))) in
    ap (λ b. cond (not b) (h ∷ filter own cs) (filter own cs)) here
    ∙ ap (λ z. h ∷ z) (merged_own gone (under_more (omega (arith, l)) u) a m)

-- Filters.

turn_each : {p : CommentValue → Bool} {b : Bool} {xs : List CommentValue} → Each (λ d. p d ≡ b) xs → Each (λ d. not (p d) ≡ not b) xs
turn_each each_none = each_none
turn_each (each_more e a) = each_more (ap not e) (turn_each a)

pub kept_first : (p : CommentValue → Bool) (xs ys : List CommentValue) → Each (λ d. p d ≡ true) xs → Each (λ d. p d ≡ false) ys → filter p (xs ++ ys) ≡ xs
kept_first p xs ys a b = filter-append p xs ys ∙ (ap (λ z. z ++ filter p ys) (keep_all p a) ∙ (ap (λ z. xs ++ z) (drop_all p b) ∙ append-nil xs))

pub kept_others : (p : CommentValue → Bool) (xs ys : List CommentValue) → Each (λ d. p d ≡ true) xs → Each (λ d. p d ≡ false) ys → filter (λ d. not (p d)) (xs ++ ys) ≡ ys
kept_others p xs ys a b =
    let q : CommentValue → Bool = λ d. not (p d) in
    filter-append q xs ys ∙ (ap (λ z. z ++ filter q ys) (drop_all q (turn_each a)) ∙ keep_all q (turn_each b))

each_front : {P : CommentValue → Type 0} (xs ys : List CommentValue) → Each P (xs ++ ys) → Each P xs
each_front [] ys a = each_none
each_front (x ∷ xs) ys (each_more e a) = each_more e (each_front xs ys a)

pub each_back : {P : CommentValue → Type 0} (xs ys : List CommentValue) → Each P (xs ++ ys) → Each P ys
each_back [] ys a = a
each_back (x ∷ xs) ys (each_more e a) = each_back xs ys a

-- Rows.

-- comments on lines of their own before a row, and those after it
pub record Apart (row : Row) (here left : List CommentValue) : Type 0 where
  pub first : Each (λ d. is_before_first row.items d.offset ≡ true) here
  pub before : Each (λ d. precedes_item row d ≡ true) here
  pub follows : Each (λ d. precedes_item row d ≡ false) left

pub apart_left : {row : Row} {here left : List CommentValue} → Apart row here left → comments_left row (here ++ left) ≡ left
apart_left {row} {here} {left} a = kept_others (precedes_item row) here left a.before a.follows

pub apart_gap : {row : Row} {here left : List CommentValue} (g : Columns) (e : Ending) (rows : List Row) → Apart row here left → gap_of g e (here ++ left) (row ∷ rows) ≡ gap_with g e row.column here row.blank_before
apart_gap {row} {here} {left} g e rows a = ap (λ z. gap_with g e row.column z row.blank_before) (kept_first (precedes_item row) here left a.before a.follows)

-- what rows carry; the last list has the comments on lines of their own after the first row
pub data Carry (t : List ℕ) (g : Columns) (c : Source) : List Row → List Deco → List CommentValue → Type 0 where
  last_carries : {row : Row} {d : Deco} {here : List CommentValue} (hs : List CommentValue) → trimmed_texts (trailing c row) ≡ d.trails → d.gap ≡ gap_with g row.ending 0 hs false
      → Blanks t (may_be_blank_after row.ending) false d.gap here false → Carry t g c (row ∷ []) (d ∷ []) here
  row_carries : {row next : Row} {rows : List Row} {d : Deco} {ds : List Deco} {here left : List CommentValue} (hs : List CommentValue) (b : Bool) → trimmed_texts (trailing c row) ≡ d.trails
      → d.gap ≡ gap_with g row.ending next.column hs b → Blanks t (may_be_blank_after row.ending) false d.gap here next.blank_before → Apart next here left → Carry t g c (next ∷ rows) ds left
      → Carry t g c (row ∷ next ∷ rows) (d ∷ ds) (here ++ left)

deco_is : (d : Deco) {trails : List (List ℕ)} (gap : List GapLine) → trails ≡ d.trails → gap ≡ d.gap → record { trails = trails; gap = gap } ≡ d
deco_is d gap e f = ap (λ z. record { trails = z; gap = gap }) e ∙ ap (λ z. record { trails = d.trails; gap = z }) f

-- Columns that are found again.

-- a comment at the column k stays there, before a row that begins so, if those collections are open on the row before
abbrev pub StaysAt : Style → Bool → ℕ → Beginning → List OpenBlock → ℕ → Type 0
StaysAt s may next begin bs k = columns_if (keeps_blocks s) (comment_column s.indent may next (Some k) begin bs) next ≡ k

-- this holds for each comment that was laid out, before the first of these rows and after each
pub data AllStay (t : List ℕ) (s : Style) : List OpenBlock → Bool → List Row → List GapLine → List Deco → Type 0 where
  stays_end : {bs : List OpenBlock} {may : Bool} {gap : List GapLine} → GapHolds (StaysAt s may 0 begins_document bs) gap → AllStay t s bs may [] gap []
  stays_row : {bs : List OpenBlock} {may : Bool} {row : Row} {rows : List Row} {gap : List GapLine} {d : Deco} {ds : List Deco} → GapHolds (StaysAt s may row.column (beginning t row.starts row.leaves) bs) gap
      → AllStay t s (after_row t row bs) (is_bodyless row.body) rows d.gap ds → AllStay t s bs may (row ∷ rows) gap (d ∷ ds)

at_first : (t : List ℕ) (s : Style) (bs : List OpenBlock) (may : Bool) (row : Row) {k : ℕ} (d : CommentValue) → is_before_first row.items d.offset ≡ true → own_column t d.offset ≡ Some k
    → column_above t s bs may row d ≡ comment_column s.indent may row.column (Some k) (beginning t row.starts row.leaves) bs
at_first t s bs may row d e f =
    ap (λ b. if b then comment_column s.indent may row.column (own_column t d.offset) (beginning t row.starts row.leaves) bs else row.column) e
    ∙ ap (λ o. comment_column s.indent may row.column o (beginning t row.starts row.leaves) bs) f

-- for the comments before a row
pub stay_before : {t : List ℕ} {s : Style} {g : Columns} {bs : List OpenBlock} {may : Bool} {row : Row} {rows : List Row} {here left : List CommentValue} → Apart row here left → Each (WalkFrom t s g bs may (row ∷ rows)) (here ++ left)
    → Each (λ c. (k : ℕ) → own_column t c.offset ≡ Some k → StaysAt s may row.column (beginning t row.starts row.leaves) bs k → g c row.column ≡ k) here
stay_before {t} {s} {g} {bs} {may} {row} {rows} {here} {left} a w =
    each_map (λ d i v k e f.
    (walk_above (each_at a.before i) v).is row.column ∙ (ap (λ z. columns_if (keeps_blocks s) z row.column) (at_first t s bs may row d (each_at a.first i) e) ∙ f)) (each_front here left w)

-- those after it
pub walk_after : {t : List ℕ} {s : Style} {g : Columns} {bs : List OpenBlock} {may : Bool} {row : Row} {rows : List Row} {here left : List CommentValue} → Apart row here left → Each (WalkFrom t s g bs may (row ∷ rows)) (here ++ left)
    → Each (WalkFrom t s g (after_row t row bs) (is_bodyless row.body) rows) left
walk_after {here = here} {left = left} a w = each_map (λ d i v. walk_past (each_at a.follows i) v) (each_back here left w)

pub stay_at_end : {t : List ℕ} {s : Style} {g : Columns} {bs : List OpenBlock} {may : Bool} {here : List CommentValue} → Each (WalkFrom t s g bs may []) here
    → Each (λ c. (k : ℕ) → own_column t c.offset ≡ Some k → StaysAt s may 0 begins_document bs k → g c 0 ≡ k) here
stay_at_end {t} {s} {g} {bs} {may} w = each_map (λ d i v k e f. v.is 0 ∙ (ap (λ o. columns_if (keeps_blocks s) (comment_column s.indent may 0 o begins_document bs) 0) e ∙ f)) w

pub gap_is : {t : List ℕ} {P : ℕ → Type 0} (g f : Columns) (e : Ending) (column : ℕ) (hs : List CommentValue) (a : Bool) {gap : List GapLine} {b : Bool} {here : List CommentValue} → gap ≡ gap_with g e column hs a → Blanks t (may_be_blank_after e) false gap here b
    → GapHolds P gap → Each (λ c. (k : ℕ) → own_column t c.offset ≡ Some k → P k → f c column ≡ k) here → gap_with f e column here b ≡ gap
gap_is {t} {P} g f e column hs a {gap} {b} {here} q w h each =
    gap_again g f e column hs a (subst (λ z. Blanks t (may_be_blank_after e) false z here b) q w) (subst (λ z. GapHolds P z) q h) each ∙ sym q

-- the rows after the first one, with what each carries; f are the columns that are found
pub decos_again : {t : List ℕ} {s : Style} {g : Columns} {c : Source} {row : Row} {rows : List Row} {d : Deco} {ds : List Deco} {bs : List OpenBlock} {may : Bool} {own : List CommentValue} (f : Columns) (comments : List CommentValue) → Carry t g c (row ∷ rows) (d ∷ ds) own
    → AllStay t s bs may rows d.gap ds → Each (WalkFrom t s f bs may rows) own → comments_left row comments ≡ own → decos_of f c comments (row ∷ rows) ≡ d ∷ ds
decos_again {t} {s} {g} {c} f comments (last_carries {row = row} {d = d} {here = here} hs r q w) (stays_end h) v e =
    ap (λ z. z ∷ []) (deco_is d (gap_of f row.ending (comments_left row comments) []) r
    (ap (λ z. gap_of f row.ending z []) e ∙ (gap_at_end f row.ending here ∙ gap_is g f row.ending 0 hs false q w h (stay_at_end v))))
decos_again {t} {s} {g} {c} f comments (row_carries {row = row} {next = next} {rows = rows} {d = d} {here = here} {left = left} hs b r q w a more) (stays_row {d = n} {ds = ns} h rest) v e =
    let gap : gap_of f row.ending (comments_left row comments) (next ∷ rows) ≡ d.gap =
    ap (λ z. gap_of f row.ending z (next ∷ rows)) e ∙ (apart_gap f row.ending rows a ∙ gap_is g f row.ending next.column hs b q w h (stay_before a v)) in
    ap (λ z. z ∷ decos_of f c (comments_left row comments) (next ∷ rows)) (deco_is d (gap_of f row.ending (comments_left row comments) (next ∷ rows)) r gap)
    ∙ ap (λ z. d ∷ z) (decos_again f (comments_left row comments) more rest (walk_after a v) (ap (λ z. comments_left next z) e ∙ apart_left a))
