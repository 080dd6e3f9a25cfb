-- If a condition holds for the columns of the next line, of the margin, and of the open collections, it holds for the
-- columns of laid-out comments.
use Rattle.std.proofs.Common.{◌≡◌, ℕ, zero, suc, ◌+◌, Bool, true, false, true≢false, List, [], ◌∷◌, ◌++◌, Option, Some, None, refl, sym, ap, ◌∙◌, subst}
use Rattle.std.proofs.lemmas.Option.{same_Some}
use Rattle.std.specs.Prelude.{◌&&◌, filter, if◌then◌else◌, nat_lt, not}
use Rattle.yf_chars.proofs.Tests.{none_some}
use Rattle.yf_comments.specs.Comment.{CommentValue}
use Rattle.yf_comments.specs.GapLines.{GapLine, blank, remark}
use Rattle.yf_forms.specs.declared.style.Style.{Style}
use Rattle.yf_print.specs.Layouts.CommentColumns.{Beginning, begins_document, begins_entry, begins_node, at_margin, column_among, column_at, column_left, comment_column, further_in, goes_on, inward_from, is_ended_by, is_source, left_or, not_ended, open_after, or_else, placed_in}
use Rattle.yf_print.specs.declared.open_blocks.OpenBlock.{OpenBlock}
use Rattle.yf_laws.specs.Layouts.Decorated.{blank_if, comments_left, ending_after, gap_of, remarks_after}
use Rattle.yf_print.specs.Layouts.KeptColumns.{Columns, after_row, beginning, column_above, column_among_rows, columns_if, is_before_first, is_bodyless, keeps_blocks, precedes_item, after_starts, block_of, unless_document}
use Rattle.yf_laws.specs.Layouts.Layout.{may_be_blank_after}
use Rattle.yf_print.specs.Layouts.Rows.{Ending, Row, anywhere, Start}
use Rattle.yf_print.specs.Layouts.SourceColumns.{own_column}
use Rattle.yf_laws.proofs.SameReading.CommentsCut.{Each, each_map, each_more, each_none}
use Rattle.yf_events.specs.declared.event.Span.{Span}

-- Gaps.

-- the condition P holds for the column of each comment
pub data GapHolds (P : ℕ → Type 0) : List GapLine → Type 0 where
  none_holds : GapHolds P []
  blank_holds : {gs : List GapLine} → GapHolds P gs → GapHolds P (blank ∷ gs)
  remark_holds : {column : ℕ} {text : List ℕ} {gs : List GapLine} → P column → GapHolds P gs → GapHolds P (remark column text ∷ gs)

gaps_hold : {P : ℕ → Type 0} {gs hs : List GapLine} → GapHolds P gs → GapHolds P hs → GapHolds P (gs ++ hs)
gaps_hold none_holds b = b
gaps_hold (blank_holds a) b = blank_holds (gaps_hold a b)
gaps_hold (remark_holds p a) b = remark_holds p (gaps_hold a b)

maybe_blank : {P : ℕ → Type 0} (b : Bool) → GapHolds P (blank_if b)
maybe_blank true = blank_holds none_holds
maybe_blank false = none_holds

pub remarks_hold : {P : ℕ → Type 0} (g : Columns) (column : ℕ) (e : Ending) {cs : List CommentValue} → Each (λ d. P (g d column)) cs → GapHolds P (remarks_after g e column cs)
remarks_hold g column e each_none = none_holds
remarks_hold g column e (each_more {d = d} {ds = ds} p a) = gaps_hold (maybe_blank (may_be_blank_after e && d.blank_before)) (remark_holds p (remarks_hold g column anywhere a))

pub gap_holds : {P : ℕ → Type 0} (g : Columns) (e : Ending) (cs : List CommentValue) (row : Row) (rows : List Row) → Each (λ d. P (g d row.column)) (filter (precedes_item row) cs) → GapHolds P (gap_of g e cs (row ∷ rows))
gap_holds g e cs row rows a = gaps_hold (remarks_hold g row.column e a) (maybe_blank (may_be_blank_after (ending_after e (filter (precedes_item row) cs)) && row.blank_before))

pub every : {P : CommentValue → Type 0} → ((d : CommentValue) → P d) → (cs : List CommentValue) → Each P cs
every f [] = each_none
every f (c ∷ cs) = each_more (f c) (every f cs)

-- Comments among rows.

-- g returns the column of a comment that is somewhere among these rows, or after them
pub record WalkFrom (t : List ℕ) (s : Style) (g : Columns) (bs : List OpenBlock) (may : Bool) (rows : List Row) (d : CommentValue) : Type 0 where
  pub is : (next : ℕ) → g d next ≡ columns_if (keeps_blocks s) (column_among_rows t s bs may rows d) next

-- g returns the column of a comment directly before a row
pub record WalkAbove (t : List ℕ) (s : Style) (g : Columns) (bs : List OpenBlock) (may : Bool) (row : Row) (d : CommentValue) : Type 0 where
  pub is : (next : ℕ) → g d next ≡ columns_if (keeps_blocks s) (column_above t s bs may row d) next

module _ {t : List ℕ} {s : Style} {g : Columns} {bs : List OpenBlock} {may : Bool} {row : Row} {rows : List Row} where
  chosen : (d : CommentValue) (b : Bool) → precedes_item row d ≡ b → WalkFrom t s g bs may (row ∷ rows) d
      → (next : ℕ) → g d next ≡ columns_if (keeps_blocks s) (if b then column_above t s bs may row d else column_among_rows t s (after_row t row bs) (is_bodyless row.body) rows d) next
  chosen d b e w next =
      w.is next ∙ ap (λ z. columns_if (keeps_blocks s) (if z then column_above t s bs may row d else column_among_rows t s (after_row t row bs) (is_bodyless row.body) rows d) next) e

  pub walk_above : {d : CommentValue} → precedes_item row d ≡ true → WalkFrom t s g bs may (row ∷ rows) d → WalkAbove t s g bs may row d
  walk_above {d} e w = record { is = chosen d true e w }

  pub walk_past : {d : CommentValue} → precedes_item row d ≡ false → WalkFrom t s g bs may (row ∷ rows) d → WalkFrom t s g (after_row t row bs) (is_bodyless row.body) rows d
  walk_past {d} e w = record { is = chosen d false e w }

  -- for the comments before the first row, and for those after it
  pub above_walk : {cs : List CommentValue} → Each (WalkFrom t s g bs may (row ∷ rows)) cs → Each (WalkAbove t s g bs may row) (filter (precedes_item row) cs)
  above_walk each_none = each_none
  above_walk (each_more {d = d} {ds = ds} w a) = go (precedes_item row d) refl (above_walk a) where
    go : (b : Bool) → precedes_item row d ≡ b → Each (WalkAbove t s g bs may row) (filter (precedes_item row) ds) → Each (WalkAbove t s g bs may row) (if b then d ∷ filter (precedes_item row) ds else filter (precedes_item row) ds)
    go true e more = each_more (walk_above e w) more
    go false e more = more

  pub left_walk : {cs : List CommentValue} → Each (WalkFrom t s g bs may (row ∷ rows)) cs → Each (WalkFrom t s g (after_row t row bs) (is_bodyless row.body) rows) (comments_left row cs)
  left_walk each_none = each_none
  left_walk (each_more {d = d} {ds = ds} w a) = go (precedes_item row d) refl (left_walk a) where
    go : (b : Bool) → precedes_item row d ≡ b → Each (WalkFrom t s g (after_row t row bs) (is_bodyless row.body) rows) (comments_left row ds)
        → Each (WalkFrom t s g (after_row t row bs) (is_bodyless row.body) rows) (if not b then d ∷ comments_left row ds else comments_left row ds)
    go true e more = more
    go false e more = each_more (walk_past e w) more

-- Columns.

pub data AllBlocks (P : ℕ → Type 0) : List OpenBlock → Type 0 where
  no_blocks : AllBlocks P []
  one_block : {b : OpenBlock} {bs : List OpenBlock} → P b.printed → AllBlocks P bs → AllBlocks P (b ∷ bs)

pub blocks_map : {P Q : ℕ → Type 0} {bs : List OpenBlock} → ((k : ℕ) → P k → Q k) → AllBlocks P bs → AllBlocks Q bs
blocks_map f no_blocks = no_blocks
blocks_map f (one_block {b = b} p a) = one_block (f b.printed p) (blocks_map f a)

module _ (P : ℕ → Type 0) where
  at_holds : (k : ℕ) {bs : List OpenBlock} → AllBlocks P bs → (c : ℕ) → column_at k bs ≡ Some c → P c
  at_holds k no_blocks c e = absurd (none_some e)
  at_holds k (one_block {b = b} {bs = bs} p a) c e = go (is_source k b.source) (at_holds k a c) e where
    go : (v : Bool) → (column_at k bs ≡ Some c → P c) → (if v then Some b.printed else column_at k bs) ≡ Some c → P c
    go true rest f = subst P (same_Some b.printed c f) p
    go false rest f = rest f

  left_holds : (indent : ℕ) (may : Bool) (k : ℕ) {bs : List OpenBlock} → AllBlocks P bs → (may ≡ true → AllBlocks (λ c. P (c + indent)) bs) → (c : ℕ) → column_left indent may k bs ≡ Some c → P c
  left_holds indent may k no_blocks f c e = absurd (none_some e)
  left_holds indent may k (one_block {b = b} {bs = bs} p a) f c e = go b.source (left_holds indent may k a (λ m. tail (f m)) c) (left_holds indent false k a (λ m. absurd (true≢false (sym m))) c) e where
    tail : AllBlocks (λ c. P (c + indent)) (b ∷ bs) → AllBlocks (λ c. P (c + indent)) bs
    tail (one_block q more) = more

    head : AllBlocks (λ c. P (c + indent)) (b ∷ bs) → P (b.printed + indent)
    head (one_block q more) = q

    further : (m : Bool) → (m ≡ true → P (b.printed + indent)) → P (further_in indent m b.printed)
    further true q = q refl
    further false q = p

    chosen : (v : Bool) → (column_left indent false k bs ≡ Some c → P c) → (if v then Some (further_in indent may b.printed) else column_left indent false k bs) ≡ Some c → P c
    chosen true rest g = subst P (same_Some (further_in indent may b.printed) c g) (further may (λ m. head (f m)))
    chosen false rest g = rest g

    go : (o : Option ℕ) → (column_left indent may k bs ≡ Some c → P c) → (column_left indent false k bs ≡ Some c → P c)
        → left_or indent may k o b.printed (column_left indent may k bs) (column_left indent false k bs) ≡ Some c → P c
    go None same later g = same g
    go (Some n) same later g = chosen (nat_lt n k) later g

  or_holds : (o : Option ℕ) (other : ℕ) → ((c : ℕ) → o ≡ Some c → P c) → P other → P (or_else o other)
  or_holds None other f p = p
  or_holds (Some c) other f p = f c refl

  margin_holds : (k : ℕ) (bs : List OpenBlock) (other : ℕ) → P 0 → P other → P (at_margin k bs other)
  margin_holds k [] other z p = p
  margin_holds zero (b ∷ bs) other z p = z
  margin_holds (suc k) (b ∷ bs) other z p = p

  among_holds : (indent : ℕ) (may : Bool) (next k : ℕ) {inner all : List OpenBlock} → P next → P 0 → AllBlocks P inner → (may ≡ true → AllBlocks (λ c. P (c + indent)) inner) → AllBlocks P all → P (column_among indent may next k inner all)
  among_holds indent may next k {inner} {all} p z i j a =
      or_holds (column_at k all) (at_margin k all (or_else (column_left indent may k inner) next)) (at_holds k a)
      (margin_holds k all (or_else (column_left indent may k inner) next) z (or_holds (column_left indent may k inner) next (left_holds indent may k i j) p))

  either_holds : (b : Bool) {m n : ℕ} → P m → P n → P (if b then m else n)
  either_holds true p q = p
  either_holds false p q = q

inward_blocks : {Q : ℕ → Type 0} (y : OpenBlock) {bs : List OpenBlock} → AllBlocks Q bs → AllBlocks Q (inward_from y bs)
inward_blocks y no_blocks = no_blocks
inward_blocks {Q} y (one_block {b = b} {bs = bs} p a) = go (is_ended_by y b) (inward_blocks y a) where
  go : (v : Bool) → AllBlocks Q (inward_from y bs) → AllBlocks Q (if v then b ∷ inward_from y bs else b ∷ [])
  go true more = one_block p more
  go false more = one_block p no_blocks

pub column_holds : (P : ℕ → Type 0) (indent : ℕ) (may : Bool) (next : ℕ) (k : Option ℕ) (begin : Beginning) {bs : List OpenBlock} → P next → P 0 → AllBlocks P bs → (may ≡ true → AllBlocks (λ c. P (c + indent)) bs)
    → P (comment_column indent may next k begin bs)
column_holds P indent may next None begin p z a f = p
column_holds P indent may next (Some k) begins_node p z a f = p
column_holds P indent may next (Some k) begins_document p z a f = among_holds P indent may next k p z a f a
column_holds P indent may next (Some k) (begins_entry y) {bs} p z a f =
    either_holds P (goes_on y (not_ended y bs)) (among_holds P indent may next k p z (inward_blocks y a) (λ m. inward_blocks y (f m)) a)
    (either_holds P (is_source k y.source) p (or_holds P (column_at k bs) (at_margin k bs next) (at_holds P k a) (margin_holds P k bs next z p)))

pub above_holds : (P : ℕ → Type 0) (t : List ℕ) (s : Style) (may : Bool) (row : Row) (d : CommentValue) {bs : List OpenBlock} → P row.column → P 0 → AllBlocks P bs → (may ≡ true → AllBlocks (λ c. P (c + s.indent)) bs)
    → P (column_above t s bs may row d)
above_holds P t s may row d p z a f =
    either_holds P (is_before_first row.items d.offset) (column_holds P s.indent may row.column (own_column t d.offset) (beginning t row.starts row.leaves) p z a f) p

pub if_holds : (P : ℕ → Type 0) (b : Bool) {kept next : ℕ} → P kept → P next → P (columns_if b kept next)
if_holds P true p q = p
if_holds P false p q = q

-- Along rows.

module _ (P : ℕ → Type 0) (t : List ℕ) (s : Style) {g : Columns} where
  -- before the first of the rows, or at the end
  pub gap_columns : {bs : List OpenBlock} {may : Bool} {cs : List CommentValue} (e : Ending) (rows : List Row) → Each (WalkFrom t s g bs may rows) cs → P 0 → ((row : Row) (others : List Row) → rows ≡ row ∷ others → P row.column) → AllBlocks P bs
      → (may ≡ true → AllBlocks (λ c. P (c + s.indent)) bs) → GapHolds P (gap_of g e cs rows)
  gap_columns {bs} {may} e [] w z f a h =
      remarks_hold g 0 e (each_map (λ d i v.
      subst P (sym (v.is 0)) (if_holds P (keeps_blocks s) (column_holds P s.indent may 0 (own_column t d.offset) begins_document z z a h) z)) w)
  gap_columns {bs} {may} {cs} e (row ∷ rows) w z f a h =
      gap_holds g e cs row rows (each_map (λ d i v.
      subst P (sym (v.is row.column)) (if_holds P (keeps_blocks s) (above_holds P t s may row d (f row rows refl) z a h) (f row rows refl))) (above_walk w))

-- collections that are open after a row
not_ended_blocks : {Q : ℕ → Type 0} (y : OpenBlock) {bs : List OpenBlock} → AllBlocks Q bs → AllBlocks Q (not_ended y bs)
not_ended_blocks y no_blocks = no_blocks
not_ended_blocks {Q} y (one_block {b = b} {bs = bs} p a) = go (is_ended_by y b) (not_ended_blocks y a) where
  go : (v : Bool) → AllBlocks Q (not_ended y bs) → AllBlocks Q (if v then not_ended y bs else b ∷ bs)
  go true more = more
  go false more = one_block p a

open_blocks : {Q : ℕ → Type 0} (y : OpenBlock) {bs : List OpenBlock} → Q y.printed → AllBlocks Q bs → AllBlocks Q (open_after y bs)
open_blocks {Q} y {bs} p a = go (goes_on y (not_ended y bs)) (not_ended_blocks y a) where
  go : (v : Bool) → AllBlocks Q (not_ended y bs) → AllBlocks Q (if v then not_ended y bs else placed_in y (not_ended y bs) ∷ not_ended y bs)
  go true more = more
  go false more = one_block p more

-- for the columns of entries
abbrev pub StartsHold : (ℕ → Type 0) → List Start → Type 0
StartsHold Q [] = Unit {0}
StartsHold Q (s ∷ ss) = Q s.column × StartsHold Q ss

starts_blocks : {Q : ℕ → Type 0} (t : List ℕ) (ss : List Start) {bs : List OpenBlock} → StartsHold Q ss → AllBlocks Q bs → AllBlocks Q (after_starts t ss bs)
starts_blocks t [] h a = a
starts_blocks t (s ∷ ss) h a = starts_blocks t ss h.1 (open_blocks (block_of t s) h.0 a)

unless_blocks : {Q : ℕ → Type 0} (ss : List Start) (ls : List Span) {bs : List OpenBlock} → AllBlocks Q bs → AllBlocks Q (unless_document ss ls bs)
unless_blocks [] [] a = no_blocks
unless_blocks [] (l ∷ ls) a = a
unless_blocks (s ∷ ss) ls a = a

pub after_blocks : {Q : ℕ → Type 0} (t : List ℕ) (row : Row) {bs : List OpenBlock} → StartsHold Q row.starts → AllBlocks Q bs → AllBlocks Q (after_row t row bs)
after_blocks t row h a = starts_blocks t row.starts h (unless_blocks row.starts row.leaves a)
