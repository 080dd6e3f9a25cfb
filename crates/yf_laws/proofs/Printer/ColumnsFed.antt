-- The columns of comments in a draft are those of the layout.
use Rattle.std.proofs.Common.{◌≡◌, ℕ, Bool, true, false, List, [], ◌∷◌, ◌++◌, map, flat_map, Option, Some, None, refl, sym, ap, ◌∙◌, subst, append_assoc, append-nil}
use Rattle.std.specs.Prelude.{if◌then◌else◌}
use Rattle.yf_comments.specs.Comment.{CommentValue}
use Rattle.yf_events.specs.declared.event.Span.{Span}
use Rattle.yf_print.specs.Passes.Drafts.{after_blocks, after_line, begins_with, Draft, has_no_lines, is_before, kept_column, leaf_marked, line_column, LineMarks, known_if, no_marks, or_first, Remarks, start_if, start_marked, unless_begun}
use Rattle.yf_print.specs.Layouts.CommentColumns.{begins_document, comment_column, open_after}
use Rattle.yf_print.specs.declared.open_blocks.OpenBlock.{OpenBlock}
use Rattle.yf_forms.specs.Nodes.Lines.{ended}
use Rattle.yf_print.specs.Layouts.Rows.{Row, Start}
use Rattle.yf_print.specs.Layouts.KeptColumns.{Columns, after_row, after_starts, beginning, block_of, column_above, column_among_rows, columns_if, is_before_first, is_bodyless, keeps_blocks, unless_document}
use Rattle.yf_print.specs.Layouts.SourceColumns.{own_column}
use Rattle.yf_laws.proofs.OutputLines.ColumnsHold.{WalkAbove, WalkFrom}
use Rattle.yf_print.proofs.Pass.KnownLines.{IsKnown, block_is, known_on, text_known}
use Rattle.yf_laws.proofs.SameReading.CommentsCut.{Each, each_more, each_none}

-- the entries that begin on a line, and the leaves on it
abbrev pub starts_marked : Remarks → List Start → LineMarks → LineMarks
starts_marked r [] m = m
starts_marked r (s ∷ ss) m = starts_marked r ss (start_marked r s m)

abbrev pub leaves_marked : List Span → LineMarks → LineMarks
leaves_marked [] m = m
leaves_marked (l ∷ ls) m = leaves_marked ls (leaf_marked m)

abbrev pub any_leaf : List Span → Bool → Bool
any_leaf [] b = b
any_leaf (l ∷ ls) b = true

-- the first of the items
abbrev pub firsts : List ℕ → Option ℕ → Option ℕ
firsts [] first = first
firsts (o ∷ os) first = firsts os (or_first first o)

-- Columns.

module _ (r : Remarks) {g : Columns} where
  -- if comments don't keep their blocks, any collections may be open
  any_chain : {rows : List Row} {bs ds : List OpenBlock} {may now : Bool} → (keeps_blocks r.style ≡ true → (bs ≡ ds) × (may ≡ now)) → {d : CommentValue} → WalkFrom r.text r.style g bs may rows d → WalkFrom r.text r.style g ds now rows d
  any_chain {rows} {bs} {ds} {may} {now} same {d} w = by (keeps_blocks r.style) refl where
    by : (b : Bool) → keeps_blocks r.style ≡ b → WalkFrom r.text r.style g ds now rows d
    by true e = subst (λ z. WalkFrom r.text r.style g ds z rows d) (same e).1 (subst (λ z. WalkFrom r.text r.style g z may rows d) (same e).0 w)
    by false e = record {
      is = λ next.
          w.is next ∙ (ap (λ z. columns_if z (column_among_rows r.text r.style bs may rows d) next) e ∙ sym (ap (λ z. columns_if z (column_among_rows r.text r.style ds now rows d) next) e));
    }

  pub chains : {rows : List Row} {bs ds : List OpenBlock} {may now : Bool} {cs : List CommentValue} → (keeps_blocks r.style ≡ true → (bs ≡ ds) × (may ≡ now)) → Each (WalkFrom r.text r.style g bs may rows) cs → Each (WalkFrom r.text r.style g ds now rows) cs
  chains same each_none = each_none
  chains same (each_more w more) = each_more (any_chain same w) (chains same more)

starts_are : (r : Remarks) (ss : List Start) (m : LineMarks) → keeps_blocks r.style ≡ true → IsKnown r.text m.known → (starts_marked r ss m).starts ≡ m.starts ++ map (block_of r.text) ss
starts_are r [] m e k = sym (append-nil m.starts)
starts_are r (s ∷ ss) m e k =
    starts_are r ss (start_marked r s m) e (subst (λ b. IsKnown r.text (known_if b r.text s m.known)) (sym e) (known_on r.text m.known s.offsets k))
    ∙ (ap (λ b. start_if b r.text s m.known m.starts ++ map (block_of r.text) ss) e
    ∙ (ap (λ b. (m.starts ++ (b ∷ [])) ++ map (block_of r.text) ss) (block_is r.text m.known s k) ∙ append_assoc m.starts (block_of r.text s ∷ []) (map (block_of r.text) ss)))

leaf_stays : (r : Remarks) (ss : List Start) (m : LineMarks) → (starts_marked r ss m).has_leaf ≡ m.has_leaf
leaf_stays r [] m = refl
leaf_stays r (s ∷ ss) m = leaf_stays r ss (start_marked r s m)

leaves_are : (ls : List Span) (m : LineMarks) → leaves_marked ls m ≡ record m { has_leaf = any_leaf ls m.has_leaf }
leaves_are [] m = refl
leaves_are (l ∷ ls) m = leaves_are ls (leaf_marked m) ∙ ap (λ b. record m { has_leaf = b }) (all ls) where
  all : (ls : List Span) → any_leaf ls true ≡ true
  all [] = refl
  all (k ∷ ks) = refl

-- for a row
pub record RowMarks (t : List ℕ) (row : Row) (m : LineMarks) : Type 0 where
  pub starts : m.starts ≡ map (block_of t) row.starts
  pub leaf : m.has_leaf ≡ any_leaf row.leaves false

pub marks_are : (r : Remarks) (row : Row) → keeps_blocks r.style ≡ true → RowMarks r.text row (leaves_marked row.leaves (starts_marked r row.starts no_marks))
marks_are r row e =
    let m : LineMarks = starts_marked r row.starts no_marks in
    let same : leaves_marked row.leaves m ≡ record m { has_leaf = any_leaf row.leaves m.has_leaf } = leaves_are row.leaves m in
    record {
      starts = ap (λ (w : LineMarks). w.starts) same ∙ starts_are r row.starts no_marks e (text_known r.text);
      leaf = ap (λ (w : LineMarks). w.has_leaf) same ∙ ap (any_leaf row.leaves) (leaf_stays r row.starts no_marks);
    }

begins_same : (t : List ℕ) (ss : List Start) (ls : List Span) → begins_with (map (block_of t) ss) (any_leaf ls false) ≡ beginning t ss ls
begins_same t [] [] = refl
begins_same t [] (l ∷ ls) = refl
begins_same t (s ∷ ss) ls = refl

begins_are : {t : List ℕ} {row : Row} {m : LineMarks} → RowMarks t row m → begins_with m.starts m.has_leaf ≡ beginning t row.starts row.leaves
begins_are {t} {row} {m} a =
    ap (λ z. begins_with z m.has_leaf) a.starts ∙ (ap (begins_with (map (block_of t) row.starts)) a.leaf ∙ begins_same t row.starts row.leaves)

blocks_same : (t : List ℕ) (ss : List Start) (bs : List OpenBlock) → after_blocks (map (block_of t) ss) bs ≡ after_starts t ss bs
blocks_same t [] bs = refl
blocks_same t (s ∷ ss) bs = blocks_same t ss (open_after (block_of t s) bs)

after_lists : (t : List ℕ) (ss : List Start) (ls : List Span) (bs : List OpenBlock)
    → after_blocks (map (block_of t) ss) (unless_begun (map (block_of t) ss) (any_leaf ls false) bs) ≡ after_starts t ss (unless_document ss ls bs)
after_lists t [] [] bs = refl
after_lists t [] (l ∷ ls) bs = refl
after_lists t (s ∷ ss) ls bs = blocks_same t (s ∷ ss) bs

pub after_same : {t : List ℕ} {row : Row} {m : LineMarks} (bs : List OpenBlock) → RowMarks t row m → after_line m bs ≡ after_row t row bs
after_same {t} {row} {m} bs a =
    ap (λ z. after_blocks z (unless_begun z m.has_leaf bs)) a.starts
    ∙ (ap (λ b. after_blocks (map (block_of t) row.starts) (unless_begun (map (block_of t) row.starts) b bs)) a.leaf ∙ after_lists t row.starts row.leaves bs)

pub no_lines_same : (body : List (List ℕ)) → has_no_lines (flat_map ended body) ≡ is_bodyless body
no_lines_same [] = refl
no_lines_same ([] ∷ ls) = refl
no_lines_same ((b ∷ l) ∷ ls) = refl

before_same : (items : List ℕ) (offset : ℕ) → is_before (firsts items None) offset ≡ is_before_first items offset
before_same [] offset = refl
before_same (o ∷ os) offset = ap (λ z. is_before z offset) (kept os) where
  kept : (os : List ℕ) → firsts os (Some o) ≡ Some o
  kept [] = refl
  kept (p ∷ ps) = kept ps

-- the column of a comment before a row, in the draft
above_same : (r : Remarks) (row : Row) (bs : List OpenBlock) (may : Bool) (d : Draft) (c : CommentValue) → d.first ≡ firsts row.items None
    → d.marks ≡ leaves_marked row.leaves (starts_marked r row.starts no_marks) → d.chain ≡ bs → d.is_bodyless ≡ may
    → line_column r row.column d c ≡ columns_if (keeps_blocks r.style) (column_above r.text r.style bs may row c) row.column
above_same r row bs may d c first marks chain bodyless = by (keeps_blocks r.style) refl where
  by : (b : Bool) → keeps_blocks r.style ≡ b → columns_if b (kept_column r row.column d c) row.column ≡ columns_if b (column_above r.text r.style bs may row c) row.column
  by false e = refl
  by true e =
      ap (λ z. if z then comment_column r.style.indent d.is_bodyless row.column (own_column r.text c.offset) (begins_with d.marks.starts d.marks.has_leaf) d.chain else row.column)
      (ap (λ z. is_before z c.offset) first ∙ before_same row.items c.offset)
      ∙ ap (λ z. if is_before_first row.items c.offset then z else row.column)
      (ap (λ z. comment_column r.style.indent d.is_bodyless row.column (own_column r.text c.offset) z d.chain) (ap (λ (m : LineMarks). begins_with m.starts m.has_leaf) marks ∙ begins_are (marks_are r row e))
      ∙ (ap (λ z. comment_column r.style.indent z row.column (own_column r.text c.offset) (beginning r.text row.starts row.leaves) d.chain) bodyless
      ∙ ap (λ z. comment_column r.style.indent may row.column (own_column r.text c.offset) (beginning r.text row.starts row.leaves) z) chain))

pub each_column : (r : Remarks) {g : Columns} {row : Row} {bs : List OpenBlock} {may : Bool} {cs : List CommentValue} (d : Draft) → d.first ≡ firsts row.items None
    → d.marks ≡ leaves_marked row.leaves (starts_marked r row.starts no_marks) → d.chain ≡ bs → d.is_bodyless ≡ may
    → Each (WalkAbove r.text r.style g bs may row) cs → Each (λ c. line_column r row.column d c ≡ g c row.column) cs
each_column r d first marks chain bodyless each_none = each_none
each_column r {g} {row} {bs} {may} d first marks chain bodyless (each_more {d = c} w more) =
    each_more (above_same r row bs may d c first marks chain bodyless ∙ sym (w.is row.column)) (each_column r d first marks chain bodyless more)

-- for a comment after all rows
pub last_column : (r : Remarks) {g : Columns} {bs : List OpenBlock} {may : Bool} {cs : List CommentValue} (d : Draft) → d.first ≡ None → d.marks ≡ no_marks → d.chain ≡ bs → d.is_bodyless ≡ may
    → Each (WalkFrom r.text r.style g bs may []) cs → Each (λ c. line_column r 0 d c ≡ g c 0) cs
last_column r d first marks chain bodyless each_none = each_none
last_column r {g} {bs} {may} d first marks chain bodyless (each_more {d = c} w more) =
    each_more
    (ap (λ z. columns_if (keeps_blocks r.style) (if is_before z c.offset then comment_column r.style.indent d.is_bodyless 0 (own_column r.text c.offset) (begins_with d.marks.starts d.marks.has_leaf) d.chain else 0) 0) first
    ∙ (ap (λ (m : LineMarks). columns_if (keeps_blocks r.style) (comment_column r.style.indent d.is_bodyless 0 (own_column r.text c.offset) (begins_with m.starts m.has_leaf) d.chain) 0) marks
    ∙ (ap (λ z. columns_if (keeps_blocks r.style) (comment_column r.style.indent d.is_bodyless 0 (own_column r.text c.offset) begins_document z) 0) chain
    ∙ (ap (λ z. columns_if (keeps_blocks r.style) (comment_column r.style.indent z 0 (own_column r.text c.offset) begins_document bs) 0) bodyless ∙ sym (w.is 0)))))
    (last_column r d first marks chain bodyless more)
