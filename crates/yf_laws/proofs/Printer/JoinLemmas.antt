-- Rows on the current line, and rows with a first one that is joined to a row.
use Rattle.std.proofs.Common.{◌≡◌, ℕ, Bool, true, false, ◌&&◌, List, [], ◌∷◌, ◌++◌, flat_map, replicate, Option, Some, None, refl, sym, ap, ◌∙◌, append_assoc, append-nil}
use Rattle.std.proofs.lemmas.Grind.{flat_map-append}
use Rattle.yf_comments.specs.Comment.{CommentValue}
use Rattle.yf_events.specs.Tree.{Node, entry_start, standing, starts_of_entry}
use Rattle.yf_events.specs.declared.event.Entry.{Entry}
use Rattle.yf_events.specs.declared.event.Span.{Span}
use Rattle.yf_print.specs.Passes.Drafts.{Draft, LineMarks, Remarks, leaf_marked, opened, past, start_marked, with_blank, with_start, with_text}
use Rattle.yf_laws.specs.Layouts.Layout.{may_be_blank_after}
use Rattle.yf_forms.specs.Nodes.Lines.{ended}
use Rattle.yf_print.specs.Passes.PrintPass.{entry_begun}
use Rattle.yf_print.specs.Passes.PrintWork.{Work, remarks_of}
use Rattle.yf_print.specs.Layouts.Rows.{Row, Start, anywhere, blank_before_entry, entry_row, is_dash, joined, start_of}
use Rattle.yf_laws.proofs.Printer.ColumnsFed.{leaves_marked, starts_marked}
use Rattle.yf_laws.proofs.Printer.FedLemmas.{all_past, fed, key_text, with_row}
use Rattle.yf_forms.proofs.Measure.SumLemmas.{true_right}

-- rows that begin on the current line
abbrev pub fed_on : Remarks → (Span → List ℕ) → List Row → Draft → Draft
fed_on r t [] d = d
fed_on r t (row ∷ rows) d = fed r t rows (with_row r t row d)

-- and after that many spaces, if there are rows
abbrev pub fed_after : Remarks → (Span → List ℕ) → ℕ → List Row → Draft → Draft
fed_after r t n [] d = d
fed_after r t n (row ∷ rows) d = fed r t rows (with_row r t row (with_text (replicate n 32) d))

pub fed_append : (r : Remarks) (t : Span → List ℕ) (xs ys : List Row) (d : Draft) → fed r t (xs ++ ys) d ≡ fed r t ys (fed r t xs d)
fed_append r t [] ys d = refl
fed_append r t (x ∷ xs) ys d = fed_append r t xs ys (with_row r t x (with_blank x.blank_before (opened r x.column d)))

pub fed_on_append : (r : Remarks) (t : Span → List ℕ) (x : Row) (xs ys : List Row) (d : Draft)
    → fed_on r t ((x ∷ xs) ++ ys) d ≡ fed r t ys (fed_on r t (x ∷ xs) d)
fed_on_append r t x xs ys d = fed_append r t xs ys (with_row r t x d)

pub past_append : (cs : List CommentValue) (xs ys : List ℕ) (d : Draft) → all_past cs (xs ++ ys) d ≡ all_past cs ys (all_past cs xs d)
past_append cs [] ys d = refl
past_append cs (x ∷ xs) ys d = past_append cs xs ys (past cs x d)

-- passing items doesn't depend on the line
abbrev pub edited : List ℕ → List ℕ → List ℕ → Bool → LineMarks → Draft → Draft
edited line trails body follow marks d = record d { line = line; trails = trails; body = body; may_follow = follow; marks = marks }

pub past_edited : (cs : List CommentValue) (xs : List ℕ) (line trails body : List ℕ) (follow : Bool) (marks : LineMarks) (d : Draft)
    → all_past cs xs (edited line trails body follow marks d) ≡ edited line trails body follow marks (all_past cs xs d)
past_edited cs [] line trails body follow marks d = refl
past_edited cs (x ∷ xs) line trails body follow marks d = past_edited cs xs line trails body follow marks (past cs x d)

abbrev joined_row : Row → ℕ → Row → Row
joined_row head n row = record {
  column = head.column;
  text = head.text ++ (replicate n 32 ++ row.text);
  starts = head.starts ++ row.starts;
  items = head.items ++ row.items;
  leaves = head.leaves ++ row.leaves;
  key_comment = row.key_comment;
  blank_before = head.blank_before;
  begins = head.begins;
  ending = row.ending;
  body = row.body;
  lines = row.lines;
}

-- the marks of a line
abbrev pub row_marks : Remarks → Row → LineMarks → LineMarks
row_marks r row m = leaves_marked row.leaves (starts_marked r row.starts m)

leaves_then : (xs ys : List Span) (m : LineMarks) → leaves_marked (xs ++ ys) m ≡ leaves_marked ys (leaves_marked xs m)
leaves_then [] ys m = refl
leaves_then (x ∷ xs) ys m = leaves_then xs ys (leaf_marked m)

pub leaves_both : (xs ys : List Span) (m : LineMarks) → leaves_marked ys (leaves_marked xs m) ≡ leaves_marked (xs ++ ys) m
leaves_both xs ys m = sym (leaves_then xs ys m)

starts_then : (r : Remarks) (xs ys : List Start) (m : LineMarks) → starts_marked r (xs ++ ys) m ≡ starts_marked r ys (starts_marked r xs m)
starts_then r [] ys m = refl
starts_then r (x ∷ xs) ys m = starts_then r xs ys (start_marked r x m)

leaf_start : (r : Remarks) (ss : List Start) (m : LineMarks) → starts_marked r ss (leaf_marked m) ≡ leaf_marked (starts_marked r ss m)
leaf_start r [] m = refl
leaf_start r (s ∷ ss) m = leaf_start r ss (start_marked r s m)

leaves_start : (r : Remarks) (ss : List Start) (ls : List Span) (m : LineMarks) → leaves_marked ls (starts_marked r ss m) ≡ starts_marked r ss (leaves_marked ls m)
leaves_start r ss [] m = refl
leaves_start r ss (l ∷ ls) m = ap (leaves_marked ls) (sym (leaf_start r ss m)) ∙ leaves_start r ss ls (leaf_marked m)

joined_marks : (r : Remarks) (head : Row) (n : ℕ) (row : Row) (m : LineMarks) → row_marks r (joined_row head n row) m ≡ row_marks r row (row_marks r head m)
joined_marks r head n row m =
    ap (leaves_marked (head.leaves ++ row.leaves)) (starts_then r head.starts row.starts m)
    ∙ (leaves_then head.leaves row.leaves (starts_marked r row.starts (starts_marked r head.starts m))
    ∙ ap (leaves_marked row.leaves) (leaves_start r row.starts head.leaves (starts_marked r head.starts m)))

-- a row that others can be joined to: a sign with the items before it
pub record IsHead (row : Row) : Type 0 where
  pub key : row.key_comment ≡ None
  pub body : row.body ≡ []
  pub ending : row.ending ≡ anywhere

-- only a head
pub head_is : (r : Remarks) (t : Span → List ℕ) (head : Row) (d : Draft) → IsHead head
    → with_row r t head d ≡ edited (d.line ++ head.text) (d.trails ++ flat_map t head.leaves) d.body d.may_follow (row_marks r head d.marks) (all_past r.comments head.items d)
head_is r t head d h =
    let m : LineMarks = row_marks r head d.marks in
    past_edited r.comments head.items (d.line ++ (head.text ++ key_text head.key_comment)) (d.trails ++ flat_map t head.leaves)
    (d.body ++ flat_map ended head.body) (d.may_follow && may_be_blank_after head.ending) m d
    ∙ (ap (λ w. edited (d.line ++ (head.text ++ key_text w)) (d.trails ++ flat_map t head.leaves) (d.body ++ flat_map ended head.body) (d.may_follow && may_be_blank_after head.ending) m (all_past r.comments head.items d)) h.key
    ∙ (ap (λ w. edited (d.line ++ (head.text ++ [])) (d.trails ++ flat_map t head.leaves) (d.body ++ flat_map ended w) (d.may_follow && may_be_blank_after head.ending) m (all_past r.comments head.items d)) h.body
    ∙ (ap (λ w. edited (d.line ++ (head.text ++ [])) (d.trails ++ flat_map t head.leaves) (d.body ++ []) (d.may_follow && may_be_blank_after w) m (all_past r.comments head.items d)) h.ending
    ∙ (ap (λ w. edited (d.line ++ w) (d.trails ++ flat_map t head.leaves) (d.body ++ []) (d.may_follow && true) m (all_past r.comments head.items d)) (append-nil head.text)
    ∙ (ap (λ w. edited (d.line ++ head.text) (d.trails ++ flat_map t head.leaves) w (d.may_follow && true) m (all_past r.comments head.items d)) (append-nil d.body)
    ∙ ap (λ w. edited (d.line ++ head.text) (d.trails ++ flat_map t head.leaves) d.body w m (all_past r.comments head.items d)) (true_right d.may_follow))))))

-- a row joined to a head is the head, the spaces and the row
pub joined_is : (r : Remarks) (t : Span → List ℕ) (head : Row) (n : ℕ) (row : Row) (d : Draft) → IsHead head
    → with_row r t (joined_row head n row) d ≡ with_row r t row (with_text (replicate n 32) (with_row r t head d))
joined_is r t head n row d h =
    let cs : List CommentValue = r.comments in
    let spaces : List ℕ = replicate n 32 in
    let key : List ℕ = key_text row.key_comment in
    let after : Draft = all_past cs head.items d in
    let body : List ℕ = d.body ++ flat_map ended row.body in
    let follow : Bool = d.may_follow && may_be_blank_after row.ending in
    let one : List ℕ = d.line ++ ((head.text ++ (spaces ++ row.text)) ++ key) in
    let other : List ℕ = ((d.line ++ head.text) ++ spaces) ++ (row.text ++ key) in
    let both : List ℕ = (d.trails ++ flat_map t head.leaves) ++ flat_map t row.leaves in
    let first : LineMarks = row_marks r head d.marks in
    let marks : LineMarks = row_marks r (joined_row head n row) d.marks in
    let then_marks : LineMarks = row_marks r row first in
    let line : one ≡ other =
    ap (λ w. d.line ++ w) (append_assoc head.text (spaces ++ row.text) key ∙ ap (λ w. head.text ++ w) (append_assoc spaces row.text key))
    ∙ (sym (append_assoc d.line head.text (spaces ++ (row.text ++ key))) ∙ sym (append_assoc (d.line ++ head.text) spaces (row.text ++ key))) in
    let trails : d.trails ++ flat_map t (head.leaves ++ row.leaves) ≡ both =
    ap (λ w. d.trails ++ w) (flat_map-append t head.leaves row.leaves) ∙ sym (append_assoc d.trails (flat_map t head.leaves) (flat_map t row.leaves)) in
    past_edited cs (head.items ++ row.items) one (d.trails ++ flat_map t (head.leaves ++ row.leaves)) body follow marks d
    ∙ (ap (λ w. edited one (d.trails ++ flat_map t (head.leaves ++ row.leaves)) body follow marks w) (past_append cs head.items row.items d)
    ∙ (ap (λ w. edited w (d.trails ++ flat_map t (head.leaves ++ row.leaves)) body follow marks (all_past cs row.items after)) line
    ∙ (ap (λ w. edited other w body follow marks (all_past cs row.items after)) trails
    ∙ (ap (λ w. edited other both body follow w (all_past cs row.items after)) (joined_marks r head n row d.marks)
    ∙ (sym (past_edited cs row.items other both body follow then_marks after)
    ∙ (sym (past_twice cs row.items other both body follow then_marks d head.items (d.line ++ head.text ++ spaces) (d.trails ++ flat_map t head.leaves) first)
    ∙ ap (λ w. with_row r t row (with_text spaces w)) (sym (head_is r t head d h)))))))) where
      -- an edit replaces an earlier one
      past_twice : (cs : List CommentValue) (xs : List ℕ) (line trails body : List ℕ) (follow : Bool) (marks : LineMarks) (d : Draft) (items : List ℕ) (line' trails' : List ℕ) (marks' : LineMarks)
          → all_past cs xs (edited line trails body follow marks (edited line' trails' d.body d.may_follow marks' (all_past cs items d)))
          ≡ all_past cs xs (edited line trails body follow marks (all_past cs items d))
      past_twice cs xs line trails body follow marks d items line' trails' marks' = refl

pub joined_fed : (r : Remarks) (t : Span → List ℕ) (head : Row) (n : ℕ) (rows : List Row) (d : Draft) → IsHead head
    → fed r t (joined head n rows) d ≡ fed_after r t n rows (fed r t (head ∷ []) d)
joined_fed r t head n [] d h = refl
joined_fed r t head n (row ∷ rows) d h =
    ap (fed r t rows) (joined_is r t head n row (with_blank head.blank_before (opened r head.column d)) h)

pub joined_on : (r : Remarks) (t : Span → List ℕ) (head : Row) (n : ℕ) (rows : List Row) (d : Draft) → IsHead head
    → fed_on r t (joined head n rows) d ≡ fed_after r t n rows (fed_on r t (head ∷ []) d)
joined_on r t head n [] d h = refl
joined_on r t head n (row ∷ rows) d h = ap (fed r t rows) (joined_is r t head n row d h)

-- The text before a node in an entry is the row that the entry begins.

sign_on : (g : Work) (t : Span → List ℕ) (column : ℕ) (text : List ℕ) (x : Node) (d : Draft)
    → with_row (remarks_of g) t (entry_row column text x) d
    ≡ with_text text (all_past g.reading.comments (entry_start x) (with_start (remarks_of g) (start_of column (is_dash text) (entry_start x)) d))
sign_on g t column text x d =
    let start : Start = start_of column (is_dash text) (entry_start x) in
    let m : LineMarks = start_marked (remarks_of g) start d.marks in
    head_is (remarks_of g) t (entry_row column text x) d (record { key = refl; body = refl; ending = refl })
    ∙ (ap (λ w. edited (d.line ++ text) w d.body d.may_follow m (all_past g.reading.comments (entry_start x) d)) (append-nil d.trails)
    ∙ sym (ap (with_text text) (past_edited g.reading.comments (entry_start x) d.line d.trails d.body d.may_follow m d)))

pub entry_on_line : (g : Work) (t : Span → List ℕ) (column : ℕ) (text : List ℕ) (x : Node) (d : Draft)
    → with_text text (entry_begun g true column (is_dash text) (standing x).entry d) ≡ fed_on (remarks_of g) t (entry_row column text x ∷ []) d
entry_on_line g t column text x d = by (standing x).entry ∙ sym (sign_on g t column text x d) where
  by : (e : Option Entry) → with_text text (entry_begun g true column (is_dash text) e d)
      ≡ with_text text (all_past g.reading.comments (starts_of_entry e) (with_start (remarks_of g) (start_of column (is_dash text) (starts_of_entry e)) d))
  by None = refl
  by (Some e) = refl

pub entry_below : (g : Work) (t : Span → List ℕ) (column : ℕ) (text : List ℕ) (x : Node) (d : Draft)
    → with_text text (entry_begun g false column (is_dash text) (standing x).entry d) ≡ fed (remarks_of g) t (entry_row column text x ∷ []) d
entry_below g t column text x d =
    by (standing x).entry ∙ sym (sign_on g t column text x (with_blank (blank_before_entry (standing x).entry) (opened (remarks_of g) column d))) where
      by : (e : Option Entry) → with_text text (entry_begun g false column (is_dash text) e d)
          ≡ with_text text (all_past g.reading.comments (starts_of_entry e) (with_start (remarks_of g) (start_of column (is_dash text) (starts_of_entry e)) (with_blank (blank_before_entry e) (opened (remarks_of g) column d))))
      by None = refl
      by (Some e) = refl
