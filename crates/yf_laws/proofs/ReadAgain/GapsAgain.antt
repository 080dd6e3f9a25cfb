-- The lines of a laid-out gap are laid out again, if each comment in it, and what follows it, notes whether a blank
-- line is before it.
use Rattle.std.proofs.Common.{◌≡◌, ℕ, Bool, true, false, List, [], ◌∷◌, ◌++◌, Some, refl, sym, ap, ◌∙◌, subst, append_assoc, append-nil}
use Rattle.std.specs.Prelude.{◌&&◌, if◌then◌else◌}
use Rattle.std.specs.List.{list_all}
use Rattle.yf_chars.specs.Class.{is_white}
use Rattle.yf_comments.specs.Comment.{CommentValue}
use Rattle.yf_laws.specs.Layouts.Decorated.{GapLine, blank, remark, blank_if, ending_after, gap_of, remarks_after}
use Rattle.yf_laws.specs.Layouts.Layout.{may_be_blank_after}
use Rattle.yf_forms.specs.Nodes.Lines.{trimmed}
use Rattle.yf_print.specs.Layouts.Rows.{Ending, anywhere}
use Rattle.yf_print.specs.Layouts.KeptColumns.{Columns}
use Rattle.yf_print.specs.Layouts.SourceColumns.{own_column}
use Rattle.yf_laws.proofs.SameReading.CommentsCut.{Each, each_at, each_rest, in_first}
use Rattle.yf_laws.proofs.OutputLines.ColumnsHold.{GapHolds, blank_holds, remark_holds}
use Rattle.yf_laws.proofs.OutputLines.GapSpread.{any_after}

-- whether a text is white space doesn't depend on the white space at its end
whites_left : (x : List ℕ) → list_all is_white (trimmed x) ≡ list_all is_white x
whites_left [] = refl
whites_left (b ∷ bs) = go (is_white b && list_all is_white bs) refl (whites_left bs) where
  go : (w : Bool) → (is_white b && list_all is_white bs) ≡ w → list_all is_white (trimmed bs) ≡ list_all is_white bs → list_all is_white (if w then [] else b ∷ trimmed bs) ≡ w
  go true e f = refl
  go false e f = ap (λ z. is_white b && z) f ∙ e

pub trimmed_twice : (x : List ℕ) → trimmed (trimmed x) ≡ trimmed x
trimmed_twice [] = refl
trimmed_twice (b ∷ bs) = go (is_white b && list_all is_white bs) refl (trimmed_twice bs) where
  go : (w : Bool) → (is_white b && list_all is_white bs) ≡ w → trimmed (trimmed bs) ≡ trimmed bs → trimmed (if w then [] else b ∷ trimmed bs) ≡ (if w then [] else b ∷ trimmed bs)
  go true e f = refl
  go false e f =
      ap (λ z. if is_white b && z then [] else b ∷ trimmed (trimmed bs)) (whites_left bs)
      ∙ (ap (λ z. if z then [] else b ∷ trimmed (trimmed bs)) e ∙ ap (λ z. b ∷ z) f)

-- the lines of a gap, the comments found on them in the text t, each at its column, and the note of what follows. may:
-- whether a blank line is allowed there; is: whether one is directly before
pub data Blanks (t : List ℕ) : Bool → Bool → List GapLine → List CommentValue → Bool → Type 0 where
  gap_ends : {may is b : Bool} → b ≡ is → Blanks t may is [] [] b
  gap_blank : {may b : Bool} {gs : List GapLine} {cs : List CommentValue} → Blanks t may true gs cs b → Blanks t may false (blank ∷ gs) cs b
  gap_remark : {may is b : Bool} {column : ℕ} {text : List ℕ} {c : CommentValue} {gs : List GapLine} {cs : List CommentValue} → trimmed c.text ≡ text → c.blank_before ≡ is → own_column t c.offset ≡ Some column
      → Blanks t true false gs cs b → Blanks t may is (remark column text ∷ gs) (c ∷ cs) b

pub record LastLine (may a b : Bool) (rest : List CommentValue) : Type 0 where
  pub none : rest ≡ []
  pub note : (may && b) ≡ (may && a)
  pub exact : b ≡ (may && a)

pub last_line : {t : List ℕ} (may a : Bool) {b : Bool} {rest : List CommentValue} → Blanks t may false (blank_if (may && a)) rest b → LastLine may a b rest
last_line true true (gap_blank (gap_ends f)) = record { none = refl; note = f; exact = f }
last_line true false (gap_ends f) = record { none = refl; note = f; exact = f }
last_line false a (gap_ends f) = record { none = refl; note = refl; exact = f }

pub record FirstRemark (t : List ℕ) (may a b : Bool) (column : ℕ) (text : List ℕ) (gs : List GapLine) (rest : List CommentValue) : Type 0 where
  pub c : CommentValue
  pub cs : List CommentValue
  pub are : rest ≡ c ∷ cs
  pub text_is : trimmed c.text ≡ text
  pub note : (may && c.blank_before) ≡ (may && a)
  pub exact : c.blank_before ≡ (may && a)
  pub own : own_column t c.offset ≡ Some column
  pub more : Blanks t true false gs cs b

pub first_remark : {t : List ℕ} (may a : Bool) (column : ℕ) {b : Bool} {text : List ℕ} {gs : List GapLine} {rest : List CommentValue} → Blanks t may false (blank_if (may && a) ++ (remark column text ∷ gs)) rest b
    → FirstRemark t may a b column text gs rest
first_remark true true column (gap_blank (gap_remark {c = c} {cs = cs} e f o more)) = record { c = c; cs = cs; are = refl; text_is = e; note = f; exact = f; own = o; more = more }
first_remark true false column (gap_remark {c = c} {cs = cs} e f o more) = record { c = c; cs = cs; are = refl; text_is = e; note = f; exact = f; own = o; more = more }
first_remark false a column (gap_remark {c = c} {cs = cs} e f o more) = record { c = c; cs = cs; are = refl; text_is = e; note = refl; exact = f; own = o; more = more }

-- comments before a line at a column, and a blank line after them or none
abbrev pub gap_with : Columns → Ending → ℕ → List CommentValue → Bool → List GapLine
gap_with g e column cs b = remarks_after g e column cs ++ blank_if (may_be_blank_after (ending_after e cs) && b)

pub gap_more : (g : Columns) (e : Ending) (column : ℕ) (c : CommentValue) (cs : List CommentValue) (b : Bool)
    → gap_with g e column (c ∷ cs) b ≡ blank_if (may_be_blank_after e && c.blank_before) ++ (remark (g c column) (trimmed c.text) ∷ gap_with g anywhere column cs b)
gap_more g e column c cs b =
    let lines : List GapLine = remark (g c column) (trimmed c.text) ∷ remarks_after g anywhere column cs in
    append_assoc (blank_if (may_be_blank_after e && c.blank_before)) lines (blank_if b)
    ∙ ap (λ z. blank_if (may_be_blank_after e && c.blank_before) ++ (remark (g c column) (trimmed c.text) ∷ (remarks_after g anywhere column cs ++ blank_if (may_be_blank_after z && b)))) (sym (any_after cs))

past_blank : {P : ℕ → Type 0} (b : Bool) (gs : List GapLine) → GapHolds P (blank_if b ++ gs) → GapHolds P gs
past_blank true gs (blank_holds h) = h
past_blank false gs h = h

first_holds : {P : ℕ → Type 0} {column : ℕ} {text : List ℕ} {gs : List GapLine} → GapHolds P (remark column text ∷ gs) → P column × GapHolds P gs
first_holds (remark_holds p h) = (p, h)

-- if the condition on each column in the gap makes the columns of the comments found there equal
pub gap_again : {t : List ℕ} {P : ℕ → Type 0} (g f : Columns) (e : Ending) (column : ℕ) (cs : List CommentValue) (a : Bool) {b : Bool} {rest : List CommentValue} → Blanks t (may_be_blank_after e) false (gap_with g e column cs a) rest b
    → GapHolds P (gap_with g e column cs a) → Each (λ c. (k : ℕ) → own_column t c.offset ≡ Some k → P k → f c column ≡ k) rest → gap_with f e column rest b ≡ gap_with g e column cs a
gap_again g f e column [] a {b} w h each =
    let l = last_line (may_be_blank_after e) a w in
    ap (λ z. gap_with f e column z b) l.none ∙ ap blank_if l.note
gap_again {t} {P} g f e column (c ∷ cs) a {b} {rest} w h each =
    let r = first_remark (may_be_blank_after e) c.blank_before (g c column) (subst (λ z. Blanks t (may_be_blank_after e) false z rest b) (gap_more g e column c cs a) w) in
    let holds : P (g c column) × GapHolds P (gap_with g anywhere column cs a) =
    first_holds (past_blank (may_be_blank_after e && c.blank_before) (remark (g c column) (trimmed c.text) ∷ gap_with g anywhere column cs a) (subst (λ z. GapHolds P z) (gap_more g e column c cs a) h)) in
    let all : Each (λ d. (k : ℕ) → own_column t d.offset ≡ Some k → P k → f d column ≡ k) (r.c ∷ r.cs) = subst (λ z. Each (λ d. (k : ℕ) → own_column t d.offset ≡ Some k → P k → f d column ≡ k) z) r.are each in
    let place : f r.c column ≡ g c column = each_at all in_first (g c column) r.own holds.0 in
    ap (λ z. gap_with f e column z b) r.are
    ∙ (gap_more f e column r.c r.cs b
    ∙ (ap (λ z. blank_if z ++ (remark (f r.c column) (trimmed r.c.text) ∷ gap_with f anywhere column r.cs b)) r.note
    ∙ (ap (λ z. blank_if (may_be_blank_after e && c.blank_before) ++ (remark (f r.c column) z ∷ gap_with f anywhere column r.cs b)) r.text_is
    ∙ (ap (λ z. blank_if (may_be_blank_after e && c.blank_before) ++ (remark z (trimmed c.text) ∷ gap_with f anywhere column r.cs b)) place
    ∙ (ap (λ z. blank_if (may_be_blank_after e && c.blank_before) ++ (remark (g c column) (trimmed c.text) ∷ z)) (gap_again g f anywhere column cs a r.more holds.1 (each_rest all))
    ∙ sym (gap_more g e column c cs a))))))

-- if no row follows
pub gap_at_end : (g : Columns) (e : Ending) (cs : List CommentValue) → gap_of g e cs [] ≡ gap_with g e 0 cs false
gap_at_end g e cs = sym (append-nil (remarks_after g e 0 cs)) ∙ ap (λ z. remarks_after g e 0 cs ++ blank_if z) (sym (never (may_be_blank_after (ending_after e cs)))) where
  never : (b : Bool) → (b && false) ≡ false
  never true = refl
  never false = refl
