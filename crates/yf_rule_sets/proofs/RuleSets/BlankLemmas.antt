-- Laws of blank lines, and of the notes that decide which of them are at fault.
use Rattle.std.proofs.Common.{◌≡◌, ◌≢◌, ℕ, ◌+◌, ◌-◌, ◌<◌, ◌≤◌, Bool, true, false, List, Some, None, length, get_or, set, refl, sym, subst, ap, ◌∙◌, ⊎_elim, arith, true≢false}
use Rattle.std.specs.Prelude.{slice_get, IfSome, MatchBool}
use Rattle.std.proofs.lemmas.Bool.{cases_Bool, cases_lt, cases_eq}
use Rattle.std.proofs.lemmas.List.{get_or-set_same, get_or-set_other, get_or_past, length-map, length-set}
use Rattle.std.proofs.lemmas.Option.{same_Some, slice_get_cases, slice_get_within, slice_get-get_or}
use Rattle.yf_forms.specs.Nodes.ContentStart.{content_start}
use Rattle.yf_events.specs.Event.{scalar_node}
use Rattle.yf_events.specs.Reading.{events_of}
use Rattle.yf_events.specs.declared.directive.Directive.{Directive}
use Rattle.yf_events.specs.declared.document.Doc.{Doc}
use Rattle.yf_events.specs.declared.event.ScalarStyle.{ScalarStyle}
use Rattle.yf_events.specs.declared.event.Span.{Span}
use Rattle.yf_events.specs.declared.lists.Lists.{Lists}
use Rattle.yf_lines.specs.declared.line.Line.{Line}
use Rattle.yf_lines.specs.Lines.{AreLines, LinesBegunAt, IsForbiddenLine, Table}
use Rattle.yf_lines.proofs.TableLemmas.{follow, line_before}
use Rattle.yf_props.specs.Props.{PropsValue}
use Rattle.yf_rule_sets.specs.RuleSets.BlankLines.{DirectiveIn, DirectiveOf, HasOffset, IsBlank, MarkerOf, MisplacedBlank, ScalarLine, WrongPlace}
use Rattle.yf_rule_sets.specs.RuleSets.BlankLines.DirectiveIn.{is_directive}
use Rattle.yf_rule_sets.specs.RuleSets.BlankLines.DirectiveOf.{of_document}
use Rattle.yf_rule_sets.specs.RuleSets.BlankLines.MarkerOf.{has_marker}
use Rattle.yf_rule_sets.specs.RuleSets.BlankLines.MisplacedBlank.{misplaced}
use Rattle.yf_rule_sets.specs.RuleSets.BlankLines.ScalarLine.{of_scalar}
use Rattle.yf_rule_sets.specs.RuleSets.BlankLines.WrongPlace.{is_first, after_blank, after_marker, before_marker, before_directive, at_text_end}
use Rattle.yf_rule_sets.specs.Passes.BlankNotes.{AreNotes, BlankUnless, IsAfterBlankOrMarker, LastLine, MarkerThere, IsBeforeMarker}
use Rattle.yf_rule_sets.specs.Passes.BlankNotes.BlankUnless.{is_white}
use Rattle.yf_rule_sets.specs.Passes.BlankNotes.IsAfterBlankOrMarker.{no_line, blank, marker}
use Rattle.yf_rule_sets.specs.Passes.BlankNotes.IsBeforeMarker.{marker_next, directive_next}
use Rattle.yf_rule_sets.specs.RuleSets.Documents.{markers_in}
use Rattle.yf_rule_sets.specs.RuleSets.Exact.{Sole}
use Rattle.yf_rule_sets.specs.Passes.LineFlags.{FlagsAdded, FlagsOf, ListTells}
use Rattle.yf_rule_sets.specs.Passes.ScalarLines.{InRange}
use Rattle.yf_rule_sets.specs.RuleSets.Scalars.{IsScalar}
use Rattle.yf_rule_sets.specs.RuleSets.Whites.{WhitesEnd}
use Rattle.yf_rule_sets.proofs.Texts.BlockLemmas.{scalar_same}
use Rattle.yf_rule_sets.proofs.Texts.LastLemmas.{EndsInText, no_white_end}
use Rattle.yf_rule_sets.proofs.Texts.NotedLemmas.{sole_noted, none_noted}

-- the start of a scalar's content and its end determine its lines
module _ (src : Table) (r : Lists) (i : ℕ) (props : PropsValue) (style : ScalarStyle) (text : List ℕ) (s : Span) (first : ℕ)
    (is : IsScalar r i props style text s) (begun : LinesBegunAt src.lines (content_start src.text s props) first) where
  within_part : {k : ℕ} → ScalarLine src r k i → InRange src.lines (record { first = first; end = s.end; indent = None }) k
  within_part {k} (of_scalar {props = p} {s = z} {l = l} h e m n) =
      let q = scalar_same h is in
      let m' : content_start src.text s props < l.start =
      subst (λ w. content_start src.text w props < l.start) q.span (subst (λ w. content_start src.text z w < l.start) q.props m) in
      record {
        line = l;
        at = e;
        from = ⊎_elim (λ (x : k < first). absurd (let o = begun.before k l e x in omega (arith, o, m'))) (λ (x : first ≤ k). x) (cases_lt k first);
        to = subst (λ (w : Span). l.start < w.end) q.span n;
        longer = tt;
      }

  pub part_lines : (k : ℕ) → (ScalarLine src r k i → InRange src.lines (record { first = first; end = s.end; indent = None }) k) × (InRange src.lines (record { first = first; end = s.end; indent = None }) k → ScalarLine src r k i)
  part_lines k = (λ h. within_part h, λ p. of_scalar is p.at (begun.follows k p.line p.at p.from) p.to)

pub scalar_line_event : {src : Table} {r : Lists} {k i : ℕ} → ScalarLine src r k i → i < length r.events
scalar_line_event {r = r} {i = i} (of_scalar {props} {style} {text} h e m n) =
    let w = slice_get_within (events_of r) i (scalar_node props style text) h.event in omega (arith, w, length-map r.events (λ e. e.event))

-- the line that holds an offset
pub offset_within : {src : Table} {offset k : ℕ} → HasOffset src offset k → k < length src.lines
offset_within {src} {offset} {k} h = slice_get_within src.lines k h.line h.at

-- that line is the last one that begins at the offset or before it
last_begun : (src : Table) (offset begun k : ℕ) → AreLines src.text src.lines → begun ≤ length src.lines → LinesBegunAt src.lines offset begun → HasOffset src offset k → k + 1 ≡ begun
last_begun src offset begun k a w b h =
    ⊎_elim
    (λ (x : k < begun). ⊎_elim
    (λ (y : k + 1 < begun). absurd (
    let e = slice_get-get_or src.lines (k + 1) h.line (omega (arith, y, w)) in
    let n = line_before src.text src.lines 0 (length src.text) k (k + 1) h.line _ (follow a) h.at e (omega arith) in
    let o = b.before (k + 1) _ e y in
    let t = h.to in
    omega (arith, n.0, o, t)))
    (λ (y : begun ≤ k + 1). omega (arith, x, y))
    (cases_lt (k + 1) begun))
    (λ (x : begun ≤ k). absurd (let o = b.follows k h.line h.at x in let f = h.from in omega (arith, o, f)))
    (cases_lt k begun)

pub line_holds : (src : Table) (old : List Bool) (offset begun : ℕ) (l : Line) → AreLines src.text src.lines → length old ≡ length src.lines → begun ≤ length src.lines
    → LinesBegunAt src.lines offset begun → 0 < begun → slice_get src.lines (begun - 1) ≡ Some l → offset < l.next → FlagsAdded old (set old (begun - 1) true) (HasOffset src offset)
line_holds src old offset begun l a n w b p e h =
    sole_noted old (HasOffset src offset) (begun - 1) (omega (arith, n, w, p))
    (record { line = l; at = e; from = b.before (begun - 1) l e (omega (arith, p)); to = h })
    (λ k q. let z = last_begun src offset begun k a w b q in omega (arith, z))

pub no_line_holds : (src : Table) (old : List Bool) (offset begun : ℕ) (l : Line) → AreLines src.text src.lines → begun ≤ length src.lines → LinesBegunAt src.lines offset begun
    → slice_get src.lines (begun - 1) ≡ Some l → l.next ≤ offset → FlagsAdded old old (HasOffset src offset)
no_line_holds src old offset begun l a w b e h = none_noted old (HasOffset src offset) (λ k q.
    let z = last_begun src offset begun k a w b q in
    let j : k ≡ begun - 1 = omega (arith, z) in
    let same : q.line ≡ l = same_Some _ _ (sym q.at ∙ subst (λ m. slice_get src.lines m ≡ Some l) (sym j) e) in
    let x = ap (λ (v : Line). v.next) same in
    let t = q.to in
    omega (arith, x, t, h))

-- the directives, one by one

pub directive_there : (src : Table) (ds : List Directive) (j : ℕ) (d : Directive) → slice_get ds j ≡ Some d → (k : ℕ) → HasOffset src d.offset k → DirectiveIn src ds j k
directive_there src ds j d e k h = is_directive e h

pub directive_is : (src : Table) (ds : List Directive) (j : ℕ) (d : Directive) → slice_get ds j ≡ Some d → (k : ℕ) → DirectiveIn src ds j k → HasOffset src d.offset k
directive_is src ds j d e k (is_directive {d = x} f h) = subst (λ (y : Directive). HasOffset src y.offset k) (same_Some _ _ (sym f ∙ e)) h

pub directive_within : {src : Table} {ds : List Directive} {j k : ℕ} → DirectiveIn src ds j k → j < length ds
directive_within {ds = ds} {j = j} (is_directive {d} e h) = slice_get_within ds j d e

directive_line : {src : Table} {ds : List Directive} {j k : ℕ} → DirectiveIn src ds j k → k < length src.lines
directive_line (is_directive e h) = offset_within h

-- the documents, one by one

pub of_document_there : (src : Table) (r : Lists) (m : ℕ) (d : Doc) → slice_get r.documents m ≡ Some d → (k : ℕ) → ((j : ℕ) × DirectiveIn src d.directives j k) → DirectiveOf src r m k
of_document_there src r m d e k w = of_document e w.1

pub of_document_is : (src : Table) (r : Lists) (m : ℕ) (d : Doc) → slice_get r.documents m ≡ Some d → (k : ℕ) → DirectiveOf src r m k → (j : ℕ) × DirectiveIn src d.directives j k
of_document_is src r m d e k (of_document {d = x} {j = j} f h) =
    (j, subst (λ (y : Doc). DirectiveIn src y.directives j k) (same_Some _ _ (sym f ∙ e)) h)

pub document_index : {src : Table} {r : Lists} {m k : ℕ} → DirectiveOf src r m k → m < length r.documents
document_index {r = r} {m = m} (of_document {d} e h) = slice_get_within r.documents m d e

pub document_line : {src : Table} {r : Lists} {m k : ℕ} → DirectiveOf src r m k → k < length src.lines
document_line (of_document e h) = directive_line h

-- the markers of documents, one by one

pub marker_there : (src : Table) (r : Lists) (m : ℕ) (d : Doc) (marked : Bool) → slice_get r.documents m ≡ Some d → slice_get (markers_in (events_of r)) m ≡ Some marked
    → (k : ℕ) → MarkerThere src marked d.start k → MarkerOf src r m k
marker_there src r m d marked e f k h = has_marker e (f ∙ ap (λ b. Some b) h.written) h.alone h.there

pub marker_is : (src : Table) (r : Lists) (m : ℕ) (d : Doc) (marked : Bool) → slice_get r.documents m ≡ Some d → slice_get (markers_in (events_of r)) m ≡ Some marked
    → (k : ℕ) → MarkerOf src r m k → MarkerThere src marked d.start k
marker_is src r m d marked e f k (has_marker {d = x} g h a o) =
    subst (λ (y : Doc). MarkerThere src marked y.start k) (same_Some _ _ (sym g ∙ e)) (record { written = same_Some _ _ (sym f ∙ h); alone = a; there = o })

pub marker_index : {src : Table} {r : Lists} {m k : ℕ} → MarkerOf src r m k → (m < length r.documents) × (m < length (markers_in (events_of r)))
marker_index {r = r} {m = m} (has_marker {d} g h a o) = (slice_get_within r.documents m d g, slice_get_within (markers_in (events_of r)) m true h)

pub marker_line : {src : Table} {r : Lists} {m k : ℕ} → MarkerOf src r m k → k < length src.lines
marker_line (has_marker g h a o) = offset_within o

-- blank lines
pub blank_unless : (src : Table) (k : ℕ) (b : Bool) (l : Line) → b ≡ false → slice_get src.lines k ≡ Some l → WhitesEnd src.text l.start l.end l.start → BlankUnless src k b
blank_unless src k b l e f w = subst (BlankUnless src k) (sym e) (is_white f w)

unless_parts : {src : Table} {k : ℕ} {b : Bool} (l : Line) → slice_get src.lines k ≡ Some l → BlankUnless src k b → (b ≡ false) × WhitesEnd src.text l.start l.end l.start
unless_parts {src} l e (is_white {l = m} f w) = (refl, subst (λ (x : Line). WhitesEnd src.text x.start x.end x.start) (same_Some _ _ (sym f ∙ e)) w)

pub other_no_blank : (src : Table) (k : ℕ) (b : Bool) (l : Line) → slice_get src.lines k ≡ Some l → (WhitesEnd src.text l.start l.end l.start → ⊥) → BlankUnless src k b → ⊥
other_no_blank src k b l e n u = n (unless_parts l e u).1

-- a line that ends in text is not one of white space
pub text_unless : (src : Table) (k : ℕ) (b : Bool) → EndsInText src k → BlankUnless src k b → ⊥
text_unless src k b f (is_white {l} e w) = let p = f l e in no_white_end src.text l.start l.end l.start p.1 w p.0

pub white_unless : (src : Table) (k : ℕ) (b white : Bool) (l : Line) → b ≡ false → slice_get src.lines k ≡ Some l
    → MatchBool white (WhitesEnd src.text l.start l.end l.start) (WhitesEnd src.text l.start l.end l.start → ⊥) → MatchBool white (BlankUnless src k b) (BlankUnless src k b → ⊥)
white_unless src k b true l e f m = blank_unless src k b l e f m
white_unless src k b false l e f m = other_no_blank src k b l f m

-- a pass over the lines that replaces each flag for a scalar's line by the flag for a blank line
pub record BlankTo (src : Table) (r : Lists) (scalars list : List Bool) (n : ℕ) : Type 0 where
  pub len : length list ≡ length scalars
  pub only : (j : ℕ) → j < n → get_or list j false ≡ true → IsBlank src r j
  pub all : (j : ℕ) → j < n → IsBlank src r j → get_or list j false ≡ true
  pub rest : (j : ℕ) → n ≤ j → get_or list j false ≡ get_or scalars j false

pub no_line_yet : (src : Table) (r : Lists) (list : List Bool) → BlankTo src r list list 0
no_line_yet src r list = record { len = refl; only = λ j l. absurd (omega arith); all = λ j l. absurd (omega arith); rest = λ j l. refl }

module _ (src : Table) (r : Lists) (scalars : List Bool) (notes : FlagsOf scalars (length r.events) (λ i k. ScalarLine src r k i)) where
  unless_blank : (k : ℕ) → k < length scalars → BlankUnless src k (get_or scalars k false) → IsBlank src r k
  unless_blank k l u = made k l (get_or scalars k false) refl u where
    made : (k : ℕ) → k < length scalars → (b : Bool) → get_or scalars k false ≡ b → BlankUnless src k b → IsBlank src r k
    made k l b e (is_white {l = line} f w) =
        record { line = line; at = f; white = w; outside = λ i s. true≢false (sym (notes.all i k (scalar_line_event s) l s) ∙ e) }

  blank_white : (k : ℕ) → IsBlank src r k → BlankUnless src k (get_or scalars k false)
  blank_white k h = ⊎_elim (λ (e : get_or scalars k false ≡ true). absurd (let w = notes.only k e in h.outside w.0 w.2))
      (λ (e : get_or scalars k false ≡ false). subst (BlankUnless src k) (sym e) (is_white h.at h.white))
      (cases_Bool (get_or scalars k false))

  pub blank_step : (list : List Bool) (n : ℕ) (flag value : Bool) → n < length list → flag ≡ get_or list n false
      → MatchBool value (BlankUnless src n flag) (BlankUnless src n flag → ⊥) → BlankTo src r scalars list n → BlankTo src r scalars (set list n value) (n + 1)
  blank_step list n flag value l e m b = record {
    len = length-set list n value ∙ b.len;
    only = λ j h q. ⊎_elim
        (λ (x : j ≡ n). subst (IsBlank src r) (sym x) (found value m (sym (get_or-set_same list n value false l) ∙ ap (λ i. get_or (set list n value) i false) (sym x) ∙ q)))
        (λ (x : j ≢ n). b.only j (omega (arith, h, x)) (sym (get_or-set_other list n j value false x) ∙ q))
        (cases_eq j n);
    all = λ j h q. ⊎_elim
        (λ (x : j ≡ n). ap (λ i. get_or (set list n value) i false) x ∙ get_or-set_same list n value false l ∙ told value m (subst (IsBlank src r) x q))
        (λ (x : j ≢ n). get_or-set_other list n j value false x ∙ b.all j (omega (arith, h, x)) q)
        (cases_eq j n);
    rest = λ j h. get_or-set_other list n j value false (λ x. omega (arith, x, h)) ∙ b.rest j (omega (arith, h));
  } where
    same : flag ≡ get_or scalars n false
    same = e ∙ b.rest n (omega arith)

    found : (v : Bool) → MatchBool v (BlankUnless src n flag) (BlankUnless src n flag → ⊥) → v ≡ true → IsBlank src r n
    found true m q = unless_blank n (omega (arith, l, b.len)) (subst (BlankUnless src n) same m)
    found false m q = absurd (true≢false (sym q))

    told : (v : Bool) → MatchBool v (BlankUnless src n flag) (BlankUnless src n flag → ⊥) → IsBlank src r n → v ≡ true
    told true m h = refl
    told false m h = absurd (m (subst (BlankUnless src n) (sym same) (blank_white n h)))

  pub blank_told : (list : List Bool) (n : ℕ) → length scalars ≤ n → length scalars ≡ length src.lines → BlankTo src r scalars list n → ListTells list (IsBlank src r)
  blank_told list n h w b = record {
    only = λ k q. ⊎_elim (λ (x : k < n). b.only k x q)
        (λ (x : n ≤ k). absurd (true≢false (sym q ∙ get_or_past list k false (omega (arith, x, h, b.len)))))
        (cases_lt k n);
    all = λ k p. b.all k (let m = slice_get_within src.lines k p.line p.at in omega (arith, m, h, w)) p;
  }

-- the result of a flag
pub by_flag : {P : Type 0} {Q : Type 0} (b : Bool) → (b ≡ true → P) → (b ≡ false → Q) → MatchBool b P Q
by_flag true p q = p refl
by_flag false p q = q refl

module _ (src : Table) (r : Lists) (bs ms ds : List Bool) (notes : AreNotes src r bs ms ds) where
  pub follows_blank : (k : ℕ) → k ≢ 0 → get_or bs (k - 1) false ≡ true → IsAfterBlankOrMarker src r k
  follows_blank k z e = blank (omega (arith, z)) (notes.is_blank.only (k - 1) e)

  pub follows_by : (k : ℕ) (b : Bool) → k ≢ 0 → get_or bs (k - 1) false ≡ false → b ≡ get_or ms (k - 1) false → MatchBool b (IsAfterBlankOrMarker src r k) (IsAfterBlankOrMarker src r k → ⊥)
  follows_by k b z e f = by_flag b
      (λ q. let w = notes.has_marker.only (k - 1) (sym f ∙ q) in marker (omega (arith, z)) w.1)
      (λ q h. none q h)
    where
      before : {j : ℕ} → j + 1 ≡ k → k - 1 ≡ j
      before h = omega (arith, h)

      none : b ≡ false → IsAfterBlankOrMarker src r k → ⊥
      none q (no_line h) = z h
      none q (blank {j} h x) = true≢false (sym (notes.is_blank.all j x) ∙ ap (λ i. get_or bs i false) (sym (before h)) ∙ e)
      none q (marker {j} {m} h x) = true≢false (sym (notes.has_marker.all j (m, x)) ∙ ap (λ i. get_or ms i false) (sym (before h)) ∙ sym f ∙ q)

  pub precedes_by : (k : ℕ) (b : Bool) (l : Line) → slice_get src.lines (k + 1) ≡ Some l → (IsForbiddenLine src.text l.start → ⊥) → b ≡ get_or ds (k + 1) false
      → MatchBool b (IsBeforeMarker src r k) (IsBeforeMarker src r k → ⊥)
  precedes_by k b l e n f = by_flag b
      (λ q. let w = notes.has_directive.only (k + 1) (sym f ∙ q) in directive_next w.1)
      (λ q h. none q h)
    where
      none : b ≡ false → IsBeforeMarker src r k → ⊥
      none q (marker_next {l = x} g h) = n (subst (λ (y : Line). IsForbiddenLine src.text y.start) (same_Some _ _ (sym g ∙ e)) h)
      none q (directive_next {m} h) = true≢false (sym (notes.has_directive.all (k + 1) (m, h)) ∙ sym f ∙ q)

  pub no_blank : (k : ℕ) → get_or bs k false ≡ false → (o : ℕ) → MisplacedBlank src r k o → ⊥
  no_blank k e o (misplaced f b w) = true≢false (sym (notes.is_blank.all k b) ∙ e)

  pub at_end : (k last : ℕ) → LastLine bs last → last ≤ k → WrongPlace src r k
  at_end k last h l = at_text_end (λ m x y. notes.is_blank.only m (h.follows m (omega (arith, l, x)) (omega (arith, y, notes.count))))

  pub misplaced_there : (k : ℕ) (l : Line) → get_or bs k false ≡ true → slice_get src.lines k ≡ Some l → WrongPlace src r k → Sole (MisplacedBlank src r k) l.start
  misplaced_there k l e f w = record { holds = misplaced f (notes.is_blank.only k e) w; only = λ o h. there h } where
    there : {o : ℕ} → MisplacedBlank src r k o → o ≡ l.start
    there (misplaced {l = x} g b w) = ap (λ (y : Line). y.start) (same_Some _ _ (sym g ∙ f))

  -- before the last line that is not blank, only the lines directly before and after matter
  pub well_placed : (k last : ℕ) → LastLine bs last → k < last → get_or bs k false ≡ true → (IsAfterBlankOrMarker src r k → ⊥) → (IsBeforeMarker src r k → ⊥) → (o : ℕ) → MisplacedBlank src r k o → ⊥
  well_placed k last h l q f p o (misplaced g b (is_first e)) = f (no_line e)
  well_placed k last h l q f p o (misplaced g b (after_blank e x)) = f (blank e x)
  well_placed k last h l q f p o (misplaced g b (after_marker e x)) = f (marker e x)
  well_placed k last h l q f p o (misplaced g b (before_marker e x)) = p (marker_next e x)
  well_placed k last h l q f p o (misplaced g b (before_directive x)) = p (directive_next x)
  well_placed k last h l q f p o (misplaced g b (at_text_end x)) = ⊎_elim (λ (e : last ≡ 0). omega (arith, e, l))
      (λ (w : (m : ℕ) × (m + 1 ≡ last) × (m < length bs) × (get_or bs m false ≡ false)).
      ⊎_elim (λ (y : k < w.0). true≢false (sym (notes.is_blank.all w.0 (x w.0 y (omega (arith, w.2, notes.count)))) ∙ w.3))
      (λ (y : w.0 ≤ k). true≢false (sym q ∙ ap (λ i. get_or bs i false) (let z : k ≡ w.0 = omega (arith, y, l, w.1) in z) ∙ w.3))
      (cases_lt k w.0))
      h.before

pub follows_wrong : {src : Table} {r : Lists} {k : ℕ} → IsAfterBlankOrMarker src r k → WrongPlace src r k
follows_wrong (no_line e) = is_first e
follows_wrong (blank e x) = after_blank e x
follows_wrong (marker e x) = after_marker e x

pub precedes_wrong : {src : Table} {r : Lists} {k : ℕ} → IsBeforeMarker src r k → WrongPlace src r k
precedes_wrong (marker_next e x) = before_marker e x
precedes_wrong (directive_next x) = before_directive x

-- no line follows the last one
pub last_precedes : (src : Table) (r : Lists) (bs ms ds : List Bool) (k : ℕ) → AreNotes src r bs ms ds → length src.lines ≤ k + 1 → IsBeforeMarker src r k → ⊥
last_precedes src r bs ms ds k notes h (marker_next {l} g x) = let w = slice_get_within src.lines (k + 1) l g in omega (arith, w, h)
last_precedes src r bs ms ds k notes h (directive_next x) = let w = document_line x in omega (arith, w, h)

pub misplaced_line : {src : Table} {r : Lists} {k o : ℕ} → MisplacedBlank src r k o → k < length src.lines
misplaced_line {src} {r} {k} (misplaced {l} e b w) = slice_get_within src.lines k l e

-- the line of an index has F
pub line_said : (src : Table) (k : ℕ) (F : Line → Type 0) → k < length src.lines → IfSome (slice_get src.lines k) F → (l : Line) × (slice_get src.lines k ≡ Some l) × F l
line_said src k F h f =
    ⊎_elim (λ (w : (x : Line) × (k < length src.lines) × (slice_get src.lines k ≡ Some x) × (get_or src.lines k x ≡ x)).
    (w.0, w.2, subst (λ p. IfSome p F) w.2 f))
    (λ (w : (length src.lines ≤ k) × (slice_get src.lines k ≡ None)). absurd (omega (arith, w.0, h)))
    (slice_get_cases src.lines k).1

pub when_true : (P : Type 0) (b : Bool) → b ≡ true → MatchBool b P (P → ⊥) → P
when_true P true e m = m
when_true P false e m = absurd (true≢false (sym e))

pub when_false : (P : Type 0) (b : Bool) → b ≡ false → MatchBool b P (P → ⊥) → P → ⊥
when_false P true e m = absurd (true≢false e)
when_false P false e m = m

-- whether a line is forbidden, and the next one
abbrev IsSaid : Table → Bool → Line → Type 0
IsSaid src b l = MatchBool b (IsForbiddenLine src.text l.start) (IsForbiddenLine src.text l.start → ⊥)

abbrev pub NextForbidden : Table → ℕ → Bool → Type 0
NextForbidden src k b = IfSome (slice_get src.lines (k + 1)) (λ l. MatchBool b (IsForbiddenLine src.text l.start) (IsForbiddenLine src.text l.start → ⊥))

pub forbidden_precedes : (src : Table) (r : Lists) (k : ℕ) (b : Bool) → k + 1 < length src.lines → NextForbidden src k b → b ≡ true → IsBeforeMarker src r k
forbidden_precedes src r k b h f e =
    let w = line_said src (k + 1) (IsSaid src b) h f in marker_next w.1 (when_true (IsForbiddenLine src.text w.0.start) b e w.2)

pub flag_precedes : (src : Table) (r : Lists) (bs ms ds : List Bool) (notes : AreNotes src r bs ms ds) (k : ℕ) (b c : Bool) → k + 1 < length src.lines → NextForbidden src k b → b ≡ false
    → c ≡ get_or ds (k + 1) false → MatchBool c (IsBeforeMarker src r k) (IsBeforeMarker src r k → ⊥)
flag_precedes src r bs ms ds notes k b c h f e q =
    let w = line_said src (k + 1) (IsSaid src b) h f in precedes_by src r bs ms ds notes k c w.0 w.1 (when_false (IsForbiddenLine src.text w.0.start) b e w.2) q
