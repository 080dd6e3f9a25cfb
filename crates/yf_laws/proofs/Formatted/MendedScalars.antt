-- The lines of a layout that are lines of block scalars are such lines in the reading too.
use Rattle.std.proofs.Common.{◌≡◌, ◌≢◌, ℕ, zero, suc, ◌+◌, ◌<◌, ◌≤◌, ⊎_elim, List, [], ◌∷◌, length, drop, map, Option, Some, sym, ap, ◌∙◌, subst, arith}
use Rattle.std.specs.Prelude.{slice_get}
use Rattle.std.specs.Str.{IsUtf8}
use Rattle.std.proofs.lemmas.Bool.{cases_eq, cases_lt}
use Rattle.std.proofs.lemmas.Option.{same_Some, slice_get_within}
use Rattle.yf_chars.specs.Chain.{Chain}
use Rattle.yf_chars.specs.Chain.Chain.{done, step}
use Rattle.yf_chars.proofs.ChainLemmas.{chain_forward}
use Rattle.yf_chars.proofs.Tests.{same_head, no_item}
use Rattle.yf_lines.specs.declared.line.Line.{Line}
use Rattle.yf_lines.specs.Lines.{AreLines, LinesBegunAt, OneLine, Table}
use Rattle.yf_lines.specs.Lines.OneLine.{one_line}
use Rattle.yf_lines.proofs.LineLemmas.{line_functional, same_line}
use Rattle.yf_lines.proofs.TableLemmas.{Follow, follow, line_before, table_line, table_start}
use Rattle.yf_events.specs.Event.{EventValue, EventInText}
use Rattle.yf_events.specs.declared.event.Span.{Span}
use Rattle.yf_events.specs.declared.lists.Lists.{Lists}
use Rattle.yf_forms.specs.Nodes.ContentStart.{content_start}
use Rattle.yf_laws.proofs.OutputLines.HeldLemmas.{Holds, here, there, LinesBetween, counted, ScalarAt}
use Rattle.yf_laws.proofs.OutputLines.LineSorts.{InScalar, got_drop, no_line as no_drop}
use Rattle.yf_rule_sets.specs.RuleSets.BlankLines.{ScalarLine}
use Rattle.yf_rule_sets.specs.RuleSets.BlankLines.ScalarLine.{of_scalar}
use Rattle.yf_rule_sets.specs.RuleSets.Scalars.{IsScalar}

-- The event.

record EventAt (event : EventValue) (part : Option Span) (es : List EventInText) : Type 0 where
  pub index : ℕ
  pub event_is : slice_get (map (λ (e : EventInText). e.event) es) index ≡ Some event
  pub part_is : slice_get (map (λ (e : EventInText). e.span) es) index ≡ Some part

event_at : {event : EventValue} {part : Option Span} {es : List EventInText} → Holds event part es → EventAt event part es
event_at (here a b) = record { index = 0; event_is = ap (λ v. Some v) a; part_is = ap (λ v. Some v) b }
event_at (there h) = let r = event_at h in record { index = suc r.index; event_is = r.event_is; part_is = r.part_is }

-- The lines from its first one on.

pub follow_drop : (t : List ℕ) (h i j : ℕ) (all : List Line) (m : Line) (ms : List Line) → Follow t i j all → drop h all ≡ m ∷ ms → Follow t m.start j (m ∷ ms)
follow_drop t zero i j [] m ms f e = absurd cc
follow_drop t zero i j (l ∷ all) m ms f e =
    let same : l ≡ m = same_head e in
    subst (λ (w : List Line). Follow t m.start j w) e (ap (λ (w : Line). w.start) same, f.1, f.2)
follow_drop t (suc h) i j [] m ms f e = absurd (no_drop (suc h) m ms e)
follow_drop t (suc h) i j (l ∷ all) m ms f e = follow_drop t h l.next j all m ms f.2 e

-- a line among the first ones of a chain begins before the chain ends
chain_past : {t : List ℕ} {p e : ℕ} {cs : List Line} (j : ℕ) (ms : List Line) (n : ℕ) (l : Line) → Chain (OneLine t) p e cs → Follow t p j ms → n < length cs → slice_get ms n ≡ Some l → l.start < e
chain_past j ms n l done f m g = absurd (omega (arith, m))
chain_past j [] n l (step s c) f m g = absurd (no_item n l g)
chain_past {t} j (a ∷ ms) zero l (step (one_line {l = b} made) c) f m g =
    let same : a ≡ b = same_line t a b f.1 made f.0 in
    let far = chain_forward (line_functional t) c in
    let order = made.order in
    let start : a.start ≡ b.start = f.0 in
    let got : a.start ≡ l.start = ap (λ (w : Line). w.start) (same_Some _ _ g) in
    omega (arith, far, order, start, got)
chain_past {t} j (a ∷ ms) (suc n) l (step {y = y} (one_line {l = b} made) c) f m g =
    let same : a ≡ b = same_line t a b f.1 made f.0 in
    chain_past j ms n l c (subst (λ k. Follow t k j ms) (ap (λ (w : Line). w.next) same) f.2) (omega (arith, m)) g

-- The facts about a line of a scalar.

pub record LineOfScalar (src : Table) (r : Lists) (k : ℕ) (l : Line) (x : List ℕ) (a : InScalar src.text r.events src.lines k x) : Type 0 where
  pub index : ℕ
  pub is : IsScalar r index a.scalar.props a.scalar.style a.scalar.text a.scalar.span
  pub after : content_start src.text a.scalar.span a.scalar.props < l.start
  pub before : l.start < a.scalar.span.end
  pub begun : LinesBegunAt src.lines (content_start src.text a.scalar.span a.scalar.props) a.head

module _ (src : Table) (r : Lists) (utf8 : IsUtf8 src.text) (lines : AreLines src.text src.lines) where
  -- the first of its lines
  head_line : {k : ℕ} {x : List ℕ} (a : InScalar src.text r.events src.lines k x) → slice_get src.lines a.head ≡ Some a.line
  head_line a =
      let zero_more : a.head + 0 ≡ a.head = omega arith in
      ap (λ n. slice_get src.lines n) (sym zero_more) ∙ (sym (got_drop a.head 0 src.lines) ∙ ap (λ (w : List Line). slice_get w 0) (a.from ∙ a.some))

  later_start : {k : ℕ} {x : List ℕ} (a : InScalar src.text r.events src.lines k x) (m : ℕ) (l : Line) → slice_get src.lines m ≡ Some l → a.head ≤ m → a.scalar.place ≤ l.start
  later_start a m l e h =
      let place : a.line.start ≡ a.scalar.place = a.start in
      ⊎_elim (λ (q : a.head ≡ m). let same : a.line ≡ l = same_Some _ _ (sym (head_line a) ∙ (ap (λ n. slice_get src.lines n) q ∙ e)) in
      let start : a.line.start ≡ l.start = ap (λ (w : Line). w.start) same in omega (arith, place, start))
      (λ (q : a.head ≢ m).
      let apart = line_before src.text src.lines 0 (length src.text) a.head m a.line l (follow lines) (head_line a) e (omega (arith, h, q)) in
      let order = (table_line src.text src.lines a.head a.line lines (head_line a)).order in
      let far = apart.0 in
      omega (arith, place, far, order))
      (cases_eq a.head m)

  earlier_start : {k : ℕ} {x : List ℕ} (a : InScalar src.text r.events src.lines k x) (m : ℕ) (l : Line) → slice_get src.lines m ≡ Some l → m < a.head → l.start ≤ a.scalar.head
  earlier_start a m l e h =
      ⊎_elim (λ (q : a.scalar.head < l.start).
      let apart = line_before src.text src.lines 0 (length src.text) m a.head l a.line (follow lines) e (head_line a) h in
      let order = (table_line src.text src.lines m l lines e).order in
      let place : a.line.start ≡ a.scalar.place = a.start in
      let far = apart.0 in
      absurd (a.scalar.quiet l.start q (omega (arith, far, order, place)) (table_start src.text src.lines m l lines e)))
      (λ (q : l.start ≤ a.scalar.head). q) (cases_lt a.scalar.head l.start)

  scalar_begun : {k : ℕ} {x : List ℕ} (a : InScalar src.text r.events src.lines k x) → LinesBegunAt src.lines (content_start src.text a.scalar.span a.scalar.props) a.head
  scalar_begun a =
      let content : content_start src.text a.scalar.span a.scalar.props ≡ a.scalar.head = a.scalar.content in
      let before = a.scalar.before in
      record {
        before = λ m l e h. let s = earlier_start a m l e h in omega (arith, s, content);
        follows = λ m l e h. let s = later_start a m l e h in omega (arith, s, content, before);
      }

  reaches_past : {p e : ℕ} (count n : ℕ) (l m : Line) (ms : List Line) → LinesBetween src.text count p e → m.start ≡ p → Follow src.text m.start (length src.text) (m ∷ ms) → n < count
      → slice_get (m ∷ ms) n ≡ Some l → l.start < e
  reaches_past count n l m ms (counted {ls = cs} c long) s f h g =
      chain_past (length src.text) (m ∷ ms) n l c (subst (λ q. Follow src.text q (length src.text) (m ∷ ms)) s f) (omega (arith, long, h)) g

  pub line_of_scalar : (k : ℕ) (l : Line) (x : List ℕ) (a : InScalar src.text r.events src.lines k x) → slice_get src.lines k ≡ Some l → LineOfScalar src r k l x a
  line_of_scalar k l x a e =
      let event = event_at a.among in
      let s : ScalarAt src.text a.event a.part a.column a.body a.follows = a.scalar in
      let content : content_start src.text s.span s.props ≡ s.head = s.content in
      let far = later_start a k l e (let i = a.index in omega (arith, i)) in
      let before = s.before in
      let within : a.number < length a.body = slice_get_within a.body a.number x a.nth in
      let all = s.all in
      let whole : drop a.head src.lines ≡ a.line ∷ a.others = a.from ∙ a.some in
      let got : slice_get (a.line ∷ a.others) a.number ≡ Some l =
      ap (λ (w : List Line). slice_get w a.number) (sym whole) ∙ (got_drop a.head a.number src.lines ∙ (ap (λ n. slice_get src.lines n) (sym a.index) ∙ e)) in
      record {
        index = event.index;
        is = record { event = event.event_is ∙ ap (λ v. Some v) s.is; part = event.part_is ∙ ap (λ v. Some v) s.part_is };
        after = omega (arith, content, far, before);
        before = reaches_past s.count a.number l a.line a.others s.reach a.start (follow_drop src.text a.head 0 (length src.text) src.lines a.line a.others (follow lines) whole)
            (omega (arith, within, all)) got;
        begun = scalar_begun a;
      }

  -- so it is a line of that scalar
  pub scalar_line : (k : ℕ) (l : Line) (x : List ℕ) → InScalar src.text r.events src.lines k x → slice_get src.lines k ≡ Some l → (i : ℕ) × ScalarLine src r k i
  scalar_line k l x a e = let s = line_of_scalar k l x a e in (s.index, of_scalar s.is e s.after s.before)
