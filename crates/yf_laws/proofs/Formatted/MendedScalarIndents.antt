-- The content of a block scalar whose lines are at a column is indented by that column.
use Rattle.std.proofs.Common.{◌≡◌, ◌≢◌, ℕ, zero, suc, ◌+◌, ◌-◌, ◌<◌, ◌≤◌, ⊎_elim, List, [], ◌∷◌, ◌++◌, length, drop, get_or, Option, Some, refl, sym, ap, ◌∙◌, subst, arith}
use Rattle.std.specs.Prelude.{slice_get}
use Rattle.std.specs.Str.{IsUtf8}
use Rattle.std.proofs.lemmas.Bool.{cases_eq, cases_lt}
use Rattle.std.proofs.lemmas.Option.{same_Some, slice_get-get_or, slice_get_within}
use Rattle.yf_chars.specs.Text.{code}
use Rattle.yf_lines.specs.declared.line.Line.{Line}
use Rattle.yf_lines.specs.Lines.{AreLines, LinesBegunAt, IsLine, Table}
use Rattle.yf_lines.specs.Rest.{Rest}
use Rattle.yf_lines.proofs.MarkLemmas.{marks_stop, start_in_line}
use Rattle.yf_lines.proofs.RestLemmas.{rest_break, rest_text}
use Rattle.yf_lines.proofs.TableLemmas.{Follow, follow, line_before, line_of, table_cut, table_line, table_start}
use Rattle.yf_props.specs.Props.{PropsValue}
use Rattle.yf_events.specs.Event.{EventValue, scalar_node}
use Rattle.yf_events.specs.declared.event.ScalarStyle.{ScalarStyle}
use Rattle.yf_events.specs.declared.event.Span.{Span}
use Rattle.yf_events.specs.Tree.{Node, scalar, standing}
use Rattle.yf_forms.specs.Nodes.BlockLines.{content_lines, final_feeds}
use Rattle.yf_forms.specs.Nodes.ContentStart.{content_start}
use Rattle.yf_laws.specs.Layouts.Decorated.{body_then}
use Rattle.yf_laws.proofs.OutputLines.HeldLemmas.{ScalarAt}
use Rattle.yf_laws.proofs.OutputLines.LaidLines.{LineIs, before_text_end, line_is}
use Rattle.yf_laws.proofs.OutputLines.LineSorts.{got_drop}
use Rattle.yf_laws.proofs.Derived.RowsUtf8.{AreLines as AreTexts, no_line, line_more, body_lines}
use Rattle.yf_laws.proofs.Derived.ScalarsMade.{body_some, body_texts}
use Rattle.yf_laws.proofs.Columns.SetMeant.{BlockAt, block_at}
use Rattle.yf_rule_sets.specs.RuleSets.Scalars.{BlockContent, head_count}
use Rattle.yf_laws.proofs.Formatted.MendedContents.{LineThere, first_content_of}
use Rattle.yf_laws.proofs.Formatted.MendedScalars.{follow_drop}
use Rattle.yf_rule_sets.proofs.RuleSets.DocumentLemmas.{char_boundary}

-- Lines that are read from an offset on.

line_here : {t : List ℕ} {l : Line} {ls : List Line} {y : List ℕ} (ys : List (List ℕ)) (x : List ℕ) → LineIs t l y → ((i : ℕ) → slice_get ys i ≡ Some x → LineThere t ls i x) → (i : ℕ) → slice_get (y ∷ ys) i ≡ Some x
    → LineThere t (l ∷ ls) i x
line_here {t} {l} {ls} ys x is later zero e = subst (λ w. LineThere t (l ∷ ls) 0 w) (same e) (record { line = l; at = refl; is = is }) where
  same : {v w : List ℕ} → Some v ≡ Some w → v ≡ w
  same e = cc
line_here ys x is later (suc i) e = let r = later i e in record { line = r.line; at = r.at; is = r.is }

body_there : {t : List ℕ} {xs : List (List ℕ)} (ls : List Line) {q : ℕ} (z : List ℕ) → IsUtf8 t → AreTexts xs → Follow t q (length t) ls → Rest t q (body_then xs z) → (x : List ℕ) (i : ℕ) → slice_get xs i ≡ Some x
    → LineThere t ls i x
body_there ls z u no_line f s x i e = absurd cc
body_there [] z u (line_more {x = y} {xs = ys} a more) f s x i e = absurd (let l = before_text_end y (body_then ys z) s in omega (arith, l, f))
body_there {t} (l ∷ ls) {q} z u (line_more {x = y} {xs = ys} a more) f s x i e =
    let here : Rest t l.start (y ++ (10 ∷ body_then ys z)) = subst (λ k. Rest t k (y ++ (10 ∷ body_then ys z))) (sym f.0) s in
    let is : LineIs t l y = (line_is l y (body_then ys z) u a f.1 here).0 in
    let end = rest_break u (rest_text y u a here).rest in
    let there : l.start + length y + 1 ≡ l.next = sym (is.next ∙ ap (λ k. k + 1) is.end) in
    line_here ys x is (λ i e. body_there ls z u more f.2 (subst (λ k. Rest t k (body_then ys z)) there end.1) x i e) i e

some_body : (t : List ℕ) (q : ℕ) (xs : List (List ℕ)) (z : List ℕ) → xs ≢ [] → Rest t q (body_then xs z) → q < length t
some_body t q [] z n s = absurd (n refl)
some_body t q (x ∷ xs) z n s = before_text_end x (body_then xs z) s

-- The first of its lines.

module _ (src : Table) (u : IsUtf8 src.text) (are : AreLines src.text src.lines) where
  record FirstLine (place follows : ℕ) : Type 0 where
    line : Line
    at : slice_get src.lines follows ≡ Some line
    start : line.start ≡ place

  starts_before : (i : ℕ) (o : Line) → slice_get src.lines i ≡ Some o → (k : ℕ) (l : Line) → slice_get src.lines k ≡ Some l → i < k → o.start < l.start
  starts_before i o e k l f n =
      let order = line_before src.text src.lines 0 (length src.text) i k o l (follow are) e f n in
      let made = (table_line src.text src.lines i o are e).order in
      let far = order.0 in
      omega (arith, far, made)

  first_line : {event : EventValue} {part : Option Span} {column : ℕ} {body : List (List ℕ)} {z : List ℕ} (a : ScalarAt src.text event part column body z) → a.place < length src.text → (follows : ℕ)
      → LinesBegunAt src.lines a.head follows → FirstLine a.place follows
  first_line a within follows begun =
      let l = line_of src.text src.lines a.place are within in
      let from = l.from in
      let before = a.before in
      let run = start_in_line l.line u (table_line src.text src.lines l.index l.line are l.is) (table_cut src.text src.lines l.index l.line u are l.is) a.start from l.before in
      let low : code src.text a.head < 128 = ⊎_elim (λ (e : code src.text a.head ≡ 124). omega (arith, e)) (λ (e : code src.text a.head ≡ 62). omega (arith, e)) a.sign in
      let later : a.head < l.line.start =
      ⊎_elim (λ (n : a.head < l.line.start). n)
      (λ (n : l.line.start ≤ a.head). absurd (let far = marks_stop a.head u (char_boundary src.text a.head (omega (arith, low))) (λ e. omega (arith, low, e)) n run.1 in omega (arith, far, before)))
      (cases_lt a.head l.line.start) in
      let start : l.line.start ≡ a.place =
      ⊎_elim (λ (e : l.line.start ≡ a.place). e) (λ (n : l.line.start ≢ a.place). absurd (a.quiet l.line.start later (omega (arith, from, n)) (table_start src.text src.lines l.index l.line are l.is)))
      (cases_eq l.line.start a.place) in
      let least : follows ≤ l.index =
      ⊎_elim (λ (n : l.index < follows). absurd (let b = begun.before l.index l.line l.is n in omega (arith, b, later))) (λ (n : follows ≤ l.index). n) (cases_lt l.index follows) in
      let same : follows ≡ l.index =
      ⊎_elim (λ (e : follows ≡ l.index). e) (λ (n : follows ≢ l.index). absurd (between l.index l.line l.is start (omega (arith, least, n)))) (cases_eq follows l.index) in
      record { line = l.line; at = ap (λ k. slice_get src.lines k) same ∙ l.is; start = start }
    where
      between : (k : ℕ) (l : Line) → slice_get src.lines k ≡ Some l → l.start ≡ a.place → follows < k → ⊥
      between k l e start n =
          let size = slice_get_within src.lines k l e in
          let other : Line = get_or src.lines follows l in
          let there : slice_get src.lines follows ≡ Some other = slice_get-get_or src.lines follows l (omega (arith, size, n)) in
          let after = begun.follows follows other there (omega arith) in
          let sooner = starts_before follows other there k l e n in
          a.quiet other.start after (omega (arith, sooner, start)) (table_start src.text src.lines follows other are there)

  -- Its content.
  indent_at : {event : EventValue} {part : Option Span} {column : ℕ} {body : List (List ℕ)} (z : List ℕ) (a : ScalarAt src.text event part column body (body_then body z)) → 0 < column → (follows first indent : ℕ)
      → LinesBegunAt src.lines a.head follows → BlockContent src.lines a.text follows first indent → indent ≡ column
  indent_at {column = column} {body = body} z a deep follows first indent begun c =
      let tail : ℕ = final_feeds a.text - 1 in
      let texts : AreTexts body = subst (λ b. AreTexts b) (sym a.are) (body_lines (body_texts column tail (content_lines a.style a.text a.lines) deep a.fit.texts)) in
      let some : body ≢ [] = λ e. body_some column tail (content_lines a.style a.text a.lines) a.fit.last (sym a.are ∙ e) in
      let l = first_line a (some_body src.text a.place body z some a.rest) follows begun in
      let got = dropped (drop follows src.lines) refl l.line l.at in
      let flow : Follow src.text a.place (length src.text) (drop follows src.lines) =
      subst (λ k. Follow src.text k (length src.text) (drop follows src.lines)) l.start (subst (λ w. Follow src.text l.line.start (length src.text) w) (sym got.1) (follow_drop src.text follows 0 (length src.text) src.lines l.line got.0 (follow are) got.1)) in
      let made : (i : ℕ) (m : Line) → slice_get (drop follows src.lines) i ≡ Some m → IsLine src.text m =
      λ i m g. table_line src.text src.lines (follows + i) m are (sym (got_drop follows i src.lines) ∙ g) in
      let found = first_content_of {lines = a.lines} column u made a.fit (λ i x g. body_there (drop follows src.lines) z u texts flow a.rest x i (subst (λ b. slice_get b i ≡ Some x) (sym a.are) g)) in
      let number : follows + found.number ≡ first = ap (λ k. follows + k) (sym found.is) ∙ sym c.empty in
      let there : slice_get src.lines first ≡ Some found.line = ap (λ k. slice_get src.lines k) (sym number) ∙ (sym (got_drop follows found.number src.lines) ∙ found.at) in
      let one : c.line ≡ found.line = same_Some _ _ (sym c.at ∙ there) in
      let wide : c.line.indent ≡ column + head_count 32 (drop (head_count 10 a.text) a.text) = ap (λ (w : Line). w.indent) one ∙ found.indent in
      let spaces = c.spaces in
      omega (arith, wide, spaces)
    where
      dropped : (ls : List Line) → drop follows src.lines ≡ ls → (l : Line) → slice_get src.lines follows ≡ Some l → (others : List Line) × (drop follows src.lines ≡ l ∷ others)
      dropped ls e l at = by ls e (ap (λ (w : List Line). slice_get w 0) (sym e) ∙ (got_drop follows 0 src.lines ∙ (ap (λ k. slice_get src.lines k) (zero_more follows) ∙ at))) where
        zero_more : (k : ℕ) → k + 0 ≡ k
        zero_more k = omega arith

        by : (ls : List Line) → drop follows src.lines ≡ ls → slice_get ls 0 ≡ Some l → (others : List Line) × (drop follows src.lines ≡ l ∷ others)
        by [] e g = absurd cc
        by (m ∷ ms) e g = (ms, e ∙ ap (λ w. w ∷ ms) (same_Some _ _ g))

  -- as the rule inspects it
  pub content_is_at : (l : ℕ) (x : Node) (props : PropsValue) (style : ScalarStyle) (text : List ℕ) (lines : List (List ℕ)) (span : Span) (follows first indent : ℕ) → BlockAt src.text l x
      → x ≡ scalar (standing x) props style text lines → (standing x).span ≡ Some span → LinesBegunAt src.lines (content_start src.text span props) follows → BlockContent src.lines text follows first indent → indent ≡ l
  content_is_at l x props style text lines span follows first indent (block_at {at = at} {props = p} {style = st} {text = tx} {lines = ls} body z deep a) e f begun c =
      let part : Some a.span ≡ Some span = sym a.part_is ∙ f in
      let one : a.span ≡ span = same_span part in
      let event : scalar_node a.props a.style a.text ≡ scalar_node p st tx = sym a.is in
      let props_are : a.props ≡ props = cc in
      let text_is : a.text ≡ text = cc in
      let head : content_start src.text span props ≡ a.head = ap (λ v. content_start src.text v props) (sym one) ∙ (ap (λ v. content_start src.text a.span v) (sym props_are) ∙ a.content) in
      indent_at z a deep follows first indent (subst (λ k. LinesBegunAt src.lines k follows) head begun) (subst (λ v. BlockContent src.lines v follows first indent) (sym text_is) c)
    where
      same_span : {v w : Span} → Some v ≡ Some w → v ≡ w
      same_span e = cc
