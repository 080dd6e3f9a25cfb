-- After a separation, the reader of last halts reaches the next character, as the reader of whole nodes does.
use Rattle.std.proofs.Common.{◌≡◌, ℕ, ◌<◌, ◌≤◌, ℤ, pos, ◌+ℤ◌, Bool, false, List, [], Option, Some, None, refl, sym, ap, ◌∙◌, subst, arith, true≢false}
use Rattle.yf_chars.specs.declared.context.Ctx.{Ctx}
use Rattle.yf_chars.specs.Class.{is_white}
use Rattle.yf_chars.specs.Chain.{Stuck, Chosen, Many}
use Rattle.yf_chars.specs.Chain.Chain.{done}
use Rattle.yf_chars.proofs.ChainLemmas.{many_unique}
use Rattle.yf_lines.specs.Basic.{is_key, SeparateInLine, Clear}
use Rattle.yf_lines.specs.Basic.SeparateInLine.{by_whites, at_start}
use Rattle.yf_comments.specs.Comment.{CommentValue}
use Rattle.yf_comments.specs.Comments.{Separate, SeparateLines, LineEnd}
use Rattle.yf_comments.specs.Comments.Separate.{in_key, in_node}
use Rattle.yf_comments.specs.Comments.SeparateLines.{in_line, over_lines}
use Rattle.yf_comments.specs.Comments.LineEnd.{from_start}
use Rattle.yf_comments.proofs.SeparateLemmas.{prefix_whites}
use Rattle.yf_grammar.specs.FlowReader.Parser.{ParsedNode}
use Rattle.yf_grammar.specs.BlockReader.BlockParser.{LineText, Columns, Compact, LineColumns, Begins, line_first, line_indented, Ahead, past, outcome_after, Awaited, Below, Inline}
use Rattle.yf_grammar.specs.BlockReader.Halts.{Alone, Halts}
use Rattle.yf_grammar.specs.BlockReader.Halts.Halts.{halts_below, halts_inline, halts_missed, halts_alone, halts_node, halts_before_node, halts_unended}
use Rattle.yf_grammar.proofs.Ends.Ways.{chosen_one}
use Rattle.yf_grammar.proofs.Ends.GapLemmas.{Visible}
use Rattle.yf_grammar.proofs.BlockOutcomes.BlockClaims.{line_unique, visible_white}
use Rattle.yf_grammar.proofs.BlockOutcomes.BlockGaps.{whites_order, rows_order, line_in, ended_here, line_chosen, prefix_at_least}

-- the outcome at the line that begins at h, when a node is awaited: the node, or only the `Ahead` if the node has no
-- end
pub data HaltsBelow (t : List ℕ) (e : ℕ) (ws : List ℕ) (n : ℤ) (c : Ctx) (a : Ahead) (i h m k : ℕ) (cs : List CommentValue) (o : Option ParsedNode) : Type 0 where
  halts_there : {cols : Columns} {f : ParsedNode} → LineColumns n c h m k cols → Halts t e ws (Inline n c cols (past a cs) k) (Some f) → o ≡ outcome_after a cs (Some f)
      → HaltsBelow t e ws n c a i h m k cs o
  halts_before : {cols : Columns} → LineColumns n c h m k cols → Halts t e ws (Inline n c cols (past a cs) k) None → Alone t ws a i o
      → HaltsBelow t e ws n c a i h m k cs o

pub data HaltsCame (t : List ℕ) (e : ℕ) (ws : List ℕ) (b : Bool) (n : ℤ) (c : Ctx) (a : Ahead) (i k : ℕ) (cs : List CommentValue) (o : Option ParsedNode) : Type 0 where
  halts_on_the_line : {cols : Columns} → cs ≡ [] → Stuck (LineEnd t i) → Compact t b n i k cols → Halts t e ws (Inline n c cols a k) o
      → HaltsCame t e ws b n c a i k cs o
  halts_on_a_line : {h m : ℕ} → Chosen (LineEnd t i) h cs → LineText t h m k → Begins t n c i h m k → HaltsBelow t e ws n c a i h m k cs o
      → HaltsCame t e ws b n c a i k cs o

module _ {t : List ℕ} where
  -- the reader is at the first character of a line
  moved_columns : {n : ℤ} {c : Ctx} {h z m l k p : ℕ} {cols : Columns} → LineText t h m k → z ≡ h → LineText t z l p → LineColumns n c z l p cols
      → LineColumns n c h m k cols × (p ≡ k)
  moved_columns {n} {c} {h} {z} {m} {l} {k} {p} {cols} w e v y =
      let v' : LineText t h l p = subst (λ q. LineText t q l p) e v in
      let y' : LineColumns n c h l p cols = subst (λ q. LineColumns n c q l p cols) e y in
      let q = line_unique w v' in
      let y1 : LineColumns n c h m p cols = subst (λ r. LineColumns n c h r p cols) q.0 y' in
      (subst (λ r. LineColumns n c h m r cols) q.1 y1, q.1)

  moved_inline : {e : ℕ} {ws : List ℕ} {n : ℤ} {c : Ctx} {cols : Columns} (a : Ahead) {k p : ℕ} {cs ds : List CommentValue} {o : Option ParsedNode} → p ≡ k → ds ≡ cs
      → Halts t e ws (Inline n c cols (past a ds) p) o → Halts t e ws (Inline n c cols (past a cs) k) o
  moved_inline {e} {ws} {n} {c} {cols} a {k} {p} {cs} {ds} {o} x y r =
      let r1 : Halts t e ws (Inline n c cols (past a ds) k) o = subst (λ q. Halts t e ws (Inline n c cols (past a ds) q) o) x r in
      subst (λ q. Halts t e ws (Inline n c cols (past a q) k) o) y r1

  pub halts_below_comes : {e i h m k : ℕ} {ws : List ℕ} {n : ℤ} {c : Ctx} {a : Ahead} {cs : List CommentValue} {o : Option ParsedNode} → Chosen (LineEnd t i) h cs → LineText t h m k
      → Begins t n c i h m k → Halts t e ws (Below n c a i) o → HaltsBelow t e ws n c a i h m k cs o
  halts_below_comes {i = i} {m = m} {k = k} {n = n} {c = c} d w b (halts_alone f g x) =
      let s = chosen_one d f in
      absurd (g.none m k (subst (λ v. LineText t v m k) (sym s.0) w) (subst (λ v. Begins t n c i v m k) (sym s.0) b))
  halts_below_comes {a = a} {cs = cs} d w b (halts_node {f = y} f v g x r) =
      let s = chosen_one d f in
      let q = moved_columns w s.0 v x in
      halts_there q.0 (moved_inline a q.1 s.1 r) (ap (λ z. outcome_after a z (Some y)) s.1)
  halts_below_comes {a = a} d w b (halts_before_node f v g x r z) =
      let s = chosen_one d f in
      let q = moved_columns w s.0 v x in
      halts_before q.0 (moved_inline a q.1 s.1 r) z
  halts_below_comes {h = h} {cs = cs} d w b (halts_unended f) = absurd (f.none h cs d.derived)

  pub halts_awaited_ends : {e i h : ℕ} {ws : List ℕ} {b : Bool} {n : ℤ} {c : Ctx} {a : Ahead} {cs : List CommentValue} {o : Option ParsedNode} → LineEnd t i h cs
      → Halts t e ws (Awaited b n c a i) o → Halts t e ws (Below n c a i) o
  halts_awaited_ends d (halts_below f r) = r
  halts_awaited_ends {h = h} {cs = cs} d (halts_inline f m l w g r) = absurd (f.none h cs d)
  halts_awaited_ends {h = h} {cs = cs} d (halts_missed f w) = absurd (f.none h cs d)

  come_below : {e i h m k : ℕ} {ws : List ℕ} {b : Bool} {n : ℤ} {c : Ctx} {a : Ahead} {cs : List CommentValue} {o : Option ParsedNode} → LineEnd t i h cs → LineText t h m k
      → Begins t n c i h m k → Halts t e ws (Awaited b n c a i) o → HaltsCame t e ws b n c a i k cs o
  come_below d w b r = let f = line_chosen d w in halts_on_a_line f w b (halts_below_comes f w b (halts_awaited_ends d r))

  come_by_whites : {e i k j : ℕ} {ws : List ℕ} {b : Bool} {n : ℤ} {c : Ctx} {a : Ahead} {w : List ℕ} {o : Option ParsedNode} → Many t is_white i k w → i < k → Visible t k
      → Clear t i j → k < j → Halts t e ws (Awaited b n c a i) o → HaltsCame t e ws b n c a i k [] o
  come_by_whites {e} {i} {k} {j} {ws} {b} {n} {c} {a} {w} {o} m l v z q (halts_below {k = h} {ds = ds} f r) =
      let x = line_in m v (λ y. z.none i (omega arith) (omega arith) y) in
      let s = ended_here f.derived x.1 in
      let f1 : Chosen (LineEnd t i) i ds = subst (λ y. Chosen (LineEnd t i) y ds) s.0 f in
      let f2 : Chosen (LineEnd t i) i [] = subst (λ y. Chosen (LineEnd t i) i y) s.1 f1 in
      let g : Begins t n c i i x.0 k = line_first refl in
      halts_on_a_line f2 x.1 g (halts_below_comes f2 x.1 g r)
  come_by_whites {e} {i} {k} {j} {ws} {b} {n} {c} {a} {w} {o} m l v z q (halts_inline {p = p} {cols = cols} f y u x g r) =
      let s = (many_unique t is_white m (visible_white v) y x).0 in
      halts_on_the_line refl f (subst (λ y. Compact t b n i y cols) (sym s) g) (subst (λ y. Halts t e ws (Inline n c cols a y) o) (sym s) r)
  come_by_whites {i = i} {k = k} m l v z q (halts_missed f x) =
      let s = (many_unique t is_white m (visible_white v) (done {i = i}) x).0 in absurd (omega arith)

  come_in_line : {e i k j : ℕ} {ws : List ℕ} {b : Bool} {n : ℤ} {c : Ctx} {a : Ahead} {o : Option ParsedNode} → SeparateInLine t i k → Visible t k → Clear t i j → k < j
      → Halts t e ws (Awaited b n c a i) o → HaltsCame t e ws b n c a i k [] o
  come_in_line (by_whites m l) v z q r = come_by_whites m l v z q r
  come_in_line (at_start {i = i} s) v z q r =
      let x = line_in (done {i = i}) v (λ y. z.none i (omega arith) (omega arith) y) in
      come_below (from_start s done) x.1 (line_first refl) r

  come_lines : {e i k j : ℕ} {ws : List ℕ} {b : Bool} {n : ℤ} {c : Ctx} {a : Ahead} {cs : List CommentValue} {o : Option ParsedNode} → SeparateLines t (n +ℤ pos 1) i k cs → Visible t k
      → Clear t i j → k < j → Halts t e ws (Awaited b n c a i) o → HaltsCame t e ws b n c a i k cs o
  come_lines (in_line s) v z q r = come_in_line s v z q r
  come_lines {i = i} {k = k} {j = j} (over_lines {h = h} d f) v z q r =
      let m = prefix_whites f in
      let y : i ≤ h = rows_order d in
      let g : h ≤ k = whites_order m.1 in
      let x = line_in m.1 v (λ s. z.none h y (omega arith) s) in
      come_below d x.1 (line_indented (prefix_at_least f x.1)) r

  -- after a separation the reader reaches the next character
  pub gap_halts : {e i k j : ℕ} {ws : List ℕ} {b : Bool} {n : ℤ} {c : Ctx} {a : Ahead} {cs : List CommentValue} {o : Option ParsedNode} (d : Ctx) → is_key d ≡ false
      → Separate t (n +ℤ pos 1) d i k cs → Visible t k → Clear t i j → k < j → Halts t e ws (Awaited b n c a i) o → HaltsCame t e ws b n c a i k cs o
  gap_halts d n (in_key e s) v z q r = absurd (true≢false (sym e ∙ n))
  gap_halts d n (in_node e s) v z q r = come_lines s v z q r
