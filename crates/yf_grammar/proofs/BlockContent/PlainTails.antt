-- A plain scalar may end before its end after any line but its last. The line ends there, and a node may end at the
-- start of the next line.
use Rattle.std.proofs.Common.{◌≡◌, ℕ, ℤ, ◌<◌, ◌≤◌, true, ⊎_elim, List, [], sym, ◌∙◌, subst, arith, true≢false}
use Rattle.std.proofs.lemmas.Bool.{cases_lt}
use Rattle.std.specs.Str.{IsUtf8}
use Rattle.yf_chars.specs.declared.context.Ctx.{Ctx}
use Rattle.yf_chars.specs.declared.context.Ctx.TheVariants.{FlowIn}
use Rattle.yf_chars.specs.Text.{code, before}
use Rattle.yf_chars.specs.Class.{is_white, is_ns_char}
use Rattle.yf_chars.specs.Chain.{Chain, Many, Chosen}
use Rattle.yf_chars.specs.Chain.Chain.{done, step}
use Rattle.yf_lines.specs.Basic.{FlowPrefix, ForbiddenLine, Break, IndentLess, LinePrefix, Empty, FoldedBreak, FlowFolded, is_flow}
use Rattle.yf_lines.specs.Basic.LineStart.{after_break}
use Rattle.yf_lines.specs.Basic.IndentLess.{fewer}
use Rattle.yf_lines.specs.Basic.LinePrefix.{in_block, in_flow}
use Rattle.yf_lines.specs.Basic.Empty.{prefixed, shorter}
use Rattle.yf_lines.specs.Basic.FoldedBreak.{trimmed, as_space}
use Rattle.yf_lines.specs.Basic.FlowFolded.{at_break, past_whites}
use Rattle.yf_lines.specs.Fold.{FoldsTo}
use Rattle.yf_lines.proofs.BasicLemmas.{break_forward}
use Rattle.yf_comments.specs.Comment.{CommentValue}
use Rattle.yf_comments.specs.Comments.{CommentLine, LineEnd}
use Rattle.yf_comments.specs.Comments.BreakOrEnd.{by_break}
use Rattle.yf_comments.specs.Comments.LineRest.{nothing, whites}
use Rattle.yf_comments.specs.Comments.CommentLine.{whites_line}
use Rattle.yf_comments.specs.Comments.LineEnd.{past_rest}
use Rattle.yf_comments.proofs.LineEndLemmas.{line_end_chosen, row_stuck}
use Rattle.yf_comments.proofs.RowLemmas.{separate_from, stuck_at_solid}
use Rattle.yf_comments.proofs.SeparateLemmas.{spaces_whites, prefix_whites}
use Rattle.yf_plain.specs.Plain.{is_plain_char, PlainItem, Plain}
use Rattle.yf_plain.specs.Plain.PlainItem.{set_off}
use Rattle.yf_plain.proofs.PlainLemmas.{plain_is_ns, plain_hash, after_whites, white_not_ns}
use Rattle.yf_plain.proofs.LineLemmas.{fold_before, plain_onward, Onward}
use Rattle.yf_plain.proofs.LineLemmas.Onward.{on_line, on_next}
use Rattle.yf_grammar.proofs.Ends.BlankRuns.{ContentBefore}
use Rattle.yf_grammar.proofs.BlockOutcomes.BlockFirst.{no_line_end_before}
use Rattle.yf_grammar.proofs.FlowReader.FlowStarts.{no_end_there}
use Rattle.yf_grammar.proofs.Ends.Forward.{whites_forward, in_line_forward}
use Rattle.yf_grammar.proofs.Ends.GapLemmas.{Visible, visible_solid}
use Rattle.yf_grammar.proofs.FlowReader.PlainEnds.{plain_after}

-- the end of the line at which a fold begins, up to the line after the fold, and the white space of that line
pub record FoldEnd (t : List ℕ) (n : ℤ) (i h : ℕ) : Type 0 where
  pub line : ℕ
  pub from : ℕ
  pub ends : Break t from line
  pub first : i ≤ from
  pub end : LineEnd t i line []
  pub prefix : FlowPrefix t n line h
  pub blank : List ℕ
  pub whites : Many t is_white line h blank

module _ {t : List ℕ} where
  prefix_run : {n : ℤ} {i j : ℕ} → LinePrefix t n FlowIn i j → (w : List ℕ) × Many t is_white i j w
  prefix_run (in_block e d) = absurd (true≢false (sym e))
  prefix_run (in_flow e p) = prefix_whites p

  less_run : {n : ℤ} {i j : ℕ} → IndentLess t n i j → (w : List ℕ) × Many t is_white i j w
  less_run (fewer {i = i} k e s) = spaces_whites t i k s

  empty_run : {n : ℤ} {i j : ℕ} {x : List ℕ} → Empty t n FlowIn i j x → (h : ℕ) × (w : List ℕ) × Many t is_white i h w × Break t h j
  empty_run (prefixed {h = h} p b) = let w = prefix_run p in (h, w.0, w.1, b)
  empty_run (shorter {h = h} p b) = let w = less_run p in (h, w.0, w.1, b)

  -- empty lines are comment lines
  empty_lines : {n : ℤ} {i j : ℕ} {x : List ℕ} → Chain (Empty t n FlowIn) i j x → (g : ℕ) → Break t g i → (f : ℕ) × Break t f j × (g ≤ f) × Chain (CommentLine t) i j []
  empty_lines done g b = (g, b, omega arith, done)
  empty_lines (step e c) g b =
      let p = empty_run e in
      let r = empty_lines c p.0 p.3 in
      let k = break_forward b in
      let l = whites_forward p.2 in
      let m = r.2 in
      (r.0, r.1, omega arith, step (whites_line (separate_from p.2 (after_break b)) (by_break p.3)) r.3)

  folded_lines : {n : ℤ} {i j : ℕ} {x : List ℕ} → FoldedBreak t n FlowIn i j x → (h : ℕ) × Break t i h × ((f : ℕ) × Break t f j × (i ≤ f) × Chain (CommentLine t) h j [])
  folded_lines {i = i} (trimmed {h = h} b e c) = (h, b, empty_lines (step e c) i b)
  folded_lines {i = i} (as_space {j = j} b) = (j, b, (i, b, omega arith, done))

  pub fold_end : {n : ℤ} {i h : ℕ} {x : List ℕ} → FlowFolded t n i h x → FoldEnd t n i h
  fold_end (at_break {h = l} d p) =
      let r = folded_lines d in
      let w = prefix_whites p in
      record { line = l; from = r.2.0; ends = r.2.1; first = r.2.2; end = past_rest (nothing (by_break r.1)) r.2.3; prefix = p; blank = w.0; whites = w.1 }
  fold_end (past_whites {h = l} s d p) =
      let r = folded_lines d in
      let w = prefix_whites p in
      let f = in_line_forward s in
      let g = r.2.2 in
      record { line = l; from = r.2.0; ends = r.2.1; first = omega arith; end = past_rest (whites s (by_break r.1)) r.2.3; prefix = p; blank = w.0; whites = w.1 }

module _ {t : List ℕ} (u : IsUtf8 t) where
  -- the first character of a continuation line does not begin a comment
  pub next_visible : {n : ℤ} (c : Ctx) {i h : ℕ} {x : List ℕ} → FoldsTo t n i h x → is_plain_char t c h ≡ true → Visible t h
  next_visible c {h = h} f e = record { ns = plain_is_ns t c h e; no_hash = λ q. true≢false (sym e ∙ plain_hash t c h q ∙ fold_before u f) }

  -- so the end of the line reaches that line, and no further one
  pub fold_chosen : {n : ℤ} {i h : ℕ} (f : FoldEnd t n i h) → Visible t h → Chosen (LineEnd t i) f.line []
  fold_chosen f v = let s = visible_solid v in line_end_chosen f.end (row_stuck (stuck_at_solid f.whites s.not_white s.no_comment s.no_end))

  -- no line ends before a character of the scalar on it
  item_visible : (c : Ctx) {k h : ℕ} {w : List ℕ} → Many t is_white k h w → is_plain_char t c h ≡ true → k < h → Visible t h
  item_visible c {k} {h} w e l = record {
    ns = plain_is_ns t c h e;
    no_hash = λ q. ⊎_elim (λ (z : k ≡ h). omega arith)
        (λ (z : is_white (before t h) ≡ true). true≢false (sym e ∙ plain_hash t c h q ∙ white_not_ns (before t h) z)) (after_whites u w);
  }

  item_no_end : {c : Ctx} {k j l : ℕ} {x : List ℕ} {ds : List CommentValue} → ContentBefore t k → PlainItem t c k j x → LineEnd t k l ds → ⊥
  item_no_end {c} {k} b (set_off {h = h} w e) d = ⊎_elim
      (λ (l : k < h). no_line_end_before u b w (item_visible c w e l) d)
      (λ (l : h ≤ k).
      let f = whites_forward w in
      let same : h ≡ k = omega arith in
      no_end_there u b (subst (λ m. is_ns_char (code t m) ≡ true) same (plain_is_ns t c h e)) d)
      (cases_lt k h)

-- a shorter scalar before the end of a line continues on the next line
pub record Tail (t : List ℕ) (n : ℤ) (c : Ctx) (k l : ℕ) : Type 0 where
  pub place : ℕ
  pub text : List ℕ
  pub fold : FoldsTo t n k place text
  pub char : is_plain_char t c place ≡ true
  pub allowed : ForbiddenLine t place → ⊥
  pub inside : place < l
  pub end : FoldEnd t n k place
  pub best : Chosen (LineEnd t k) end.line []

module _ {t : List ℕ} (u : IsUtf8 t) where
  pub tail_of : {n : ℤ} {c : Ctx} {i k l j : ℕ} {x y : List ℕ} {ds : List CommentValue} → is_flow c ≡ true → Plain t n c i k x → Plain t n c i l y → k < l → LineEnd t k j ds
      → Tail t n c k l
  tail_of {n} {c} {k = k} {l = l} f p q m d = go (plain_onward f p q m) where
    go : Onward t n c k l → Tail t n c k l
    go (on_line s) = absurd (item_no_end u (plain_after u p.text) s d)
    go (on_next {h = h} {x = x} s e a z) =
        let end = fold_end s.folded in
        record { place = h; text = x; fold = s; char = e; allowed = a; inside = z; end = end; best = fold_chosen u end (next_visible u c s e) }

  -- and that line begins before the longer one ends
  pub tail_before : {n : ℤ} {c : Ctx} {k l j : ℕ} {ds : List CommentValue} → Tail t n c k l → LineEnd t k j ds → j < l
  tail_before {j = j} {ds = ds} a d =
      let m = a.best.longest j ds d in
      let f = whites_forward a.end.whites in
      let g = a.inside in omega arith
