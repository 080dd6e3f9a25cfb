-- After a separation, the reader of block nodes reaches the next character: on the line of an indicator, or on a later
-- one.
use Rattle.std.proofs.Common.{◌≡◌, ◌≢◌, ℕ, suc, zero, ◌+◌, ◌<◌, ◌≤◌, ℤ, pos, ◌+ℤ◌, ◌≤ℤ◌, Bool, true, false, ⊎_elim, List, [], Option, refl, sym, ap, ◌∙◌, subst, arith, true≢false}
use Rattle.std.proofs.lemmas.Bool.{cases_lt, cases_eq}
use Rattle.std.proofs.lemmas.Int.{ints}
use Rattle.yf_chars.specs.declared.context.Ctx.{Ctx}
use Rattle.yf_chars.specs.declared.context.Ctx.TheVariants.{BlockOut, BlockIn, FlowOut, FlowIn, BlockKey, FlowKey}
use Rattle.yf_chars.specs.Text.{code}
use Rattle.yf_chars.specs.Class.{is_white, is_ns_char}
use Rattle.yf_chars.specs.Chain.{Chain, Stuck, Chosen, Many}
use Rattle.yf_chars.specs.Chain.Chain.{done, step}
use Rattle.yf_chars.specs.Chain.One.{one}
use Rattle.yf_chars.proofs.TextLemmas.{next_ascii, code-past}
use Rattle.yf_chars.proofs.ChainLemmas.{chain_forward, one_functional, many_unique}
use Rattle.yf_lines.specs.Basic.{is_block, is_key, Spaces, SeparateInLine, Indent, FlowPrefix, ForbiddenLine, Clear}
use Rattle.yf_lines.specs.Basic.SeparateInLine.{by_whites, at_start}
use Rattle.yf_lines.specs.Basic.Indent.{exactly}
use Rattle.yf_lines.specs.Basic.FlowPrefix.{indented, set_off}
use Rattle.yf_lines.proofs.BasicLemmas.{white_of_space, white_below}
use Rattle.yf_comments.specs.Comment.{CommentValue}
use Rattle.yf_comments.specs.Comments.{Separate, SeparateLines, LineEnd, Row}
use Rattle.yf_comments.specs.Comments.Separate.{in_key, in_node}
use Rattle.yf_comments.specs.Comments.SeparateLines.{in_line, over_lines}
use Rattle.yf_comments.specs.Comments.LineEnd.{from_start}
use Rattle.yf_comments.proofs.RowLemmas.{row_functional}
use Rattle.yf_comments.proofs.LineEndLemmas.{line_end_rows, line_end_chosen}
use Rattle.yf_comments.proofs.SeparateLemmas.{prefix_whites}
use Rattle.yf_plain.proofs.PlainLemmas.{ns_below}
use Rattle.yf_grammar.specs.FlowReader.Parser.{ParsedNode}
use Rattle.yf_grammar.specs.BlockReader.BlockParser.{LinesEnd, text_ends, mark_is_at, marker_is_at, LineText, Columns, Compact, LineColumns, Begins, line_first, line_indented, Ahead, past, outcome_after, Awaited, Below, Inline, Whole}
use Rattle.yf_grammar.specs.BlockReader.BlockParser.Whole.{awaited_below, awaited_inline, awaited_missed, below_alone, below_node, below_missed}
use Rattle.yf_grammar.proofs.Ends.Ways.{chosen_one}
use Rattle.yf_grammar.proofs.Ends.GapLemmas.{Visible}
use Rattle.yf_grammar.proofs.BlockOutcomes.BlockClaims.{Unheld, nothing_ahead, indicator_ahead, line_unique, line_still, visible_white, visible_content}
use Rattle.yf_chars.proofs.CharFacts.{mark_no_white, mark_no_ns}

pub block_no_key : (c : Ctx) → is_block c ≡ true → is_key c ≡ false
block_no_key BlockOut e = refl
block_no_key BlockIn e = refl
block_no_key FlowOut e = refl
block_no_key FlowIn e = refl
block_no_key BlockKey e = absurd (true≢false (sym e))
block_no_key FlowKey e = absurd (true≢false (sym e))

pub past_unheld : {a : Ahead} (ds : List CommentValue) → Unheld a → past a ds ≡ a
unfolding past
past_unheld ds nothing_ahead = refl
past_unheld ds indicator_ahead = refl

-- the outcome at the line that begins at h, when a node is awaited
pub data CameBelow (t : List ℕ) (e : ℕ) (n : ℤ) (c : Ctx) (a : Ahead) (h m k : ℕ) (cs : List CommentValue) (o : Option ParsedNode) : Type 0 where
  came_below : {cols : Columns} {r : Option ParsedNode} → LineColumns n c h m k cols → Whole t e (Inline n c cols (past a cs) k) r → o ≡ outcome_after a cs r
      → CameBelow t e n c a h m k cs o

-- the outcome when a node that begins at k is awaited
pub data Came (t : List ℕ) (e : ℕ) (b : Bool) (n : ℤ) (c : Ctx) (a : Ahead) (i k : ℕ) (cs : List CommentValue) (o : Option ParsedNode) : Type 0 where
  on_the_line : {cols : Columns} → cs ≡ [] → Stuck (LineEnd t i) → Compact t b n i k cols → Whole t e (Inline n c cols a k) o → Came t e b n c a i k cs o
  on_a_line : {h m : ℕ} → Chosen (LineEnd t i) h cs → LineText t h m k → Begins t n c i h m k → CameBelow t e n c a h m k cs o → Came t e b n c a i k cs o

-- white space up to an offset: spaces, and then the rest from the first tab on
record Split (t : List ℕ) (h k : ℕ) : Type 0 where
  column : ℕ
  spaces : Spaces t h column
  no_space : code t (h + column) ≢ 32
  whites : List ℕ
  run : Many t is_white (h + column) k whites

module _ {t : List ℕ} where
  pub whites_order : {i j : ℕ} {w : List ℕ} → Many t is_white i j w → i ≤ j
  whites_order m = chain_forward (one_functional t is_white) m

  pub rows_order : {i j : ℕ} {x : List CommentValue} → LineEnd t i j x → i ≤ j
  rows_order d = chain_forward row_functional (line_end_rows d)

  whites_no_mark : {h k : ℕ} {w : List ℕ} → Many t is_white h k w → Visible t k → code t h ≡ 0xFEFF → ⊥
  whites_no_mark (done {i = i}) v e = true≢false (sym v.ns ∙ ap is_ns_char e ∙ mark_no_ns)
  whites_no_mark (step {i = i} (one q) c) v e = true≢false (sym q ∙ ap is_white e ∙ mark_no_white)

  goes_on : {h k : ℕ} {w : List ℕ} → Many t is_white h k w → Visible t k → (ForbiddenLine t h → ⊥) → LinesEnd t h → ⊥
  goes_on {h} {k} m v f (text_ends e) = let o = whites_order m in let z = code-past t k (omega arith) in let y = ns_below (code t k) v.ns in absurd (omega arith)
  goes_on m v f (mark_is_at e) = whites_no_mark m v e
  goes_on m v f (marker_is_at w) = f w

  split_none : {h k : ℕ} {w : List ℕ} → code t h ≢ 32 → Many t is_white h k w → Split t h k
  split_none {h} {k} {w} n m = record {
    column = 0;
    spaces = record { each = λ l q. absurd (omega arith) };
    no_space = λ e. let z : h + 0 ≡ h = omega arith in n (sym (ap (code t) z) ∙ e);
    whites = w;
    run = let z : h ≡ h + 0 = omega arith in subst (λ v. Many t is_white v k w) z m;
  }

  split_more : (h : ℕ) {k : ℕ} → code t h ≡ 32 → Split t (h + 1) k → Split t h k
  split_more h {k} e s = record {
    column = suc s.column;
    spaces = record { each = λ l q. first l q };
    no_space = λ q. let z : h + suc s.column ≡ h + 1 + s.column = omega arith in s.no_space (sym (ap (code t) z) ∙ q);
    whites = s.whites;
    run = let z : h + 1 + s.column ≡ h + suc s.column = omega arith in subst (λ v. Many t is_white v k s.whites) z s.run;
  } where
    first : (l : ℕ) → l < suc s.column → code t (h + l) ≡ 32
    first zero q = let z : h + 0 ≡ h = omega arith in ap (code t) z ∙ e
    first (suc l) q = let z : h + suc l ≡ h + 1 + l = omega arith in ap (code t) z ∙ s.spaces.each l (omega arith)

  split_whites : {h k : ℕ} {w : List ℕ} → Many t is_white h k w → Visible t k → Split t h k
  split_whites (done {i = i}) v = split_none (λ e. true≢false (sym (white_of_space (code t i) e) ∙ visible_white v)) done
  split_whites {k = k} (step {i = i} (one q) c) v = ⊎_elim
      (λ (e : code t i ≡ 32). let z = next_ascii t i (white_below (code t i) q) in split_more i e (subst (λ y. Split t y k) z (split_whites c v)))
      (λ (e : code t i ≢ 32). split_none e (step (one q) c)) (cases_eq (code t i) 32)

  -- the line with its first character at k
  pub line_in : {h k : ℕ} {w : List ℕ} → Many t is_white h k w → Visible t k → (ForbiddenLine t h → ⊥) → (m : ℕ) × LineText t h m k
  line_in m v f = let s = split_whites m v in (
    s.column,
    record { goes_on = goes_on m v f; spaces = s.spaces; no_space = s.no_space; whites = s.whites; run = s.run; content = visible_content v },
  )

  pub spaces_within : {h l m k : ℕ} → Spaces t h l → LineText t h m k → l ≤ m
  spaces_within {h} {l} {m} s w = ⊎_elim (λ (q : m < l). absurd (w.no_space (s.each m q))) (λ (q : l ≤ m). q) (cases_lt m l)

  -- an empty line end
  rows_still : {i h : ℕ} {x : List CommentValue} → Chain (Row t) i h x → Stuck (Row t i) → (h ≡ i) × (x ≡ [])
  rows_still done s = (refl, refl)
  rows_still (step {h = h} {x = x} r c) s = absurd (s.none h x r)

  pub ended_here : {i h m k : ℕ} {x : List CommentValue} → LineEnd t i h x → LineText t i m k → (h ≡ i) × (x ≡ [])
  ended_here d w = rows_still (line_end_rows d) (line_still w)

  pub line_chosen : {i h m k : ℕ} {cs : List CommentValue} → LineEnd t i h cs → LineText t h m k → Chosen (LineEnd t i) h cs
  line_chosen d w = line_end_chosen d (line_still w)

  -- the reader of a node on a later line reaches the line
  pub below_comes : {e i h m k : ℕ} {n : ℤ} {c : Ctx} {a : Ahead} {cs : List CommentValue} {o : Option ParsedNode} → Chosen (LineEnd t i) h cs → LineText t h m k
      → Begins t n c i h m k → Whole t e (Below n c a i) o → CameBelow t e n c a h m k cs o
  below_comes {e} {i} {h} {m} {k} {n} {c} {a} {cs} d w b (below_alone {k = z} {ds = ds} f g) =
      let s = chosen_one d f in
      absurd (g.none m k (subst (λ v. LineText t v m k) (sym s.0) w) (subst (λ v. Begins t n c i v m k) (sym s.0) b))
  below_comes {e} {i} {h} {m} {k} {n} {c} {a} {cs} d w b (below_node {k = z} {m = l} {p = p} {cols = cols} {ds = ds} {o = o} f v g y r) =
      let s = chosen_one d f in
      let v' : LineText t h l p = subst (λ q. LineText t q l p) s.0 v in
      let y' : LineColumns n c h l p cols = subst (λ q. LineColumns n c q l p cols) s.0 y in
      let q = line_unique w v' in
      let y1 : LineColumns n c h m p cols = subst (λ q. LineColumns n c h q p cols) q.0 y' in
      let y2 : LineColumns n c h m k cols = subst (λ q. LineColumns n c h m q cols) q.1 y1 in
      let r1 : Whole t e (Inline n c cols (past a ds) k) o = subst (λ q. Whole t e (Inline n c cols (past a ds) q) o) q.1 r in
      let r2 : Whole t e (Inline n c cols (past a cs) k) o = subst (λ q. Whole t e (Inline n c cols (past a q) k) o) s.1 r1 in
      came_below y2 r2 (ap (λ q. outcome_after a q o) s.1)
  below_comes {h = h} {cs = cs} d w b (below_missed f) = absurd (f.none h cs d.derived)

  -- if the line ends, the node is awaited on a later line
  pub awaited_ends : {e i h : ℕ} {b : Bool} {n : ℤ} {c : Ctx} {a : Ahead} {cs : List CommentValue} {o : Option ParsedNode} → LineEnd t i h cs
      → Whole t e (Awaited b n c a i) o → Whole t e (Below n c a i) o
  awaited_ends d (awaited_below f r) = r
  awaited_ends {h = h} {cs = cs} d (awaited_inline f m l w g r) = absurd (f.none h cs d)
  awaited_ends {h = h} {cs = cs} d (awaited_missed f w) = absurd (f.none h cs d)

  come_below : {e i h m k : ℕ} {b : Bool} {n : ℤ} {c : Ctx} {a : Ahead} {cs : List CommentValue} {o : Option ParsedNode} → LineEnd t i h cs → LineText t h m k → Begins t n c i h m k
      → Whole t e (Awaited b n c a i) o → Came t e b n c a i k cs o
  come_below d w b r = let f = line_chosen d w in on_a_line f w b (below_comes f w b (awaited_ends d r))

  -- only white space is before the character
  come_by_whites : {e i k j : ℕ} {b : Bool} {n : ℤ} {c : Ctx} {a : Ahead} {w : List ℕ} {o : Option ParsedNode} → Many t is_white i k w → i < k → Visible t k → Clear t i j → k < j
      → Whole t e (Awaited b n c a i) o → Came t e b n c a i k [] o
  come_by_whites {e} {i} {k} {j} {b} {n} {c} {a} {w} {o} m l v z q (awaited_below {k = h} {ds = ds} f r) =
      let x = line_in m v (λ y. z.none i (omega arith) (omega arith) y) in
      let s = ended_here f.derived x.1 in
      let f1 : Chosen (LineEnd t i) i ds = subst (λ y. Chosen (LineEnd t i) y ds) s.0 f in
      let f2 : Chosen (LineEnd t i) i [] = subst (λ y. Chosen (LineEnd t i) i y) s.1 f1 in
      let g : Begins t n c i i x.0 k = line_first refl in
      on_a_line f2 x.1 g (below_comes f2 x.1 g r)
  come_by_whites {e} {i} {k} {j} {b} {n} {c} {a} {w} {o} m l v z q (awaited_inline {p = p} {cols = cols} f y u x g r) =
      let s = (many_unique t is_white m (visible_white v) y x).0 in
      on_the_line refl f (subst (λ y. Compact t b n i y cols) (sym s) g) (subst (λ y. Whole t e (Inline n c cols a y) o) (sym s) r)
  come_by_whites {i = i} {k = k} m l v z q (awaited_missed f x) =
      let s = (many_unique t is_white m (visible_white v) (done {i = i}) x).0 in absurd (omega arith)

  come_in_line : {e i k j : ℕ} {b : Bool} {n : ℤ} {c : Ctx} {a : Ahead} {o : Option ParsedNode} → SeparateInLine t i k → Visible t k → Clear t i j → k < j
      → Whole t e (Awaited b n c a i) o → Came t e b n c a i k [] o
  come_in_line (by_whites m l) v z q r = come_by_whites m l v z q r
  come_in_line (at_start {i = i} s) v z q r =
      let x = line_in (done {i = i}) v (λ y. z.none i (omega arith) (omega arith) y) in
      come_below (from_start s done) x.1 (line_first refl) r

  indent_at_least : {n : ℤ} {h g m k : ℕ} → Indent t n h g → LineText t h m k → n ≤ℤ pos m
  indent_at_least (exactly l e s) w = let q = spaces_within s w in omega (arith, ints)

  pub prefix_at_least : {n : ℤ} {h g m k : ℕ} → FlowPrefix t n h g → LineText t h m k → n ≤ℤ pos m
  prefix_at_least (indented d) w = indent_at_least d w
  prefix_at_least (set_off d s) w = indent_at_least d w

  come_lines : {e i k j : ℕ} {b : Bool} {n : ℤ} {c : Ctx} {a : Ahead} {cs : List CommentValue} {o : Option ParsedNode} → SeparateLines t (n +ℤ pos 1) i k cs → Visible t k → Clear t i j → k < j
      → Whole t e (Awaited b n c a i) o → Came t e b n c a i k cs o
  come_lines (in_line s) v z q r = come_in_line s v z q r
  come_lines {i = i} {k = k} {j = j} (over_lines {h = h} d f) v z q r =
      let m = prefix_whites f in
      let y : i ≤ h = rows_order d in
      let g : h ≤ k = whites_order m.1 in
      let x = line_in m.1 v (λ s. z.none h y (omega arith) s) in
      come_below d x.1 (line_indented (prefix_at_least f x.1)) r

  -- after a separation the reader reaches the next character
  pub gap_reached : {e i k j : ℕ} {b : Bool} {n : ℤ} {c : Ctx} {a : Ahead} {cs : List CommentValue} {o : Option ParsedNode} (d : Ctx) → is_key d ≡ false → Separate t (n +ℤ pos 1) d i k cs
      → Visible t k → Clear t i j → k < j → Whole t e (Awaited b n c a i) o → Came t e b n c a i k cs o
  gap_reached d n (in_key e s) v z q r = absurd (true≢false (sym e ∙ n))
  gap_reached d n (in_node e s) v z q r = come_lines s v z q r
