-- The longest separation from an offset, if the text after a separation is known.
use Rattle.std.proofs.Common.{◌≡◌, ◌≢◌, ℕ, ℤ, ◌<◌, ◌≤◌, true, false, ◌⊎◌, inl, ⊎_elim, List, [], ◌++◌, length, refl, sym, ap, ◌∙◌, subst, arith, true≢false, append-nil}
use Rattle.std.proofs.lemmas.Bool.{cases_lt}
use Rattle.std.specs.Str.{IsUtf8}
use Rattle.yf_chars.specs.declared.context.Ctx.{Ctx}
use Rattle.yf_chars.specs.Text.{code, no_char}
use Rattle.yf_chars.specs.Class.{is_white, is_ns_char}
use Rattle.yf_chars.specs.Chain.{Chain, Stuck, Chosen, Nowhere, Many}
use Rattle.yf_chars.specs.Chain.Chain.{done, step}
use Rattle.yf_chars.proofs.TextLemmas.{code-end, code-past}
use Rattle.yf_chars.proofs.ChainLemmas.{chain_append, chain_forward, one_functional, many_chosen}
use Rattle.yf_lines.specs.Basic.{LineStart, SeparateInLine, FlowPrefix}
use Rattle.yf_lines.specs.Basic.SeparateInLine.{by_whites, at_start}
use Rattle.yf_lines.specs.Basic.FlowPrefix.{indented, set_off}
use Rattle.yf_lines.proofs.BasicLemmas.{break_char}
use Rattle.yf_lines.proofs.ClearLemmas.{quiet_whites}
use Rattle.yf_comments.specs.Comment.{CommentValue}
use Rattle.yf_comments.specs.Comments.{BreakOrEnd, LineRest, LineEnd, SeparateLines, Separate, Row}
use Rattle.yf_comments.specs.Comments.BreakOrEnd.{by_break, by_end}
use Rattle.yf_comments.specs.Comments.LineRest.{nothing, whites, comment}
use Rattle.yf_comments.specs.Comments.LineEnd.{past_rest, from_start}
use Rattle.yf_comments.specs.Comments.SeparateLines.{in_line, over_lines}
use Rattle.yf_comments.specs.Comments.Separate.{in_key, in_node}
use Rattle.yf_comments.proofs.RowLemmas.{separate_whites, row_functional, stuck_at_solid, separate_from}
use Rattle.yf_comments.proofs.LineEndLemmas.{line_end_rows, rows_line_end, rest_next, lines_rows}
use Rattle.yf_comments.proofs.SeparateLemmas.{Solid, separate_solid, prefix_whites}
use Rattle.yf_plain.proofs.PlainLemmas.{ns_cr, ns_below, ns_not_white}
use Rattle.yf_props.proofs.SeparationEnds.{Apparent, apparent_last}
use Rattle.yf_grammar.specs.Productions.Grammar.{MaySeparate}
use Rattle.yf_grammar.specs.Productions.Grammar.MaySeparate.{unseparated, separated}
use Rattle.yf_grammar.specs.FlowReader.Parser.{Gap}
use Rattle.yf_grammar.specs.FlowReader.Parser.Gap.{longest_gap, no_gap}
use Rattle.yf_grammar.proofs.Ends.BlankRuns.{ContentBefore, no_start_past}
use Rattle.yf_chars.proofs.CharFacts.{feed_no_ns}

-- a character that begins no separation is at the offset
pub record Visible (t : List ℕ) (k : ℕ) : Type 0 where
  pub ns : is_ns_char (code t k) ≡ true
  pub no_hash : code t k ≢ 35

module _ {t : List ℕ} where
  pub ends_nowhere : {k j : ℕ} → is_ns_char (code t k) ≡ true → BreakOrEnd t k j → ⊥
  ends_nowhere {k} n (by_break b) = ⊎_elim
      (λ (e : code t k ≡ 13). true≢false (sym n ∙ ap is_ns_char e ∙ ns_cr))
      (λ (e : code t k ≡ 10). true≢false (sym n ∙ ap is_ns_char e ∙ feed_no_ns)) (break_char b)
  ends_nowhere {k} n (by_end e) = let f : code t k ≡ no_char = ap (code t) e ∙ code-end t in let l = ns_below (code t k) n in absurd (omega arith)

  no_end_at : {k : ℕ} → Visible t k → Nowhere (BreakOrEnd t k)
  no_end_at v = record { none = λ j e. ends_nowhere v.ns e }

  not_white_at : {k : ℕ} → Visible t k → is_white (code t k) ≡ false
  not_white_at {k} v = ns_not_white (code t k) v.ns

  pub visible_solid : {k : ℕ} → Visible t k → Solid t k
  visible_solid v = record { not_white = not_white_at v; no_comment = v.no_hash; no_end = no_end_at v }

  pub visible_apparent : {k : ℕ} → Visible t k → Apparent t k
  visible_apparent v = record { white = not_white_at v; hash = v.no_hash; ends = no_end_at v }

  -- neither white space nor a row begins there
  still_whites : {k m : ℕ} {w : List ℕ} → Visible t k → Many t is_white k m w → m ≡ k
  still_whites {k} {m} {w} v c =
      let l = (many_chosen t is_white (done {i = k}) (not_white_at v)).longest m w c in
      let f = chain_forward (one_functional t is_white) c in omega arith

  rest_nowhere : {k : ℕ} → Visible t k → Stuck (LineRest t k)
  rest_nowhere v = stuck_at_solid done (not_white_at v) v.no_hash (no_end_at v)

  still_rows : {k m : ℕ} {x : List CommentValue} → Visible t k → Chain (Row t) k m x → (m ≡ k) × (x ≡ [])
  still_rows v done = (refl, refl)
  still_rows v (step {h = h} {x = x} r c) = absurd ((rest_nowhere v).none h x r.rest)

  still_line : {k m : ℕ} → Visible t k → SeparateInLine t k m → m ≡ k
  still_line v s = still_whites v (separate_whites s).1

  still_prefix : {n : ℤ} {k m : ℕ} → Visible t k → FlowPrefix t n k m → m ≡ k
  still_prefix v p = still_whites v (prefix_whites p).1

  still_over : {n : ℤ} {k h m : ℕ} {x : List CommentValue} → Visible t k → (h ≡ k) × (x ≡ []) → FlowPrefix t n h m → (m ≡ k) × (x ≡ [])
  still_over {n} {k} {h} {m} v e p =
      let q : FlowPrefix t n k m = subst (λ w. FlowPrefix t n w m) e.0 p in (still_prefix v q, e.1)

  still_lines : {n : ℤ} {k m : ℕ} {x : List CommentValue} → Visible t k → SeparateLines t n k m x → (m ≡ k) × (x ≡ [])
  still_lines v (in_line s) = (still_line v s, refl)
  still_lines v (over_lines d p) = still_over v (still_rows v (line_end_rows d)) p

  -- a separation at a visible character is empty
  pub separate_still : {n : ℤ} {c : Ctx} {k m : ℕ} {x : List CommentValue} → Visible t k → Separate t n c k m x → (m ≡ k) × (x ≡ [])
  separate_still v (in_key e s) = (still_line v s, refl)
  separate_still v (in_node e s) = still_lines v s

  started_line : {k m : ℕ} → Visible t k → SeparateInLine t k m → LineStart t k
  started_line v (by_whites m l) = let f = still_whites v m in absurd (omega arith)
  started_line v (at_start s) = s

  started_end : {k m : ℕ} {x : List CommentValue} → Visible t k → LineEnd t k m x → LineStart t k
  started_end v (past_rest {h = h} {x = x} r c) = absurd ((rest_nowhere v).none h x r)
  started_end v (from_start s c) = s

  started_lines : {n : ℤ} {k m : ℕ} {x : List CommentValue} → Visible t k → SeparateLines t n k m x → LineStart t k
  started_lines v (in_line s) = started_line v s
  started_lines v (over_lines d p) = started_end v d

  -- a separation at a visible character is at the start of a line
  pub separate_started : {n : ℤ} {c : Ctx} {k m : ℕ} {x : List CommentValue} → Visible t k → Separate t n c k m x → LineStart t k
  separate_started v (in_key e s) = started_line v s
  separate_started v (in_node e s) = started_lines v s

  pub no_separate_after : {n : ℤ} {c : Ctx} {k : ℕ} → IsUtf8 t → ContentBefore t k → Visible t k → Stuck (Separate t n c k)
  no_separate_after u b v = record { none = λ j x s. no_start_past u b (separate_started v s) }

module _ {t : List ℕ} {n : ℤ} {c : Ctx} where
  -- a separation before a visible character is the reader's gap
  pub gap_is : {k l m : ℕ} {cs ds : List CommentValue} → Visible t l → MaySeparate t n c k l cs → Gap t n c k m ds → (m ≡ l) × (ds ≡ cs)
  gap_is v unseparated (no_gap s) = (refl, refl)
  gap_is v unseparated (longest_gap d) = separate_still v d.derived
  gap_is v (separated {j = l} {cs = cs} s) (no_gap d) = absurd (d.none l cs s)
  gap_is v (separated s) (longest_gap d) = let e = separate_solid (visible_solid v) s d in (sym e.0, sym e.1)

  pub separate_is : {k l m : ℕ} {cs ds : List CommentValue} → Visible t l → MaySeparate t n c k l cs → Chosen (Separate t n c k) m ds → (m ≡ l) × (ds ≡ cs)
  separate_is v s d = gap_is v s (longest_gap d)

  pub same_end : {k l m : ℕ} {cs ds : List CommentValue} → Visible t l → Separate t n c k l cs → Visible t m → Separate t n c k m ds → m ≡ l
  same_end v s w r =
      let a = apparent_last s (visible_apparent v) r in
      let b = apparent_last r (visible_apparent w) s in omega arith

-- two separations in sequence are one
module _ {t : List ℕ} where
  line_join : {i j k : ℕ} → SeparateInLine t i j → SeparateInLine t j k → SeparateInLine t i k
  line_join (at_start s) d = d
  line_join (by_whites m l) (at_start s) = by_whites m l
  line_join (by_whites m l) (by_whites o p) = by_whites (chain_append m o) (omega arith)

  rest_join : {i j k : ℕ} {x : List CommentValue} → SeparateInLine t i j → LineRest t j k x → LineRest t i k x
  rest_join s (nothing e) = whites s e
  rest_join s (whites r e) = whites (line_join s r) e
  rest_join s (comment r d e) = comment (line_join s r) d e

  -- a line begins after a line's rest, or nothing is left
  pub rows_next : {i j : ℕ} {x : List CommentValue} → LineStart t i ⊎ (i ≡ length t) → Chain (Row t) i j x → LineStart t j ⊎ (j ≡ length t)
  rows_next s done = s
  rows_next s (step r c) = rows_next (rest_next r.rest) c

  pub end_next : {i j : ℕ} {x : List CommentValue} → LineEnd t i j x → LineStart t j ⊎ (j ≡ length t)
  end_next (past_rest r c) = rows_next (rest_next r) (lines_rows c)
  end_next (from_start s c) = rows_next (inl s) (lines_rows c)

  pub not_at_end : {l : ℕ} (k : ℕ) → Visible t l → k ≤ l → k ≡ length t → ⊥
  not_at_end {l = l} k v f e = let n = ns_below (code t l) v.ns in let c : code t l ≡ no_char = code-past t l (omega arith) in absurd (omega arith)

  whites_no_start : {i j : ℕ} {w : List ℕ} → IsUtf8 t → Many t is_white i j w → i < j → LineStart t j → ⊥
  whites_no_start {j = j} u m l s = (quiet_whites u m).none j l (omega arith) s

  -- white space before a line's end
  line_end_join : {i j k : ℕ} {x : List CommentValue} → IsUtf8 t → SeparateInLine t i j → LineEnd t j k x → LineEnd t i k x
  line_end_join u s (past_rest r c) = past_rest (rest_join s r) c
  line_end_join u (at_start a) (from_start s c) = from_start s c
  line_end_join u (by_whites m l) (from_start s c) = absurd (whites_no_start u m l s)

  -- no row, or one and more
  still_end : {i j : ℕ} {y : List CommentValue} → j ≤ i → Chain (Row t) i j y → (j ≡ i) × (y ≡ [])
  still_end l done = (refl, refl)
  still_end l (step r c) = let a = r.later in let b = chain_forward row_functional c in absurd (omega arith)

  two_ends : {i h k : ℕ} {x y : List CommentValue} → LineEnd t i h x → LineStart t h → LineEnd t h k y → LineEnd t i k (x ++ y)
  two_ends {i} {h} {k} {x} {y} d s e =
      let a = line_end_rows d in
      let b = line_end_rows e in
      let f = chain_forward row_functional a in
      let g = chain_forward row_functional b in
      ⊎_elim (λ (l : i < k). rows_line_end (chain_append a b) l)
      (λ (l : k ≤ i).
      let p = still_end (omega arith) b in
      let q : LineEnd t i k x = subst (λ w. LineEnd t i w x) (sym p.0) d in
      let z : x ≡ x ++ y = sym (ap (λ w. x ++ w) p.1 ∙ append-nil x) in
      subst (λ w. LineEnd t i k w) z q)
      (cases_lt i k)

module _ {t : List ℕ} {n : ℤ} where
  prefix_join : {i j k : ℕ} → FlowPrefix t n i j → SeparateInLine t j k → FlowPrefix t n i k
  prefix_join (indented d) s = set_off d s
  prefix_join (set_off d r) s = set_off d (line_join r s)

  prefix_line : {h k : ℕ} → LineStart t h → FlowPrefix t n h k → SeparateInLine t h k
  prefix_line s p = separate_from (prefix_whites p).1 s

  prefix_order : {h k : ℕ} → FlowPrefix t n h k → h ≤ k
  prefix_order p = chain_forward (one_functional t is_white) (prefix_whites p).1

  lines_join : {i j k : ℕ} {x y : List CommentValue} → IsUtf8 t → Visible t k → SeparateLines t n i j x → SeparateLines t n j k y → SeparateLines t n i k (x ++ y)
  lines_join u v (in_line s) (in_line r) = in_line (line_join s r)
  lines_join u v (in_line s) (over_lines d p) = over_lines (line_end_join u s d) p
  lines_join {i} {k = k} u v (over_lines {x = x} d p) (in_line r) = subst (λ w. SeparateLines t n i k w) (sym (append-nil x)) (over_lines d (prefix_join p r))
  lines_join u v (over_lines {h = h} d p) (over_lines e q) =
      let a = prefix_order p in
      let b = chain_forward row_functional (line_end_rows e) in
      let c = prefix_order q in
      ⊎_elim (λ (s : LineStart t h). over_lines (two_ends d s (line_end_join u (prefix_line s p) e)) q)
      (λ (z : h ≡ length t). absurd (not_at_end h v (omega arith) z))
      (end_next d)

module _ {t : List ℕ} {n : ℤ} {c : Ctx} where
  pub separate_join : {i j k : ℕ} {x y : List CommentValue} → IsUtf8 t → Visible t k → Separate t n c i j x → Separate t n c j k y → Separate t n c i k (x ++ y)
  separate_join u v (in_key e s) (in_key f r) = in_key e (line_join s r)
  separate_join u v (in_key e s) (in_node f r) = absurd (true≢false (sym e ∙ f))
  separate_join u v (in_node e s) (in_key f r) = absurd (true≢false (sym f ∙ e))
  separate_join u v (in_node e s) (in_node f r) = in_node e (lines_join u v s r)

  pub separate_more : {i j k : ℕ} {x y : List CommentValue} → IsUtf8 t → Visible t k → Separate t n c i j x → MaySeparate t n c j k y → Separate t n c i k (x ++ y)
  separate_more {i} {k = k} {x = x} u v s unseparated = subst (λ w. Separate t n c i k w) (sym (append-nil x)) s
  separate_more u v s (separated r) = separate_join u v s r
