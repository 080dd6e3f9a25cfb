-- Comment lines before a node of a document, which may begin at any column: they belong to it, or are before it.
use Rattle.std.proofs.Common.{◌≡◌, ℕ, ℤ, pos, ◌+◌, ◌+ℤ◌, ◌≤◌, false, inl, ⊎_elim, List, [], ◌++◌, length, refl, sym, ap, ◌∙◌, subst, arith, add-zero, append_assoc, append-nil, true≢false}
use Rattle.yf_chars.specs.declared.context.Ctx.{Ctx}
use Rattle.yf_chars.specs.declared.context.Ctx.TheVariants.{FlowOut}
use Rattle.yf_chars.specs.Class.{is_white}
use Rattle.yf_chars.specs.Chain.{Chain, Many, Stuck}
use Rattle.yf_chars.specs.Chain.Chain.{done}
use Rattle.yf_chars.proofs.ChainLemmas.{chain_append, stuck_unique}
use Rattle.yf_lines.specs.Basic.{is_key, LineStart, SeparateInLine, FlowPrefix}
use Rattle.yf_lines.specs.Basic.Indent.{exactly}
use Rattle.yf_lines.specs.Basic.FlowPrefix.{set_off}
use Rattle.yf_comments.specs.Comment.{CommentValue}
use Rattle.yf_comments.specs.Comments.{LineEnd, SeparateLines, Separate, Row}
use Rattle.yf_comments.specs.Comments.LineEnd.{from_start}
use Rattle.yf_comments.specs.Comments.SeparateLines.{in_line, over_lines}
use Rattle.yf_comments.specs.Comments.Separate.{in_key, in_node}
use Rattle.yf_comments.proofs.LineEndLemmas.{line_end_rows, rows_lines, row_stuck}
use Rattle.yf_comments.proofs.RowLemmas.{row_functional, separate_whites, stuck_at_solid}
use Rattle.yf_comments.proofs.SeparateLemmas.{spaces_whites, prefix_whites}
use Rattle.yf_grammar.specs.Productions.Meaning.{Meaning, meaning_after, noting, with_props, collection}
use Rattle.yf_grammar.specs.Productions.Grammar.{BlockNode, Derives}
use Rattle.yf_grammar.specs.Productions.Grammar.Derives.{a_block_scalar, a_block_scalar_with, a_block_collection, a_block_collection_with, flow_in_block}
use Rattle.yf_grammar.proofs.BlockOutcomes.BlockGaps.{block_no_key}
use Rattle.yf_grammar.proofs.BlockContent.BlockScalars.{scalar_visible}
use Rattle.yf_grammar.proofs.BlockOutcomes.BlockStarts.{block_starts}
use Rattle.yf_grammar.proofs.FlowReader.FlowStarts.{flow_starts}
use Rattle.yf_grammar.proofs.Ends.Forward.{whites_forward}
use Rattle.yf_grammar.proofs.Ends.GapLemmas.{Visible, visible_solid, rows_next, not_at_end}
use Rattle.yf_grammar.proofs.FlowReader.OneLine.{prefix_in_line}
use Rattle.yf_grammar.proofs.FlowReader.ParserLemmas.{moved, after_nothing}
use Rattle.yf_grammar.proofs.BlockContent.PropertiesWalk.{begins_visible}
use Rattle.yf_grammar.proofs.FlowReader.PropertiesEnds.{properties_begin}

after_twice : (cs ds : List CommentValue) (x : Meaning) → meaning_after (cs ++ ds) x ≡ meaning_after cs (meaning_after ds x)
unfolding meaning_after
after_twice cs ds x = ap (λ w. record x { comments = w }) (append_assoc cs ds x.comments)

after_longer : (es cs ds fs : List CommentValue) (x : Meaning) → meaning_after ((es ++ cs) ++ ds ++ fs) x ≡ meaning_after es (meaning_after (cs ++ ds ++ fs) x)
after_longer es cs ds fs x = ap (λ w. meaning_after w x) (simp append_assoc) ∙ after_twice es (cs ++ ds ++ fs) x

-- comment lines from the start of a line to an offset
pub record LeadingLines (t : List ℕ) (g i : ℕ) (es : List CommentValue) : Type 0 where
  pub start : LineStart t g
  pub rows : Chain (Row t) g i es

module _ {t : List ℕ} where
  line_end_before : {g i k : ℕ} {es cs : List CommentValue} → LeadingLines t g i es → LineEnd t i k cs → LineEnd t g k (es ++ cs)
  line_end_before l d = from_start l.start (rows_lines l.start (chain_append l.rows (line_end_rows d)))

  any_prefix : {i k : ℕ} → SeparateInLine t i k → FlowPrefix t (pos 0) i k
  any_prefix {i} {k} s = set_off (exactly 0 refl (record { each = λ m l. absurd (omega arith) })) (subst (λ w. SeparateInLine t w k) (sym (add-zero i)) s)

  lines_before : {g i k : ℕ} {es cs : List CommentValue} → LeadingLines t g i es → SeparateLines t (pos 0) i k cs → SeparateLines t (pos 0) g k (es ++ cs)
  lines_before {g} {k = k} {es = es} l (in_line s) =
      subst (λ w. SeparateLines t (pos 0) g k w) (sym (append-nil es)) (over_lines (from_start l.start (rows_lines l.start l.rows)) (any_prefix s))
  lines_before l (over_lines d p) = over_lines (line_end_before l d) p

  separate_before : {n : ℤ} (c : Ctx) {g i k : ℕ} {es cs : List CommentValue} → is_key c ≡ false → n ≡ pos 0 → LeadingLines t g i es → Separate t n c i k cs → Separate t n c g k (es ++ cs)
  separate_before c q e l (in_key f s) = absurd (true≢false (sym f ∙ q))
  separate_before {n} c {g} {i} {k} {es} {cs} q e l (in_node f s) =
      in_node f (subst (λ w. SeparateLines t w g k (es ++ cs)) (sym e) (lines_before l (subst (λ w. SeparateLines t w i k cs) e s)))

  -- comment lines before a node belong to it
  pub absorbed : {h g i j : ℕ} {n : ℤ} {c : Ctx} {es : List CommentValue} {x : Meaning} → (n +ℤ pos 1) ≡ pos 0 → LeadingLines t g i es → Derives t h (BlockNode n c) i j x
      → Derives t h (BlockNode n c) g j (meaning_after es x)
  absorbed {c = c} {es = es} e l (a_block_scalar {cs = cs} {x = x} b s d) =
      moved refl refl (after_twice es cs x) (a_block_scalar b (separate_before c (block_no_key c b) e l s) d)
  absorbed {c = c} {es = es} e l (a_block_scalar_with {cs = cs} b s p q d) =
      moved refl refl (after_longer es cs _ _ _) (a_block_scalar_with b (separate_before c (block_no_key c b) e l s) p q d)
  absorbed {es = es} e l (a_block_collection {cs = cs} b d s m y) = moved refl refl (after_twice es cs _) (a_block_collection b (line_end_before l d) s m y)
  absorbed {c = c} {es = es} e l (a_block_collection_with {cs = cs} b s p d q m y) =
      moved refl refl (after_longer es cs _ _ _) (a_block_collection_with b (separate_before c (block_no_key c b) e l s) p d q m y)
  absorbed {es = es} e l (flow_in_block {cs = cs} b s d y) = moved refl refl (after_twice es cs _) (flow_in_block b (separate_before FlowOut refl e l s) d y)

-- the node from the last comment line before it on
pub record Shed (t : List ℕ) (h : ℕ) (n : ℤ) (c : Ctx) (es : List CommentValue) (x : Meaning) (j g : ℕ) : Type 0 where
  pub meaning : Meaning
  pub derived : Derives t h (BlockNode n c) g j meaning
  pub is : x ≡ meaning_after es meaning

after_split : (es ps ds : List CommentValue) (x : Meaning) → meaning_after (es ++ ps ++ ds) x ≡ meaning_after es (meaning_after ([] ++ ps ++ ds) x)
after_split es ps ds x = ap (λ w. meaning_after w x) (append_assoc es ps ds) ∙ after_twice es (ps ++ ds) x

module _ {t : List ℕ} where
  content_stuck : {h k : ℕ} {w : List ℕ} → Many t is_white h k w → Visible t k → Stuck (Row t h)
  content_stuck m v = let s = visible_solid v in row_stuck (stuck_at_solid m s.not_white s.no_comment s.no_end)

  -- all comment lines before content end at the start of a line
  last_start : {i g k : ℕ} {es : List CommentValue} → LeadingLines t i g es → g ≤ k → Visible t k → LineStart t g
  last_start {g = g} l o v = ⊎_elim (λ (s : LineStart t g). s) (λ (e : g ≡ length t). absurd (not_at_end g v o e)) (rows_next (inl l.start) l.rows)

  lines_shed : {i g k : ℕ} {es cs : List CommentValue} → LeadingLines t i g es → Stuck (Row t g) → SeparateLines t (pos 0) i k cs → Visible t k → SeparateInLine t g k × (cs ≡ es)
  lines_shed {i} {g} {k} l z (in_line s) v =
      let w = separate_whites s in
      let e = stuck_unique row_functional l.rows z (done {i = i}) (content_stuck w.1 v) in
      (subst (λ y. SeparateInLine t y k) (sym e.0) s, sym e.1)
  lines_shed {i} {g} {k} l z (over_lines {h = h} d p) v =
      let w = prefix_whites p in
      let e = stuck_unique row_functional l.rows z (line_end_rows d) (content_stuck w.1 v) in
      let f = whites_forward w.1 in
      let same : g ≡ h = e.0 in
      (prefix_in_line (last_start l (omega arith) v) (subst (λ y. FlowPrefix t (pos 0) y k) (sym same) p), sym e.1)

  separate_shed : {n : ℤ} (c : Ctx) {i g k : ℕ} {es cs : List CommentValue} → is_key c ≡ false → n ≡ pos 0 → LeadingLines t i g es → Stuck (Row t g) → Separate t n c i k cs → Visible t k
      → Separate t n c g k [] × (cs ≡ es)
  separate_shed c q e l z (in_key f s) v = absurd (true≢false (sym f ∙ q))
  separate_shed c {i = i} {k = k} {cs = cs} q e l z (in_node f s) v = let r = lines_shed l z (subst (λ w. SeparateLines t w i k cs) e s) v in (in_node f (in_line r.0), r.1)

  -- comment lines before a node need not belong to it
  pub shed : {h i g j : ℕ} {n : ℤ} {c : Ctx} {es : List CommentValue} {x : Meaning} → (n +ℤ pos 1) ≡ pos 0 → LeadingLines t i g es → Stuck (Row t g) → Derives t h (BlockNode n c) i j x
      → Shed t h n c es x j g
  shed {c = c} {es = es} e l z (a_block_scalar {x = x} b s d) =
      let r = separate_shed c (block_no_key c b) e l z s (scalar_visible d) in
      record { meaning = meaning_after [] x; derived = a_block_scalar b r.0 d; is = ap (λ w. meaning_after w x) r.1 ∙ ap (meaning_after es) (sym (after_nothing x)) }
  shed {c = c} {es = es} e l z (a_block_scalar_with {f = f} {g = v} {ds = ds} {p = p} {x = x} b s q r d) =
      let a = separate_shed c (block_no_key c b) e l z s (begins_visible (properties_begin q)) in
      let y = with_props p.props p.tag_offset f v x in
      record { meaning = meaning_after ([] ++ p.comments ++ ds) y; derived = a_block_scalar_with b a.0 q r d; is = ap (λ w. meaning_after (w ++ p.comments ++ ds) y) a.1 ∙ after_split es p.comments ds y }
  shed {h} {g = g} {j} {n} {c} {es} e l z (a_block_collection {k = k} {m = m} {sequence = q} {x = x} b d s o y) =
      let v = (block_starts y).visible in
      let a = stuck_unique row_functional l.rows z (line_end_rows d) (content_stuck (spaces_whites t k m s).1 v) in
      let same : g ≡ k = a.0 in
      let w = collection q false (k + m) x.finish x in
      let start : LineStart t k = subst (λ u. LineStart t u) same (last_start l (omega arith) v) in
      let there : Shed t h n c es (meaning_after es w) j k = record { meaning = meaning_after [] w; derived = a_block_collection b (from_start start done) s o y; is = ap (meaning_after es) (sym (after_nothing w)) } in
      subst (λ u. Shed t h n c es (meaning_after u w) j g) a.1 (subst (λ u. Shed t h n c es (meaning_after es w) j u) (sym same) there)
  shed {c = c} {es = es} e l z (a_block_collection_with {f = f} {g = v} {k = k} {m = m} {sequence = q} {ds = ds} {p = p} {x = x} b s r d o y a) =
      let w = separate_shed c (block_no_key c b) e l z s (begins_visible (properties_begin r)) in
      let u = with_props p.props p.tag_offset f v (collection q false (k + m) x.finish x) in
      record { meaning = meaning_after ([] ++ p.comments ++ ds) u; derived = a_block_collection_with b w.0 r d o y a; is = ap (λ w. meaning_after (w ++ p.comments ++ ds) u) w.1 ∙ after_split es p.comments ds u }
  shed {es = es} e l z (flow_in_block {ds = ds} {x = x} b s d y) =
      let r = separate_shed FlowOut refl e l z s (flow_starts d refl).starts.visible in
      let w = noting x ds in
      record { meaning = meaning_after [] w; derived = flow_in_block b r.0 d y; is = ap (λ v. meaning_after v w) r.1 ∙ ap (meaning_after es) (sym (after_nothing w)) }
