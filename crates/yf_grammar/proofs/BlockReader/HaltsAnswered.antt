-- The relation of last halts has an outcome for each task: that cannot be refuted.
use Rattle.std.proofs.Common.{◌≡◌, ℕ, suc, zero, ◌+◌, ◌<◌, ◌≤◌, ℤ, pos, ◌+ℤ◌, Bool, true, false, ⊎_elim, List, [], ◌∷◌, Option, Some, None, refl, sym, ◌∙◌, arith}
use Rattle.std.proofs.lemmas.Bool.{cases_Bool, cases_lt}
use Rattle.std.specs.Str.{IsUtf8}
use Rattle.yf_chars.specs.declared.context.Ctx.{Ctx}
use Rattle.yf_chars.specs.declared.context.Ctx.TheVariants.{BlockOut, BlockIn, FlowOut, FlowKey}
use Rattle.yf_chars.specs.Text.{code}
use Rattle.yf_chars.specs.Class.{is_white}
use Rattle.yf_chars.specs.Chain.{Stuck, Chosen}
use Rattle.yf_chars.proofs.TextLemmas.{within_from_code}
use Rattle.yf_chars.proofs.Tests.{none_some}
use Rattle.yf_comments.proofs.RowLemmas.{row_functional}
use Rattle.yf_comments.proofs.LineEndLemmas.{line_end_rows}
use Rattle.yf_plain.proofs.PlainLemmas.{ns_below}
use Rattle.yf_props.specs.Names.{Properties, PropertiesValue}
use Rattle.yf_grammar.specs.Productions.BlockScalar.{BlockScalar}
use Rattle.yf_grammar.specs.Productions.Grammar.{ColonLine}
use Rattle.yf_grammar.specs.FlowReader.Parser.{ParsedNode, Parses, ANode, begins_plain}
use Rattle.yf_grammar.specs.BlockReader.BlockParser.{DashAt, SignAt, Columns, Ahead, Indicator, past, KeyBefore, key_missed, key_unfit, NextEntry, Origin, First, Later, key_limit, key_indent, BlockTask, Awaited, Below, Inline, Leaf, Items, Item, MappingAt, by_question, by_colon, by_key, NoSign, NoKeyAt, no_column, unfit_node, MayLeaf, Whole, node_unfit}
use Rattle.yf_grammar.specs.BlockReader.Halts.{MayEnd, PlainPart, ScalarPart, Alone, alone_to, alone_nowhere, not_found, not_after, Halts}
use Rattle.yf_grammar.specs.BlockReader.Halts as Halting
use Rattle.yf_grammar.proofs.Ends.Irrefutable.{Irrefutable, sure, then, by_cases, ChosenOrStuck, reached, unreached, one_reached, bounded_reached}
use Rattle.yf_grammar.proofs.BlockReader.LeavesReached.{line_end_reached, plain_reached, chain_one_meaning}
use Rattle.yf_grammar.proofs.BlockReader.PropertiesReached.{properties_reached, scalar_reached}
use Rattle.yf_grammar.proofs.FlowReader.NodesAnswered.{node_answered, asks, takes}
use Rattle.yf_grammar.proofs.BlockReader.WholeAnswered.{left, weight, Fit, Column, at_column, without_column, NodeLine, compact_any, column_any, joins_any, item_real, properties_real, past_whites, dash_no_key, block_task_answered}
use Rattle.yf_grammar.proofs.BlockReader.WholeAnswered as Wholes
use Rattle.yf_grammar.proofs.BlockOutcomes.BlockGaps.{rows_order}
use Rattle.yf_grammar.proofs.FlowReader.FlowStarts.{flow_starts}
use Rattle.yf_grammar.proofs.BlockOutcomes.HaltsLater.{line_order, key_order, node_later, whole_later}
use Rattle.yf_grammar.proofs.BlockOutcomes.OneScalars.{scalar_one}
use Rattle.yf_grammar.proofs.BlockContent.PlainCut.{LastLine, whole_plain, plain_without_last, plain_one_line, no_plain_part}
use Rattle.yf_grammar.proofs.FlowReader.PropertiesEnds.{properties_begin}
use Rattle.yf_grammar.proofs.FlowReader.Sound.{found_is_derived}
use Rattle.yf_props.proofs.NameOrder.{properties_forward}

-- an outcome of a task
pub record Answer (t : List ℕ) (e : ℕ) (ws : List ℕ) (task : BlockTask) : Type 0 where
  pub outcome : Option ParsedNode
  pub read : Halts t e ws task outcome

answer : {t : List ℕ} {e : ℕ} {ws : List ℕ} {task : BlockTask} {o : Option ParsedNode} → Halts t e ws task o → Irrefutable (Answer t e ws task)
answer {o = o} r = sure (record { outcome = o; read = r })

module _ {t : List ℕ} {e : ℕ} {ws : List ℕ} {task : BlockTask} {B : Type 0} where
  by_outcome : (o : Option ParsedNode) → Halts t e ws task o → ((f : ParsedNode) → Halts t e ws task (Some f) → Irrefutable B) → (Halts t e ws task None → Irrefutable B) → Irrefutable B
  by_outcome None r some none = none r
  by_outcome (Some f) r some none = some f r

  tells : Irrefutable (Answer t e ws task) → ((f : ParsedNode) → Halts t e ws task (Some f) → Irrefutable B) → (Halts t e ws task None → Irrefutable B) → Irrefutable B
  tells a some none = then a (λ r. by_outcome r.outcome r.read some none)

module _ {t : List ℕ} {e : ℕ} {task : BlockTask} {B : Type 0} where
  by_whole : (o : Option ParsedNode) → Whole t e task o → ((f : ParsedNode) → Whole t e task (Some f) → Irrefutable B) → (Whole t e task None → Irrefutable B) → Irrefutable B
  by_whole None r some none = none r
  by_whole (Some f) r some none = some f r

  whole_tells : Irrefutable (Wholes.Answer t e task) → ((f : ParsedNode) → Whole t e task (Some f) → Irrefutable B) → (Whole t e task None → Irrefutable B) → Irrefutable B
  whole_tells a some none = then a (λ r. by_whole r.outcome r.read some none)

-- offsets at which a leaf may end
module _ {t : List ℕ} (u : IsUtf8 t) (ws : List ℕ) where
  may_end_reached : (i : ℕ) → Irrefutable (ChosenOrStuck (MayEnd t ws i))
  may_end_reached i = takes (line_end_reached u i)
      (λ k ds d. bounded_reached (MayEnd t ws i) k (λ j x m. d.longest j x m.line) (λ j x y m n. chain_one_meaning row_functional (line_end_rows m.line) (line_end_rows n.line)))
      (λ s. sure (unreached (record { none = λ j x m. s.none j x m.line })))

  scalar_part_reached : (n : ℤ) (i : ℕ) → Irrefutable (ChosenOrStuck (ScalarPart t n ws i))
  scalar_part_reached n i = one_reached (ScalarPart t n ws i) (λ j k x y p q. scalar_one u p.scalar q.scalar)

  plain_part_reached : (n : ℤ) (i : ℕ) → Irrefutable (ChosenOrStuck (PlainPart t n ws i))
  plain_part_reached n i = takes (plain_reached u n FlowOut i refl)
      (λ l x p. takes (may_end_reached l)
      (λ j ds m. sure (reached j _ (whole_plain u p m)))
      (λ s. by_cases ((j : ℕ) × LastLine t i l j)
      (λ c. let w = plain_without_last u p s c.1 in sure (reached c.0 _ w.best))
      (λ c. sure (unreached (plain_one_line u p s (λ j q. c (j, q)))))))
      (λ p. sure (unreached (no_plain_part u p)))

  alone_any : (a : Ahead) (i : ℕ) → Irrefutable ((o : Option ParsedNode) × Alone t ws a i o)
  alone_any a i = takes (may_end_reached i) (λ k ds m. sure (_, alone_to m)) (λ s. sure (None, alone_nowhere s))

-- each task has an outcome, if tasks of less weight do
module _ {t : List ℕ} (u : IsUtf8 t) (v : ℕ) (known : (e : ℕ) (ws : List ℕ) (task : BlockTask) → Fit task → weight t task < v → Irrefutable (Answer t e ws task)) where
  awaited_answer : (e i : ℕ) (ws : List ℕ) (b : Bool) (n : ℤ) (c : Ctx) (a : Ahead) → Column b n → weight t (Awaited b n c a i) ≤ v → Irrefutable (Answer t e ws (Awaited b n c a i))
  awaited_answer e i ws b n c a col w = takes (line_end_reached u i)
      (λ k ds d. then (known e ws (Below n c a i) tt (omega arith)) (λ r. answer (Halting.halts_below d r.read)))
      (λ s. ⊎_elim
      (λ (q : is_white (code t i) ≡ true). past_whites u i q
      (λ p x m l z. then (compact_any col (omega arith))
      (λ y. then (known e ws (Inline n c y.0 a p) tt (omega arith)) (λ r. answer (Halting.halts_inline s m l z y.1 r.read)))))
      (λ (q : is_white (code t i) ≡ false). answer (Halting.halts_missed s q))
      (cases_Bool (is_white (code t i))))

  below_answer : (e i : ℕ) (ws : List ℕ) (n : ℤ) (c : Ctx) (a : Ahead) → weight t (Below n c a i) ≤ v → Irrefutable (Answer t e ws (Below n c a i))
  below_answer e i ws n c a w = takes (line_end_reached u i)
      (λ k ds d. by_cases (NodeLine t n c i k)
      (λ y. then (column_any k y.column y.first _) (λ s. then (column_any k y.column y.first _) (λ m.
      let cols : Columns = record { sequence = s.0; mapping = m.0 } in
      let x = rows_order d.derived in
      let z = line_order y.line in
      tells (known e ws (Inline n c cols (past a ds) y.first) tt (omega arith))
      (λ f r. answer (Halting.halts_node d y.line y.begins (record { sequence = s.1; mapping = m.1 }) r))
      (λ r. then (alone_any u ws a i) (λ h. answer (Halting.halts_before_node d y.line y.begins (record { sequence = s.1; mapping = m.1 }) r h.1))))))
      (λ y. then (alone_any u ws a i) (λ h. answer (Halting.halts_alone d (record { none = λ m p l b. y (record { column = m; first = p; line = l; begins = b }) }) h.1))))
      (λ s. answer (Halting.halts_unended s))

  past_properties : {e p g : ℕ} {ws : List ℕ} {n : ℤ} {c : Ctx} {cols : Columns} {a : Ahead} {q : PropertiesValue} → weight t (Inline n c cols a p) ≤ v → NoSign t cols p → NoKeyAt t e n cols p
      → Chosen (Properties t (pos 0) FlowKey p) g q → Irrefutable (Answer t e ws (Inline n c cols a p))
  past_properties {e} {p} {g} {ws} {n} {c} {cols} {a} {q} w s k d =
      let l = properties_forward d.derived in
      let real = within_from_code t p (properties_real (code t p) (properties_begin d.derived)) in
      takes (line_end_reached u g)
      (λ j ds r. joins_any a q p g
      (λ z y. then (known e ws (Below n c z g) tt (omega arith)) (λ x. answer (Halting.halts_properties_below s d r y x.read)))
      (λ y. answer (Halting.halts_properties_apart_below s d r y)))
      (λ r. ⊎_elim
      (λ (b : is_white (code t g) ≡ true). past_whites u g b
      (λ j x m o f. joins_any a q p g
      (λ z y. then (known e ws (Leaf n z j) tt (omega arith)) (λ h. answer (Halting.halts_properties_leaf s k d r m o f y h.read)))
      (λ y. answer (Halting.halts_properties_apart s k d r y))))
      (λ (b : is_white (code t g) ≡ false). answer (Halting.halts_properties_missed s k d r b))
      (cases_Bool (is_white (code t g))))

  no_collection : {e p : ℕ} {ws : List ℕ} {n : ℤ} {c : Ctx} {cols : Columns} {a : Ahead} → weight t (Inline n c cols a p) ≤ v → NoSign t cols p → NoKeyAt t e n cols p
      → Irrefutable (Answer t e ws (Inline n c cols a p))
  no_collection {e} {p} {ws} {n} {a = a} w s k = takes (properties_reached u (pos 0) FlowKey p)
      (λ g q d. past_properties w s k d)
      (λ d. then (known e ws (Leaf n a p) tt (omega arith)) (λ r. answer (Halting.halts_leaf s k d r.read)))

  sequence_answer : (e m p : ℕ) (ws : List ℕ) (n : ℤ) (c : Ctx) (cols : Columns) (a : Ahead) → weight t (Inline n c cols a p) ≤ v → cols.sequence ≡ Some m → DashAt t p
      → Irrefutable (Answer t e ws (Inline n c cols a p))
  sequence_answer zero m p ws n c cols a w q d = answer (Halting.halts_sequence_too_deep q d)
  sequence_answer (suc e) m p ws n c cols a w q d = then (known e ws (Items true m (First n) p) tt (omega arith)) (λ r. answer (Halting.halts_sequence q d r.read))

  mapping_answer : (e m p : ℕ) (ws : List ℕ) (n : ℤ) (c : Ctx) (cols : Columns) (a : Ahead) → weight t (Inline n c cols a p) ≤ v → (DashAt t p → ⊥) → cols.mapping ≡ Some m → MappingAt t e n p
      → Irrefutable (Answer t e ws (Inline n c cols a p))
  mapping_answer zero m p ws n c cols a w d q y = answer (Halting.halts_mapping_too_deep d q y)
  mapping_answer (suc e) m p ws n c cols a w d q y = then (known e ws (Items false m (First n) p) tt (omega arith)) (λ r. answer (Halting.halts_mapping d q y r.read))

  dash_answer : (e p : ℕ) (ws : List ℕ) (n : ℤ) (c : Ctx) (cols : Columns) (a : Ahead) (o : Option ℕ) → cols.sequence ≡ o → weight t (Inline n c cols a p) ≤ v → DashAt t p
      → Irrefutable (Answer t e ws (Inline n c cols a p))
  dash_answer e p ws n c cols a (Some m) q w d = sequence_answer e m p ws n c cols a w q d
  dash_answer e p ws n c cols a None q w d =
      let x = d.dash in
      then (node_answered u e (n +ℤ pos 1) FlowOut p refl)
      (λ r. no_collection w (record {
        no_dash = λ {m} y z. absurd (none_some (sym q ∙ y));
        no_question = λ {m} y z. let h = z.sign_is_at in absurd (omega arith);
        no_colon = λ {m} y z. let h = z.sign_is_at in absurd (omega arith);
      }) (dash_no_key d r.read))

  key_answer : (e j p : ℕ) (ws : List ℕ) (n : ℤ) (c : Ctx) (cols : Columns) (a : Ahead) → weight t (Inline n c cols a p) ≤ v → (DashAt t p → ⊥) → cols.mapping ≡ Some j
      → (SignAt t 63 p → ⊥) → (SignAt t 58 p → ⊥) → Irrefutable (Answer t e ws (Inline n c cols a p))
  key_answer e j p ws n c cols a w d q y z =
      let s : NoSign t cols p = record { no_dash = λ {m} x h. d h; no_question = λ {m} x h. y h; no_colon = λ {m} x h. z h } in
      asks (node_answered u e (n +ℤ pos 1) FlowOut p refl)
      (λ f r. by_cases ((k : ℕ) × KeyBefore t p f k)
      (λ k. mapping_answer e j p ws n c cols a w d q (by_key r k.1))
      (λ k. no_collection w s (unfit_node r (key_unfit (λ j h. k (j, h))))))
      (λ r. no_collection w s (unfit_node r key_missed))

  column_answer : (e p : ℕ) (ws : List ℕ) (n : ℤ) (c : Ctx) (cols : Columns) (a : Ahead) (o : Option ℕ) → cols.mapping ≡ o → weight t (Inline n c cols a p) ≤ v → (DashAt t p → ⊥)
      → Irrefutable (Answer t e ws (Inline n c cols a p))
  column_answer e p ws n c cols a None q w d = no_collection w
      (record { no_dash = λ {m} y z. d z; no_question = λ {m} y z. none_some (sym q ∙ y); no_colon = λ {m} y z. none_some (sym q ∙ y) })
      (no_column q)
  column_answer e p ws n c cols a (Some m) q w d = by_cases (SignAt t 63 p)
      (λ y. mapping_answer e m p ws n c cols a w d q (by_question y))
      (λ y. by_cases (SignAt t 58 p)
      (λ z. mapping_answer e m p ws n c cols a w d q (by_colon z))
      (λ z. key_answer e m p ws n c cols a w d q y z))

  inline_answer : (e p : ℕ) (ws : List ℕ) (n : ℤ) (c : Ctx) (cols : Columns) (a : Ahead) → weight t (Inline n c cols a p) ≤ v → Irrefutable (Answer t e ws (Inline n c cols a p))
  inline_answer e p ws n c cols a w = by_cases (DashAt t p)
      (λ d. dash_answer e p ws n c cols a cols.sequence refl w d)
      (λ d. column_answer e p ws n c cols a cols.mapping refl w d)

  flow_leaf_answer : (e p : ℕ) (ws : List ℕ) (n : ℤ) (a : Ahead) → Stuck (BlockScalar t n p) → MayLeaf t a p → Irrefutable (Answer t e ws (Leaf n a p))
  flow_leaf_answer e p ws n a s m = ⊎_elim
      (λ (b : begins_plain (code t p) ≡ true). takes (plain_part_reached u ws (n +ℤ pos 1) p)
      (λ j x d. answer (Halting.halts_plain s m b d)) (λ d. answer (Halting.halts_plain_missed s m b d)))
      (λ (b : begins_plain (code t p) ≡ false). asks (node_answered u e (n +ℤ pos 1) FlowOut p refl)
      (λ f r. takes (may_end_reached u ws f.end) (λ j ds d. answer (Halting.halts_content s m b r d)) (λ d. answer (Halting.halts_content_unended s m b r d)))
      (λ r. answer (Halting.halts_content_missed s m b r)))
      (cases_Bool (begins_plain (code t p)))

  leaf_answer : (e p : ℕ) (ws : List ℕ) (n : ℤ) (a : Ahead) → Irrefutable (Answer t e ws (Leaf n a p))
  leaf_answer e p ws n a = takes (scalar_reached u n p)
      (λ j x d. takes (scalar_part_reached u ws n p) (λ k y q. answer (Halting.halts_scalar q)) (λ q. answer (Halting.halts_scalar_before d q)))
      (λ s. by_cases (MayLeaf t a p) (λ m. flow_leaf_answer e p ws n a s m) (λ m. answer (Halting.halts_refused s m)))

  after_item : {e m i : ℕ} (ws : List ℕ) {s : Bool} {q : Origin} {f : ParsedNode} → weight t (Items s m q i) ≤ v → Whole t e (Item s m q i) (Some f) → Irrefutable (Answer t e ws (Items s m q i))
  after_item {e} {m} {i} ws {s} {q} {f} w r =
      let l = whole_later r refl in
      let real = item_real r refl in
      by_cases (NextEntry t s m f.end)
      (λ n. tells (known e ws (Items s m Later (f.end + m)) tt (omega arith)) (λ g x. answer (Halting.halts_items r n x))
      (λ x. then (known e ws (Item s m q i) tt (omega arith)) (λ y. answer (Halting.halts_before_item r n x y.read))))
      (λ n. then (known e ws (Item s m q i) tt (omega arith)) (λ y. answer (Halting.halts_item r (not_after n) y.read)))

  items_answer : (e m i : ℕ) (ws : List ℕ) (s : Bool) (q : Origin) → weight t (Items s m q i) ≤ v → Irrefutable (Answer t e ws (Items s m q i))
  items_answer e m i ws s q w = whole_tells (block_task_answered u e (Item s m q i) tt) (λ f r. after_item ws w r)
      (λ r. then (known e ws (Item s m q i) tt (omega arith)) (λ y. answer (Halting.halts_item r not_found y.read)))

  dashed_answer : (e m i : ℕ) (ws : List ℕ) (q : Origin) → weight t (Item true m q i) ≤ v → Irrefutable (Answer t e ws (Item true m q i))
  dashed_answer e m i ws q w = by_cases (DashAt t i)
      (λ d.
      let x = d.dash in
      let real = within_from_code t i (omega arith) in
      then (known e ws (Awaited true (pos m) BlockIn (Indicator (i + 1)) (i + 1)) (at_column m) (omega arith)) (λ r. answer (Halting.halts_dash d r.read)))
      (λ d. answer (Halting.halts_undashed d))

  question_answer : (e m i : ℕ) (ws : List ℕ) (q : Origin) → weight t (Item false m q i) ≤ v → SignAt t 63 i → Irrefutable (Answer t e ws (Item false m q i))
  question_answer e m i ws q w d =
      let x = d.sign_is_at in
      let real = within_from_code t i (omega arith) in
      then (known e (m ∷ ws) (Awaited true (pos m) BlockOut (Indicator (i + 1)) (i + 1)) (at_column m) (omega arith))
      (λ y. whole_tells (block_task_answered u e (Awaited true (pos m) BlockOut (Indicator (i + 1)) (i + 1)) (at_column m))
      (λ f r. by_cases (ColonLine t m f.end)
      (λ c.
      let l = whole_later r refl in
      tells (known e ws (Awaited true (pos m) BlockOut (Indicator (f.end + m + 1)) (f.end + m + 1)) (at_column m) (omega arith))
      (λ g z. answer (Halting.halts_value d r c z)) (λ z. answer (Halting.halts_before_value d r c z y.read)))
      (λ c. answer (Halting.halts_question d r (not_after c) y.read)))
      (λ r. answer (Halting.halts_question d r not_found y.read)))

  colon_answer : (e m i : ℕ) (ws : List ℕ) (q : Origin) → weight t (Item false m q i) ≤ v → SignAt t 58 i → Irrefutable (Answer t e ws (Item false m q i))
  colon_answer e m i ws q w d =
      let x = d.sign_is_at in
      let real = within_from_code t i (omega arith) in
      then (known e ws (Awaited false (pos m) BlockOut (Indicator (i + 1)) (i + 1)) (at_column m) (omega arith)) (λ r. answer (Halting.halts_colon d r.read))

  value_answer : {e m i k : ℕ} (ws : List ℕ) {q : Origin} {f : ParsedNode} → weight t (Item false m q i) ≤ v → (SignAt t 63 i → ⊥) → (SignAt t 58 i → ⊥)
      → Parses t (key_limit e q) (ANode (key_indent m q) FlowOut i) (Some f) → KeyBefore t i f k → Irrefutable (Answer t e ws (Item false m q i))
  value_answer {e} {m} {i} {k} ws {f = f} w a b r d = ⊎_elim
      (λ (l : e < f.height). answer (Halting.halts_key_too_deep a b r l d))
      (λ (l : f.height ≤ e).
      let x = node_later r in
      let y = key_order d in
      let z = (flow_starts (found_is_derived refl r).0 refl).starts.visible in
      let real = within_from_code t i (ns_below (code t i) z.ns) in
      then (known e ws (Awaited false (pos m) BlockOut (Indicator (k + 1)) (k + 1)) (at_column m) (omega arith)) (λ h. answer (Halting.halts_key a b r l d h.read)))
      (cases_lt e f.height)

  pair_answer : (e m i : ℕ) (ws : List ℕ) (q : Origin) → weight t (Item false m q i) ≤ v → Irrefutable (Answer t e ws (Item false m q i))
  pair_answer e m i ws q w = by_cases (SignAt t 63 i)
      (λ a. question_answer e m i ws q w a)
      (λ a. by_cases (SignAt t 58 i)
      (λ b. colon_answer e m i ws q w b)
      (λ b. asks (node_answered u (key_limit e q) (key_indent m q) FlowOut i refl)
      (λ f r. by_cases ((k : ℕ) × KeyBefore t i f k)
      (λ k. value_answer ws w a b r k.1)
      (λ k. answer (Halting.halts_no_key a b (node_unfit r (key_unfit (λ j h. k (j, h)))))))
      (λ r. answer (Halting.halts_no_key a b (node_unfit r key_missed)))))

  task_answer : (e : ℕ) (ws : List ℕ) (task : BlockTask) → Fit task → weight t task ≤ v → Irrefutable (Answer t e ws task)
  task_answer e ws (Awaited b n c a i) f w = awaited_answer e i ws b n c a f w
  task_answer e ws (Below n c a i) f w = below_answer e i ws n c a w
  task_answer e ws (Inline n c cols a p) f w = inline_answer e p ws n c cols a w
  task_answer e ws (Leaf n a p) f w = leaf_answer e p ws n a
  task_answer e ws (Items s m q i) f w = items_answer e m i ws s q w
  task_answer e ws (Item true m q i) f w = dashed_answer e m i ws q w
  task_answer e ws (Item false m q i) f w = pair_answer e m i ws q w

all_answered : {t : List ℕ} → IsUtf8 t → (v e : ℕ) (ws : List ℕ) (task : BlockTask) → Fit task → weight t task < v → Irrefutable (Answer t e ws task)
all_answered u zero e ws task f w = absurd (omega arith)
all_answered u (suc v) e ws task f w = task_answer u v (all_answered u v) e ws task f (omega arith)

-- each task has a last halt, or has none
pub halts_task_answered : {t : List ℕ} → IsUtf8 t → (e : ℕ) (ws : List ℕ) (task : BlockTask) → Fit task → Irrefutable (Answer t e ws task)
halts_task_answered {t} u e ws task f = all_answered u (suc (weight t task)) e ws task f (omega arith)

pub halts_answered : {t : List ℕ} → IsUtf8 t → (e : ℕ) (n : ℤ) (c : Ctx) (a : Ahead) (i : ℕ) → Irrefutable (Answer t e [] (Awaited false n c a i))
halts_answered u e n c a i = halts_task_answered u e [] (Awaited false n c a i) without_column
