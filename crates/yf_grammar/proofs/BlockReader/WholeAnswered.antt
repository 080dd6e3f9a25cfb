-- The recursive reader of block nodes has an outcome for each task: that cannot be refuted. The induction goes by the
-- length of the text after the offset of a task, and at one offset by the order of the tasks.
use Rattle.std.proofs.Common.{◌≡◌, ℕ, suc, zero, ◌+◌, ◌-◌, ◌*◌, ◌<◌, ◌≤◌, ℤ, pos, ◌+ℤ◌, ◌≤ℤ◌, Bool, true, false, ⊎_elim, List, [], Option, Some, None, length, refl, sym, ◌∙◌, subst, arith, true≢false}
use Rattle.std.proofs.lemmas.Bool.{cases_Bool, cases_lt}
use Rattle.std.proofs.lemmas.Bool.Decides.{nat_tests}
use Rattle.std.specs.Str.{IsUtf8}
use Rattle.yf_chars.specs.declared.context.Ctx.{Ctx}
use Rattle.yf_chars.specs.declared.context.Ctx.TheVariants.{BlockOut, BlockIn, FlowOut, FlowKey}
use Rattle.yf_chars.specs.Text.{code, no_char}
use Rattle.yf_chars.specs.Class.{is_white}
use Rattle.yf_chars.specs.Chain.{Chosen, Many}
use Rattle.yf_chars.specs.Chain.Chain.{done}
use Rattle.yf_chars.proofs.ChainLemmas.{many_more}
use Rattle.yf_chars.proofs.TextLemmas.{within_from_code, next_later}
use Rattle.yf_lines.specs.Basic.{Spaces}
use Rattle.yf_plain.proofs.PlainLemmas.{ns_below}
use Rattle.yf_props.specs.Names.{Properties, PropertiesValue}
use Rattle.yf_grammar.specs.Productions.Grammar.{ColonLine}
use Rattle.yf_grammar.specs.FlowReader.Parser.{ParsedNode, Parses, ANode, begins_properties}
use Rattle.yf_grammar.specs.BlockReader.BlockParser.{DashAt, SignAt, LineText, Columns, Compact, compact_columns, no_columns, ColumnIf, column_there, column_not, Begins, Ahead, Nothing, Indicator, Props, past, Joins, first_held, more_held, Clash, Apart, KeyBefore, key_missed, key_unfit, NextEntry, DeeperLine, Origin, First, Later, key_limit, key_indent, BlockTask, Awaited, Below, Inline, Leaf, Items, Item, MappingAt, by_question, by_colon, by_key, NoSign, NoKeyAt, no_column, unfit_node, MayLeaf, Whole, node_unfit}
use Rattle.yf_grammar.specs.BlockReader.BlockParser as BlockParser
use Rattle.yf_grammar.proofs.Ends.Irrefutable.{Irrefutable, sure, then, by_cases}
use Rattle.yf_grammar.proofs.BlockReader.LeavesReached.{line_end_reached, whites_reached}
use Rattle.yf_grammar.proofs.BlockReader.PropertiesReached.{properties_reached, scalar_reached}
use Rattle.yf_grammar.proofs.FlowReader.NodesAnswered.{node_answered, asks, takes}
use Rattle.yf_grammar.proofs.BlockOutcomes.BlockGaps.{rows_order}
use Rattle.yf_grammar.proofs.BlockOutcomes.BlockStarts.{node_no_dash}
use Rattle.yf_grammar.proofs.FlowReader.FlowStarts.{flow_starts}
use Rattle.yf_grammar.proofs.BlockOutcomes.HaltsLater.{line_order, key_order, node_later, whole_later}
use Rattle.yf_grammar.proofs.FlowReader.PropertiesEnds.{properties_begin}
use Rattle.yf_grammar.proofs.FlowReader.Sound.{found_is_derived}
use Rattle.yf_chars.proofs.Tests.{none_some}
use Rattle.yf_props.proofs.NameOrder.{properties_forward}

-- an outcome of a task
pub record Answer (t : List ℕ) (e : ℕ) (task : BlockTask) : Type 0 where
  pub outcome : Option ParsedNode
  pub read : Whole t e task outcome

answer : {t : List ℕ} {e : ℕ} {task : BlockTask} {o : Option ParsedNode} → Whole t e task o → Irrefutable (Answer t e task)
answer {o = o} r = sure (record { outcome = o; read = r })

module _ {t : List ℕ} {e : ℕ} {task : BlockTask} {B : Type 0} where
  by_outcome : (o : Option ParsedNode) → Whole t e task o → ((f : ParsedNode) → Whole t e task (Some f) → Irrefutable B) → (Whole t e task None → Irrefutable B) → Irrefutable B
  by_outcome None r some none = none r
  by_outcome (Some f) r some none = some f r

  tells : Irrefutable (Answer t e task) → ((f : ParsedNode) → Whole t e task (Some f) → Irrefutable B) → (Whole t e task None → Irrefutable B) → Irrefutable B
  tells a some none = then a (λ r. by_outcome r.outcome r.read some none)

abbrev pub left : List ℕ → ℕ → ℕ
left t i = 8 * (length t - i)

abbrev pub weight : List ℕ → BlockTask → ℕ
weight t (Leaf n a p) = 1 + left t p
weight t (Item s m q i) = 2 + left t i
weight t (Items s m q i) = 3 + left t i
weight t (Inline n c cols a p) = 4 + left t p
weight t (Below n c a i) = 5 + left t i
weight t (Awaited b n c a i) = 6 + left t i

-- a collection may begin on the line only after an indicator, and the indentation is a column then
pub data Column : Bool → ℤ → Type 0 where
  without_column : {n : ℤ} → Column false n
  at_column : {b : Bool} (m : ℕ) → Column b (pos m)

abbrev pub Fit : BlockTask → Type 0
Fit (Awaited b n c a i) = Column b n
Fit _ = Unit {0}

pub properties_real : (c : ℕ) → begins_properties c ≡ true → c < no_char
unfolding begins_properties
properties_real c e = grind (arith, nat_tests)

-- a line on which a node begins
pub record NodeLine (t : List ℕ) (n : ℤ) (c : Ctx) (i k : ℕ) : Type 0 where
  pub column : ℕ
  pub first : ℕ
  pub line : LineText t k column first
  pub begins : Begins t n c i k column first

pub column_any : (k m p : ℕ) (least : ℤ) → Irrefutable ((o : Option ℕ) × ColumnIf k m p least o)
column_any k m p least = by_cases ((p ≡ k + m) × (least ≤ℤ pos m)) (λ q. sure (Some m, column_there q.0 q.1)) (λ q. sure (None, column_not (λ a b. q (a, b))))

pub joins_any : {B : Type 0} (a : Ahead) (q : PropertiesValue) (p g : ℕ) → ((z : Ahead) → Joins a q p g z → Irrefutable B) → (Apart a q → Irrefutable B) → Irrefutable B
joins_any Nothing q p g f n = f _ (first_held (λ h e. absurd (cc)))
joins_any (Indicator i) q p g f n = f _ (first_held (λ h e. absurd (cc)))
joins_any (Props h) q p g f n = by_cases (Clash h q) (λ c. n (record { held = h; is = refl; clash = c })) (λ c. f _ (more_held refl c))

module _ {t : List ℕ} where
  pub compact_any : {b : Bool} {n : ℤ} {i p : ℕ} → Column b n → i ≤ p → Irrefutable ((cols : Columns) × Compact t b n i p cols)
  compact_any without_column l = sure (record { sequence = None; mapping = None }, no_columns (λ q. absurd (true≢false (sym q))))
  compact_any {i = i} {p = p} (at_column {b = false} m) l = sure (record { sequence = None; mapping = None }, no_columns (λ q. absurd (true≢false (sym q))))
  compact_any {i = i} {p = p} (at_column {b = true} m) l = by_cases (Spaces t i (p - i))
      (λ s.
      let same : i + (p - i) ≡ p = omega arith in
      let cols : Columns = record { sequence = Some (m + 1 + (p - i)); mapping = Some (m + 1 + (p - i)) } in
      sure (cols, subst (λ w. Compact t true (pos m) i w cols) same (compact_columns s)))
      (λ s. sure (record { sequence = None; mapping = None }, no_columns (λ q. s)))

  -- an entry that was found begins with a character
  pub item_real : {e m i : ℕ} {s : Bool} {q : Origin} {o : Option ParsedNode} {f : ParsedNode} → Whole t e (Item s m q i) o → o ≡ Some f → i < length t
  item_real {i = i} (BlockParser.item_read d r) e = let a = d.dash in within_from_code t i (omega arith)
  item_real (BlockParser.item_missed d r) e = absurd (none_some e)
  item_real (BlockParser.item_undashed d) e = absurd (none_some e)
  item_real (BlockParser.question_missed d r) e = absurd (none_some e)
  item_real {i = i} (BlockParser.question_alone d r n) e = let a = d.sign_is_at in within_from_code t i (omega arith)
  item_real {i = i} (BlockParser.question_and_value d r c v) e = let a = d.sign_is_at in within_from_code t i (omega arith)
  item_real (BlockParser.question_value_missed d r c v) e = absurd (none_some e)
  item_real {i = i} (BlockParser.colon_read d r) e = let a = d.sign_is_at in within_from_code t i (omega arith)
  item_real (BlockParser.colon_missed d r) e = absurd (none_some e)
  item_real {i = i} (BlockParser.key_read a b p l d r) e =
      let v = (flow_starts (found_is_derived refl p).0 refl).starts.visible in within_from_code t i (ns_below (code t i) v.ns)
  item_real (BlockParser.key_value_missed a b p l d r) e = absurd (none_some e)
  item_real (BlockParser.no_key a b k) e = absurd (none_some e)
  item_real (BlockParser.key_too_deep a b p l d) e = absurd (none_some e)

module _ {t : List ℕ} where
  -- no key begins at a `-` at which no sequence may begin
  pub dash_no_key : {e p : ℕ} {n : ℤ} {cols : Columns} {o : Option ParsedNode} → DashAt t p → Parses t e (ANode (n +ℤ pos 1) FlowOut p) o → NoKeyAt t e n cols p
  dash_no_key {o = None} d r = unfit_node r key_missed
  dash_no_key {o = Some f} d r = absurd (node_no_dash refl (found_is_derived refl r).0 d)

module _ {t : List ℕ} (u : IsUtf8 t) where
  -- the longest run of white space from a white character
  pub past_whites : {B : Type 0} (i : ℕ) → is_white (code t i) ≡ true → ((p : ℕ) (w : List ℕ) → Many t is_white i p w → i < p → is_white (code t p) ≡ false → Irrefutable B) → Irrefutable B
  past_whites i e f = takes (whites_reached u i)
      (λ p w m. ⊎_elim
      (λ (b : is_white (code t p) ≡ true). let l = m.longest _ _ (many_more t is_white m.derived b) in let n = next_later t p in absurd (omega arith))
      (λ (b : is_white (code t p) ≡ false).
      let l = m.longest _ _ (many_more t is_white (done {i = i}) e) in
      let n = next_later t i in
      f p w m.derived (omega arith) b)
      (cases_Bool (is_white (code t p))))
      (λ s. absurd (s.none i [] (done {i = i})))

-- each task has an outcome, if tasks of less weight do
module _ {t : List ℕ} (u : IsUtf8 t) (v : ℕ) (known : (e : ℕ) (task : BlockTask) → Fit task → weight t task < v → Irrefutable (Answer t e task)) where
  awaited_answer : (e i : ℕ) (b : Bool) (n : ℤ) (c : Ctx) (a : Ahead) → Column b n → weight t (Awaited b n c a i) ≤ v → Irrefutable (Answer t e (Awaited b n c a i))
  awaited_answer e i b n c a col w = takes (line_end_reached u i)
      (λ k ds d. then (known e (Below n c a i) tt (omega arith)) (λ r. answer (BlockParser.awaited_below d r.read)))
      (λ s. ⊎_elim
      (λ (q : is_white (code t i) ≡ true). past_whites u i q
      (λ p x m l z. then (compact_any col (omega arith))
      (λ y. then (known e (Inline n c y.0 a p) tt (omega arith)) (λ r. answer (BlockParser.awaited_inline s m l z y.1 r.read)))))
      (λ (q : is_white (code t i) ≡ false). answer (BlockParser.awaited_missed s q))
      (cases_Bool (is_white (code t i))))

  below_answer : (e i : ℕ) (n : ℤ) (c : Ctx) (a : Ahead) → weight t (Below n c a i) ≤ v → Irrefutable (Answer t e (Below n c a i))
  below_answer e i n c a w = takes (line_end_reached u i)
      (λ k ds d. by_cases (NodeLine t n c i k)
      (λ y. then (column_any k y.column y.first _) (λ s. then (column_any k y.column y.first _) (λ m.
      let cols : Columns = record { sequence = s.0; mapping = m.0 } in
      let x = rows_order d.derived in
      let z = line_order y.line in
      then (known e (Inline n c cols (past a ds) y.first) tt (omega arith))
      (λ r. answer (BlockParser.below_node d y.line y.begins (record { sequence = s.1; mapping = m.1 }) r.read)))))
      (λ y. answer (BlockParser.below_alone d (record { none = λ m p l b. y (record { column = m; first = p; line = l; begins = b }) }))))
      (λ s. answer (BlockParser.below_missed s))

  -- no collection begins there
  past_properties : {e p g : ℕ} {n : ℤ} {c : Ctx} {cols : Columns} {a : Ahead} {q : PropertiesValue} → weight t (Inline n c cols a p) ≤ v → NoSign t cols p → NoKeyAt t e n cols p
      → Chosen (Properties t (pos 0) FlowKey p) g q → Irrefutable (Answer t e (Inline n c cols a p))
  past_properties {e} {p} {g} {n} {c} {cols} {a} {q} w s k d =
      let l = properties_forward d.derived in
      let real = within_from_code t p (properties_real (code t p) (properties_begin d.derived)) in
      takes (line_end_reached u g)
      (λ j ds r. joins_any a q p g
      (λ z y. then (known e (Below n c z g) tt (omega arith)) (λ x. answer (BlockParser.properties_below s d r y x.read)))
      (λ y. answer (BlockParser.properties_apart_below s d r y)))
      (λ r. ⊎_elim
      (λ (b : is_white (code t g) ≡ true). past_whites u g b
      (λ j x m o f. joins_any a q p g
      (λ z y. then (known e (Leaf n z j) tt (omega arith)) (λ h. answer (BlockParser.properties_leaf s k d r m o f y h.read)))
      (λ y. answer (BlockParser.properties_apart s k d r y))))
      (λ (b : is_white (code t g) ≡ false). answer (BlockParser.properties_alone_missed s k d r b))
      (cases_Bool (is_white (code t g))))

  no_collection : {e p : ℕ} {n : ℤ} {c : Ctx} {cols : Columns} {a : Ahead} → weight t (Inline n c cols a p) ≤ v → NoSign t cols p → NoKeyAt t e n cols p
      → Irrefutable (Answer t e (Inline n c cols a p))
  no_collection {e} {p} {n} {a = a} w s k = takes (properties_reached u (pos 0) FlowKey p)
      (λ g q d. past_properties w s k d)
      (λ d. then (known e (Leaf n a p) tt (omega arith)) (λ r. answer (BlockParser.leaf_there s k d r.read)))

  sequence_answer : (e m p : ℕ) (n : ℤ) (c : Ctx) (cols : Columns) (a : Ahead) → weight t (Inline n c cols a p) ≤ v → cols.sequence ≡ Some m → DashAt t p
      → Irrefutable (Answer t e (Inline n c cols a p))
  sequence_answer zero m p n c cols a w q d = answer (BlockParser.sequence_too_deep q d)
  sequence_answer (suc e) m p n c cols a w q d = tells (known e (Items true m (First n) p) tt (omega arith))
      (λ f r. answer (BlockParser.sequence_read q d r)) (λ r. answer (BlockParser.sequence_missed q d r))

  mapping_answer : (e m p : ℕ) (n : ℤ) (c : Ctx) (cols : Columns) (a : Ahead) → weight t (Inline n c cols a p) ≤ v → (DashAt t p → ⊥) → cols.mapping ≡ Some m → MappingAt t e n p
      → Irrefutable (Answer t e (Inline n c cols a p))
  mapping_answer zero m p n c cols a w d q y = answer (BlockParser.mapping_too_deep d q y)
  mapping_answer (suc e) m p n c cols a w d q y = tells (known e (Items false m (First n) p) tt (omega arith))
      (λ f r. answer (BlockParser.mapping_read d q y r)) (λ r. answer (BlockParser.mapping_missed d q y r))

  dash_answer : (e p : ℕ) (n : ℤ) (c : Ctx) (cols : Columns) (a : Ahead) (o : Option ℕ) → cols.sequence ≡ o → weight t (Inline n c cols a p) ≤ v → DashAt t p
      → Irrefutable (Answer t e (Inline n c cols a p))
  dash_answer e p n c cols a (Some m) q w d = sequence_answer e m p n c cols a w q d
  dash_answer e p n c cols a None q w d =
      let x = d.dash in
      then (node_answered u e (n +ℤ pos 1) FlowOut p refl)
      (λ r. no_collection w (record {
        no_dash = λ {m} y z. absurd (none_some (sym q ∙ y));
        no_question = λ {m} y z. let h = z.sign_is_at in absurd (omega arith);
        no_colon = λ {m} y z. let h = z.sign_is_at in absurd (omega arith);
      }) (dash_no_key d r.read))

  key_answer : (e m p : ℕ) (n : ℤ) (c : Ctx) (cols : Columns) (a : Ahead) → weight t (Inline n c cols a p) ≤ v → (DashAt t p → ⊥) → cols.mapping ≡ Some m
      → (SignAt t 63 p → ⊥) → (SignAt t 58 p → ⊥) → Irrefutable (Answer t e (Inline n c cols a p))
  key_answer e j p n c cols a w d q y z =
      let s : NoSign t cols p = record { no_dash = λ {m} x h. d h; no_question = λ {m} x h. y h; no_colon = λ {m} x h. z h } in
      asks (node_answered u e (n +ℤ pos 1) FlowOut p refl)
      (λ f r. by_cases ((k : ℕ) × KeyBefore t p f k)
      (λ k. mapping_answer e j p n c cols a w d q (by_key r k.1))
      (λ k. no_collection w s (unfit_node r (key_unfit (λ j h. k (j, h))))))
      (λ r. no_collection w s (unfit_node r key_missed))

  column_answer : (e p : ℕ) (n : ℤ) (c : Ctx) (cols : Columns) (a : Ahead) (o : Option ℕ) → cols.mapping ≡ o → weight t (Inline n c cols a p) ≤ v → (DashAt t p → ⊥)
      → Irrefutable (Answer t e (Inline n c cols a p))
  column_answer e p n c cols a None q w d = no_collection w
      (record { no_dash = λ {m} y z. d z; no_question = λ {m} y z. none_some (sym q ∙ y); no_colon = λ {m} y z. none_some (sym q ∙ y) })
      (no_column q)
  column_answer e p n c cols a (Some m) q w d = by_cases (SignAt t 63 p)
      (λ y. mapping_answer e m p n c cols a w d q (by_question y))
      (λ y. by_cases (SignAt t 58 p)
      (λ z. mapping_answer e m p n c cols a w d q (by_colon z))
      (λ z. key_answer e m p n c cols a w d q y z))

  inline_answer : (e p : ℕ) (n : ℤ) (c : Ctx) (cols : Columns) (a : Ahead) → weight t (Inline n c cols a p) ≤ v → Irrefutable (Answer t e (Inline n c cols a p))
  inline_answer e p n c cols a w = by_cases (DashAt t p)
      (λ d. dash_answer e p n c cols a cols.sequence refl w d)
      (λ d. column_answer e p n c cols a cols.mapping refl w d)

  leaf_answer : (e p : ℕ) (n : ℤ) (a : Ahead) → Irrefutable (Answer t e (Leaf n a p))
  leaf_answer e p n a = takes (scalar_reached u n p)
      (λ j x d. answer (BlockParser.scalar_read d))
      (λ s. by_cases (MayLeaf t a p)
      (λ m. asks (node_answered u e (n +ℤ pos 1) FlowOut p refl)
      (λ f r. takes (line_end_reached u f.end) (λ j ds d. answer (BlockParser.leaf_read s m r d)) (λ d. answer (BlockParser.leaf_unended s m r d)))
      (λ r. answer (BlockParser.leaf_missed s m r)))
      (λ m. answer (BlockParser.leaf_refused s m)))

  after_item : {e m i : ℕ} {s : Bool} {q : Origin} {f : ParsedNode} → weight t (Items s m q i) ≤ v → Whole t e (Item s m q i) (Some f) → Irrefutable (Answer t e (Items s m q i))
  after_item {e} {m} {i} {s} {q} {f} w r =
      let l = whole_later r refl in
      let real = item_real r refl in
      by_cases (DeeperLine t m f.end)
      (λ d. answer (BlockParser.items_deeper r d))
      (λ d. by_cases (NextEntry t s m f.end)
      (λ n. tells (known e (Items s m Later (f.end + m)) tt (omega arith)) (λ g x. answer (BlockParser.items_then r n x)) (λ x. answer (BlockParser.items_then_missed r n x)))
      (λ n. answer (BlockParser.items_last r (record {
        no_next = n;
        not_deeper = λ k p y. ⊎_elim (λ (b : m < k). absurd (d (record { column = k; first = p; line = y; deep = b }))) (λ (b : k ≤ m). b) (cases_lt m k);
      }))))

  items_answer : (e m i : ℕ) (s : Bool) (q : Origin) → weight t (Items s m q i) ≤ v → Irrefutable (Answer t e (Items s m q i))
  items_answer e m i s q w = tells (known e (Item s m q i) tt (omega arith)) (λ f r. after_item w r) (λ r. answer (BlockParser.items_missed r))

  dashed_answer : (e m i : ℕ) (q : Origin) → weight t (Item true m q i) ≤ v → Irrefutable (Answer t e (Item true m q i))
  dashed_answer e m i q w = by_cases (DashAt t i)
      (λ d.
      let x = d.dash in
      let real = within_from_code t i (omega arith) in
      tells (known e (Awaited true (pos m) BlockIn (Indicator (i + 1)) (i + 1)) (at_column m) (omega arith)) (λ f r. answer (BlockParser.item_read d r)) (λ r. answer (BlockParser.item_missed d r)))
      (λ d. answer (BlockParser.item_undashed d))

  question_answer : (e m i : ℕ) (q : Origin) → weight t (Item false m q i) ≤ v → SignAt t 63 i → Irrefutable (Answer t e (Item false m q i))
  question_answer e m i q w d =
      let x = d.sign_is_at in
      let real = within_from_code t i (omega arith) in
      tells (known e (Awaited true (pos m) BlockOut (Indicator (i + 1)) (i + 1)) (at_column m) (omega arith))
      (λ f r. by_cases (ColonLine t m f.end)
      (λ y.
      let l = whole_later r refl in
      tells (known e (Awaited true (pos m) BlockOut (Indicator (f.end + m + 1)) (f.end + m + 1)) (at_column m) (omega arith))
      (λ g z. answer (BlockParser.question_and_value d r y z)) (λ z. answer (BlockParser.question_value_missed d r y z)))
      (λ y. answer (BlockParser.question_alone d r y)))
      (λ r. answer (BlockParser.question_missed d r))

  colon_answer : (e m i : ℕ) (q : Origin) → weight t (Item false m q i) ≤ v → SignAt t 58 i → Irrefutable (Answer t e (Item false m q i))
  colon_answer e m i q w d =
      let x = d.sign_is_at in
      let real = within_from_code t i (omega arith) in
      tells (known e (Awaited false (pos m) BlockOut (Indicator (i + 1)) (i + 1)) (at_column m) (omega arith)) (λ f r. answer (BlockParser.colon_read d r)) (λ r. answer (BlockParser.colon_missed d r))

  value_answer : {e m i k : ℕ} {q : Origin} {f : ParsedNode} → weight t (Item false m q i) ≤ v → (SignAt t 63 i → ⊥) → (SignAt t 58 i → ⊥)
      → Parses t (key_limit e q) (ANode (key_indent m q) FlowOut i) (Some f) → KeyBefore t i f k → Irrefutable (Answer t e (Item false m q i))
  value_answer {e} {m} {i} {k} {f = f} w a b r d = ⊎_elim
      (λ (l : e < f.height). answer (BlockParser.key_too_deep a b r l d))
      (λ (l : f.height ≤ e).
      let x = node_later r in
      let y = key_order d in
      let z = (flow_starts (found_is_derived refl r).0 refl).starts.visible in
      let real = within_from_code t i (ns_below (code t i) z.ns) in
      tells (known e (Awaited false (pos m) BlockOut (Indicator (k + 1)) (k + 1)) (at_column m) (omega arith))
      (λ g h. answer (BlockParser.key_read a b r l d h)) (λ h. answer (BlockParser.key_value_missed a b r l d h)))
      (cases_lt e f.height)

  pair_answer : (e m i : ℕ) (q : Origin) → weight t (Item false m q i) ≤ v → Irrefutable (Answer t e (Item false m q i))
  pair_answer e m i q w = by_cases (SignAt t 63 i)
      (λ a. question_answer e m i q w a)
      (λ a. by_cases (SignAt t 58 i)
      (λ b. colon_answer e m i q w b)
      (λ b. asks (node_answered u (key_limit e q) (key_indent m q) FlowOut i refl)
      (λ f r. by_cases ((k : ℕ) × KeyBefore t i f k)
      (λ k. value_answer w a b r k.1)
      (λ k. answer (BlockParser.no_key a b (node_unfit r (key_unfit (λ j h. k (j, h)))))))
      (λ r. answer (BlockParser.no_key a b (node_unfit r key_missed)))))

  task_answer : (e : ℕ) (task : BlockTask) → Fit task → weight t task ≤ v → Irrefutable (Answer t e task)
  task_answer e (Awaited b n c a i) f w = awaited_answer e i b n c a f w
  task_answer e (Below n c a i) f w = below_answer e i n c a w
  task_answer e (Inline n c cols a p) f w = inline_answer e p n c cols a w
  task_answer e (Leaf n a p) f w = leaf_answer e p n a
  task_answer e (Items s m q i) f w = items_answer e m i s q w
  task_answer e (Item true m q i) f w = dashed_answer e m i q w
  task_answer e (Item false m q i) f w = pair_answer e m i q w

all_answered : {t : List ℕ} → IsUtf8 t → (v e : ℕ) (task : BlockTask) → Fit task → weight t task < v → Irrefutable (Answer t e task)
all_answered u zero e task f w = absurd (omega arith)
all_answered u (suc v) e task f w = task_answer u v (all_answered u v) e task f (omega arith)

-- each task of the reader of block nodes has an outcome
pub block_task_answered : {t : List ℕ} → IsUtf8 t → (e : ℕ) (task : BlockTask) → Fit task → Irrefutable (Answer t e task)
block_task_answered {t} u e task f = all_answered u (suc (weight t task)) e task f (omega arith)

-- so the outermost call of the reader has one
pub whole_answered : {t : List ℕ} → IsUtf8 t → (e : ℕ) (n : ℤ) (c : Ctx) (a : Ahead) (i : ℕ) → Irrefutable (Answer t e (Awaited false n c a i))
whole_answered u e n c a i = block_task_answered u e (Awaited false n c a i) without_column
