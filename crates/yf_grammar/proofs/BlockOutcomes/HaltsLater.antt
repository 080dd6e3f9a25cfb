-- Each outcome of the reader of block nodes, whole or not, ends after the offset of its task: if a character is at that
-- offset, after that character.
use Rattle.std.proofs.Common.{◌≡◌, ℕ, ◌+◌, ◌<◌, ◌≤◌, ℤ, true, false, List, Option, Some, refl, arith}
use Rattle.yf_chars.specs.declared.context.Ctx.TheVariants.{FlowOut}
use Rattle.yf_chars.proofs.Tests.{none_some}
use Rattle.yf_grammar.specs.Productions.Meaning.{Meaning}
use Rattle.yf_grammar.specs.FlowReader.Parser.{ParsedNode, Parses, ANode}
use Rattle.yf_grammar.specs.BlockReader.BlockParser.{LineText, Ahead, KeyBefore, BlockTask, Awaited, Below, Inline, Leaf, Items, Item, Whole, item_found, lone_key, lone_value, pair_found, collected}
use Rattle.yf_grammar.specs.BlockReader.BlockParser as BlockParser
use Rattle.yf_grammar.specs.BlockReader.Halts.{Alone, PlainPart, plain_part, Halts}
use Rattle.yf_grammar.specs.BlockReader.Halts as Halting
use Rattle.yf_grammar.proofs.FlowReader.Sound.{found_is_derived}
use Rattle.yf_grammar.proofs.FlowReader.FlowStarts.{flow_starts}
use Rattle.yf_grammar.proofs.FlowReader.PlainEnds.{plain_later}
use Rattle.yf_grammar.proofs.BlockOutcomes.BlockStarts.{scalar_later}
use Rattle.yf_grammar.proofs.BlockOutcomes.BlockClaims.{line_whites}
use Rattle.yf_grammar.proofs.BlockOutcomes.BlockGaps.{whites_order, rows_order}
use Rattle.yf_grammar.proofs.BlockOutcomes.OutcomeEnds.{collected_end, leaf_end, with_plain_end, item_end, lone_key_end, lone_value_end, pair_end, items_end, alone_end, told_of, then_of}
use Rattle.yf_props.proofs.NameOrder.{properties_forward}

-- an end after the offset of a task
abbrev pub Beyond : BlockTask → ℕ → Type 0
Beyond (Awaited b n c a i) z = i ≤ z
Beyond (Below n c a i) z = i ≤ z
Beyond (Inline n c cols a p) z = p < z
Beyond (Leaf n a p) z = p < z
Beyond (Items s m q i) z = i < z
Beyond (Item s m q i) z = i < z

module _ {t : List ℕ} where
  pub node_later : {e p : ℕ} {n : ℤ} {f : ParsedNode} → Parses t e (ANode n FlowOut p) (Some f) → p < f.end
  node_later r = (flow_starts (found_is_derived refl r).0 refl).starts.later

  pub key_order : {i k : ℕ} {f : ParsedNode} → KeyBefore t i f k → f.end ≤ k
  key_order b = whites_order b.run

  pub line_order : {k m p : ℕ} → LineText t k m p → k ≤ p
  line_order w = whites_order (line_whites w).1

  pub whole_later : {e : ℕ} {task : BlockTask} {o : Option ParsedNode} {f : ParsedNode} → Whole t e task o → o ≡ Some f → Beyond task f.end
  whole_later (BlockParser.awaited_below d r) e = whole_later r e
  whole_later (BlockParser.awaited_inline d m l w g r) e = let y = whole_later r e in omega arith
  whole_later (BlockParser.awaited_missed d w) e = absurd (none_some e)
  whole_later (BlockParser.below_alone {k = k} {a = a} {ds = ds} d n) e = let y = alone_end a k ds e in let z = rows_order d.derived in omega arith
  whole_later (BlockParser.below_node {a = a} {ds = ds} {o = o} d w b g r) e =
      let y = told_of a ds o e in
      let v = whole_later r y.is in
      let z = rows_order d.derived in
      let x = line_order w in
      let u = y.end in omega arith
  whole_later (BlockParser.below_missed d) e = absurd (none_some e)
  whole_later (BlockParser.sequence_read {p = p} {a = a} {f = f} q d r) e = let y = collected_end a true p f e in let z = whole_later r refl in omega arith
  whole_later (BlockParser.sequence_missed q d r) e = absurd (none_some e)
  whole_later (BlockParser.sequence_too_deep q d) e = absurd (none_some e)
  whole_later (BlockParser.mapping_read {p = p} {a = a} {f = f} n q d r) e = let y = collected_end a false p f e in let z = whole_later r refl in omega arith
  whole_later (BlockParser.mapping_missed n q d r) e = absurd (none_some e)
  whole_later (BlockParser.mapping_too_deep n q d) e = absurd (none_some e)
  whole_later (BlockParser.properties_below n p d j r) e = let y = whole_later r e in let z = properties_forward p.derived in omega arith
  whole_later (BlockParser.properties_leaf n q p d m l w j r) e = let y = whole_later r e in let z = properties_forward p.derived in omega arith
  whole_later (BlockParser.properties_alone_missed n q p d w) e = absurd (none_some e)
  whole_later (BlockParser.properties_apart_below n p d a) e = absurd (none_some e)
  whole_later (BlockParser.properties_apart n q p d a) e = absurd (none_some e)
  whole_later (BlockParser.leaf_there n q p r) e = whole_later r e
  whole_later (BlockParser.scalar_read {j = j} {a = a} {x = x} d) e = let y = leaf_end a j 0 x _ e in let z = scalar_later d.derived in omega arith
  whole_later (BlockParser.leaf_read {j = j} {a = a} {ds = ds} {f = f} s m r d) e =
      let y = leaf_end a j f.height f.meaning ds e in let z = node_later r in let x = rows_order d.derived in omega arith
  whole_later (BlockParser.leaf_unended s m r d) e = absurd (none_some e)
  whole_later (BlockParser.leaf_missed s m r) e = absurd (none_some e)
  whole_later (BlockParser.leaf_refused s m) e = absurd (none_some e)
  whole_later (BlockParser.items_missed r) e = absurd (none_some e)
  whole_later (BlockParser.items_last r n) e = whole_later r e
  whole_later (BlockParser.items_deeper r n) e = absurd (none_some e)
  whole_later (BlockParser.items_then {f = f} {g = g} r n s) e =
      let y = items_end f g e in let z = whole_later r refl in let x = whole_later s refl in omega arith
  whole_later (BlockParser.items_then_missed r n s) e = absurd (none_some e)
  whole_later (BlockParser.item_read {i = i} {f = f} d r) e = let y = item_end i f e in let z = whole_later r refl in omega arith
  whole_later (BlockParser.item_missed d r) e = absurd (none_some e)
  whole_later (BlockParser.item_undashed d) e = absurd (none_some e)
  whole_later (BlockParser.question_missed s r) e = absurd (none_some e)
  whole_later (BlockParser.question_alone {i = i} {f = f} s r n) e = let y = lone_key_end i f e in let z = whole_later r refl in omega arith
  whole_later (BlockParser.question_and_value {m = m} {i = i} {f = f} {g = g} s r c v) e =
      let y = pair_end i (f.end + m) f g e in let z = whole_later r refl in let x = whole_later v refl in omega arith
  whole_later (BlockParser.question_value_missed s r c v) e = absurd (none_some e)
  whole_later (BlockParser.colon_read {i = i} {f = f} s r) e = let y = lone_value_end i f e in let z = whole_later r refl in omega arith
  whole_later (BlockParser.colon_missed s r) e = absurd (none_some e)
  whole_later (BlockParser.key_read {i = i} {k = k} {f = f} {g = g} a b p l d r) e =
      let y = pair_end i k f g e in let z = node_later p in let x = key_order d in let w = whole_later r refl in omega arith
  whole_later (BlockParser.key_value_missed a b p l d r) e = absurd (none_some e)
  whole_later (BlockParser.no_key a b k) e = absurd (none_some e)
  whole_later (BlockParser.key_too_deep a b p l d) e = absurd (none_some e)

  alone_later : {i : ℕ} {ws : List ℕ} {a : Ahead} {o : Option ParsedNode} {f : ParsedNode} → Alone t ws a i o → o ≡ Some f → i ≤ f.end
  alone_later {a = a} (Halting.alone_to {k = k} {ds = ds} d) e = let y = alone_end a k ds e in let z = rows_order d.derived.line in omega arith
  alone_later (Halting.alone_nowhere s) e = absurd (none_some e)

  part_later : {i j : ℕ} {n : ℤ} {ws : List ℕ} {x : Meaning} → PlainPart t n ws i j x → i < j
  part_later (plain_part p m) = let y = plain_later p.text in let z = rows_order m.line in omega arith

  pub halts_later : {e : ℕ} {ws : List ℕ} {task : BlockTask} {o : Option ParsedNode} {f : ParsedNode} → Halts t e ws task o → o ≡ Some f → Beyond task f.end
  halts_later (Halting.halts_below d r) e = halts_later r e
  halts_later (Halting.halts_inline d m l w g r) e = let y = halts_later r e in omega arith
  halts_later (Halting.halts_missed d w) e = absurd (none_some e)
  halts_later (Halting.halts_alone d n y) e = alone_later y e
  halts_later (Halting.halts_node {a = a} {ds = ds} {f = f} d w b g r) e =
      let y = told_of a ds (Some f) e in
      let v = halts_later r y.is in
      let z = rows_order d.derived in
      let x = line_order w in
      let u = y.end in omega arith
  halts_later (Halting.halts_before_node d w b g r y) e = alone_later y e
  halts_later (Halting.halts_unended d) e = absurd (none_some e)
  halts_later (Halting.halts_sequence {p = p} {a = a} {o = o} q d r) e =
      let s = then_of (collected a true p) o e in let y = collected_end a true p s.inner s.made in let z = halts_later r s.is in omega arith
  halts_later (Halting.halts_sequence_too_deep q d) e = absurd (none_some e)
  halts_later (Halting.halts_mapping {p = p} {a = a} {o = o} n q d r) e =
      let s = then_of (collected a false p) o e in let y = collected_end a false p s.inner s.made in let z = halts_later r s.is in omega arith
  halts_later (Halting.halts_mapping_too_deep n q d) e = absurd (none_some e)
  halts_later (Halting.halts_properties_below n p d j r) e = let y = halts_later r e in let z = properties_forward p.derived in omega arith
  halts_later (Halting.halts_properties_leaf n q p d m l w j r) e = let y = halts_later r e in let z = properties_forward p.derived in omega arith
  halts_later (Halting.halts_properties_missed n q p d w) e = absurd (none_some e)
  halts_later (Halting.halts_properties_apart_below n p d a) e = absurd (none_some e)
  halts_later (Halting.halts_properties_apart n q p d a) e = absurd (none_some e)
  halts_later (Halting.halts_leaf n q p r) e = halts_later r e
  halts_later (Halting.halts_scalar {j = j} {a = a} {x = x} d) e = let y = leaf_end a j 0 x _ e in let z = scalar_later d.derived.scalar in omega arith
  halts_later (Halting.halts_scalar_before d s) e = absurd (none_some e)
  halts_later (Halting.halts_plain {j = j} {a = a} {x = x} s m b d) e = let y = with_plain_end a j x e in let z = part_later d.derived in omega arith
  halts_later (Halting.halts_plain_missed s m b d) e = absurd (none_some e)
  halts_later (Halting.halts_content {j = j} {a = a} {ds = ds} {f = f} s m b r d) e =
      let y = leaf_end a j f.height f.meaning ds e in let z = node_later r in let x = rows_order d.derived.line in omega arith
  halts_later (Halting.halts_content_unended s m b r d) e = absurd (none_some e)
  halts_later (Halting.halts_content_missed s m b r) e = absurd (none_some e)
  halts_later (Halting.halts_refused s m) e = absurd (none_some e)
  halts_later (Halting.halts_item r n s) e = halts_later s e
  halts_later (Halting.halts_before_item r n s y) e = halts_later y e
  halts_later (Halting.halts_items {f = f} {g = g} r n s) e =
      let y = items_end f g e in let z = whole_later r refl in let x = halts_later s refl in omega arith
  halts_later (Halting.halts_dash {i = i} {o = o} d r) e = let s = then_of (item_found i) o e in let y = item_end i s.inner s.made in let z = halts_later r s.is in omega arith
  halts_later (Halting.halts_undashed d) e = absurd (none_some e)
  halts_later (Halting.halts_question {i = i} {o = o} q r n s) e =
      let v = then_of (lone_key i) o e in let y = lone_key_end i v.inner v.made in let z = halts_later s v.is in omega arith
  halts_later (Halting.halts_before_value {i = i} {o = o} q r c n s) e =
      let v = then_of (lone_key i) o e in let y = lone_key_end i v.inner v.made in let z = halts_later s v.is in omega arith
  halts_later (Halting.halts_value {m = m} {i = i} {f = f} {g = g} s r c v) e =
      let y = pair_end i (f.end + m) f g e in let z = whole_later r refl in let x = halts_later v refl in omega arith
  halts_later (Halting.halts_colon {i = i} {o = o} q s) e =
      let v = then_of (lone_value i) o e in let y = lone_value_end i v.inner v.made in let z = halts_later s v.is in omega arith
  halts_later (Halting.halts_key {i = i} {k = k} {f = f} {o = o} a b p l d r) e =
      let s = then_of (pair_found i k f) o e in
      let y = pair_end i k f s.inner s.made in let z = node_later p in let x = key_order d in let w = halts_later r s.is in omega arith
  halts_later (Halting.halts_no_key a b k) e = absurd (none_some e)
  halts_later (Halting.halts_key_too_deep a b p l d) e = absurd (none_some e)
