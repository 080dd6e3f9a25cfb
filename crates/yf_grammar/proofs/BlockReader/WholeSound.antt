-- Whole outcomes of the reader of block nodes are derived: by induction over the steps of the reader.
use Rattle.std.proofs.Common.{◌≡◌, ℕ, suc, max, ◌+◌, ◌≤◌, ℤ, pos, ◌+ℤ◌, Bool, true, false, List, [], ◌++◌, Option, Some, None, refl, sym, ap, ◌∙◌, subst, arith, true≢false}
use Rattle.std.specs.Str.{IsUtf8}
use Rattle.yf_chars.specs.declared.context.Ctx.{Ctx}
use Rattle.yf_chars.specs.declared.context.Ctx.TheVariants.{BlockOut, FlowKey}
use Rattle.yf_chars.specs.Text.{code}
use Rattle.yf_chars.proofs.Tests.{none_some}
use Rattle.yf_lines.specs.Basic.{is_block, Spaces}
use Rattle.yf_lines.specs.Basic.SeparateInLine.{by_whites}
use Rattle.yf_comments.specs.Comment.{CommentValue}
use Rattle.yf_comments.specs.Comments.{LineEnd, Separate}
use Rattle.yf_comments.specs.Comments.Separate.{in_node}
use Rattle.yf_comments.specs.Comments.SeparateLines.{in_line}
use Rattle.yf_props.specs.Names.{Properties, PropertiesValue}
use Rattle.yf_grammar.specs.Productions.BlockScalar.{BlockScalar}
use Rattle.yf_grammar.specs.Productions.Meaning.{Meaning, ◌⊕◌, meaning_after, noting, with_props, empty_node, collection, entering}
use Rattle.yf_grammar.specs.Productions.Grammar.{BlockIndented, BlockEntries, BlockEntry, BlockValue, Derives}
use Rattle.yf_grammar.specs.Productions.Grammar.Derives.{a_last_entry, an_entry_before, a_dash_entry, an_explicit_entry_with, an_explicit_key_alone, a_keyed_entry, an_unkeyed_entry, a_block_value, an_empty_block_value, an_indented_node, nothing_indented}
use Rattle.yf_grammar.specs.FlowReader.Parser.{ParsedNode}
use Rattle.yf_grammar.specs.BlockReader.BlockParser.{Columns, PropertiesHeld, Ahead, Indicator, Props, headed, past, with_comments, LineText, NextEntry, next_item, next_pair, NoSign, Joins, BlockTask, Awaited, Below, Inline, Leaf, Items, Item, Whole, collected}
use Rattle.yf_grammar.specs.BlockReader.BlockParser as BlockParser
use Rattle.yf_grammar.proofs.FlowReader.ParserLemmas.{moved, after_nothing}
use Rattle.yf_grammar.proofs.FlowReader.Sound.{found_is_derived}
use Rattle.yf_grammar.proofs.Ends.WiderLemmas.{key_properties}
use Rattle.yf_grammar.proofs.BlockOutcomes.BlockClaims.{Unheld, indicator_ahead}
use Rattle.yf_grammar.proofs.BlockOutcomes.BlockGaps.{block_no_key, past_unheld}
use Rattle.yf_grammar.proofs.BlockOutcomes.BlockInline.{AtColumn, sequence_column, mapping_column}
use Rattle.yf_grammar.proofs.BlockContent.InlineViews.{past_props, joins_first, joins_second}
use Rattle.yf_grammar.proofs.BlockContent.LeafKeys.{found_keyed}
use Rattle.yf_grammar.proofs.BlockOutcomes.OutcomeMade.{headed_unheld}
use Rattle.yf_grammar.proofs.BlockOutcomes.OutcomeEnds.{collected_is, leaf_is, item_is, lone_key_is, lone_value_is, pair_is, items_is}
use Rattle.yf_grammar.proofs.BlockContent.PropertiedNodes.{three_after}
use Rattle.yf_grammar.proofs.BlockContent.PropertiesLines.{held}
use Rattle.yf_grammar.proofs.BlockContent.PropertiesWalk.{held_with, held_alone}
use Rattle.yf_grammar.proofs.BlockReader.SoundSteps.{Width, parts_of, Sits, sits_on_line, sits_below, sits_apart, InlineAhead, is_at_as_node, is_at_compact, collection_is_at, collection_with_is_at, Joined, join_props}
use Rattle.yf_grammar.proofs.BlockReader.BlockSound.{NodeAhead, as_node, as_compact, as_nothing, HeldFrom, BelowSound, InlineSound, LeafSound, leaf_of_scalar, leaf_of_node, leaf_within, leaf_free, leaf_held, alone_sound, ToldOf, told_free, told_after, told_is_of, no_clash, unheld_not}
use Rattle.yf_lines.proofs.FoldLemmas.{indent_width}
use Rattle.yf_grammar.proofs.WrittenTexts.LeafBack.{noting_nothing}

abbrev pub WholeSound : List ℕ → ℕ → BlockTask → ParsedNode → Type 0
WholeSound t e (Awaited b n c a i) f = is_block c ≡ true → Width n → Unheld a → (f.height ≤ e) × NodeAhead t b n c a i f.height f.end f.meaning
WholeSound t e (Below n c a i) f = is_block c ≡ true → Width n → BelowSound t e n c a i f
WholeSound t e (Inline n c cols a p) f = is_block c ≡ true → Width n → InlineSound t e n c cols a p f
WholeSound t e (Leaf n a p) f = LeafSound t e n a p f
WholeSound t e (Items s m q i) f = (f.height ≤ e) × Derives t f.height (BlockEntries s m) i f.end f.meaning
WholeSound t e (Item s m q i) f = (f.height ≤ e) × Derives t f.height (BlockEntry s m) i f.end f.meaning

pub wide : (m : ℕ) → Width (pos m)
wide m = record { width = m + 1; is = refl }

pub same_indicator : {i k : ℕ} → Indicator i ≡ Indicator k → i ≡ k
same_indicator e = cc

not_flag : {Q : Type 0} → false ≡ true → Q
not_flag e = absurd (true≢false (sym e))

module _ {t : List ℕ} where
  pub standing_any : {b : Bool} {n : ℤ} {c : Ctx} {a : Ahead} {i h j : ℕ} {y : Meaning} → NodeAhead t false n c a i h j y → NodeAhead t b n c a i h j y
  standing_any (as_node d) = as_node d
  standing_any (as_compact e q d) = not_flag q
  standing_any (as_nothing e d h m) = as_nothing e d h m

  pub standing_inline : {b : Bool} {n : ℤ} {c : Ctx} {a : Ahead} {i h j : ℕ} {y : Meaning} → InlineAhead t b n c i h j [] y → NodeAhead t b n c a i h j y
  standing_inline {y = y} (is_at_as_node d) = as_node (moved refl refl (after_nothing y) d)
  standing_inline (is_at_compact e q r d) = as_compact e q d

  below_standing : {n : ℤ} {c : Ctx} {a : Ahead} {i h j g k : ℕ} {cs : List CommentValue} {x y : Meaning} → InlineAhead t false n c i h j cs x → g ≡ h → k ≡ j → y ≡ meaning_after cs x
      → NodeAhead t false n c a i g k y
  below_standing (is_at_as_node d) p q r = as_node (moved (sym p) (sym q) (sym r) d)
  below_standing (is_at_compact e q r d) p u v = not_flag q

  inline_moved : {b : Bool} {n : ℤ} {c : Ctx} {i h j g k : ℕ} {cs : List CommentValue} {x y : Meaning} → h ≡ g → j ≡ k → x ≡ y → InlineAhead t b n c i h j cs x → InlineAhead t b n c i g k cs y
  inline_moved {cs = cs} p q r (is_at_as_node d) = is_at_as_node (moved p q (ap (meaning_after cs) r) d)
  inline_moved p q r (is_at_compact e u v d) = is_at_compact e u v (moved p q r d)

  pub indented_of : {m i h j : ℕ} {c : Ctx} {y : Meaning} → is_block c ≡ true → NodeAhead t true (pos m) c (Indicator i) i h j y → Derives t h (BlockIndented m c) i j y
  indented_of b (as_node d) = an_indented_node d
  indented_of {i = i} {h = h} {j = j} {c = c} {y = y} b (as_compact e q d) = subst (λ w. Derives t h (BlockIndented w c) i j y) (sym (indent_width e)) d
  indented_of {m} {i} b (as_nothing {ds = ds} e d h r) = moved (sym h) refl (ap (λ w. noting (empty_node w) ds) (same_indicator e) ∙ sym r) (nothing_indented b d)

  pub value_of : {m i h j : ℕ} {y : Meaning} → code t i ≡ 58 → NodeAhead t false (pos m) BlockOut (Indicator (i + 1)) (i + 1) h j y → Derives t h (BlockValue m) i j y
  value_of s (as_node d) = a_block_value s d
  value_of s (as_compact e q d) = not_flag q
  value_of {i = i} s (as_nothing {ds = ds} e d h r) = moved (sym h) refl (ap (λ w. noting (empty_node w) ds) (same_indicator e) ∙ sym r) (an_empty_block_value s d)

  pub next_spaces : {s : Bool} {m k : ℕ} → NextEntry t s m k → Spaces t k m
  next_spaces (next_item w d) = w.spaces
  next_spaces (next_pair w) = w.spaces

  -- a collection, with nothing or properties ahead of it
  pub collection_sound : {e p m : ℕ} {s : Bool} {n : ℤ} {c : Ctx} {cols : Columns} {a : Ahead} {f : ParsedNode} (g : ParsedNode) → is_block c ≡ true → AtColumn cols m s → g.height ≤ e
      → Derives t g.height (BlockEntries s m) p g.end g.meaning → collected a s p g ≡ Some f → InlineSound t (suc e) n c cols a p f
  collection_sound {e} {p} {m} {s} {n} {c} {cols} {a} {f} g b at le d q =
      let x = collection s false p g.meaning.finish g.meaning in
      let w = parts_of g.end (suc g.height) false (headed a x) (collected_is a s p g) q in
      let h = w.height in record {
        within = omega arith;
        free = λ y b' i cs sits. inline_moved (sym w.height) (sym w.end) (sym (w.meaning ∙ headed_unheld x y)) (collection_is_at b at d sits);
        after = λ v ds z i cs from sits.
            let q' = v.value in
            let mean : f.meaning ≡ meaning_after (q'.comments ++ ds) (with_props q'.props q'.tag_offset v.start v.end x) = w.meaning ∙ ap (λ r. headed r x) z ∙ (held_with q' ds v.start v.end).is x in
            moved (sym w.height) (sym w.end) (sym (three_after cs q'.comments ds (with_props q'.props q'.tag_offset v.start v.end x)) ∙ ap (meaning_after cs) (sym mean))
            (collection_with_is_at b from.separate from.properties at d sits);
      }

  -- a leaf without properties of its own
  pub bare_sound : {e p : ℕ} {n : ℤ} {c : Ctx} {cols : Columns} {a : Ahead} {f : ParsedNode} → is_block c ≡ true → Width n → NoSign t cols p → LeafSound t e n a p f → InlineSound t e n c cols a p f
  bare_sound {c = c} b width s l = record {
    within = leaf_within l;
    free = λ y b' i cs sits. is_at_as_node (leaf_free b y (sits_apart c (block_no_key c b) width s sits) l);
    after = λ w ds z i cs from sits. leaf_held b z (held_with w.value ds w.start w.end) from (sits_apart c (block_no_key c b) width s sits) l;
  }

  -- properties of the line, after nothing or after others
  first_from : {n : ℤ} {c : Ctx} {b : Bool} {i p g : ℕ} {cols : Columns} {q : PropertiesValue} {cs : List CommentValue} → is_block c ≡ true → Width n → NoSign t cols p → Sits t b n c i p cols cs
      → Properties t (pos 0) FlowKey p g q → HeldFrom t n c i cs (held q p g)
  first_from {n} {c} b width s sits d = record { separate = sits_apart c (block_no_key c b) width s sits; properties = key_properties (n +ℤ pos 1) c refl d }

  second_joined : {n : ℤ} {c : Ctx} {p g : ℕ} {cols : Columns} {q : PropertiesValue} {ds : List CommentValue} {w : PropertiesHeld} {z : Ahead} {s : ℕ} {cs : List CommentValue} → is_block c ≡ true → Width n
      → NoSign t cols p → Sits t false n c w.end p cols ds → Properties t (pos 0) FlowKey p g q → HeldFrom t n c s cs w → Joins (Props (with_comments w ds)) q p g z
      → Joined t (n +ℤ pos 1) c w.start w.end g w.value q ds
  second_joined {c = c} b width s sits d from j = join_props from.properties (sits_apart c (block_no_key c b) width s sits) d (no_clash j)

  pub below_sound : {e p g : ℕ} {n : ℤ} {c : Ctx} {cols : Columns} {a z : Ahead} {q : PropertiesValue} {f : ParsedNode} → is_block c ≡ true → Width n → NoSign t cols p
      → Properties t (pos 0) FlowKey p g q → Joins a q p g z → BelowSound t e n c z g f → InlineSound t e n c cols a p f
  below_sound {e} {p} {g} {n} {c} {cols} {a} {z} {q} {f} b width s d j r = record {
    within = r.within;
    free = λ y b' i cs sits. is_at_as_node (r.after (held q p g) (joins_first y j) refl i cs (first_from b width s sits d));
    after = λ w ds x i cs from sits.
        let j' : Joins (Props (with_comments w ds)) q p g z = subst (λ v. Joins v q p g z) x j in
        let u = second_joined b width s sits d from j' in
        r.after (held u.value w.start g) (joins_second j' ∙ u.same) refl i cs (record { separate = from.separate; properties = u.derived });
  }

  pub line_sound : {e p g k : ℕ} {n : ℤ} {c : Ctx} {cols : Columns} {a z : Ahead} {q : PropertiesValue} {f : ParsedNode} → is_block c ≡ true → Width n → NoSign t cols p
      → Properties t (pos 0) FlowKey p g q → Separate t (n +ℤ pos 1) c g k [] → Joins a q p g z → LeafSound t e n z k f → InlineSound t e n c cols a p f
  line_sound {e} {p} {g} {k} {n} {c} {cols} {a} {z} {q} {f} b width s d v j r = record {
    within = leaf_within r;
    free = λ y b' i cs sits. is_at_as_node (leaf_held b (joins_first y j) (held_alone q p g) (first_from b width s sits d) v r);
    after = λ w ds x i cs from sits.
        let j' : Joins (Props (with_comments w ds)) q p g z = subst (λ o. Joins o q p g z) x j in
        let u = second_joined b width s sits d from j' in
        let from' : HeldFrom t n c i cs (held u.value w.start g) = record { separate = from.separate; properties = u.derived } in
        leaf_held b (joins_second j' ∙ u.same) (held_alone u.value w.start g) from' v r;
  }

  -- a node on a later line
  pub node_below : {e i k m p : ℕ} {n : ℤ} {c : Ctx} {cols : Columns} {a : Ahead} {ds : List CommentValue} {o : Option ParsedNode} {f : ParsedNode} → LineEnd t i k ds → LineText t k m p
      → BlockParser.Begins t n c i k m p → BlockParser.LineColumns n c k m p cols → ((g : ParsedNode) → o ≡ Some g → InlineSound t e n c cols (past a ds) p g) → ToldOf a ds o f → BelowSound t e n c a i f
  node_below {i = i} {a = a} {ds = ds} d w b g r (told_free {g = v} y q x) =
      let s = r v q in
      let h = s.within in
      let z = x.height in record {
        within = omega arith;
        free = λ y'. below_standing (s.free (subst (λ u. Unheld u) (sym (past_unheld ds y)) y) false i ds (sits_below d w b g)) x.height x.end x.meaning;
        after = λ u e'. unheld_not y e';
      }
  node_below {i = i} {k = k} {m = m} {p = p} {n = n} {c = c} {a = a} {ds = ds} {f = f} d w b g r (told_after {v = v} q x) =
      let s = r f x in record {
        within = s.within;
        free = λ y. unheld_not y q;
        after = λ u e' z i' cs from. s.after u ds (ap (λ y. past y ds) e' ∙ past_props u ds) i' cs from
            (sits_below (subst (λ y. LineEnd t y k ds) (sym z) d) w (subst (λ y. BlockParser.Begins t n c y k m p) (sym z) b) g);
      }

module _ {t : List ℕ} (u : IsUtf8 t) where
  pub whole_sound : {e : ℕ} {task : BlockTask} {o : Option ParsedNode} {f : ParsedNode} → Whole t e task o → o ≡ Some f → WholeSound t e task f
  whole_sound (BlockParser.awaited_below d r) q = λ b w y. let s = whole_sound r q b w in (s.within, standing_any (s.free y))
  whole_sound (BlockParser.awaited_inline {i = i} {b = b'} d m l z g r) q = λ b w y. let s = whole_sound r q b w in (s.within, standing_inline (s.free y b' i [] (sits_on_line m l g)))
  whole_sound (BlockParser.awaited_missed d w) q = absurd (none_some q)
  whole_sound (BlockParser.below_alone {a = a} d n) q = λ b w. alone_sound a b d.derived q
  whole_sound (BlockParser.below_node {a = a} {ds = ds} {o = o} d l y g r) q = λ b w. node_below d.derived l y g (λ v e. whole_sound r e b w) (told_is_of a ds o q)
  whole_sound (BlockParser.below_missed d) q = absurd (none_some q)
  whole_sound (BlockParser.sequence_read {f = g} e d r) q = λ b w. let s = whole_sound r refl in collection_sound g b (sequence_column e) s.0 s.1 q
  whole_sound (BlockParser.sequence_missed q' d r) q = absurd (none_some q)
  whole_sound (BlockParser.sequence_too_deep q' d) q = absurd (none_some q)
  whole_sound (BlockParser.mapping_read {f = g} n e d r) q = λ b w. let s = whole_sound r refl in collection_sound g b (mapping_column e) s.0 s.1 q
  whole_sound (BlockParser.mapping_missed n q' d r) q = absurd (none_some q)
  whole_sound (BlockParser.mapping_too_deep n q' d) q = absurd (none_some q)
  whole_sound (BlockParser.properties_below n p d j r) q = λ b w. below_sound b w n p.derived j (whole_sound r q b w)
  whole_sound (BlockParser.properties_leaf {c = c} n k p d m l z j r) q = λ b w. line_sound b w n p.derived (in_node (block_no_key c b) (in_line (by_whites m l))) j (whole_sound r q)
  whole_sound (BlockParser.properties_alone_missed n k p d w) q = absurd (none_some q)
  whole_sound (BlockParser.properties_apart_below n p d a) q = absurd (none_some q)
  whole_sound (BlockParser.properties_apart n k p d a) q = absurd (none_some q)
  whole_sound (BlockParser.leaf_there n k p r) q = λ b w. bare_sound b w n (whole_sound r q)
  whole_sound {f = f} (BlockParser.scalar_read {p = p} {j = j} {n = n} {a = a} {x = x} d) q =
      let w = parts_of j 0 false (headed a (noting x [])) (leaf_is a j 0 x []) q in
      leaf_of_scalar (subst (λ v. BlockScalar t n p v x) (sym w.end) d.derived) w.height (w.meaning ∙ ap (headed a) (noting_nothing x))
  whole_sound {f = f} (BlockParser.leaf_read {e = e} {p = p} {j = j} {n = n} {a = a} {ds = ds} {f = g} s m r d) q =
      let w = parts_of j g.height false (headed a (noting g.meaning ds)) (leaf_is a j g.height g.meaning ds) q in
      let v = found_is_derived refl r in
      let h = w.height in
      let l = v.1 in
      leaf_of_node (moved (sym h) refl refl v.0) (omega arith) (subst (λ z. LineEnd t g.end z ds) (sym w.end) d.derived) w.meaning m
  whole_sound (BlockParser.leaf_unended s m r d) q = absurd (none_some q)
  whole_sound (BlockParser.leaf_missed s m r) q = absurd (none_some q)
  whole_sound (BlockParser.leaf_refused s m) q = absurd (none_some q)
  whole_sound (BlockParser.items_missed r) q = absurd (none_some q)
  whole_sound (BlockParser.items_last r n) q = let s = whole_sound r q in (s.0, a_last_entry s.1)
  whole_sound (BlockParser.items_deeper r n) q = absurd (none_some q)
  whole_sound {f = v} (BlockParser.items_then {f = f} {g = g} r n z) q =
      let a = whole_sound r refl in
      let b = whole_sound z refl in
      let w = parts_of g.end (max f.height g.height) false (f.meaning ⊕ g.meaning) (items_is f g) q in
      let h = w.height in
      let l = a.0 in
      let m = b.0 in
      (omega arith, moved (sym h) (sym w.end) (sym w.meaning) (an_entry_before a.1 (next_spaces n) b.1))
  whole_sound (BlockParser.items_then_missed r n s) q = absurd (none_some q)
  whole_sound {f = v} (BlockParser.item_read {m = m} {i = i} {f = f} d r) q =
      let a = whole_sound r refl refl (wide m) indicator_ahead in
      let w = parts_of f.end f.height false (entering i None f.meaning) (item_is i f) q in
      let h = w.height in
      let l = a.0 in
      (omega arith, moved (sym h) (sym w.end) (sym w.meaning) (a_dash_entry d.dash d.follows (indented_of refl a.1)))
  whole_sound (BlockParser.item_missed d r) q = absurd (none_some q)
  whole_sound (BlockParser.item_undashed d) q = absurd (none_some q)
  whole_sound (BlockParser.question_missed s r) q = absurd (none_some q)
  whole_sound {f = v} (BlockParser.question_alone {m = m} {i = i} {f = f} s r n) q =
      let a = whole_sound r refl refl (wide m) indicator_ahead in
      let w = parts_of f.end f.height false (entering i None f.meaning ⊕ empty_node f.meaning.finish) (lone_key_is i f) q in
      let h = w.height in
      let l = a.0 in
      let made = an_explicit_key_alone s.sign_is_at s.follows (indented_of refl a.1) n in
      (omega arith, moved (sym h) (sym w.end) (sym w.meaning) made)
  whole_sound {f = v} (BlockParser.question_and_value {m = m} {i = i} {f = f} {g = g} s r c z) q =
      let a = whole_sound r refl refl (wide m) indicator_ahead in
      let b = whole_sound z refl refl (wide m) indicator_ahead in
      let w = parts_of g.end (max f.height g.height) false (entering i (Some (f.end + m)) f.meaning ⊕ g.meaning) (pair_is i (f.end + m) f g) q in
      let h = w.height in
      let l = a.0 in
      let k = b.0 in
      let made = an_explicit_entry_with s.sign_is_at s.follows (indented_of refl a.1) c (indented_of refl b.1) in
      (omega arith, moved (sym h) (sym w.end) (sym w.meaning) made)
  whole_sound (BlockParser.question_value_missed s r c v) q = absurd (none_some q)
  whole_sound {f = v} (BlockParser.colon_read {m = m} {i = i} {f = f} s r) q =
      let a = whole_sound r refl refl (wide m) indicator_ahead in
      let w = parts_of f.end f.height false (entering i (Some i) (empty_node i) ⊕ f.meaning) (lone_value_is i f) q in
      let h = w.height in
      let l = a.0 in
      (omega arith, moved (sym h) (sym w.end) (sym w.meaning) (an_unkeyed_entry (value_of s.sign_is_at a.1)))
  whole_sound (BlockParser.colon_missed s r) q = absurd (none_some q)
  whole_sound {f = v} (BlockParser.key_read {m = m} {i = i} {k = k} {f = f} {g = g} x y p z d r) q =
      let a = whole_sound r refl refl (wide m) indicator_ahead in
      let w = parts_of g.end (max f.height g.height) false (entering i (Some k) f.meaning ⊕ g.meaning) (pair_is i k f g) q in
      let h = w.height in
      let l = a.0 in
      let made = a_keyed_entry (found_keyed u p d) (value_of d.colon.sign_is_at a.1) in
      (omega arith, moved (sym h) (sym w.end) (sym w.meaning) made)
  whole_sound (BlockParser.key_value_missed a b p l d r) q = absurd (none_some q)
  whole_sound (BlockParser.no_key a b k) q = absurd (none_some q)
  whole_sound (BlockParser.key_too_deep a b p l d) q = absurd (none_some q)
