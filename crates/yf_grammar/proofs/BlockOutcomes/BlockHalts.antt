-- A whole node after which all nodes may end is its own last halt.
use Rattle.std.proofs.Common.{◌≡◌, ℕ, suc, ◌+◌, ℤ, pos, ◌+ℤ◌, true, false, ⊎_elim, List, [], Option, Some, refl, sym, ap, ◌∙◌, subst, encode_utf8_all}
use Rattle.std.proofs.lemmas.Bool.{cases_Bool}
use Rattle.yf_chars.specs.declared.context.Ctx.{Ctx}
use Rattle.yf_chars.specs.declared.context.Ctx.TheVariants.{FlowOut}
use Rattle.yf_chars.specs.Text.{code}
use Rattle.yf_chars.specs.Chain.{Stuck, Chosen}
use Rattle.yf_chars.proofs.Tests.{none_some}
use Rattle.yf_comments.specs.Comment.{CommentValue}
use Rattle.yf_comments.specs.Comments.{LineEnd}
use Rattle.yf_events.specs.declared.event.ScalarStyle.TheVariants.{Plain as PlainStyle}
use Rattle.yf_plain.specs.Plain.{Plain}
use Rattle.yf_grammar.specs.Productions.BlockScalar.{BlockScalar}
use Rattle.yf_grammar.specs.Productions.Meaning.{Meaning, noting, scalar}
use Rattle.yf_grammar.specs.FlowReader.Parser.{ParsedNode, Parses, ANode, begins_plain, plain_found}
use Rattle.yf_grammar.specs.FlowReader.Parser.Parses.{alias_read, alias_missed, plain_read, plain_missed, content_read, properties_missed, properties_content, properties_plain, properties_end, properties_before_broken, properties_before_other}
use Rattle.yf_grammar.specs.BlockReader.BlockParser.{Ahead, outcome_after, BlockTask, Below, Inline, Leaf, Item, Whole, MayLeaf, leaf_found, item_found, lone_key, lone_value, pair_found, collected}
use Rattle.yf_grammar.specs.BlockReader.BlockParser as BlockParser
use Rattle.yf_grammar.specs.BlockReader.Halts.{NoColonAt, one_open, alone_to, MayEnd, PlainPart, ScalarPart, not_after, then_found, Halts}
use Rattle.yf_grammar.specs.BlockReader.Halts as Halting
use Rattle.yf_grammar.proofs.Ends.NodeExits.{some_found, alias_begins, alias_no_plain, plain_no_content, plain_no_properties}
use Rattle.yf_grammar.proofs.FlowReader.PropertiesEnds.{properties_begin}
use Rattle.yf_grammar.proofs.FlowReader.NodeExact.{plain_is}
use Rattle.yf_grammar.proofs.BlockOutcomes.OutcomeEnds.{collected_end, leaf_end, leaf_is, with_plain_is, item_end, lone_key_end, lone_value_end, pair_end, items_end, alone_end, told_of}

pub then_is : (f : ParsedNode → Option ParsedNode) (x : ParsedNode) → then_found f (Some x) ≡ f x
unfolding then_found
then_is f x = refl

-- a plain scalar that was found
pub record PlainRead (t : List ℕ) (n : ℤ) (c : Ctx) (i : ℕ) (f : ParsedNode) : Type 0 where
  pub characters : List ℕ
  pub chosen : Chosen (Plain t n c i) f.end characters
  pub height : f.height ≡ 0
  pub meaning : f.meaning ≡ scalar PlainStyle (encode_utf8_all characters) [] i f.end

module _ {t : List ℕ} where
  plain_made : {n : ℤ} {c : Ctx} {i j : ℕ} {x : List ℕ} {f : ParsedNode} → Chosen (Plain t n c i) j x → plain_found x i j ≡ Some f → PlainRead t n c i f
  plain_made {n} {c} {i} {j} {x} {f} d e =
      let y = some_found j 0 false (scalar PlainStyle (encode_utf8_all x) [] i j) (sym e ∙ plain_is x i j) in
      let z : f.end ≡ j = ap (λ w. w.end) y in
      record {
        characters = x;
        chosen = subst (λ w. Chosen (Plain t n c i) w x) (sym z) d;
        height = ap (λ w. w.height) y;
        meaning = ap (λ w. w.meaning) y ∙ ap (λ w. scalar PlainStyle (encode_utf8_all x) [] i w) (sym z);
      }

  pub plain_was_read : {e i : ℕ} {n : ℤ} {c : Ctx} {o : Option ParsedNode} {f : ParsedNode} → begins_plain (code t i) ≡ true → Parses t e (ANode n c i) o → o ≡ Some f → PlainRead t n c i f
  plain_was_read {i = i} b (alias_read a) e = absurd (alias_no_plain (code t i) (alias_begins a.derived) b)
  plain_was_read {i = i} b (alias_missed p s) e = absurd (none_some e)
  plain_was_read b (plain_read p d) e = plain_made d e
  plain_was_read b (plain_missed p s) e = absurd (none_some e)
  plain_was_read {i = i} b (content_read p r) e = absurd (plain_no_content (code t i) b p)
  plain_was_read b (properties_missed p s) e = absurd (none_some e)
  plain_was_read {i = i} b (properties_content a s p r) e = absurd (plain_no_properties (code t i) b (properties_begin a.derived))
  plain_was_read {i = i} b (properties_plain a s p r) e = absurd (plain_no_properties (code t i) b (properties_begin a.derived))
  plain_was_read {i = i} b (properties_end a s) e = absurd (plain_no_properties (code t i) b (properties_begin a.derived))
  plain_was_read {i = i} b (properties_before_broken a s p r) e = absurd (plain_no_properties (code t i) b (properties_begin a.derived))
  plain_was_read {i = i} b (properties_before_other a s p r) e = absurd (plain_no_properties (code t i) b (properties_begin a.derived))

  -- the whole end of a line is the last one at which all nodes may end
  pub may_end_chosen : {i k : ℕ} {ws : List ℕ} {ds : List CommentValue} → Chosen (LineEnd t i) k ds → NoColonAt t k ws → Chosen (MayEnd t ws i) k ds
  may_end_chosen d a = record { derived = record { line = d.derived; allowed = a }; longest = λ j x m. d.longest j x m.line; only = λ x m. d.only x m.line }

  scalar_chosen : {n : ℤ} {i k : ℕ} {ws : List ℕ} {x : Meaning} → Chosen (BlockScalar t n i) k x → NoColonAt t k ws → Chosen (ScalarPart t n ws i) k x
  scalar_chosen d a = record { derived = record { scalar = d.derived; allowed = a }; longest = λ j x m. d.longest j x m.scalar; only = λ x m. d.only x m.scalar }

  moved_allowed : {ws : List ℕ} (j k : ℕ) → j ≡ k → NoColonAt t j ws → NoColonAt t k ws
  moved_allowed {ws} j k e a = subst (λ w. NoColonAt t w ws) e a

-- a plain scalar with the whole end of its last line is the longest of its parts
pub record WholePlain (t : List ℕ) : Type 0 where
  pub whole : {n : ℤ} {i l j : ℕ} {x ws : List ℕ} {ds : List CommentValue} → Chosen (Plain t n FlowOut i) l x → Chosen (LineEnd t l) j ds → NoColonAt t j ws
      → Chosen (PlainPart t n ws i) j (noting (scalar PlainStyle (encode_utf8_all x) [] i l) ds)

module _ {t : List ℕ} (plain : WholePlain t) where
  plain_halts : {e p j : ℕ} {n : ℤ} {a : Ahead} {ds : List CommentValue} {f : ParsedNode} {ws : List ℕ} → Stuck (BlockScalar t n p) → MayLeaf t a p → begins_plain (code t p) ≡ true
      → PlainRead t (n +ℤ pos 1) FlowOut p f → Chosen (LineEnd t f.end) j ds → NoColonAt t j ws → Halts t e ws (Leaf n a p) (leaf_found a j f.height f.meaning ds)
  plain_halts {e} {p} {j} {n} {a} {ds} {f} {ws} s m b r d y =
      let x = scalar PlainStyle (encode_utf8_all r.characters) [] p f.end in
      let h = Halting.halts_plain {e = e} s m b (plain.whole r.chosen d y) in
      let z = with_plain_is a j (noting x ds) ∙ sym (leaf_is a j 0 x ds) in
      let v = ap (λ w. leaf_found a j w x ds) (sym r.height) ∙ ap (λ w. leaf_found a j f.height w ds) (sym r.meaning) in
      subst (λ w. Halts t e ws (Leaf n a p) w) (z ∙ v) h

  leaf_halts : {e p j : ℕ} {n : ℤ} {a : Ahead} {ds : List CommentValue} {f : ParsedNode} {ws : List ℕ} → Stuck (BlockScalar t n p) → MayLeaf t a p
      → Parses t e (ANode (n +ℤ pos 1) FlowOut p) (Some f) → Chosen (LineEnd t f.end) j ds → NoColonAt t j ws → Halts t e ws (Leaf n a p) (leaf_found a j f.height f.meaning ds)
  leaf_halts {p = p} s m r d y = ⊎_elim
      (λ (b : begins_plain (code t p) ≡ true). plain_halts s m b (plain_was_read b r refl) d y)
      (λ (b : begins_plain (code t p) ≡ false). Halting.halts_content s m b r (may_end_chosen d y))
      (cases_Bool (begins_plain (code t p)))

  pub whole_halts : {e : ℕ} {task : BlockTask} {o : Option ParsedNode} {f : ParsedNode} {ws : List ℕ} → Whole t e task o → o ≡ Some f → NoColonAt t f.end ws → Halts t e ws task o
  whole_halts (BlockParser.awaited_below d r) e y = Halting.halts_below d (whole_halts r e y)
  whole_halts (BlockParser.awaited_inline d m l w g r) e y = Halting.halts_inline d m l w g (whole_halts r e y)
  whole_halts (BlockParser.awaited_missed d w) e y = absurd (none_some e)
  whole_halts {f = f} (BlockParser.below_alone {k = k} {a = a} {ds = ds} d n) e y =
      Halting.halts_alone d n (alone_to (may_end_chosen d (moved_allowed f.end k (alone_end a k ds e) y)))
  whole_halts {e = l} {f = f} {ws = ws} (BlockParser.below_node {i = i} {p = p} {n = n} {c = c} {a = a} {cols = cols} {ds = ds} {o = o} d w b g r) e y =
      let v = told_of a ds o e in
      let u = v.inner in
      let h = whole_halts r v.is (moved_allowed f.end u.end v.end y) in
      let k = Halting.halts_node d w b g (subst (λ z. Halts t l ws (Inline n c cols (BlockParser.past a ds) p) z) v.is h) in
      subst (λ z. Halts t l ws (Below n c a i) (outcome_after a ds z)) (sym v.is) k
  whole_halts (BlockParser.below_missed d) e y = absurd (none_some e)
  whole_halts {e = suc l} {f = v} {ws = ws} (BlockParser.sequence_read {p = p} {n = n} {c = c} {cols = cols} {a = a} {f = f} q d r) e y =
      let h = whole_halts r refl (moved_allowed v.end f.end (collected_end a true p f e) y) in
      subst (λ z. Halts t (suc l) ws (Inline n c cols a p) z) (then_is (collected a true p) f) (Halting.halts_sequence q d h)
  whole_halts (BlockParser.sequence_missed q d r) e y = absurd (none_some e)
  whole_halts (BlockParser.sequence_too_deep q d) e y = absurd (none_some e)
  whole_halts {e = suc l} {f = v} {ws = ws} (BlockParser.mapping_read {p = p} {n = n} {c = c} {cols = cols} {a = a} {f = f} x q d r) e y =
      let h = whole_halts r refl (moved_allowed v.end f.end (collected_end a false p f e) y) in
      subst (λ z. Halts t (suc l) ws (Inline n c cols a p) z) (then_is (collected a false p) f) (Halting.halts_mapping x q d h)
  whole_halts (BlockParser.mapping_missed n q d r) e y = absurd (none_some e)
  whole_halts (BlockParser.mapping_too_deep n q d) e y = absurd (none_some e)
  whole_halts (BlockParser.properties_below n p d j r) e y = Halting.halts_properties_below n p d j (whole_halts r e y)
  whole_halts (BlockParser.properties_leaf n q p d m l w j r) e y = Halting.halts_properties_leaf n q p d m l w j (whole_halts r e y)
  whole_halts (BlockParser.properties_alone_missed n q p d w) e y = absurd (none_some e)
  whole_halts (BlockParser.properties_apart_below n p d a) e y = absurd (none_some e)
  whole_halts (BlockParser.properties_apart n q p d a) e y = absurd (none_some e)
  whole_halts (BlockParser.leaf_there n q p r) e y = Halting.halts_leaf n q p (whole_halts r e y)
  whole_halts {f = f} (BlockParser.scalar_read {j = j} {a = a} {x = x} d) e y = Halting.halts_scalar (scalar_chosen d (moved_allowed f.end j (leaf_end a j 0 x [] e) y))
  whole_halts {f = v} (BlockParser.leaf_read {j = j} {a = a} {ds = ds} {f = f} s m r d) e y =
      leaf_halts s m r d (moved_allowed v.end j (leaf_end a j f.height f.meaning ds e) y)
  whole_halts (BlockParser.leaf_unended s m r d) e y = absurd (none_some e)
  whole_halts (BlockParser.leaf_missed s m r) e y = absurd (none_some e)
  whole_halts (BlockParser.leaf_refused s m) e y = absurd (none_some e)
  whole_halts (BlockParser.items_missed r) e y = absurd (none_some e)
  whole_halts (BlockParser.items_last r n) e y = Halting.halts_item r (not_after (λ x. n.no_next x)) (whole_halts r e y)
  whole_halts (BlockParser.items_deeper r n) e y = absurd (none_some e)
  whole_halts {f = v} (BlockParser.items_then {f = f} {g = g} r n s) e y =
      Halting.halts_items r n (whole_halts s refl (moved_allowed v.end g.end (items_end f g e) y))
  whole_halts (BlockParser.items_then_missed r n s) e y = absurd (none_some e)
  whole_halts {e = l} {f = v} {ws = ws} (BlockParser.item_read {m = m} {i = i} {q = q} {f = f} d r) e y =
      let h = whole_halts r refl (moved_allowed v.end f.end (item_end i f e) y) in
      subst (λ z. Halts t l ws (Item true m q i) z) (then_is (item_found i) f) (Halting.halts_dash d h)
  whole_halts (BlockParser.item_missed d r) e y = absurd (none_some e)
  whole_halts (BlockParser.item_undashed d) e y = absurd (none_some e)
  whole_halts (BlockParser.question_missed s r) e y = absurd (none_some e)
  whole_halts {e = l} {f = v} {ws = ws} (BlockParser.question_alone {m = m} {i = i} {q = q} {f = f} s r n) e y =
      let h = whole_halts r refl (one_open n (moved_allowed v.end f.end (lone_key_end i f e) y)) in
      subst (λ z. Halts t l ws (Item false m q i) z) (then_is (lone_key i) f) (Halting.halts_question s r (not_after n) h)
  whole_halts {f = v} (BlockParser.question_and_value {m = m} {i = i} {f = f} {g = g} s r c x) e y =
      Halting.halts_value s r c (whole_halts x refl (moved_allowed v.end g.end (pair_end i (f.end + m) f g e) y))
  whole_halts (BlockParser.question_value_missed s r c v) e y = absurd (none_some e)
  whole_halts {e = l} {f = v} {ws = ws} (BlockParser.colon_read {m = m} {i = i} {q = q} {f = f} s r) e y =
      let h = whole_halts r refl (moved_allowed v.end f.end (lone_value_end i f e) y) in
      subst (λ z. Halts t l ws (Item false m q i) z) (then_is (lone_value i) f) (Halting.halts_colon s h)
  whole_halts (BlockParser.colon_missed s r) e y = absurd (none_some e)
  whole_halts {e = l} {f = v} {ws = ws} (BlockParser.key_read {m = m} {i = i} {k = k} {q = q} {f = f} {g = g} a b p x d r) e y =
      let h = whole_halts r refl (moved_allowed v.end g.end (pair_end i k f g e) y) in
      subst (λ z. Halts t l ws (Item false m q i) z) (then_is (pair_found i k f) g) (Halting.halts_key a b p x d h)
  whole_halts (BlockParser.key_value_missed a b p l d r) e y = absurd (none_some e)
  whole_halts (BlockParser.no_key a b k) e y = absurd (none_some e)
  whole_halts (BlockParser.key_too_deep a b p l d) e y = absurd (none_some e)
