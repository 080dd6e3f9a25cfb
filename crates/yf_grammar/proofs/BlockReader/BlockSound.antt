-- Whole outcomes of the reader of block nodes are derived, and open no more collections than the limit.
use Rattle.std.proofs.Common.{◌≡◌, ℕ, ◌≤◌, ℤ, pos, ◌+ℤ◌, Bool, true, false, List, ◌++◌, Option, Some, None, refl, sym, ap, ◌∙◌, subst, arith, true≢false}
use Rattle.yf_chars.specs.declared.context.Ctx.{Ctx}
use Rattle.yf_chars.specs.declared.context.Ctx.TheVariants.{FlowOut}
use Rattle.yf_chars.specs.Text.{code}
use Rattle.yf_chars.proofs.Tests.{none_some}
use Rattle.yf_lines.specs.Basic.{is_block}
use Rattle.yf_comments.specs.Comment.{CommentValue}
use Rattle.yf_comments.specs.Comments.{LineEnd, Separate}
use Rattle.yf_props.specs.Names.{Properties, PropertiesValue}
use Rattle.yf_grammar.specs.Productions.BlockScalar.{BlockScalar}
use Rattle.yf_grammar.specs.Productions.Meaning.{Meaning, meaning_after, noting, with_props, empty_node}
use Rattle.yf_grammar.specs.Productions.Grammar.{NodeOf, BlockNode, BlockIndented, Derives}
use Rattle.yf_grammar.specs.Productions.Grammar.Derives.{flow_node, an_alias, a_plain, a_plain_with, properties_alone, a_json, a_json_with, a_block_scalar, a_block_scalar_with, flow_in_block}
use Rattle.yf_grammar.specs.FlowReader.Parser.{ParsedNode, found, begins_properties, begins_alias}
use Rattle.yf_grammar.specs.BlockReader.BlockParser.{Columns, PropertiesHeld, Ahead, Nothing, Indicator, Props, headed, outcome_after, alone, with_comments, Clash, Joins, first_held, more_held, MayLeaf}
use Rattle.yf_grammar.proofs.Ends.NodeExits.{alias_begins}
use Rattle.yf_grammar.proofs.FlowReader.ParserLemmas.{moved}
use Rattle.yf_grammar.proofs.FlowReader.PropertiesEnds.{properties_begin}
use Rattle.yf_grammar.proofs.BlockOutcomes.BlockClaims.{Unheld, nothing_ahead, indicator_ahead}
use Rattle.yf_grammar.proofs.BlockOutcomes.BlockGaps.{block_no_key}
use Rattle.yf_grammar.proofs.BlockContent.FlowReading.{noting_with}
use Rattle.yf_grammar.proofs.BlockOutcomes.OutcomeMade.{headed_unheld}
use Rattle.yf_grammar.proofs.BlockOutcomes.OutcomeEnds.{alone_indicator}
use Rattle.yf_grammar.proofs.BlockContent.PropertiedNodes.{three_after, any_context}
use Rattle.yf_grammar.proofs.BlockContent.PropertiesWalk.{HeldAs}
use Rattle.yf_grammar.proofs.BlockReader.SoundSteps.{Parts, parts_of, Sits, InlineAhead, any_properties}
use Rattle.yf_grammar.proofs.FlowStack.AwaitEntries.{found_is}

-- the node, the compact collection, or nothing, at an awaited node
pub data NodeAhead (t : List ℕ) (b : Bool) (n : ℤ) (c : Ctx) (a : Ahead) (i h j : ℕ) (y : Meaning) : Type 0 where
  as_node : Derives t h (BlockNode n c) i j y → NodeAhead t b n c a i h j y
  as_compact : {m : ℕ} → n ≡ pos m → b ≡ true → Derives t h (BlockIndented m c) i j y → NodeAhead t b n c a i h j y
  as_nothing : {k : ℕ} {ds : List CommentValue} → a ≡ Indicator k → LineEnd t i j ds → h ≡ 0 → y ≡ noting (empty_node k) ds → NodeAhead t b n c a i h j y

-- properties after a separation
pub record HeldFrom (t : List ℕ) (n : ℤ) (c : Ctx) (s : ℕ) (cs : List CommentValue) (v : PropertiesHeld) : Type 0 where
  pub separate : Separate t (n +ℤ pos 1) c s v.start cs
  pub properties : Properties t (n +ℤ pos 1) c v.start v.end v.value

pub record BelowSound (t : List ℕ) (e : ℕ) (n : ℤ) (c : Ctx) (a : Ahead) (i : ℕ) (f : ParsedNode) : Type 0 where
  pub within : f.height ≤ e
  pub free : Unheld a → NodeAhead t false n c a i f.height f.end f.meaning
  pub after : (v : PropertiesHeld) → a ≡ Props v → v.end ≡ i → (s : ℕ) (cs : List CommentValue) → HeldFrom t n c s cs v → Derives t f.height (BlockNode n c) s f.end (meaning_after cs f.meaning)

pub record InlineSound (t : List ℕ) (e : ℕ) (n : ℤ) (c : Ctx) (cols : Columns) (a : Ahead) (p : ℕ) (f : ParsedNode) : Type 0 where
  pub within : f.height ≤ e
  pub free : Unheld a → (b : Bool) (i : ℕ) (cs : List CommentValue) → Sits t b n c i p cols cs → InlineAhead t b n c i f.height f.end cs f.meaning
  pub after : (w : PropertiesHeld) (ds : List CommentValue) → a ≡ Props (with_comments w ds) → (s : ℕ) (cs : List CommentValue) → HeldFrom t n c s cs w → Sits t false n c w.end p cols ds
      → Derives t f.height (BlockNode n c) s f.end (meaning_after cs f.meaning)

pub data LeafSound (t : List ℕ) (e : ℕ) (n : ℤ) (a : Ahead) (p : ℕ) (f : ParsedNode) : Type 0 where
  leaf_of_scalar : {x : Meaning} → BlockScalar t n p f.end x → f.height ≡ 0 → f.meaning ≡ headed a x → LeafSound t e n a p f
  leaf_of_node : {l : ℕ} {json : Bool} {x : Meaning} {ds : List CommentValue} → Derives t f.height (NodeOf json (n +ℤ pos 1) FlowOut) p l x → f.height ≤ e → LineEnd t l f.end ds
      → f.meaning ≡ headed a (noting x ds) → MayLeaf t a p → LeafSound t e n a p f

pub leaf_within : {t : List ℕ} {e : ℕ} {n : ℤ} {a : Ahead} {p : ℕ} {f : ParsedNode} → LeafSound t e n a p f → f.height ≤ e
leaf_within (leaf_of_scalar d h m) = omega arith
leaf_within (leaf_of_node d l g m y) = l

pub unheld_not : {Q : Type 0} {a : Ahead} {v : PropertiesHeld} → Unheld a → a ≡ Props v → Q
unheld_not {Q} {v = v} nothing_ahead e = absurd (differ e) where
  differ : Nothing ≡ Props v → ⊥
  differ e = cc
unheld_not {Q} {v = v} indicator_ahead e = absurd (differ e) where
  differ : {i : ℕ} → Indicator i ≡ Props v → ⊥
  differ e = cc

module _ {t : List ℕ} where
  node_with : {p h k l s f' : ℕ} {n : ℤ} {json : Bool} {c : Ctx} {q : PropertiesValue} {x : Meaning} {cs ds es : List CommentValue} {j : ℕ} → is_block c ≡ true → begins_properties (code t p) ≡ false
      → (begins_alias (code t p) ≡ true → ⊥) → Separate t (n +ℤ pos 1) c s f' cs → Properties t (n +ℤ pos 1) c f' k q → Separate t (n +ℤ pos 1) c k p ds
      → Derives t h (NodeOf json (n +ℤ pos 1) FlowOut) p l x → LineEnd t l j es
      → Derives t h (BlockNode n c) s j (meaning_after cs (noting (meaning_after (q.comments ++ ds) (with_props q.props q.tag_offset f' k x)) es))
  node_with b np na s o v (an_alias i y) g = absurd (na (alias_begins y))
  node_with {c = c} b np na s o v (a_plain y) g =
      let key = block_no_key c b in
      flow_in_block b (any_context c FlowOut key refl s) (flow_node (a_plain_with (any_properties c FlowOut key refl o) (any_context c FlowOut key refl v) y)) g
  node_with b np na s o v (a_plain_with y z w) g = absurd (true≢false (sym (properties_begin y) ∙ np))
  node_with b np na s o v (properties_alone i y) g = absurd (true≢false (sym (properties_begin y) ∙ np))
  node_with {c = c} b np na s o v (a_json y) g =
      let key = block_no_key c b in
      flow_in_block b (any_context c FlowOut key refl s) (flow_node (a_json_with (any_properties c FlowOut key refl o) (any_context c FlowOut key refl v) y)) g
  node_with b np na s o v (a_json_with y z w) g = absurd (true≢false (sym (properties_begin y) ∙ np))

module _ {t : List ℕ} {e : ℕ} {n : ℤ} {a : Ahead} {p : ℕ} {f : ParsedNode} where
  -- a leaf without held properties
  pub leaf_free : {c : Ctx} {i : ℕ} {cs : List CommentValue} → is_block c ≡ true → Unheld a → Separate t (n +ℤ pos 1) c i p cs → LeafSound t e n a p f
      → Derives t f.height (BlockNode n c) i f.end (meaning_after cs f.meaning)
  leaf_free {c} {i} {cs} b y s (leaf_of_scalar {x = x} d h m) =
      moved (sym h) refl (ap (meaning_after cs) (sym (m ∙ headed_unheld x y))) (a_block_scalar b s d)
  leaf_free {c} {i} {cs} b y s (leaf_of_node {x = x} {ds = ds} d l g m w) =
      moved refl refl (ap (meaning_after cs) (sym (m ∙ headed_unheld (noting x ds) y))) (flow_in_block b (any_context c FlowOut (block_no_key c b) refl s) (flow_node d) g)

  -- a leaf with properties
  pub leaf_held : {c : Ctx} {s : ℕ} {cs ds : List CommentValue} {w v : PropertiesHeld} → is_block c ≡ true → a ≡ Props v → HeldAs v w.value ds w.start w.end → HeldFrom t n c s cs w
      → Separate t (n +ℤ pos 1) c w.end p ds → LeafSound t e n a p f → Derives t f.height (BlockNode n c) s f.end (meaning_after cs f.meaning)
  leaf_held {c} {s} {cs} {ds} {w} {v} b q o z y (leaf_of_scalar {x = x} d h m) =
      let q' = w.value in
      let mean : f.meaning ≡ meaning_after (q'.comments ++ ds) (with_props q'.props q'.tag_offset w.start w.end x) = m ∙ ap (λ g. headed g x) q ∙ o.is x in
      moved (sym h) refl (sym (three_after cs q'.comments ds (with_props q'.props q'.tag_offset w.start w.end x)) ∙ ap (meaning_after cs) (sym mean))
      (a_block_scalar_with b z.separate z.properties y d)
  leaf_held {c} {s} {cs} {ds} {w} {v} b q o z y (leaf_of_node {x = x} {ds = es} d l g m i) =
      let q' = w.value in
      let mean : f.meaning ≡ noting (meaning_after (q'.comments ++ ds) (with_props q'.props q'.tag_offset w.start w.end x)) es =
      m ∙ ap (λ g. headed g (noting x es)) q ∙ o.is (noting x es) ∙ sym (noting_with (q'.comments ++ ds) es q'.props q'.tag_offset w.start w.end x) in
      moved refl refl (ap (meaning_after cs) (sym mean)) (node_with b i.no_props (λ r. true≢false (sym r ∙ i.no_alias q)) z.separate z.properties y d g)

-- only the `Ahead`
alone_props : (v : PropertiesHeld) (k : ℕ) (ds : List CommentValue) → alone (Props v) k ds ≡ found k 0 false (noting (meaning_after v.value.comments (with_props v.value.props v.value.tag_offset v.start v.end (empty_node v.end))) ds)
unfolding alone headed
alone_props v k ds = refl

pub alone_nothing : (k : ℕ) (ds : List CommentValue) → alone Nothing k ds ≡ None
unfolding alone
alone_nothing k ds = refl

props_one : {v w : PropertiesHeld} → Props v ≡ Props w → v ≡ w
props_one e = cc

indicator_not : {Q : Type 0} {i : ℕ} {w : PropertiesHeld} → Indicator i ≡ Props w → Q
indicator_not e = absurd (differ e) where
  differ : {i : ℕ} {w : PropertiesHeld} → Indicator i ≡ Props w → ⊥
  differ e = cc

props_not : {Q : Type 0} {v : PropertiesHeld} → Unheld (Props v) → Q
props_not {Q} {v} y = unheld_not y refl

module _ {t : List ℕ} {e : ℕ} {n : ℤ} {c : Ctx} where
  pub alone_sound : {i k : ℕ} {ds : List CommentValue} {f : ParsedNode} (a : Ahead) → is_block c ≡ true → LineEnd t i k ds → alone a k ds ≡ Some f → BelowSound t e n c a i f
  alone_sound {k = k} {ds = ds} Nothing b d q = absurd (none_some (sym (alone_nothing k ds) ∙ q))
  alone_sound {i} {k} {ds} {f} (Indicator z) b d q =
      let w = parts_of k 0 false (noting (empty_node z) ds) (alone_indicator z k ds) q in
      let h = w.height in record {
        within = omega arith;
        free = λ y. as_nothing refl (subst (λ v. LineEnd t i v ds) (sym w.end) d) w.height w.meaning;
        after = λ v x. indicator_not x;
      }
  alone_sound {i} {k} {ds} {f} (Props v) b d q =
      let m = meaning_after v.value.comments (with_props v.value.props v.value.tag_offset v.start v.end (empty_node v.end)) in
      let w = parts_of k 0 false (noting m ds) (alone_props v k ds) q in
      let h = w.height in record {
        within = omega arith;
        free = λ y. props_not y;
        after = λ z x y s cs g. made w (props_one x) y s cs g;
      }
    where
      made : Parts f k 0 (noting (meaning_after v.value.comments (with_props v.value.props v.value.tag_offset v.start v.end (empty_node v.end))) ds) → {z : PropertiesHeld} → v ≡ z → z.end ≡ i → (s : ℕ) (cs : List CommentValue)
          → HeldFrom t n c s cs z → Derives t f.height (BlockNode n c) s f.end (meaning_after cs f.meaning)
      made w x y s cs g' =
          let g : HeldFrom t n c s cs v = subst (λ u. HeldFrom t n c s cs u) (sym x) g' in
          let key = block_no_key c b in
          let at : v.end ≡ i = ap (λ u. u.end) x ∙ y in
          moved (sym w.height) (sym w.end) (ap (meaning_after cs) (sym w.meaning))
          (flow_in_block b (any_context c FlowOut key refl g.separate) (flow_node (properties_alone refl (any_properties c FlowOut key refl g.properties))) (subst (λ u. LineEnd t u k ds) (sym at) d))

-- the claim about an outcome
pub data ToldOf (a : Ahead) (ds : List CommentValue) (o : Option ParsedNode) (f : ParsedNode) : Type 0 where
  told_free : {g : ParsedNode} → Unheld a → o ≡ Some g → Parts f g.end g.height (meaning_after ds g.meaning) → ToldOf a ds o f
  told_after : {v : PropertiesHeld} → a ≡ Props v → o ≡ Some f → ToldOf a ds o f

pub told_is_of : {f : ParsedNode} (a : Ahead) (ds : List CommentValue) (o : Option ParsedNode) → outcome_after a ds o ≡ Some f → ToldOf a ds o f
unfolding outcome_after
told_is_of a ds None e = absurd (none_some e)
told_is_of Nothing ds (Some g) e = told_free nothing_ahead refl (parts_of g.end g.height g.json (meaning_after ds g.meaning) (sym (found_is g.end g.height g.json (meaning_after ds g.meaning))) e)
told_is_of (Indicator i) ds (Some g) e = told_free indicator_ahead refl (parts_of g.end g.height g.json (meaning_after ds g.meaning) (sym (found_is g.end g.height g.json (meaning_after ds g.meaning))) e)
told_is_of (Props v) ds (Some g) e = told_after refl e

pub no_clash : {v : PropertiesHeld} {q : PropertiesValue} {p g : ℕ} {z : Ahead} → Joins (Props v) q p g z → Clash v q → ⊥
no_clash {v} (first_held f) k = f v refl
no_clash {v} {q} (more_held {h = h} e n) k = n (subst (λ w. Clash w q) (props_one e) k)
