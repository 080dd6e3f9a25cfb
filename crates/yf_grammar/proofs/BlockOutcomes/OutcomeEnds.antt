-- The end and the height of each outcome of the reader of block nodes, part by part.
use Rattle.std.proofs.Common.{◌≡◌, ℕ, suc, max, Bool, false, List, Option, Some, None, refl, sym, ap, ◌∙◌}
use Rattle.yf_chars.proofs.Tests.{none_some}
use Rattle.yf_comments.specs.Comment.{CommentValue}
use Rattle.yf_grammar.specs.Productions.Meaning.{Meaning, ◌⊕◌, meaning_after, noting, empty_node, collection, entering}
use Rattle.yf_grammar.specs.FlowReader.Parser.{ParsedNode, found}
use Rattle.yf_grammar.specs.BlockReader.BlockParser.{Ahead, Nothing, Indicator, Props, headed, outcome_after, alone, collected, leaf_found, item_found, lone_key, lone_value, pair_found, items_found}
use Rattle.yf_grammar.specs.BlockReader.Halts.{then_found, with_plain}
use Rattle.yf_grammar.proofs.Ends.NodeExits.{some_found}

pub found_end : {f : ParsedNode} (j h : ℕ) (b : Bool) (x : Meaning) → found j h b x ≡ Some f → f.end ≡ j
found_end j h b x e = ap (λ g. g.end) (some_found j h b x (sym e))

pub collected_is : (a : Ahead) (s : Bool) (i : ℕ) (f : ParsedNode)
    → collected a s i f ≡ found f.end (suc f.height) false (headed a (collection s false i f.meaning.finish f.meaning))
unfolding collected
collected_is a s i f = refl

pub leaf_is : (a : Ahead) (j h : ℕ) (x : Meaning) (ds : List CommentValue) → leaf_found a j h x ds ≡ found j h false (headed a (noting x ds))
unfolding leaf_found
leaf_is a j h x ds = refl

pub with_plain_is : (a : Ahead) (j : ℕ) (x : Meaning) → with_plain a j x ≡ found j 0 false (headed a x)
unfolding with_plain
with_plain_is a j x = refl

pub item_is : (i : ℕ) (f : ParsedNode) → item_found i f ≡ found f.end f.height false (entering i None f.meaning)
unfolding item_found
item_is i f = refl

pub lone_key_is : (i : ℕ) (f : ParsedNode) → lone_key i f ≡ found f.end f.height false (entering i None f.meaning ⊕ empty_node f.meaning.finish)
unfolding lone_key
lone_key_is i f = refl

pub lone_value_is : (i : ℕ) (f : ParsedNode) → lone_value i f ≡ found f.end f.height false (entering i (Some i) (empty_node i) ⊕ f.meaning)
unfolding lone_value
lone_value_is i f = refl

pub pair_is : (i k : ℕ) (f g : ParsedNode) → pair_found i k f g ≡ found g.end (max f.height g.height) false (entering i (Some k) f.meaning ⊕ g.meaning)
unfolding pair_found
pair_is i k f g = refl

pub items_is : (f g : ParsedNode) → items_found f g ≡ found g.end (max f.height g.height) false (f.meaning ⊕ g.meaning)
unfolding items_found
items_is f g = refl

pub alone_indicator : (i k : ℕ) (ds : List CommentValue) → alone (Indicator i) k ds ≡ found k 0 false (noting (empty_node i) ds)
unfolding alone
alone_indicator i k ds = refl

-- their ends
pub collected_end : {g : ParsedNode} (a : Ahead) (s : Bool) (i : ℕ) (f : ParsedNode) → collected a s i f ≡ Some g → g.end ≡ f.end
collected_end a s i f e = found_end f.end (suc f.height) false (headed a (collection s false i f.meaning.finish f.meaning)) (sym (collected_is a s i f) ∙ e)

pub leaf_end : {g : ParsedNode} (a : Ahead) (j h : ℕ) (x : Meaning) (ds : List CommentValue) → leaf_found a j h x ds ≡ Some g → g.end ≡ j
leaf_end a j h x ds e = found_end j h false (headed a (noting x ds)) (sym (leaf_is a j h x ds) ∙ e)

pub with_plain_end : {g : ParsedNode} (a : Ahead) (j : ℕ) (x : Meaning) → with_plain a j x ≡ Some g → g.end ≡ j
with_plain_end a j x e = found_end j 0 false (headed a x) (sym (with_plain_is a j x) ∙ e)

pub item_end : {g : ParsedNode} (i : ℕ) (f : ParsedNode) → item_found i f ≡ Some g → g.end ≡ f.end
item_end i f e = found_end f.end f.height false (entering i None f.meaning) (sym (item_is i f) ∙ e)

pub lone_key_end : {g : ParsedNode} (i : ℕ) (f : ParsedNode) → lone_key i f ≡ Some g → g.end ≡ f.end
lone_key_end i f e = found_end f.end f.height false (entering i None f.meaning ⊕ empty_node f.meaning.finish) (sym (lone_key_is i f) ∙ e)

pub lone_value_end : {g : ParsedNode} (i : ℕ) (f : ParsedNode) → lone_value i f ≡ Some g → g.end ≡ f.end
lone_value_end i f e = found_end f.end f.height false (entering i (Some i) (empty_node i) ⊕ f.meaning) (sym (lone_value_is i f) ∙ e)

pub pair_end : {v : ParsedNode} (i k : ℕ) (f g : ParsedNode) → pair_found i k f g ≡ Some v → v.end ≡ g.end
pair_end i k f g e = found_end g.end (max f.height g.height) false (entering i (Some k) f.meaning ⊕ g.meaning) (sym (pair_is i k f g) ∙ e)

pub items_end : {v : ParsedNode} (f g : ParsedNode) → items_found f g ≡ Some v → v.end ≡ g.end
items_end f g e = found_end g.end (max f.height g.height) false (f.meaning ⊕ g.meaning) (sym (items_is f g) ∙ e)

pub alone_end : {g : ParsedNode} (a : Ahead) (k : ℕ) (ds : List CommentValue) → alone a k ds ≡ Some g → g.end ≡ k
unfolding alone
alone_end Nothing k ds e = absurd (none_some e)
alone_end (Indicator i) k ds e = found_end k 0 false (noting (empty_node i) ds) e
alone_end (Props h) k ds e = found_end k 0 false (noting (headed (Props h) (empty_node h.end)) ds) e

refl_found : (ds : List CommentValue) (g : ParsedNode) → found g.end g.height g.json (meaning_after ds g.meaning) ≡ Some (record g { meaning = meaning_after ds g.meaning })
unfolding found
refl_found ds g = refl

-- an outcome that is not `None` was made of one that is not `None`
pub record TellsOf (f : ParsedNode) (o : Option ParsedNode) : Type 0 where
  pub inner : ParsedNode
  pub is : o ≡ Some inner
  pub end : f.end ≡ inner.end

pub told_of : {f : ParsedNode} (a : Ahead) (ds : List CommentValue) (o : Option ParsedNode) → outcome_after a ds o ≡ Some f → TellsOf f o
unfolding outcome_after
told_of a ds None e = absurd (none_some e)
told_of {f} (Props h) ds (Some g) e = record { inner = g; is = refl; end = ap (λ w. w.end) (sym (same g e)) } where
  same : (g : ParsedNode) → Some g ≡ Some f → g ≡ f
  same g e = cc
told_of {f} Nothing ds (Some g) e = record { inner = g; is = refl; end = found_end g.end g.height g.json (meaning_after ds g.meaning) (refl_found ds g ∙ e) }
told_of {f} (Indicator i) ds (Some g) e = record { inner = g; is = refl; end = found_end g.end g.height g.json (meaning_after ds g.meaning) (refl_found ds g ∙ e) }

pub record ThenOf (f : ParsedNode → Option ParsedNode) (v : ParsedNode) (o : Option ParsedNode) : Type 0 where
  pub inner : ParsedNode
  pub is : o ≡ Some inner
  pub made : f inner ≡ Some v

pub then_of : {v : ParsedNode} (f : ParsedNode → Option ParsedNode) (o : Option ParsedNode) → then_found f o ≡ Some v → ThenOf f v o
unfolding then_found
then_of f None e = absurd (none_some e)
then_of f (Some x) e = record { inner = x; is = refl; made = e }
