-- In a tree that is in a text a leaf has a span if and only if it has characters.
use Rattle.std.proofs.Common.{◌≡◌, ℕ, ◌<◌, Bool, true, false, not, List, [], ◌∷◌, ◌++◌, length, Option, Some, refl, sym, ap, true≢false, arith}
use Rattle.std.proofs.lemmas.Bool.{and_from}
use Rattle.std.specs.Prelude.{is_some}
use Rattle.yf_props.specs.Props.{PropsValue, TagValue}
use Rattle.yf_events.specs.declared.event.ScalarStyle.{ScalarStyle}
use Rattle.yf_events.specs.declared.event.ScalarStyle.TheVariants.{Plain, Single, Double, Literal, Folded}
use Rattle.yf_events.specs.declared.event.Span.{Span}
use Rattle.yf_events.specs.Tree.{Node, Items, Pairs}
use Rattle.yf_grammar.specs.Productions.Meaning.{from_to}
use Rattle.yf_grammar.proofs.NodesInText.NodePlaces.{HasText, verbatim_text, short_text, non_specific_text, HasProps, has_tag, has_anchor, HasCharacters, by_props, by_text, by_style, NodeIsAt, is_at_nowhere, scalar_is_at, alias_is_at, sequence_is_at, mapping_is_at, ItemsStand, no_items_stand, item_is_at, PairsStand, no_pairs_stand, pair_is_at}
use Rattle.yf_forms.specs.NormalForms.Forms.{agree, is_empty_node, is_nothing, is_placed, items_are_placed, pairs_are_placed}
use Rattle.yf_forms.specs.Nodes.OneLine.{tag_text, props_text, spaced}

-- a scalar with characters is not an empty node

front_some : (b : ℕ) (x y : List ℕ) → is_nothing (spaced (b ∷ x) y) ≡ false
front_some b x [] = refl
front_some b x (c ∷ y) = refl

back_some : (x y : List ℕ) → is_nothing y ≡ false → is_nothing (spaced x y) ≡ false
back_some [] y e = e
back_some (b ∷ x) y e = front_some b x y

longer_some : (x y : List ℕ) → 0 < length x → is_nothing (x ++ y) ≡ false
longer_some [] y l = absurd (omega arith)
longer_some (b ∷ x) y l = refl

tag_some : {tag : TagValue} → HasText tag → is_nothing (tag_text (Some tag)) ≡ false
tag_some verbatim_text = refl
tag_some (short_text {handle = handle} {suffix = suffix} l) = longer_some handle suffix l
tag_some non_specific_text = refl

props_some : {props : PropsValue} → HasProps props → is_nothing (props_text props) ≡ false
props_some (has_tag h) = back_some _ _ (tag_some h)
props_some (has_anchor {name = name}) = front_some 38 name _

plain_full : (props : PropsValue) (text : List ℕ) → is_nothing (props_text props) ≡ false → is_empty_node props Plain text ≡ false
plain_full props [] e = e
plain_full props (b ∷ text) e = refl

text_full : (props : PropsValue) (text : List ℕ) → 0 < length text → is_empty_node props Plain text ≡ false
text_full props [] l = absurd (omega arith)
text_full props (b ∷ text) l = refl

full : (props : PropsValue) (style : ScalarStyle) (text : List ℕ) → HasCharacters props style text → is_empty_node props style text ≡ false
full props Plain text (by_props h) = plain_full props text (props_some h)
full props Plain text (by_text l) = text_full props text l
full props Plain text (by_style n) = absurd (n refl)
full props Single text h = refl
full props Double text h = refl
full props Literal text h = refl
full props Folded text h = refl

agree_some : (x b : Bool) → x ≡ true → b ≡ false → agree x (not b) ≡ true
agree_some true false e f = refl
agree_some true true e f = absurd (true≢false f)
agree_some false b e f = absurd (true≢false (sym e))

agree_none : (x : Bool) → x ≡ false → agree x (not true) ≡ true
agree_none true e = absurd (true≢false e)
agree_none false e = refl

some_span : (o : Option Span) (a b : ℕ) → o ≡ from_to a b → is_some o ≡ true
unfolding from_to
some_span o a b e = ap is_some e

mutual
  pub node_placed : {t : List ℕ} {i j : ℕ} {x : Node} → NodeIsAt t i j x → is_placed x ≡ true
  node_placed (is_at_nowhere m e) = agree_none _ (ap is_some e)
  node_placed (scalar_is_at {props = props} {style = style} {text = text} e b l m w s) =
      agree_some _ _ (some_span _ _ _ e) (full props style text w)
  node_placed (alias_is_at e b l m s) = some_span _ _ _ e
  node_placed (sequence_is_at e b (no_items_stand l) m s) = some_span _ _ _ e
  node_placed (sequence_is_at e b (item_is_at f q l a c) m s) = and_from _ _ (node_placed a) (items_placed c)
  node_placed (mapping_is_at e b (no_pairs_stand l) m s) = some_span _ _ _ e
  node_placed (mapping_is_at e b (pair_is_at f q l a c d g) m s) = and_from _ _ (node_placed a) (and_from _ _ (node_placed d) (pairs_placed g))

  items_placed : {t : List ℕ} {i j : ℕ} {xs : Items} → ItemsStand t i j xs → items_are_placed xs ≡ true
  items_placed (no_items_stand l) = refl
  items_placed (item_is_at f q l a c) = and_from _ _ (node_placed a) (items_placed c)

  pairs_placed : {t : List ℕ} {i j : ℕ} {ps : Pairs} → PairsStand t i j ps → pairs_are_placed ps ≡ true
  pairs_placed (no_pairs_stand l) = refl
  pairs_placed (pair_is_at f q l a c d g) = and_from _ _ (node_placed a) (and_from _ _ (node_placed d) (pairs_placed g))
