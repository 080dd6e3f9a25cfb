-- The nodes of a tree are in a text in order: each begins at a visible character and ends after it, its inner nodes are
-- between the start and the end of its content, an entry begins before its node, its `:` is between key and value, and
-- no value begins an entry.
use Rattle.std.proofs.Common.{◌≡◌, ◌≢◌, ℕ, ℤ, ◌<◌, ◌≤◌, Bool, true, List, [], length, Option, Some, None, arith}
use Rattle.yf_chars.specs.Text.{code}
use Rattle.yf_chars.specs.declared.context.Ctx.{Ctx}
use Rattle.yf_comments.specs.Comment.{CommentValue}
use Rattle.yf_comments.specs.Comments.{Separate}
use Rattle.yf_props.specs.Names.{Properties, PropertiesValue}
use Rattle.yf_props.specs.Props.{PropsValue, TagValue, no_props}
use Rattle.yf_props.specs.Props.TagValue.{IsVerbatim, IsShort, IsNonSpecific}
use Rattle.yf_events.specs.Event.{scalar_node, alias_node}
use Rattle.yf_events.specs.declared.event.Entry.{Entry}
use Rattle.yf_events.specs.declared.event.ScalarStyle.{ScalarStyle}
use Rattle.yf_events.specs.declared.event.ScalarStyle.TheVariants.{Plain}
use Rattle.yf_events.specs.Tree.{NodeOffsets, Node, scalar as scalar_tree, alias as alias_tree, sequence, mapping, Items, no_items, item, Pairs, no_pairs, pair, standing}
use Rattle.yf_grammar.specs.Productions.Meaning.{from_to}
use Rattle.yf_grammar.specs.FlowReader.Parser.{begins_content}
use Rattle.yf_grammar.specs.Productions.SpellableTexts.{IsSpelled}
use Rattle.yf_grammar.proofs.Ends.GapLemmas.{Visible}

-- a tag with at least one written character
pub data HasText : TagValue → Type 0 where
  verbatim_text : {text : List ℕ} → HasText (IsVerbatim text)
  short_text : {handle suffix : List ℕ} → 0 < length handle → HasText (IsShort handle suffix)
  non_specific_text : HasText IsNonSpecific

-- with a tag or an anchor
pub data HasProps : PropsValue → Type 0 where
  has_tag : {anchor : Option (List ℕ)} {tag : TagValue} → HasText tag → HasProps (record { anchor = anchor; tag = Some tag })
  has_anchor : {name : List ℕ} {tag : Option TagValue} → HasProps (record { anchor = Some name; tag = tag })

-- a scalar that is no empty node
pub data HasCharacters : PropsValue → ScalarStyle → List ℕ → Type 0 where
  by_props : {props : PropsValue} {style : ScalarStyle} {text : List ℕ} → HasProps props → HasCharacters props style text
  by_text : {props : PropsValue} {style : ScalarStyle} {text : List ℕ} → 0 < length text → HasCharacters props style text
  by_style : {props : PropsValue} {style : ScalarStyle} {text : List ℕ} → style ≢ Plain → HasCharacters props style text

-- a node begins at an offset or after it, with a visible character
pub record Begins (t : List ℕ) (i a : ℕ) : Type 0 where
  pub order : i ≤ a
  pub visible : Visible t a

-- the content of a node with properties begins after them and a separation, and with no sign of properties or comments
pub data ContentFrom (t : List ℕ) : PropsValue → ℕ → ℕ → Type 0 where
  content_alone : {a : ℕ} → ContentFrom t no_props a a
  content_after : {n : ℤ} {c : Ctx} {a g k : ℕ} {p : PropertiesValue} {cs : List CommentValue} → Properties t n c a g p → Separate t n c g k cs
      → begins_content (code t k) ≡ true → ContentFrom t p.props a k

-- a collection begins at a, its entries are from k on, and it ends at b, after k; the content of a flow collection
-- begins at k
pub record Opens (t : List ℕ) (flow : Bool) (props : PropsValue) (i a k b : ℕ) : Type 0 where
  pub order : i ≤ a
  pub visible : Visible t a
  pub inner : a ≤ k
  pub wide : k < b
  pub content : flow ≡ true → ContentFrom t props a k

-- a key begins an entry, and its value begins none
pub record Entered (k v : Node) (e : Entry) : Type 0 where
  pub key : (standing k).entry ≡ Some e
  pub value : (standing v).entry ≡ None

-- a `:` that may be missing
pub data ColonIsAt (t : List ℕ) : ℕ → ℕ → Option ℕ → Type 0 where
  no_colon : {i j : ℕ} → i ≤ j → ColonIsAt t i j None
  a_colon : {i j k : ℕ} → i ≤ k → code t k ≡ 58 → k ≤ j → ColonIsAt t i j (Some k)

mutual
  pub data NodeIsAt (t : List ℕ) : ℕ → ℕ → Node → Type 0 where
    is_at_nowhere : {i j : ℕ} {at : NodeOffsets} → i ≤ j → at.span ≡ None → NodeIsAt t i j (scalar_tree at no_props Plain [] [])
    scalar_is_at : {i a b j : ℕ} {at : NodeOffsets} {props : PropsValue} {style : ScalarStyle} {text : List ℕ} {lines : List (List ℕ)}
        → at.span ≡ from_to a b → Begins t i a → a < b → b ≤ j → HasCharacters props style text
        → IsSpelled (scalar_node props style text) lines → NodeIsAt t i j (scalar_tree at props style text lines)
    alias_is_at : {i a b j : ℕ} {at : NodeOffsets} {name : List ℕ} → at.span ≡ from_to a b → Begins t i a → a < b → b ≤ j
        → IsSpelled (alias_node name) [] → NodeIsAt t i j (alias_tree at name)
    sequence_is_at : {i a k b j : ℕ} {at : NodeOffsets} {flow : Bool} {props : PropsValue} {xs : Items} → at.span ≡ from_to a b → Opens t flow props i a k b
        → ItemsStand t k b xs → b ≤ j → IsSpelled (scalar_node props Plain []) [] → NodeIsAt t i j (sequence at flow props xs)
    mapping_is_at : {i a k b j : ℕ} {at : NodeOffsets} {flow : Bool} {props : PropsValue} {ps : Pairs} → at.span ≡ from_to a b → Opens t flow props i a k b
        → PairsStand t k b ps → b ≤ j → IsSpelled (scalar_node props Plain []) [] → NodeIsAt t i j (mapping at flow props ps)

  pub data ItemsStand (t : List ℕ) : ℕ → ℕ → Items → Type 0 where
    no_items_stand : {i j : ℕ} → i ≤ j → ItemsStand t i j no_items
    item_is_at : {i k j : ℕ} {x : Node} {xs : Items} (e : Entry) → (standing x).entry ≡ Some e → Begins t i e.start → NodeIsAt t e.start k x
        → ItemsStand t k j xs → ItemsStand t i j (item x xs)

  pub data PairsStand (t : List ℕ) : ℕ → ℕ → Pairs → Type 0 where
    no_pairs_stand : {i j : ℕ} → i ≤ j → PairsStand t i j no_pairs
    pair_is_at : {i l m n j : ℕ} {k v : Node} {ps : Pairs} (e : Entry) → Entered k v e → Begins t i e.start
        → NodeIsAt t e.start l k → ColonIsAt t l m e.colon → NodeIsAt t m n v → PairsStand t n j ps → PairsStand t i j (pair k v ps)

pub colon_order : {t : List ℕ} {i j : ℕ} {c : Option ℕ} → ColonIsAt t i j c → i ≤ j
colon_order (no_colon l) = l
colon_order (a_colon l e m) = omega arith

-- Wider bounds.

module _ {t : List ℕ} where
  begins_after : {h i a : ℕ} → h ≤ i → Begins t i a → Begins t h a
  begins_after l b = record { order = omega (arith, b.order); visible = b.visible }

  opens_after : {h i a k b : ℕ} {flow : Bool} {props : PropsValue} → h ≤ i → Opens t flow props i a k b → Opens t flow props h a k b
  opens_after l o = record { order = omega (arith, o.order); visible = o.visible; inner = o.inner; wide = o.wide; content = o.content }

  pub node_after : {h i j : ℕ} {x : Node} → h ≤ i → NodeIsAt t i j x → NodeIsAt t h j x
  node_after l (is_at_nowhere m e) = is_at_nowhere (omega arith) e
  node_after l (scalar_is_at e b m n w s) = scalar_is_at e (begins_after l b) m n w s
  node_after l (alias_is_at e b m n s) = alias_is_at e (begins_after l b) m n s
  node_after l (sequence_is_at e b m n s) = sequence_is_at e (opens_after l b) m n s
  node_after l (mapping_is_at e b m n s) = mapping_is_at e (opens_after l b) m n s

  pub node_upto : {i j k : ℕ} {x : Node} → NodeIsAt t i j x → j ≤ k → NodeIsAt t i k x
  node_upto (is_at_nowhere m e) l = is_at_nowhere (omega arith) e
  node_upto (scalar_is_at e b m n w s) l = scalar_is_at e b m (omega arith) w s
  node_upto (alias_is_at e b m n s) l = alias_is_at e b m (omega arith) s
  node_upto (sequence_is_at e b m n s) l = sequence_is_at e b m (omega arith) s
  node_upto (mapping_is_at e b m n s) l = mapping_is_at e b m (omega arith) s

  pub items_after : {h i j : ℕ} {xs : Items} → h ≤ i → ItemsStand t i j xs → ItemsStand t h j xs
  items_after l (no_items_stand m) = no_items_stand (omega arith)
  items_after l (item_is_at e q m a b) = item_is_at e q (begins_after l m) a b

  pub items_upto : {i j k : ℕ} {xs : Items} → ItemsStand t i j xs → j ≤ k → ItemsStand t i k xs
  items_upto (no_items_stand m) l = no_items_stand (omega arith)
  items_upto (item_is_at e q m a b) l = item_is_at e q m a (items_upto b l)

  pub pairs_after : {h i j : ℕ} {ps : Pairs} → h ≤ i → PairsStand t i j ps → PairsStand t h j ps
  pairs_after l (no_pairs_stand m) = no_pairs_stand (omega arith)
  pairs_after l (pair_is_at e q m a c b d) = pair_is_at e q (begins_after l m) a c b d

  pub pairs_upto : {i j k : ℕ} {ps : Pairs} → PairsStand t i j ps → j ≤ k → PairsStand t i k ps
  pairs_upto (no_pairs_stand m) l = no_pairs_stand (omega arith)
  pairs_upto (pair_is_at e q m a c b d) l = pair_is_at e q m a c b (pairs_upto d l)

mutual
  pub node_order : {t : List ℕ} {i j : ℕ} {x : Node} → NodeIsAt t i j x → i ≤ j
  node_order (is_at_nowhere m e) = m
  node_order (scalar_is_at e b m n w s) = omega (arith, b.order)
  node_order (alias_is_at e b m n s) = omega (arith, b.order)
  node_order (sequence_is_at e b m n s) = let l = items_order m in omega (arith, b.order, b.inner)
  node_order (mapping_is_at e b m n s) = let l = pairs_order m in omega (arith, b.order, b.inner)

  pub items_order : {t : List ℕ} {i j : ℕ} {xs : Items} → ItemsStand t i j xs → i ≤ j
  items_order (no_items_stand m) = m
  items_order (item_is_at e q m a b) = let k = node_order a in let l = items_order b in omega (arith, m.order)

  pub pairs_order : {t : List ℕ} {i j : ℕ} {ps : Pairs} → PairsStand t i j ps → i ≤ j
  pairs_order (no_pairs_stand m) = m
  pairs_order (pair_is_at e q m a c b d) =
      let k = node_order a in let l = colon_order c in let n = node_order b in let o = pairs_order d in omega (arith, m.order)
