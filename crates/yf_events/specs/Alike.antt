-- Two trees that differ only in the offsets of their nodes: a node has a span in both or in neither.
use Rattle.std.specs.Prelude.{◌≡◌, ℕ, Bool, is_some, List}
use Rattle.yf_props.specs.Props.{PropsValue}
use Rattle.yf_events.specs.declared.event.ScalarStyle.{ScalarStyle}
use Rattle.yf_events.specs.Tree.{NodeOffsets, Node, scalar, alias, sequence, mapping, Items, no_items, item, Pairs, no_pairs, pair}

mutual
  -- K relates a key with its value in one tree to those in the other
  pub data Alike (K : Node → Node → Node → Node → Type 0) : Node → Node → Type 0 where
    alike_scalars : {at bt : NodeOffsets} {props : PropsValue} {style : ScalarStyle} {text : List ℕ} {lines : List (List ℕ)}
        → is_some at.span ≡ is_some bt.span → Alike K (scalar at props style text lines) (scalar bt props style text lines)
    alike_aliases : {at bt : NodeOffsets} {name : List ℕ} → is_some at.span ≡ is_some bt.span → Alike K (alias at name) (alias bt name)
    alike_sequences : {at bt : NodeOffsets} {flow : Bool} {props : PropsValue} {xs ys : Items} → is_some at.span ≡ is_some bt.span
        → AlikeItems K xs ys → Alike K (sequence at flow props xs) (sequence bt flow props ys)
    alike_mappings : {at bt : NodeOffsets} {flow : Bool} {props : PropsValue} {ps qs : Pairs} → is_some at.span ≡ is_some bt.span
        → AlikePairs K ps qs → Alike K (mapping at flow props ps) (mapping bt flow props qs)

  pub data AlikeItems (K : Node → Node → Node → Node → Type 0) : Items → Items → Type 0 where
    alike_nothing : AlikeItems K no_items no_items
    alike_item : {x y : Node} {xs ys : Items} → Alike K x y → AlikeItems K xs ys → AlikeItems K (item x xs) (item y ys)

  pub data AlikePairs (K : Node → Node → Node → Node → Type 0) : Pairs → Pairs → Type 0 where
    alike_no_pairs : AlikePairs K no_pairs no_pairs
    alike_pair : {k l v w : Node} {ps qs : Pairs} → Alike K k l → Alike K v w → K k v l w → AlikePairs K ps qs
        → AlikePairs K (pair k v ps) (pair l w qs)
