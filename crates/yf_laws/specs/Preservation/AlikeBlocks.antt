-- Two trees that differ only in offsets, and in whose block mappings a comment trails an implicit key in both or in
-- neither.
use Rattle.std.specs.Prelude.{◌≡◌, false, is_some, List}
use Rattle.yf_comments.specs.Comment.{CommentValue}
use Rattle.yf_props.specs.Props.{PropsValue}
use Rattle.yf_events.specs.Alike.{Alike}
use Rattle.yf_events.specs.Tree.{NodeOffsets, Node, sequence, mapping, Items, no_items, item, Pairs, no_pairs, pair, is_block_collection}
use Rattle.yf_grammar.specs.Productions.TreesOfMeaning.{Anywhere}
use Rattle.yf_forms.specs.declared.style.Style.{Style}
use Rattle.yf_laws.specs.Layouts.RowShapes.{KeysAgree}

-- cs are the comments of the first tree, and ds those of the second
mutual
  pub data AlikeBlocks (s : Style) (cs ds : List CommentValue) : Node → Node → Type 0 where
    alike_lines : {x y : Node} → Alike Anywhere x y → is_block_collection x ≡ false → AlikeBlocks s cs ds x y
    alike_block_sequences : {at bt : NodeOffsets} {props : PropsValue} {xs ys : Items} → is_some at.span ≡ is_some bt.span → AlikeBlockItems s cs ds xs ys
        → AlikeBlocks s cs ds (sequence at false props xs) (sequence bt false props ys)
    alike_block_mappings : {at bt : NodeOffsets} {props : PropsValue} {ps qs : Pairs} → is_some at.span ≡ is_some bt.span → AlikeBlockPairs s cs ds ps qs
        → AlikeBlocks s cs ds (mapping at false props ps) (mapping bt false props qs)

  pub data AlikeBlockItems (s : Style) (cs ds : List CommentValue) : Items → Items → Type 0 where
    no_block_items : AlikeBlockItems s cs ds no_items no_items
    block_item : {x y : Node} {xs ys : Items} → AlikeBlocks s cs ds x y → AlikeBlockItems s cs ds xs ys → AlikeBlockItems s cs ds (item x xs) (item y ys)

  pub data AlikeBlockPairs (s : Style) (cs ds : List CommentValue) : Pairs → Pairs → Type 0 where
    no_block_pairs : AlikeBlockPairs s cs ds no_pairs no_pairs
    block_pair : {k v l w : Node} {ps qs : Pairs} → AlikeBlocks s cs ds k l → AlikeBlocks s cs ds v w → KeysAgree s cs ds k v l w → AlikeBlockPairs s cs ds ps qs
        → AlikeBlockPairs s cs ds (pair k v ps) (pair l w qs)
