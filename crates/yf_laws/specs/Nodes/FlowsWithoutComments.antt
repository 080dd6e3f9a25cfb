-- Nodes with no comment within their flow collections; cs are the comments of the text u.
use Rattle.std.specs.Prelude.{◌≡◌, ℕ, Bool, true, false, List}
use Rattle.yf_comments.specs.Comment.{CommentValue}
use Rattle.yf_props.specs.Props.{PropsValue}
use Rattle.yf_events.specs.declared.event.ScalarStyle.{ScalarStyle}
use Rattle.yf_events.specs.Tree.{NodeOffsets, Node, scalar, alias, sequence, mapping, Items, no_items, item, Pairs, no_pairs, pair}
use Rattle.yf_forms.specs.Nodes.OneLineFlows.{has_comment}

mutual
  pub data Undisturbed (u : List ℕ) (cs : List CommentValue) : Node → Type 0 where
    undisturbed_scalar : {at : NodeOffsets} {props : PropsValue} {style : ScalarStyle} {text : List ℕ} {lines : List (List ℕ)} → Undisturbed u cs (scalar at props style text lines)
    undisturbed_alias : {at : NodeOffsets} {name : List ℕ} → Undisturbed u cs (alias at name)
    undisturbed_sequence : {at : NodeOffsets} {flow : Bool} {props : PropsValue} {xs : Items} → (flow ≡ true → has_comment u cs at.span props ≡ false)
        → UndisturbedItems u cs xs → Undisturbed u cs (sequence at flow props xs)
    undisturbed_mapping : {at : NodeOffsets} {flow : Bool} {props : PropsValue} {ps : Pairs} → (flow ≡ true → has_comment u cs at.span props ≡ false)
        → UndisturbedPairs u cs ps → Undisturbed u cs (mapping at flow props ps)

  pub data UndisturbedItems (u : List ℕ) (cs : List CommentValue) : Items → Type 0 where
    undisturbed_end : UndisturbedItems u cs no_items
    undisturbed_item : {x : Node} {xs : Items} → Undisturbed u cs x → UndisturbedItems u cs xs → UndisturbedItems u cs (item x xs)

  pub data UndisturbedPairs (u : List ℕ) (cs : List CommentValue) : Pairs → Type 0 where
    undisturbed_last : UndisturbedPairs u cs no_pairs
    undisturbed_pair : {k v : Node} {ps : Pairs} → Undisturbed u cs k → Undisturbed u cs v → UndisturbedPairs u cs ps → UndisturbedPairs u cs (pair k v ps)
