-- Flow collections on one line with parts that read back.
use Rattle.std.specs.Prelude.{◌≡◌, true, is_some}
use Rattle.yf_chars.specs.declared.context.Ctx.{Ctx}
use Rattle.yf_props.specs.Props.{PropsValue}
use Rattle.yf_events.specs.Tree.{NodeOffsets, Node, sequence, mapping, Items, no_items, item, Pairs, no_pairs, pair}
use Rattle.yf_grammar.specs.Productions.Grammar.{in_flow}
use Rattle.yf_forms.specs.declared.style.Style.{Style}
use Rattle.yf_laws.specs.Layouts.ReadableTrees.{InlineNode, FitProps}

mutual
  pub data FitFlow (house : Style) : Ctx → Node → Type 0 where
    flow_leaf : {c : Ctx} {x : Node} → InlineNode house c x → FitFlow house c x
    flow_no_items : {c : Ctx} {at : NodeOffsets} {p : PropsValue} → is_some at.span ≡ true → FitProps p → FitFlow house c (sequence at true p no_items)
    flow_no_pairs : {c : Ctx} {at : NodeOffsets} {p : PropsValue} → is_some at.span ≡ true → FitProps p → FitFlow house c (mapping at true p no_pairs)
    flow_sequence : {c : Ctx} {at : NodeOffsets} {p : PropsValue} {x : Node} {xs : Items} → is_some at.span ≡ true → FitProps p → FitFlow house (in_flow c) x
        → FitFlowItems house (in_flow c) xs → FitFlow house c (sequence at true p (item x xs))
    flow_mapping : {c : Ctx} {at : NodeOffsets} {p : PropsValue} {k v : Node} {ps : Pairs} → is_some at.span ≡ true → FitProps p → FitFlow house (in_flow c) k
        → FitFlow house (in_flow c) v → FitFlowPairs house (in_flow c) ps → FitFlow house c (mapping at true p (pair k v ps))

  pub data FitFlowItems (house : Style) : Ctx → Items → Type 0 where
    flow_last_item : {c : Ctx} → FitFlowItems house c no_items
    flow_item : {c : Ctx} {x : Node} {xs : Items} → FitFlow house c x → FitFlowItems house c xs → FitFlowItems house c (item x xs)

  pub data FitFlowPairs (house : Style) : Ctx → Pairs → Type 0 where
    flow_last_pair : {c : Ctx} → FitFlowPairs house c no_pairs
    flow_pair : {c : Ctx} {k v : Node} {ps : Pairs} → FitFlow house c k → FitFlow house c v → FitFlowPairs house c ps → FitFlowPairs house c (pair k v ps)
