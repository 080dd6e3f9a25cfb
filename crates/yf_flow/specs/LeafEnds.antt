-- A node without nodes in it ends when it begins: its beginning, by its end.
use Rattle.yf_flow.specs.declared.node.Begun.{Begun}
use Rattle.yf_flow.specs.declared.node.Begun.TheVariants.{Leaf, Nothing as NoneBegun, TooDeep as TooDeepAt}
use Rattle.yf_flow.specs.declared.nodes.Ending.{Ending}
use Rattle.yf_flow.specs.declared.nodes.Ending.TheVariants.{End, Nothing, TooDeep}

abbrev pub begun_of : Ending → Begun
begun_of (End node) = Leaf node
begun_of Nothing = NoneBegun
begun_of (TooDeep p) = TooDeepAt p
