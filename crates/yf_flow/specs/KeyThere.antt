-- The `:` of a value after a node that began on its line within the limit of characters: the node is the key of a
-- single pair.
use Rattle.std.specs.Prelude.{ℕ, Bool, List}
use Rattle.yf_chars.specs.declared.context.Ctx.{Ctx}
use Rattle.yf_grammar.specs.FlowReader.Parser.{ColonAt}
use Rattle.yf_flow.specs.Leaves.{KeyLine}

pub record KeyThere (t : List ℕ) (d : Ctx) (s : ℕ) (json : Bool) (k : ℕ) : Type 0 where
  pub colon : ColonAt t json d k
  pub line : KeyLine t s k
