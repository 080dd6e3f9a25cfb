-- The meanings of the standard's productions: the laws that relate the tokens of nodes (`Tokens`), as `Readings` reads
-- them, to the merged grammar of the readers of nodes, each with a plain sentence. `proofs/NodeLawsHold.antt` proves
-- them.
use Rattle.std.specs.Prelude.{◌≡◌, ℕ, ◌≤◌, ℤ, true, false, List}
use Rattle.std.specs.Str.{IsUtf8}
use Rattle.yf_chars.specs.declared.context.Ctx.{Ctx}
use Rattle.yf_lines.specs.Basic.{Clear, is_block}
use Rattle.yf_props.specs.Props.{no_props}
use Rattle.yf_grammar.specs.Productions.Grammar.{Production, Derives}
use Rattle.yf_grammar.specs.Productions.Grammar.Production.{FlowNode, BlockNode}
use Rattle.yf_grammar.specs.Productions.Meaning.{Meaning}
use Rattle.yf_standard.specs.Notation.Form.{ns-flow-node, s-l+block-node}
use Rattle.yf_standard.specs.Literal.{Derived}
use Rattle.yf_standard.specs.Rules.{read}
use Rattle.yf_standard.specs.Tokens.{Token, tokens}
use Rattle.yf_standard.specs.Readings.{said, said_of}

-- a node with these tokens: it is read, with at most e collections open at once, and its meaning is what the tokens
-- state
pub record NodeMeans (t : List ℕ) (e : ℕ) (p : Production) (i j : ℕ) (y : List Token) : Type 0 where
  pub height : ℕ
  pub value : Meaning
  pub derived : Derives t height p i j value
  pub within : height ≤ e
  pub says : said no_props y ≡ said_of value

-- Each derivation of a flow node (161) that covers no forbidden line is read with the events, the comments, and the
-- offsets of tags and of bad escapes that its tokens state.
abbrev pub FlowNodes : Type 0
FlowNodes = (t : List ℕ) (e i j : ℕ) (n : ℤ) (c : Ctx) → IsUtf8 t → Clear t i j → is_block c ≡ false
    → (d : Derived (read t) t e (ns-flow-node n c) i j) → NodeMeans t e (FlowNode n c) i j (tokens d)

-- Each derivation of a block node (196) that covers no forbidden line is read so too; a document's node is one.
abbrev pub BlockNodes : Type 0
BlockNodes = (t : List ℕ) (e i j : ℕ) (n : ℤ) (c : Ctx) → IsUtf8 t → Clear t i j → is_block c ≡ true
    → (d : Derived (read t) t e (s-l+block-node n c) i j) → NodeMeans t e (BlockNode n c) i j (tokens d)
