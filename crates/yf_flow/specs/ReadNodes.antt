-- A node read after earlier events, and a node without derived content.
use Rattle.std.specs.Prelude.{◌≡◌, ℕ, ℤ, List, length, Some, None}
use Rattle.yf_chars.specs.declared.context.Ctx.{Ctx}
use Rattle.yf_events.specs.declared.part.Part.{Part}
use Rattle.yf_grammar.specs.Productions.Meaning.{Meaning, ◌⊕◌}
use Rattle.yf_grammar.specs.FlowReader.Parser.{ParsedNode, ANode, AContent, Parses}
use Rattle.yf_grammar.specs.FlowReader.FlowContinuations.{Before, NodeOver}
use Rattle.yf_flow.specs.declared.frame.Node.{Node}
use Rattle.yf_flow.specs.StackMeaning.{PartSoFar}

pub record NodeRead (t : List ℕ) (limit : ℕ) (n : ℤ) (c : Ctx) (i : ℕ) (before : Meaning) (node : Node) (part : Part) : Type 0 where
  pub answer : ParsedNode
  pub parsed : Parses t limit (ANode n c i) (Some answer)
  pub end : node.end ≡ answer.end
  pub json : node.json ≡ answer.json
  pub written : PartSoFar t (length before.events) (before ⊕ answer.meaning) part

pub data NodeLost (t : List ℕ) (limit : ℕ) (n : ℤ) (c : Ctx) (i : ℕ) : Type 0 where
  no_node_there : Parses t limit (ANode n c i) None → NodeLost t limit n c i
  content_lost : {k : ℕ} {b : Before} → NodeOver t n c i k b → Parses t limit (AContent n c k) None → NodeLost t limit n c i
