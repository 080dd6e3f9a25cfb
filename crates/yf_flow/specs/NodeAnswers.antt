-- The results of the readers of a node within a limit, by the recursive reader: the end of a node written after
-- earlier events, and the node as a part of its own.
use Rattle.std.specs.Prelude.{◌≡◌, ℕ, ◌+◌, ◌<◌, ℤ, false, List, Some, None}
use Rattle.std.specs.Str.{IsCharBoundary}
use Rattle.yf_chars.specs.declared.context.Ctx.{Ctx}
use Rattle.yf_chars.specs.Boundary.{BoundaryFrom}
use Rattle.yf_lines.specs.Basic.{is_block}
use Rattle.yf_events.specs.declared.part.Part.{Part}
use Rattle.yf_grammar.specs.Productions.Grammar.{in_flow}
use Rattle.yf_grammar.specs.Productions.Meaning.{Meaning}
use Rattle.yf_grammar.specs.FlowReader.Parser.{ParsedNode, ANode, Parses}
use Rattle.yf_flow.specs.declared.nodes.Ending.{Ending}
use Rattle.yf_flow.specs.declared.nodes.Ending.TheVariants.{End, Nothing as NoEnd, TooDeep as TooDeepThere}
use Rattle.yf_flow.specs.declared.nodes.FlowOutcome.{FlowOutcome}
use Rattle.yf_flow.specs.declared.nodes.FlowOutcome.TheVariants.{Found as NodeThere, Nothing as NoNode, TooDeep as TooDeepHere}
use Rattle.yf_flow.specs.Depth.{openers_from}
use Rattle.yf_flow.specs.ReadNodes.{NodeRead, NodeLost}
use Rattle.yf_flow.specs.StackMeaning.{PartSoFar}

-- the context within the collections of a node
pub record InnerContext (c d : Ctx) : Type 0 where
  pub is : d ≡ in_flow c
  pub inner : in_flow d ≡ d
  pub no_block : is_block d ≡ false
  pub outer : is_block c ≡ false

-- a node that was begun has been read, or neither it nor the content after its properties is derived
abbrev pub NodeEnds : List ℕ → ℤ → Ctx → ℕ → ℕ → Meaning → Part → Ending → Type 0
NodeEnds t n c limit i w part (End node) = NodeRead t limit n c i w node part
NodeEnds t n c limit i w part NoEnd = NodeLost t limit n c i
NodeEnds t n c limit i w part (TooDeepThere p) = NodeLost t limit n c i

-- the node, which ends there, and its part
pub record NodeFound (t : List ℕ) (n : ℤ) (c : Ctx) (limit i : ℕ) (part : Part) (end : ℕ) : Type 0 where
  pub answer : ParsedNode
  pub parsed : Parses t limit (ANode n c i) (Some answer)
  pub ends : end ≡ answer.end
  pub written : PartSoFar t 0 answer.meaning part

abbrev pub NodeAnswers : List ℕ → ℤ → Ctx → ℕ → ℕ → Part → FlowOutcome → Type 0
NodeAnswers t n c limit i part (NodeThere end) = NodeFound t n c limit i part end
NodeAnswers t n c limit i part NoNode = Parses t limit (ANode n c i) None
NodeAnswers t n c limit i part (TooDeepHere p) = Parses t limit (ANode n c i) None × (limit < openers_from t i)

-- the offsets of an outcome are boundaries
abbrev pub OutcomeAt : List ℕ → ℕ → FlowOutcome → Type 0
OutcomeAt t at (NodeThere end) = BoundaryFrom t (at + 1) end
OutcomeAt t at NoNode = Unit {0}
OutcomeAt t at (TooDeepHere p) = IsCharBoundary t p
