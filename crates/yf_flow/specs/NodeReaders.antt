-- The results of the readers of nodes. In the two block contexts `FlowNode` derives no node, and the readers return
-- none.
use Rattle.std.specs.Prelude.{◌≡◌, ℕ, ℤ, List, [], Option, Result, MatchOption, MatchResult}
use Rattle.std.specs.Str.{IsCharBoundary}
use Rattle.yf_chars.specs.declared.context.Ctx.{Ctx}
use Rattle.yf_chars.specs.Chain.{Stuck, Chosen}
use Rattle.yf_lines.specs.FaultPlaces.{IsFirstPlace}
use Rattle.yf_lines.specs.declared.fault.Fault.{Fault}
use Rattle.yf_events.specs.declared.part.Part.{Part}
use Rattle.yf_events.specs.declared.reading.TheConstants.{DEPTH}
use Rattle.yf_grammar.specs.Productions.ReadParts.{FlowNodePart, KeyPart}
use Rattle.yf_grammar.specs.Refusal.{NodeFault, ScanFault}
use Rattle.yf_flow.specs.declared.flow.NodePart.{NodePart}
use Rattle.yf_flow.specs.declared.flow.ScannedPart.{ScannedPart}

-- the result is the longest part, it has one meaning, and all its escapes are characters
pub record NodeChosen (t : List ℕ) (P : ℕ → Part → Type 0) (node : NodePart) : Type 0 where
  pub chosen : Chosen P node.end node.part
  pub good : node.part.escapes ≡ []
  pub boundary : IsCharBoundary t node.end

-- a scan form returns the longest part with all its bad escapes, and the place of the first of them
pub record NodeScanned (t : List ℕ) (P : ℕ → Part → Type 0) (node : ScannedPart) : Type 0 where
  pub chosen : Chosen P node.end node.part
  pub escape : IsFirstPlace t node.part.escapes node.escape
  pub boundary : IsCharBoundary t node.end

-- a reader returns the longest part that is derived there, `None` only if none is, and fails only for the causes of
-- `NodeFault`
abbrev pub ReadsNode : List ℕ → (ℕ → Part → Type 0) → ℕ → Result (Option NodePart) Fault → Type 0
ReadsNode t P at answer = MatchResult answer (λ found. MatchOption found (Stuck P) (NodeChosen t P)) (NodeFault t P at)

abbrev pub ScansNode : List ℕ → (ℕ → Part → Type 0) → ℕ → Result (Option ScannedPart) Fault → Type 0
ScansNode t P at answer = MatchResult answer (λ found. MatchOption found (Stuck P) (NodeScanned t P)) (ScanFault t P at)

-- read_flow_node and scan_flow_node read the longest flow node within the limit of open collections
abbrev pub ReadsFlowNode : List ℕ → ℤ → Ctx → ℕ → Result (Option NodePart) Fault → Type 0
ReadsFlowNode t n ctx at = ReadsNode t (FlowNodePart t DEPTH n ctx at) at

abbrev pub ScansFlowNode : List ℕ → ℤ → Ctx → ℕ → Result (Option ScannedPart) Fault → Type 0
ScansFlowNode t n ctx at = ScansNode t (FlowNodePart t DEPTH n ctx at) at

-- read_implicit_key and scan_implicit_key read the longest node of a key, without the separation before its `:`
abbrev pub ReadsKey : List ℕ → Ctx → ℕ → Result (Option NodePart) Fault → Type 0
ReadsKey t ctx at = ReadsNode t (KeyPart t DEPTH ctx at) at

abbrev pub ScansKey : List ℕ → Ctx → ℕ → Result (Option ScannedPart) Fault → Type 0
ScansKey t ctx at = ScansNode t (KeyPart t DEPTH ctx at) at
