-- The results of the readers of block nodes, like those of flow nodes. Only the two block contexts have block nodes.
use Rattle.std.specs.Prelude.{ℕ, ℤ, List, Option, Result}
use Rattle.yf_chars.specs.declared.context.Ctx.{Ctx}
use Rattle.yf_lines.specs.declared.fault.Fault.{Fault}
use Rattle.yf_events.specs.declared.reading.TheConstants.{DEPTH}
use Rattle.yf_flow.specs.declared.flow.NodePart.{NodePart}
use Rattle.yf_flow.specs.declared.flow.ScannedPart.{ScannedPart}
use Rattle.yf_flow.specs.NodeReaders.{ReadsNode, ScansNode}
use Rattle.yf_grammar.specs.Productions.ReadParts.{BlockNodePart}

-- read_block_node and scan_block_node read the longest block node within the limit of open collections
abbrev pub ReadsBlockNode : List ℕ → ℤ → Ctx → ℕ → Result (Option NodePart) Fault → Type 0
ReadsBlockNode t n ctx at = ReadsNode t (BlockNodePart t DEPTH n ctx at) at

abbrev pub ScansBlockNode : List ℕ → ℤ → Ctx → ℕ → Result (Option ScannedPart) Fault → Type 0
ScansBlockNode t n ctx at = ScansNode t (BlockNodePart t DEPTH n ctx at) at
