-- The laws of `NodeLaws` on the tokens of nodes.
use Rattle.std.proofs.Common.{ℕ, true, true≢false, List, arith}
use Rattle.std.specs.Str.{IsUtf8}
use Rattle.yf_lines.specs.Basic.{Clear}
use Rattle.yf_grammar.specs.Productions.Grammar.{Production}
use Rattle.yf_standard.specs.Notation.Form.{ns-flow-node, s-l+block-node}
use Rattle.yf_standard.specs.Tokens.{Token}
use Rattle.yf_standard.specs.NodeLaws.{NodeMeans, FlowNodes, BlockNodes}
use Rattle.yf_standard.proofs.Zones.{Zone}
use Rattle.yf_standard.proofs.Meant.{means}
use Rattle.yf_standard.proofs.SaidParts.{says_whole}
use Rattle.yf_standard.proofs.FlowSaid.{SomeSaid}
use Rattle.yf_standard.proofs.NodesSaid.{Tells, nodes}

abbrev pub node_zone : (t : List ℕ) → IsUtf8 t → (i j : ℕ) → Clear t i j → Zone t true
node_zone t u i j w = record { utf = u; low = i; high = j; clear = λ q. w; root = λ q. absurd (true≢false q) }

node_means : {t : List ℕ} {e : ℕ} {p : Production} {i j : ℕ} {y : List Token} → SomeSaid t e p i j y → NodeMeans t e p i j y
node_means d = record { height = d.height; value = d.meaning; derived = d.node; within = d.fits; says = says_whole d.says }

pub flow_nodes : FlowNodes
unfolding Tells
flow_nodes t e i j n c u w b d = node_means (means {f = ns-flow-node n c} (nodes t (node_zone t u i j w)) (omega arith) (omega arith) d b)

pub block_nodes : BlockNodes
unfolding Tells
block_nodes t e i j n c u w b d = node_means (means {f = s-l+block-node n c} (nodes t (node_zone t u i j w)) (omega arith) (omega arith) d b)
