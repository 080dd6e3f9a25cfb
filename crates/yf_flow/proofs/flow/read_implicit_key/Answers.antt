use Rattle.yf_flow.proofs.Stack.ReadersLemmas.{reads_key}
use Rattle.yf_flow.proofs.flow.read_implicit_key.Goals as goal

pub returns-clause-reads : goal.returns-clause-reads
returns-clause-reads c = reads_key c.args.src.now.text c.args.ctx c.args.at c.read_flow_node.result (c.read_flow_node.ensures.reads)
