use Rattle.yf_flow.proofs.Stack.ReadersLemmas.{scans_key}
use Rattle.yf_flow.proofs.flow.scan_implicit_key.Goals as goal

pub returns-clause-reads : goal.returns-clause-reads
returns-clause-reads c = scans_key c.args.src.now.text c.args.ctx c.args.at c.scan_flow_node.result (c.scan_flow_node.ensures.reads)
