use Rattle.std.proofs.Common.{refl}
use Rattle.yf_stream.proofs.Reader.DocumentAnswers.{outcome_of, root_deep, root_found, root_indentation, root_none}
use Rattle.yf_stream.proofs.documents.Parts.root_node.Goals as goal

pub returns-in-Found-clause-reads : goal.returns-in-Found-clause-reads
returns-in-Found-clause-reads c = λ l.
    root_found c.args.source.text.now c.after_found.result
    (outcome_of c.args.source.text.now c.args.at c.args.self.now.part c.block_node_in.new.part (c.block_node_in.ensures.tied refl root_indentation l) c.in_ok-found.was c.in-Found.is) refl c.after_found.ensures

pub returns-in-Nothing-clause-reads : goal.returns-in-Nothing-clause-reads
returns-in-Nothing-clause-reads c = λ l.
    root_none c.args.source.text.now
    (outcome_of c.args.source.text.now c.args.at c.args.self.now.part c.block_node_in.new.part (c.block_node_in.ensures.tied refl root_indentation l) c.in_ok-found.was c.in-Nothing.is)

pub returns-in-TooDeep-clause-reads : goal.returns-in-TooDeep-clause-reads
returns-in-TooDeep-clause-reads c = λ l.
    let o = outcome_of c.args.source.text.now c.args.at c.args.self.now.part c.block_node_in.new.part (c.block_node_in.ensures.tied refl root_indentation l) c.in_ok-found.was c.in-TooDeep.is in
    root_deep c.args.source.text.now o.0 o.1
