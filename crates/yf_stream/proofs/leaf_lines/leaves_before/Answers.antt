use Rattle.yf_stream.proofs.leaf_lines.leaves_before.Goals as goal

pub returns-clause-passed : goal.returns-clause-passed
returns-clause-passed c = λ o l. c.last_leaf-leaf_end.ensures.same c.args.offset o c.begun_before-end.ensures.begun l
