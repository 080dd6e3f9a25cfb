use Rattle.yf_program.proofs.report_texts.give_reader.Goals as goal

pub returns-then-judges-clause-gives : goal.returns-then-judges-clause-gives
returns-then-judges-clause-gives g c = rw c.if-judges.true c.give_judged.ensures.gives

pub returns-clause-gives : goal.returns-clause-gives
returns-clause-gives g c = rw c.if-judges.false c.give_text.ensures.gives
