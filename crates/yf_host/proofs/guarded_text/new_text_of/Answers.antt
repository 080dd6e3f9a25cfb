use Rattle.yf_host.proofs.guarded_text.new_text_of.Goals as goal

pub returns-in-Err-clause-refuses : goal.returns-in-Err-clause-refuses
returns-in-Err-clause-refuses c = λ any_text. c.in-Err.ensures.refuses
