use Rattle.yf_program.proofs.each.skip_input.Goals as goal

pub returns-in-Standard-clause-does : goal.returns-in-Standard-clause-does
returns-in-Standard-clause-does g c = rw c.in-Standard.is c.skip_standard.ensures.does
