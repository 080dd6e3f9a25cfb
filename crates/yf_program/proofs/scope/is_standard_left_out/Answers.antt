use Rattle.yf_program.proofs.scope.is_standard_left_out.Goals as goal

pub returns-in-Some : goal.returns-in-Some
returns-in-Some c = rw (c.in-Some.is, ← c.as_str.ensures) c.is_file_left_out.ensures
