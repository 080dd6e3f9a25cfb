use Rattle.yf_program.proofs.scope.is_left_out.Goals as goal

pub returns-in-Standard : goal.returns-in-Standard
returns-in-Standard c = rw c.in-Standard.is c.is_standard_left_out.ensures

pub returns-in-File : goal.returns-in-File
returns-in-File c = rw (c.in-File.is, ← c.as_str.ensures) c.is_file_left_out.ensures
