use Rattle.yf_program.proofs.answer.do_fmt.Goals as goal

pub returns-in-Print : goal.returns-in-Print
returns-in-Print g c = rw c.in-Print.is c.do_scoped.ensures.does

pub returns-in-Check : goal.returns-in-Check
returns-in-Check g c = rw c.in-Check.is c.do_compare.ensures

pub returns-in-Diff : goal.returns-in-Diff
returns-in-Diff g c = rw c.in-Diff.is c.do_inputs.ensures

pub returns-in-Write : goal.returns-in-Write
returns-in-Write g c = rw c.in-Write.is c.rewrite_files.ensures

pub returns-in-Part : goal.returns-in-Part
returns-in-Part g c = rw c.in-Part.is c.do_part.ensures
