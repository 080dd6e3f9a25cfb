use Rattle.yf_program.proofs.program.run.Goals as goal

pub returns-in-Events : goal.returns-in-Events
returns-in-Events g c = rw c.in-Events.is c.run_reader.ensures

pub returns-in-Check : goal.returns-in-Check
returns-in-Check g c = rw c.in-Check.is c.run_checker.ensures

pub returns-in-Print : goal.returns-in-Print
returns-in-Print g c = rw c.in-Print.is c.run_writer.ensures

pub returns-in-Compare : goal.returns-in-Compare
returns-in-Compare g c = rw c.in-Compare.is c.run_comparer.ensures

pub returns-in-Diff : goal.returns-in-Diff
returns-in-Diff g c = rw c.in-Diff.is c.run_differ.ensures

pub returns-in-Part : goal.returns-in-Part
returns-in-Part g c = rw c.in-Part.is c.run_lines.ensures
