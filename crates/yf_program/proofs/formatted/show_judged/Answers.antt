use Rattle.yf_program.proofs.formatted.show_judged.Goals as goal

pub returns-in-Passed : goal.returns-in-Passed
returns-in-Passed g c = rw c.in-Passed.is (_, c.show_formatting.ensures)

pub returns-in-Encrypted : goal.returns-in-Encrypted
returns-in-Encrypted g c = rw c.in-Encrypted.is c.do_encrypted.ensures

pub returns-in-NoData : goal.returns-in-NoData
returns-in-NoData g c = rw c.in-NoData.is c.do_no_data.ensures
