use Rattle.yf_host.proofs.report.write_line.Goals as goal

pub returns-in-BadVersion : goal.returns-in-BadVersion
returns-in-BadVersion g c = rw c.in-BadVersion.is c.write_refusal-in-BadVersion.ensures
