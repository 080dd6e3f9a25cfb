use Rattle.yf_findings.proofs.listing.problems_of.Goals as goal

pub returns : goal.returns
returns c = c.listed.ensures c.args.reading.now c.in_ok-known.ensures
