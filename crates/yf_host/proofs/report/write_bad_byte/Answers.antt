use Rattle.yf_host.proofs.report.write_bad_byte.Goals as goal

pub returns : goal.returns
returns g c = rw c.format-digits.ensures.text at c.write_texts.ensures
