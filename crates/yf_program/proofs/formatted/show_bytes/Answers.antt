use Rattle.yf_program.proofs.ShownLemmas.{is_text}
use Rattle.yf_program.proofs.formatted.show_bytes.Goals as goal

pub returns-in-Err-clause-refused : goal.returns-in-Err-clause-refused
returns-in-Err-clause-refused g c = is_text c.args.bytes.now c.requires c.in-Err.fault c.in-Err.ensures.refused
