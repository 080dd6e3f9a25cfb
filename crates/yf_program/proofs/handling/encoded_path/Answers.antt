use Rattle.yf_program.proofs.HandlingLemmas.{file_or_none}
use Rattle.yf_program.proofs.handling.encoded_path.Goals as goal

pub returns : goal.returns
returns c = file_or_none c.args.uri.now c.strip_prefix.result c.strip_prefix.ensures.cases
