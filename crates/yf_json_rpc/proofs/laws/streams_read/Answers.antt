use Rattle.yf_json_rpc.proofs.WrittenLemmas.{streams_read}
use Rattle.yf_json_rpc.proofs.laws.streams_read.Goals as goal

pub returns : goal.returns
returns c = streams_read
