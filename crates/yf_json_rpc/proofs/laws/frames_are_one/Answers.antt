use Rattle.yf_json_rpc.proofs.FrameLemmas.{frames_are_one}
use Rattle.yf_json_rpc.proofs.laws.frames_are_one.Goals as goal

pub returns : goal.returns
returns c = frames_are_one
