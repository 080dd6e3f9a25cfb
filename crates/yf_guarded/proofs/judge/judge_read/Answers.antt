use Rattle.std.proofs.Common.{subst, sym}
use Rattle.std.proofs.lemmas.Result.{IfErr-weaker}
use Rattle.yf_stream.specs.StreamReader.{StreamFault, for_memory}
use Rattle.yf_guarded.proofs.judge.judge_read.Goals as goal

pub returns-in-Ok-clause-refuses : goal.returns-in-Ok-clause-refuses
returns-in-Ok-clause-refuses c =
    IfErr-weaker c.judge_reading.result _ _ (λ fault same. subst (StreamFault c.args.text.now) (sym same) for_memory) c.judge_reading.ensures.refused
