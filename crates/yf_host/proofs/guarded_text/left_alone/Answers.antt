use Rattle.std.proofs.Common.{true}
use Rattle.std.proofs.lemmas.Result.{IfOk-weaker}
use Rattle.yf_guarded.specs.Judged.{Guards}
use Rattle.yf_host.proofs.FilesLemmas.{given_bytes, refuses_bytes}
use Rattle.yf_host.proofs.guarded_text.left_alone.Goals as goal

pub returns-in-Ok-clause-left : goal.returns-in-Ok-clause-left
returns-in-Ok-clause-left c =
    IfOk-weaker c.judge.result _ _ (λ found guards. (c.in-Ok.ensures.0, guards))
    (given_bytes c.in-Ok.text.now c.args.bytes.now c.in-Ok.ensures.1 c.in-Ok.ensures.0 c.judge.result (λ t found. Guards true t found) c.judge.ensures.found)

pub returns-in-Ok-clause-refuses : goal.returns-in-Ok-clause-refuses
returns-in-Ok-clause-refuses c =
    refuses_bytes c.in-Ok.text.now c.args.bytes.now c.in-Ok.ensures.1 c.in-Ok.ensures.0 c.judge.result c.judge.ensures.refuses
