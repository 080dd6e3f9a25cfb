use Rattle.std.proofs.Common.{refl}
use Rattle.std.proofs.lemmas.Result.{IfErr-weaker, IfOk-weaker}
use Rattle.yf_guarded.specs.Judged.Guards.{encrypted, not_read, by_reading}
use Rattle.yf_guarded.proofs.judge.judge.Goals as goal

pub returns-then-is_vault-clause-found : goal.returns-then-is_vault-clause-found
returns-then-is_vault-clause-found c = encrypted (rw c.if-is_vault.true at c.is_vault.ensures) refl

pub judge_read-requires : goal.judge_read-requires
judge_read-requires c = rw c.if-is_vault.false at c.is_vault.ensures

pub returns-then-reads-clause-found : goal.returns-then-reads-clause-found
returns-then-reads-clause-found c =
    IfOk-weaker c.judge_read.result _ _ (λ found guard. by_reading (rw c.if-is_vault.false at c.is_vault.ensures) c.if-reads.true guard)
    c.judge_read.ensures.found

pub returns-then-reads-clause-only : goal.returns-then-reads-clause-only
returns-then-reads-clause-only c = IfErr-weaker c.judge_read.result _ _ (λ fault broke. c.if-reads.true) c.judge_read.ensures.refuses

pub returns-clause-found : goal.returns-clause-found
returns-clause-found c = not_read (rw c.if-is_vault.false at c.is_vault.ensures) c.if-reads.false refl
