use Rattle.std.proofs.Common.{refl, subst, sym}
use Rattle.std.proofs.lemmas.Result.{IfErr-weaker}
use Rattle.yf_rules.proofs.HeadlineHolds.{within_limit}
use Rattle.yf_stream.specs.StreamReader.{StreamFault, for_memory}
use Rattle.yf_guarded.specs.Judged.Guards.{encrypted}
use Rattle.yf_guarded.proofs.formatting.format_data.Goals as goal

pub returns-then-is_vault-clause-formatted : goal.returns-then-is_vault-clause-formatted
returns-then-is_vault-clause-formatted c = encrypted (rw c.if-is_vault.true at c.is_vault.ensures) refl

pub format_judged-requires-clause-not_vault : goal.format_judged-requires-clause-not_vault
format_judged-requires-clause-not_vault c = rw c.if-is_vault.false at c.is_vault.ensures

pub format_judged-requires-clause-fits : goal.format_judged-requires-clause-fits
format_judged-requires-clause-fits c = within_limit c.args.text.now _ c.in-Ok.ensures.long

pub returns-in-Ok-clause-refuses : goal.returns-in-Ok-clause-refuses
returns-in-Ok-clause-refuses c =
    IfErr-weaker c.format_judged.result _ _ (λ fault same. subst (StreamFault c.args.text.now) (sym same) for_memory) c.format_judged.ensures.refused
