use Rattle.std.proofs.Common.{subst, sym}
use Rattle.std.proofs.lemmas.Result.{IfErr-weaker}
use Rattle.yf_stream.specs.StreamReader.{StreamFault, for_memory}
use Rattle.yf_rules.proofs.HeadlineHolds.{within_limit}
use Rattle.yf_rules.proofs.format.format.Goals as goal

pub format_reading-requires-clause-fits : goal.format_reading-requires-clause-fits
format_reading-requires-clause-fits c = within_limit c.args.text.now _ c.in-Ok.ensures.long

pub returns-in-Ok-clause-refuses : goal.returns-in-Ok-clause-refuses
returns-in-Ok-clause-refuses c =
    IfErr-weaker c.format_reading.result _ _ (λ fault same. subst (StreamFault c.args.text.now) (sym same) for_memory) c.format_reading.ensures.refused
