use Rattle.yf_stream.specs.StreamReader.{for_memory}
use Rattle.yf_guarded.proofs.FormattingLemmas.{fault_judged}
use Rattle.yf_guarded.proofs.formatting.judged_formatting.Goals as goal

pub returns-in-Ok-Formatted-clause-formatted : goal.returns-in-Ok-Formatted-clause-formatted
returns-in-Ok-Formatted-clause-formatted c = rw c.in-Ok-Formatted.field-0-is at c.in-Ok-Formatted.ensures.formatted

pub returns-in-Ok-clause-formatted : goal.returns-in-Ok-clause-formatted
returns-in-Ok-clause-formatted c =
    fault_judged c.args.style.now c.args.text.now c.in-Ok-NoData.why c.in-Ok.judged
    (rw c.in-Ok-NoData.field-0-is at c.in-Ok-NoData.ensures.formatted) c.in-Ok.ensures

pub returns-in-Err-shown_fault-clause-refuses : goal.returns-in-Err-shown_fault-clause-refuses
returns-in-Err-shown_fault-clause-refuses c = for_memory
