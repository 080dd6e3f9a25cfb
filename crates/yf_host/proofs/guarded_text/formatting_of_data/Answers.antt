use Rattle.std.proofs.Common.{subst}
use Rattle.std.specs.Prelude.{string_bytes}
use Rattle.yf_stream.specs.StreamReader.{StreamFault}
use Rattle.yf_host.proofs.FilesLemmas.{formatted_bytes, left_bytes, refuses}
use Rattle.yf_host.proofs.guarded_text.formatting_of_data.Goals as goal

pub returns-in-Ok-Formatted-clause-formats : goal.returns-in-Ok-Formatted-clause-formats
returns-in-Ok-Formatted-clause-formats c =
    formatted_bytes c.args.style.now c.in-Ok.text.now c.args.bytes.now c.in-Ok.ensures.1 c.in-Ok.ensures.0 (string_bytes c.in-Ok-Formatted.formatted)
    (rw c.in-Ok-Formatted.field-0-is at c.in-Ok-Formatted.ensures.formatted)

pub returns-in-Ok-NoData-clause-refuses : goal.returns-in-Ok-NoData-clause-refuses
returns-in-Ok-NoData-clause-refuses c =
    left_bytes c.args.style.now c.in-Ok.text.now c.args.bytes.now c.in-Ok.ensures.1 c.in-Ok.ensures.0 c.in-Ok-NoData.why
    (rw c.in-Ok-NoData.field-0-is at c.in-Ok-NoData.ensures.formatted)

pub returns-in-Err-format_data-clause-refuses : goal.returns-in-Err-format_data-clause-refuses
returns-in-Err-format_data-clause-refuses c =
    refuses c.args.bytes.now c.in-Ok.ensures.0 c.in-Err-format_data.fault
    (subst (λ t. StreamFault t c.in-Err-format_data.fault) c.in-Ok.ensures.1 c.in-Err-format_data.ensures.refuses)
