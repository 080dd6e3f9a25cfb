use Rattle.std.proofs.Common.{Some, ap, refl}
use Rattle.std.specs.Prelude.{false}
use Rattle.yf_program.proofs.HandlingLemmas.{again_set, no_memory_set}
use Rattle.yf_program.proofs.handling.settings_again.Goals as goal

pub returns-in-Ok-Bytes : goal.returns-in-Ok-Bytes
returns-in-Ok-Bytes g c =
    again_set (g.I.Inputs.claim c.args.inputs.now) c.args.name.now c.in-Ok-Bytes.bytes.items
    (record { contents = Some c.as_slice.result.now; failed = false })
    (record { contents = Some c.read_settings.new.reader.rest.now; failed = false })
    (λ told. rw c.in-Ok-Bytes.field-0-is at (c.in-Ok-Bytes.ensures told)) (ap (λ b. Some b) c.as_slice.ensures.value)
    refl refl c.read_settings.result c.read_settings.ensures

pub returns : goal.returns
returns g c = no_memory_set (g.I.Inputs.claim c.args.inputs.now) c.args.name.now
