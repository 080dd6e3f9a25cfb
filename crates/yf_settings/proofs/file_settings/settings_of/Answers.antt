use Rattle.toml.specs.View.{table_view}
use Rattle.yf_settings.proofs.FileSettingsLemmas.{both_wrong, right_and_wrong, wrong_and_right}
use Rattle.yf_settings.proofs.file_settings.settings_of.Goals as goal

pub settings_with-requires-clause-exclude_read : goal.settings_with-requires-clause-exclude_read
settings_with-requires-clause-exclude_read c = rw c.in-Some-exclude.is at c.in-Ok-patterns_at.ensures.read

pub refusal-requires-clause-texts : goal.refusal-requires-clause-texts
refusal-requires-clause-texts c =
    right_and_wrong (table_view c.args.table) c.in-Some.required (rw c.in-Some.is at c.in-Ok.ensures.read)
    (rw c.in-None-exclude.is at c.in-Ok-patterns_at.ensures.read)

pub refusal-requires-in-Some-exclude-2-clause-texts : goal.refusal-requires-in-Some-exclude-2-clause-texts
refusal-requires-in-Some-exclude-2-clause-texts c =
    wrong_and_right (table_view c.args.table) c.in-Some-exclude-2.field-0.items
    (rw c.in-None.is at c.in-Ok.ensures.read) (rw c.in-Some-exclude-2.is at c.in-Ok-patterns_at.ensures.read)

pub refusal-requires-in-None-exclude-2-clause-texts : goal.refusal-requires-in-None-exclude-2-clause-texts
refusal-requires-in-None-exclude-2-clause-texts c =
    both_wrong (table_view c.args.table) (rw c.in-None.is at c.in-Ok.ensures.read)
    (rw c.in-None-exclude-2.is at c.in-Ok-patterns_at.ensures.read)
