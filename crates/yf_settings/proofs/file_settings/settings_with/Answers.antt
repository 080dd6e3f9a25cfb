use Rattle.std.proofs.Common.{true}
use Rattle.toml.specs.View.{table_view}
use Rattle.yf_settings.proofs.FileSettingsLemmas.{both_right, refuses_key}
use Rattle.yf_settings.proofs.file_settings.settings_with.Goals as goal

pub returns-in-Some : goal.returns-in-Some
returns-in-Some c =
    refuses_key true true (table_view c.args.table) _ _
    (both_right _ c.args.required c.args.exclude.items c.requires.required_read c.requires.exclude_read)
    c.in-Some.ensures c.wrong_key.ensures
