use Rattle.toml.specs.View.{table_view}
use Rattle.yf_settings.proofs.FileSettingsLemmas.{text_settings}
use Rattle.yf_settings.proofs.file_settings.settings_from_toml.Goals as goal

pub returns-in-Ok : goal.returns-in-Ok
returns-in-Ok c =
    text_settings c.args.text.now (table_view c.in-Ok.table) c.settings_of.result c.in-Ok.ensures.ok
    c.settings_of.ensures
