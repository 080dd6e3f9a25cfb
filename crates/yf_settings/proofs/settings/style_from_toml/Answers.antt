use Rattle.toml.specs.View.{table_view}
use Rattle.yf_settings.proofs.FileSettingsLemmas.{refuses_style}
use Rattle.yf_settings.proofs.settings.style_from_toml.Goals as goal

pub returns-in-Some : goal.returns-in-Some
returns-in-Some c =
    refuses_style c.args.text.now (table_view c.in-Ok.table) _ _ c.in-Ok.ensures.ok c.in-Some.ensures
    c.wrong_key.ensures
