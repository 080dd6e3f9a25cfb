use Rattle.std.specs.Prelude.{string_bytes}
use Rattle.toml.specs.View.{table_view}
use Rattle.yf_settings.proofs.PageLemmas.{settings_after}
use Rattle.yf_settings.proofs.page.settings_page.Goals as goal

pub returns-in-Ok : goal.returns-in-Ok
returns-in-Ok c has =
    settings_after (table_view c.args.settings.table) (table_view c.in_ok-table.table) c.in_ok-table.ensures
    c.args.settings (string_bytes c.in-Ok.page) has c.in-Ok.ensures.text
