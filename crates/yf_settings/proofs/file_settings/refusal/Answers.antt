use Rattle.toml.specs.View.{table_view}
use Rattle.yf_settings.proofs.FileSettingsLemmas.{none_wrong, refuses_key}
use Rattle.yf_settings.proofs.file_settings.refusal.Goals as goal

pub returns : goal.returns
returns c =
    refuses_key c.args.version c.args.patterns (table_view c.args.table.now) _ _ c.requires.texts c.in-Some.ensures
    c.wrong_key.ensures

pub unreachable-requires : goal.unreachable-requires
unreachable-requires c =
    none_wrong c.args.version c.args.patterns (table_view c.args.table.now) c.requires.wrong c.in-None.ensures
