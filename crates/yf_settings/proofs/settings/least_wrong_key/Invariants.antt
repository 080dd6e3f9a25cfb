use Rattle.std.proofs.Common.{◌≡◌}
use Rattle.toml.specs.View.{members_view, table_view}
use Rattle.yf_settings.proofs.SettingsLemmas.{first_wrong}
use Rattle.yf_settings.proofs.settings.least_wrong_key.Given as goal

abbrev pub invariant-loop-key : goal.invariant-loop-key
invariant-loop-key l =
    first_wrong l.fn.version l.fn.patterns (members_view l.key-iterator)
    ≡ first_wrong l.fn.version l.fn.patterns (table_view l.table)
