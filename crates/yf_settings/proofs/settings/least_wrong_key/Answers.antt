use Rattle.std.proofs.Common.{◌≡◌, ◌∙◌, Some, None, List, ℕ, ap, sym, rules}
use Rattle.toml.specs.View.{members_view, table_view}
use Rattle.yf_settings.proofs.SettingsLemmas.{first_wrong, first_found, all_right, first_is_least, map_ascends}
use Rattle.yf_settings.proofs.settings.least_wrong_key.Goals as goal

pub returns-then-not-is_right : goal.returns-then-not-is_right
returns-then-not-is_right c =
    let table = c.args.table.now in
    let key : List ℕ = c.as_str-then-not-is_right.result.now in
    let here : first_wrong c.args.version c.args.patterns (members_view c.loop-key.key-iterator)
    ≡ Some key = search (rules, first_found) in
    let first : first_wrong c.args.version c.args.patterns (table_view table)
    ≡ Some key = sym c.loop-key.invariant ∙ here in
    let ascends = map_ascends table.entries c.into_iter-key-iterator.ensures.into_iter_gives.5 in
    first_is_least c.args.version c.args.patterns (table_view table) _ ascends first

pub returns : goal.returns
returns c =
    let empty = ap (λ es. first_wrong c.args.version c.args.patterns (members_view es)) c.in-None.ensures.steps.0 in
    let none : first_wrong c.args.version c.args.patterns (table_view c.args.table.now)
    ≡ None = sym c.loop-key.invariant ∙ empty in
    all_right c.args.version c.args.patterns (table_view c.args.table.now) none
