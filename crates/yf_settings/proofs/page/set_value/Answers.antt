use Rattle.std.proofs.Common.{◌≡◌, ℕ, List, Option, option_map, false, rules, subst, sym, ◌∙◌}
use Rattle.std.specs.Prelude.{is_some, if◌then◌else◌, Some}
use Rattle.std.specs.Str.{bytes_eq}
use Rattle.toml.specs.Data.{Data, get_member}
use Rattle.toml.specs.View.{table_view, view}
use Rattle.yf_settings.proofs.PageLemmas.{after_insert, gets_key, is_some_map}
use Rattle.yf_settings.proofs.page.set_value.Goals as goal

pub returns-in-Ok : goal.returns-in-Ok
returns-in-Ok c =
    let none : is_some c.value_at.result ≡ false = search rules in
    gets_key c.args.key.now (view c.args.value) (table_view c.args.table.now) (table_view c.insert.new.self)
    (is_some_map c.value_at.result _ false c.value_at.ensures none)
    (λ key. subst
    (λ (n : List ℕ). get_member key (table_view c.insert.new.self) ≡ (if bytes_eq n key then Some (view c.args.value) else get_member key (table_view c.args.table.now)))
    c.in_ok-key.ensures.ok
    (after_insert c.args.table.now c.insert.new.self c.in_ok-key.key c.args.value c.in-Ok.ensures.updates key))
