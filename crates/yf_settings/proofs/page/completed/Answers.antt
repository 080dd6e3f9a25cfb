use Rattle.std.proofs.Common.{[], ◌∷◌, subst}
use Rattle.std.specs.Prelude.{codes}
use Rattle.toml.specs.View.{table_view}
use Rattle.yf_settings.specs.Page.{Completes}
use Rattle.yf_settings.proofs.PageLemmas.{all_set}
use Rattle.yf_settings.proofs.page.completed.Goals as goal

pub returns : goal.returns
returns c =
    all_set (table_view c.args.table) (table_view c.set_value.new.table) (table_view c.set_word.new.table)
    (table_view c.set_value-2.new.table) (table_view c.set_word-2.new.table) (table_view c.set_value-3.new.table)
    (table_view c.set_word-3.new.table) (table_view c.set_word-4.new.table)
    (subst (λ d. Completes ((codes "seq_indent", d) ∷ []) (table_view c.args.table) (table_view c.set_value.new.table)) c.from.ensures c.in_ok-set_value.ensures)
    c.in_ok-set_word.ensures
    (subst (λ d. Completes ((codes "max_line", d) ∷ []) (table_view c.set_word.new.table) (table_view c.set_value-2.new.table)) c.from-2.ensures c.in_ok-set_value-2.ensures)
    c.in_ok-set_word-2.ensures
    (subst (λ d. Completes ((codes "indent", d) ∷ []) (table_view c.set_word-2.new.table) (table_view c.set_value-3.new.table)) c.from-3.ensures c.in_ok-set_value-3.ensures)
    c.in_ok-set_word-3.ensures c.in_ok-set_word-4.ensures
