use Rattle.std.proofs.Common.{◌≡◌, ◌∙◌, [], length, rules, sym}
use Rattle.std.proofs.lemmas.Bool.{eqb-true}
use Rattle.std.proofs.lemmas.List.{nil_from_length}
use Rattle.std.specs.Prelude.{vec_len}
use Rattle.yf_parts.proofs.ShowLemmas.{no_diff}
use Rattle.yf_parts.proofs.show.show_diff.Goals as goal

pub returns-then-is_empty-clause-shown : goal.returns-then-is_empty-clause-shown
returns-then-is_empty-clause-shown g c =
    let count : vec_len c.in-Ok.diff ≡ 0 = eqb-true (vec_len c.in-Ok.diff) 0 (sym c.is_empty.ensures
    ∙ c.if-is_empty.true) in
    let same : vec_len c.in-Ok.diff ≡ length c.in-Ok.diff.items = search rules in
    let none : c.in-Ok.diff.items ≡ [] = nil_from_length c.in-Ok.diff.items (sym same ∙ count) in
    no_diff _ _ _ _ _ c.in-Ok.ensures none
